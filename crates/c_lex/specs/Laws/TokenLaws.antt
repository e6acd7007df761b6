-- A text has one list of tokens or one first fault: what the scanner finds.
use Rattle.std.specs.Prelude.{if◌then◌else◌, nat_le}
use Rattle.std.proofs.Common.{◌≡◌, ℕ, zero, suc, ◌+◌, ◌<◌, ◌≤◌, ◌⊎◌, inl, inr, ⊎_elim, List, [], ◌∷◌, ◌++◌, length, drop, get_or, Some}
use Rattle.std.proofs.Common.{Result, Ok, Err, refl, ap, subst, sym, ◌∙◌, arith, length-drop}
use Rattle.std.proofs.lemmas.Bool.{cases_lt, le-leb, lt-leb}
use Rattle.c_ast.specs.declared.token.Lexeme.{Lexeme}
use Rattle.c_ast.specs.Seen.{Seen}
use Rattle.c_lex.specs.declared.fault.Fault.{Fault}
use Rattle.c_lex.specs.declared.reading.Line.{Line}
use Rattle.c_lex.specs.declared.reading.Line.TheVariants.{Clear, Used}
use Rattle.c_lex.specs.declared.reading.Reading.{Reading}
use Rattle.c_lex.specs.declared.reading.Reading.TheVariants as reading
use Rattle.c_lex.specs.Gap.{gap_bytes}
use Rattle.c_lex.specs.Faults.{Faulty}
use Rattle.c_lex.specs.Scan.Reading.{read}
use Rattle.c_lex.specs.Scan.Words.{line_behind}
use Rattle.c_lex.specs.Tokens.{TokenAt, IsSound, Reaches, start, gap, token, Tokens, FirstFault, IsReadOneWay}
use Rattle.c_lex.specs.Laws.FaultReads.{read-fault, fault-some, fault-read}
use Rattle.c_lex.specs.Laws.ReadLaws.{gap-reads, reads-gap, gap-fits, reads-token, token-reads, token-sound}
use Rattle.c_lex.specs.Laws.Standing.{Standing, seen_at, standing-start, standing-gap, standing-token, fault-on, on-fault}

-- the tokens of a text, or its first fault and the byte where it stands
abbrev Outcome : Type 0
Outcome = Result (List Seen) (Fault × ℕ)

-- what is read at a place, behind these tokens and with this before it on the line, where each of these stands
module _ (text : List ℕ) (tokens : List Seen) (place : ℕ) (line : Line) (standing : Standing text tokens place line) where
  gap_read : (bytes : ℕ) → gap_bytes (drop place text) ≡ Some bytes → read line (drop place text) ≡ reading.Gap bytes
  gap_read bytes is = gap-reads line (drop place text) bytes is

  token_read : (kind : Lexeme) (bytes : ℕ) → TokenAt (drop place text) kind bytes → IsSound text tokens place
      → read line (drop place text) ≡ reading.Token kind bytes
  token_read kind bytes is sound =
      token-reads line (drop place text) kind bytes is (λ what offset fault.
      sound what offset (on-fault text tokens place line standing what offset fault))

  fault_read : (what : Fault) (offset : ℕ) → Faulty text tokens place what offset → read line (drop place text) ≡ reading.Fault what offset
  fault_read what offset is = fault-read line (drop place text) what offset (fault-on text tokens place line standing what offset is)

  pub sound_token : (kind : Lexeme) (bytes : ℕ) → read line (drop place text) ≡ reading.Token kind bytes → IsSound text tokens place
  sound_token kind bytes is = λ what offset fault. token-sound line (drop place text) kind bytes is what offset
      (fault-on text tokens place line standing what offset fault)

  pub faulty_read : (what : Fault) (offset : ℕ) → 0 < length (drop place text) → read line (drop place text) ≡ reading.Fault what offset
      → Faulty text tokens place what offset
  faulty_read what offset some is = on-fault text tokens place line standing what offset
      (read-fault line (drop place text) what offset some is)

-- ---- what the scanner finds

-- what comes of a reading, where `go` says what comes of the place behind it
abbrev after : List ℕ → ℕ → Line → List Seen → (ℕ → Line → List Seen → Outcome) → Reading → Outcome
after text place line tokens go (reading.Gap bytes) = go (place + bytes) (line_behind line (get_or (drop place text) 0 0)) tokens
after text place line tokens go (reading.Token kind bytes) = go (place + bytes) Used (tokens ++ seen_at text place kind bytes ∷ [])
after text place line tokens go (reading.Fault what offset) = Err (what, place + offset)

-- what it finds from a place on, in so many readings
scanned : ℕ → List ℕ → ℕ → Line → List Seen → Outcome
scanned zero text place line tokens = Ok tokens
scanned (suc left) text place line tokens =
    if nat_le (length text) place then Ok tokens else after text place line tokens (scanned left text) (read line (drop place text))

found : List ℕ → Outcome
found text = scanned (suc (length text)) text 0 Clear []

scanned-end : (text : List ℕ) (left : ℕ) (line : Line) (tokens : List Seen) → scanned left text (length text) line tokens ≡ Ok tokens
unfolding scanned
scanned-end text zero line tokens = refl
scanned-end text (suc left) line tokens = rw (le-leb (length text) (length text) (omega arith)) refl

scanned-goes : (text : List ℕ) (left place : ℕ) (line : Line) (tokens : List Seen) (is : Reading) → 0 < length (drop place text) →
    read line (drop place text) ≡ is → scanned (suc left) text place line tokens ≡ after text place line tokens (scanned left text) is
unfolding scanned
scanned-goes text left place line tokens is some read_is =
    rw (lt-leb (length text) place (omega (arith, some, length-drop place text)))
    (ap (after text place line tokens (scanned left text)) read_is)

-- it comes by each place that is reached
record Passes (text : List ℕ) (place : ℕ) (tokens : List Seen) : Type 0 where
  line : Line
  standing : Standing text tokens place line
  left : ℕ
  enough : length text ≤ place + left
  same : found text ≡ scanned (suc left) text place line tokens

passes-gap : (text : List ℕ) (place bytes : ℕ) (tokens : List Seen) (line : Line) → Standing text tokens place line →
    gap_bytes (drop place text) ≡ Some bytes → (left : ℕ) → length text ≤ place + left →
    found text ≡ scanned (suc left) text place line tokens → Passes text (place + bytes) tokens
passes-gap text place bytes tokens line standing is zero enough same =
    absurd (omega (arith, gap-fits (drop place text) bytes is, length-drop place text))
passes-gap text place bytes tokens line standing is (suc left) enough same =
    let fits = gap-fits (drop place text) bytes is in
    record {
      line = line_behind line (get_or (drop place text) 0 0);
      standing = standing-gap text tokens place bytes line standing is;
      left = left;
      enough = omega (arith, fits.0);
      same = same ∙ scanned-goes text (suc left) place line tokens (reading.Gap bytes) (omega (arith, fits.0, fits.1))
          (gap_read text tokens place line standing bytes is);
    }

passes-token : (text : List ℕ) (place bytes : ℕ) (kind : Lexeme) (tokens : List Seen) (line : Line) → Standing text tokens place line →
    TokenAt (drop place text) kind bytes → IsSound text tokens place → (left : ℕ) → length text ≤ place + left →
    found text ≡ scanned (suc left) text place line tokens → Passes text (place + bytes) (tokens ++ seen_at text place kind bytes ∷ [])
passes-token text place bytes kind tokens line standing is sound zero enough same =
    absurd (omega (arith, is.some, is.within, length-drop place text))
passes-token text place bytes kind tokens line standing is sound (suc left) enough same = record {
  line = Used;
  standing = standing-token text tokens place bytes kind is.within;
  left = left;
  enough = omega (arith, is.some);
  same = same ∙ scanned-goes text (suc left) place line tokens (reading.Token kind bytes) (omega (arith, is.some, is.within))
      (token_read text tokens place line standing kind bytes is sound);
}

reached-passes : (text : List ℕ) (place : ℕ) (tokens : List Seen) → Reaches text place tokens → Passes text place tokens
unfolding found
reached-passes text _ _ start =
    record { line = Clear; standing = standing-start text; left = length text; enough = omega arith; same = refl }
reached-passes text _ _ (gap {place = place} {tokens = tokens} bytes reached is) =
    let before = reached-passes text place tokens reached in
    passes-gap text place bytes tokens before.line before.standing is before.left before.enough before.same
reached-passes text _ _ (token {place = place} {tokens = tokens} kind bytes reached is sound) =
    let before = reached-passes text place tokens reached in
    passes-token text place bytes kind tokens before.line before.standing is sound before.left before.enough before.same

-- the tokens of a text are what it finds, and so is the first fault
tokens-found : (text : List ℕ) (tokens : List Seen) → Tokens text tokens → found text ≡ Ok tokens
tokens-found text tokens whole =
    let at = reached-passes text (length text) tokens whole in
    at.same ∙ scanned-end text (suc at.left) at.line tokens

fault-found : (text : List ℕ) (what : Fault) (at : ℕ) → FirstFault text what at → found text ≡ Err (what, at)
fault-found text what at fault =
    let here = reached-passes text fault.place fault.tokens fault.reached in
    let rest = drop fault.place text in
    let some = fault-some here.line rest what fault.offset
    (fault-on text fault.tokens fault.place here.line here.standing what fault.offset fault.faulty) in
    here.same
    ∙ scanned-goes text here.left fault.place here.line fault.tokens (reading.Fault what fault.offset) some
    (fault_read text fault.tokens fault.place here.line here.standing what fault.offset fault.faulty)
    ∙ ap (λ n. Err (what, n)) (sym fault.there)

-- ---- and it finds one of them

abbrev SomeOutcome : List ℕ → Type 0
SomeOutcome text = ((tokens : List Seen) × Tokens text tokens) ⊎ ((what : Fault) × (at : ℕ) × FirstFault text what at)

-- what is read at a place that is reached, and the outcome behind it
goes_on : (text : List ℕ) (fuel place : ℕ) (line : Line) (tokens : List Seen) → Reaches text place tokens → Standing text tokens place line
    → place < length text → length text ≤ place + suc fuel →
    (found : Reading) → read line (drop place text) ≡ found →
    ((next : ℕ) (after : Line) (more : List Seen) → Reaches text next more → Standing text more next after → next ≤ length text
    → length text ≤ next + fuel → SomeOutcome text) → SomeOutcome text
goes_on text fuel place line tokens reached standing inside limit (reading.Gap bytes) is later =
    let some : 0 < length (drop place text) = omega (arith, length-drop place text) in
    let gap_is = reads-gap line (drop place text) bytes some is in
    let fits = gap-fits (drop place text) bytes gap_is in
    later (place + bytes) _ tokens (gap bytes reached gap_is) (standing-gap text tokens place bytes line standing gap_is)
    (omega (arith, fits.1, length-drop place text)) (omega (arith, fits.0))
goes_on text fuel place line tokens reached standing inside limit (reading.Token kind bytes) is later =
    let some : 0 < length (drop place text) = omega (arith, length-drop place text) in
    let token_is = reads-token line (drop place text) kind bytes some is in
    later (place + bytes) Used _ (token kind bytes reached token_is (sound_token text tokens place line standing kind bytes is))
    (standing-token text tokens place bytes kind token_is.within)
    (omega (arith, token_is.within, length-drop place text)) (omega (arith, token_is.some))
goes_on text fuel place line tokens reached standing inside limit (reading.Fault what offset) is later =
    let some : 0 < length (drop place text) = omega (arith, length-drop place text) in
    inr (
      what,
      place + offset,
      record {
        place = place;
        tokens = tokens;
        offset = offset;
        reached = reached;
        faulty = faulty_read text tokens place line standing what offset some is;
        there = refl;
      },
    )

outcome-from : (text : List ℕ) (fuel place : ℕ) (line : Line) (tokens : List Seen) → Reaches text place tokens
    → Standing text tokens place line → place ≤ length text → length text ≤ place + fuel → SomeOutcome text
outcome-from text zero place line tokens reached standing within limit =
    let end : place ≡ length text = omega arith in
    inl (tokens, subst (λ n. Reaches text n tokens) end reached)
outcome-from text (suc fuel) place line tokens reached standing within limit =
    ⊎_elim (λ inside. goes_on text fuel place line tokens reached standing inside limit (read line (drop place text)) refl
    (λ next after more here stands fits left. outcome-from text fuel next after more here stands fits left))
    (λ outside. let end : place ≡ length text = omega arith in inl (tokens, subst (λ n. Reaches text n tokens) end reached))
    (cases_lt place (length text))

-- each text is read in one way
pub read_one_way : (text : List ℕ) → IsReadOneWay text
read_one_way text = record {
  some = outcome-from text (length text) 0 Clear [] start (standing-start text) (omega arith) (omega arith);
  never_both = λ tokens what at whole fault.
      let clash : Ok tokens ≡ Err (what, at) = sym (tokens-found text tokens whole) ∙ fault-found text what at fault in cc;
  one_list = λ tokens others whole also.
      let same : Ok tokens ≡ Ok others = sym (tokens-found text tokens whole) ∙ tokens-found text others also in cc;
  one_fault = λ what other at place fault also.
      let same : ◌≡◌ {A = Outcome} (Err (what, at)) (Err (other, place)) =
      sym (fault-found text what at fault) ∙ fault-found text other place also in
      let pair : ◌≡◌ {A = Fault × ℕ} (what, at) (other, place) = cc in
      (ap (λ p. p.0) pair, ap (λ p. p.1) pair);
}
