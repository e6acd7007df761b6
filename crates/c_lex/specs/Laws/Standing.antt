-- What the scanner knows of the line before a place is what the text and the tokens before it say.
use Rattle.std.proofs.Common.{◌≡◌, ◌≢◌, ℕ, suc, ◌+◌, ◌<◌, ◌≤◌, ◌⊎◌, inl, inr, ⊎_elim, List, [], ◌∷◌, ◌++◌, length, take, drop, get_or}
use Rattle.std.proofs.Common.{true, false, eqb, Some, refl, ap, subst, sym, ◌∙◌, arith, get_or-drop, add-zero, length-take-le}
use Rattle.std.specs.Prelude.{if◌then◌else◌}
use Rattle.std.proofs.lemmas.Bool.{cases_lt, cond_both, eqb-true, eqb-false, or_cases, false_from_ne_true}
use Rattle.std.proofs.lemmas.List.Sums.{fold-append}
use Rattle.c_ast.specs.declared.token.Lexeme.{Lexeme}
use Rattle.c_ast.specs.Seen.{Seen}
use Rattle.c_lex.specs.declared.fault.Fault.{Fault}
use Rattle.c_lex.specs.declared.reading.Line.{Line}
use Rattle.c_lex.specs.declared.reading.Line.TheVariants.{Clear, Spaced, Used}
use Rattle.c_lex.specs.Bytes.{is_white, is_blank}
use Rattle.c_lex.specs.Gap.{gap_bytes}
use Rattle.c_lex.specs.Directive.{is_include_line}
use Rattle.c_lex.specs.Lines.{end_of, AreGaps, none, more, LineStarts, first, newline, IsFirstOnLine, IsBehindBlanks}
use Rattle.c_lex.specs.Faults.{Faulty, by_bytes, not_directive, late_hash}
use Rattle.c_lex.specs.Scan.Words.{spaced, line_behind}
use Rattle.c_lex.specs.Laws.FaultForms.{fault-scanned, scanned-fault}
use Rattle.c_lex.specs.Laws.LineFaults.{FaultOn, by_bytes as by_bytes_on, not_directive as not_directive_on, spaced_directive}
use Rattle.c_lex.specs.Laws.LineFaults.{late_hash as late_hash_on}
use Rattle.c_lex.specs.Laws.ReadLaws.{gap-fits}

-- ---- gaps in turn

-- gaps go on to their end
gaps-ordered : (text : List ℕ) (end from : ℕ) → AreGaps text end from → from ≤ end
gaps-ordered text end _ none = omega arith
gaps-ordered text end from (more bytes is gaps) = omega (arith, gaps-ordered text end (from + bytes) gaps)

-- a gap behind gaps makes them longer
gaps-push : (text : List ℕ) (place from bytes : ℕ) → AreGaps text place from → gap_bytes (drop place text) ≡ Some bytes
    → AreGaps text (place + bytes) from
gaps-push text place _ bytes none is = more bytes is none
gaps-push text place from bytes (more n here gaps) is = more n here (gaps-push text place (from + n) bytes gaps is)

-- of two ends that gaps lead to the later one is reached from the other
gaps-between : (text : List ℕ) (end other from : ℕ) → AreGaps text end from → AreGaps text other from → end ≤ other
    → AreGaps text other end
gaps-between text end other _ none also ordered = also
gaps-between text end _ from (more bytes is gaps) none ordered =
    absurd (omega (arith, gaps-ordered text end (from + bytes) gaps, (gap-fits (drop from text) bytes is).0))
gaps-between text end other from (more bytes is gaps) (more n here goes) ordered =
    let same : n ≡ bytes = cc in
    gaps-between text end other (from + bytes) gaps (subst (λ k. AreGaps text other (from + k)) same goes) ordered

-- nothing that gaps lead to stands within a gap
gaps-apart : (text : List ℕ) (place bytes at : ℕ) → gap_bytes (drop place text) ≡ Some bytes → AreGaps text at place
    → (at ≡ place) ⊎ (place + bytes ≤ at)
gaps-apart text place bytes _ is none = inl refl
gaps-apart text place bytes at is (more n here gaps) =
    let same : n ≡ bytes = cc in
    inr (omega (arith, gaps-ordered text at (place + n) gaps))

-- ---- the line before a place

abbrev StandsOn : List ℕ → List Seen → ℕ → Line → Type 0
StandsOn text tokens place Clear = IsBehindBlanks text tokens place
StandsOn text tokens place Spaced = IsFirstOnLine text tokens place × (IsBehindBlanks text tokens place → ⊥)
StandsOn text tokens place Used = IsFirstOnLine text tokens place → ⊥

-- behind these tokens the text is gaps up to the place, and this stands on the place's line
pub record Standing (text : List ℕ) (tokens : List Seen) (place : ℕ) (line : Line) : Type 0 where
  pub gaps : AreGaps text place (end_of tokens)
  pub stands : StandsOn text tokens place line

blanks-first : (text : List ℕ) (tokens : List Seen) (place : ℕ) → IsBehindBlanks text tokens place → IsFirstOnLine text tokens place
blanks-first text tokens place clear = record { from = clear.from; starts = clear.starts; before = clear.before }

pub standing-start : (text : List ℕ) → Standing text [] 0 Clear
standing-start text = record {
  gaps = none;
  stands = record { from = 0; starts = first refl; before = omega arith; blank = λ at from before. absurd (omega arith) };
}

-- white space is a gap of one byte
white-one : (rest : List ℕ) (n : ℕ) → is_white (get_or rest 0 0) ≡ true → gap_bytes rest ≡ Some n → n ≡ 1
white-one [] n white is = cc
white-one (b ∷ rest) n white is = let one : Some 1 ≡ Some n = rw white at is in cc

blank-white : (b : ℕ) → is_blank b ≡ true → is_white b ≡ true
blank-white b blank =
    ⊎_elim (λ space. ap is_white (eqb-true b 32 space)) (λ tab. ap is_white (eqb-true b 9 tab)) (or_cases (eqb b 32) (eqb b 9) blank)

module _ (text : List ℕ) (tokens : List Seen) (place bytes : ℕ) (is : gap_bytes (drop place text) ≡ Some bytes)
    (reached : AreGaps text place (end_of tokens)) where
  some : 0 < bytes
  some = (gap-fits (drop place text) bytes is).0

  first_byte : get_or (drop place text) 0 0 ≡ get_or text place 0
  first_byte = rw (get_or-drop, add-zero) refl

  -- a line that starts behind the place, and not behind the gap, starts before it where the gap is no newline
  starts-before : (from : ℕ) → get_or text place 0 ≢ 10 → LineStarts text tokens from → from ≤ place + bytes → from ≤ place
  starts-before _ other (first empty) within = omega arith
  starts-before _ other (newline {place = at} gaps is_newline) within =
      ⊎_elim (λ early. omega arith)
      (λ late. ⊎_elim (λ same. absurd (other (ap (λ k. get_or text k 0) (sym same) ∙ is_newline))) (λ behind. absurd (omega arith))
      (gaps-apart text place bytes at is (gaps-between text place at (end_of tokens) reached gaps (omega (arith, late)))))
      (cases_lt at place)

  first-kept : IsFirstOnLine text tokens place → IsFirstOnLine text tokens (place + bytes)
  first-kept is_first = record { from = is_first.from; starts = is_first.starts; before = omega (arith, is_first.before) }

  -- and nothing else on the line changes it
  first-before : get_or text place 0 ≢ 10 → IsFirstOnLine text tokens (place + bytes) → IsFirstOnLine text tokens place
  first-before other is_first = record {
    from = is_first.from;
    starts = is_first.starts;
    before = starts-before is_first.from other is_first.starts is_first.before;
  }

  blanks-before : get_or text place 0 ≢ 10 → IsBehindBlanks text tokens (place + bytes) → IsBehindBlanks text tokens place
  blanks-before other clear = record {
    from = clear.from;
    starts = clear.starts;
    before = starts-before clear.from other clear.starts clear.before;
    blank = λ at from before. clear.blank at from (omega (arith, before));
  }

  not_blank : get_or text place 0 ≢ 10 → is_blank (get_or text place 0) ≡ false → IsBehindBlanks text tokens (place + bytes) → ⊥
  not_blank other no_blank clear =
      let here : is_blank (get_or text place 0) ≡ true = clear.blank place (starts-before clear.from other clear.starts clear.before)
      (omega (arith, some)) in
      cc

  -- behind a newline
  stands-newline : get_or text place 0 ≡ 10 → bytes ≡ 1 → IsBehindBlanks text tokens (place + bytes)
  stands-newline is_newline one = record {
    from = suc place;
    starts = newline reached is_newline;
    before = omega (arith, one);
    blank = λ at from before. absurd (omega (arith, one));
  }

  blanks-kept : is_blank (get_or text place 0) ≡ true → bytes ≡ 1 → IsBehindBlanks text tokens place
      → IsBehindBlanks text tokens (place + bytes)
  blanks-kept is_blank_there one clear = record {
    from = clear.from;
    starts = clear.starts;
    before = omega (arith, clear.before);
    blank = λ at from before. ⊎_elim (λ early. clear.blank at from early)
        (λ late. let there : at ≡ place = omega (arith, one) in ap (λ k. is_blank (get_or text k 0)) there ∙ is_blank_there)
        (cases_lt at place);
  }

  -- behind a space or a tab
  stands-blank : (line : Line) → get_or text place 0 ≢ 10 → is_blank (get_or text place 0) ≡ true → bytes ≡ 1
      → StandsOn text tokens place line → StandsOn text tokens (place + bytes) line
  stands-blank Clear other there one stands = blanks-kept there one stands
  stands-blank Spaced other there one stands = (first-kept stands.0, λ clear. stands.1 (blanks-before other clear))
  stands-blank Used other there one stands = λ is_first. stands (first-before other is_first)

  -- behind another gap
  stands-other : (line : Line) → get_or text place 0 ≢ 10 → is_blank (get_or text place 0) ≡ false → StandsOn text tokens place line
      → StandsOn text tokens (place + bytes) (spaced line)
  stands-other Clear other there stands = (first-kept (blanks-first text tokens place stands), λ clear. not_blank other there clear)
  stands-other Spaced other there stands = (first-kept stands.0, λ clear. not_blank other there clear)
  stands-other Used other there stands = λ is_first. stands (first-before other is_first)

  stands-behind : (line : Line) → StandsOn text tokens place line
      → StandsOn text tokens (place + bytes) (line_behind line (get_or text place 0))
  stands-behind line stands =
      let b = get_or text place 0 in
      let P = StandsOn text tokens (place + bytes) in
      let one_white : is_white b ≡ true → bytes ≡ 1 = λ white. white-one (drop place text) bytes (ap is_white first_byte ∙ white) is in
      cond_both (eqb b 10) Clear (if is_blank b then line else spaced line) P
      (λ same. let is_newline = eqb-true b 10 same in stands-newline is_newline (one_white (ap is_white is_newline)))
      (λ other. let no_newline = eqb-false b 10 other in
      cond_both (is_blank b) line (spaced line) P
      (λ there. stands-blank line no_newline there (one_white (blank-white b there)) stands)
      (λ there. stands-other line no_newline there stands))

pub standing-gap : (text : List ℕ) (tokens : List Seen) (place bytes : ℕ) (line : Line) → Standing text tokens place line
    → gap_bytes (drop place text) ≡ Some bytes →
    Standing text tokens (place + bytes) (line_behind line (get_or (drop place text) 0 0))
standing-gap text tokens place bytes line standing is = record {
  gaps = gaps-push text place (end_of tokens) bytes standing.gaps is;
  stands = rw (get_or-drop, add-zero) (stands-behind text tokens place bytes is standing.gaps line standing.stands);
}

-- ---- behind a token

abbrev pub seen_at : List ℕ → ℕ → Lexeme → ℕ → Seen
seen_at text place kind bytes = record { kind = kind; bytes = take bytes (drop place text); start = place }

end-push : (tokens : List Seen) (token : Seen) → end_of (tokens ++ token ∷ []) ≡ token.start + length token.bytes
end-push tokens token = fold-append (λ end t. t.start + length t.bytes) 0 tokens (token ∷ [])

not_first : (text : List ℕ) (tokens : List Seen) (token : Seen) (from : ℕ) → LineStarts text (tokens ++ token ∷ []) from
    → end_of (tokens ++ token ∷ []) < from
not_first text tokens token _ (first empty) = absurd (no_push tokens empty)
  where
    no_push : (before : List Seen) → before ++ token ∷ [] ≡ [] → ⊥
    no_push [] h = cc
    no_push (t ∷ before) h = cc
not_first text tokens token _ (newline {place = at} gaps is_newline) = omega
    (arith, gaps-ordered text at (end_of (tokens ++ token ∷ [])) gaps)

pub standing-token : (text : List ℕ) (tokens : List Seen) (place bytes : ℕ) (kind : Lexeme) → bytes ≤ length (drop place text) →
    Standing text (tokens ++ seen_at text place kind bytes ∷ []) (place + bytes) Used
standing-token text tokens place bytes kind within =
    let token = seen_at text place kind bytes in
    let end : end_of (tokens ++ token ∷ []) ≡ place + bytes = end-push tokens token
    ∙ ap (λ n. place + n) (length-take-le bytes (drop place text) within) in
    record {
      gaps = subst (AreGaps text (place + bytes)) (sym end) none;
      stands = λ is_first. omega (arith, not_first text tokens token is_first.from is_first.starts, is_first.before, end);
    }

-- ---- so the faults are those of the line

pub fault-on : (text : List ℕ) (tokens : List Seen) (place : ℕ) (line : Line) → Standing text tokens place line
    → (what : Fault) (offset : ℕ) → Faulty text tokens place what offset → FaultOn line (drop place text) what offset
fault-on text tokens place line standing what offset (by_bytes fault) = by_bytes_on (fault-scanned (drop place text) what offset fault)
fault-on text tokens place Clear standing _ _ (not_directive hash is_first other) =
    not_directive_on hash refl (false_from_ne_true (is_include_line (drop place text)) (λ include. other (standing.stands, include)))
fault-on text tokens place Spaced standing _ _ (not_directive hash is_first other) = spaced_directive hash refl
fault-on text tokens place Used standing _ _ (not_directive hash is_first other) = absurd (standing.stands is_first)
fault-on text tokens place Clear standing _ _ (late_hash hash late) = absurd (late (blanks-first text tokens place standing.stands))
fault-on text tokens place Spaced standing _ _ (late_hash hash late) = absurd (late standing.stands.0)
fault-on text tokens place Used standing _ _ (late_hash hash late) = late_hash_on hash refl

pub on-fault : (text : List ℕ) (tokens : List Seen) (place : ℕ) (line : Line) → Standing text tokens place line
    → (what : Fault) (offset : ℕ) → FaultOn line (drop place text) what offset → Faulty text tokens place what offset
on-fault text tokens place line standing what offset (by_bytes_on fault) = by_bytes (scanned-fault (drop place text) what offset fault)
on-fault text tokens place Clear standing _ _ (not_directive_on hash clear other) =
    not_directive hash (blanks-first text tokens place standing.stands) (λ directive. let is = directive.1 in cc)
on-fault text tokens place Spaced standing _ _ (not_directive_on hash clear other) = cc
on-fault text tokens place Used standing _ _ (not_directive_on hash clear other) = cc
on-fault text tokens place Clear standing _ _ (spaced_directive hash spaced) = cc
on-fault text tokens place Spaced standing _ _ (spaced_directive hash spaced) = not_directive hash standing.stands.0
    (λ directive. standing.stands.1 directive.0)
on-fault text tokens place Used standing _ _ (spaced_directive hash spaced) = cc
on-fault text tokens place Clear standing _ _ (late_hash_on hash used) = cc
on-fault text tokens place Spaced standing _ _ (late_hash_on hash used) = cc
on-fault text tokens place Used standing _ _ (late_hash_on hash used) = late_hash hash standing.stands
