-- What stands at a place is a gap, a token or a fault, as the definitions say.
use Rattle.std.proofs.Common.{◌≡◌, ℕ, suc, ◌+◌, ◌<◌, ◌≤◌, List, [], ◌∷◌, length, take, drop, get_or, Bool, true, false, cond, ◌&&◌, ◌||◌}
use Rattle.std.proofs.Common.{eqb, Option, Some, None, refl, ap, subst, sym, ◌∙◌, arith, ◌⊎◌, inl, inr, ⊎_elim, length-drop}
use Rattle.std.specs.List.{prefix_len}
use Rattle.std.specs.Option.{option_map}
use Rattle.std.specs.Char.{is_ascii_digit}
use Rattle.std.proofs.lemmas.Bool.{and_parts, cases_lt, eqb-true}
use Rattle.std.proofs.lemmas.List.Sums.{prefix_len-le-length}
use Rattle.c_ast.specs.declared.token.Lexeme.{Lexeme}
use Rattle.c_ast.specs.declared.token.Lexeme.TheVariants as lexeme
use Rattle.c_ast.specs.Words.{keyword_of, punctuator_of}
use Rattle.c_lex.specs.declared.fault.Fault.{Fault as Faults}
use Rattle.c_lex.specs.declared.reading.Line.{Line}
use Rattle.c_lex.specs.declared.reading.Reading.{Reading}
use Rattle.c_lex.specs.declared.reading.Reading.TheVariants.{Gap, Token, Fault}
use Rattle.c_lex.specs.Bytes.{is_letter, is_white, is_in_line}
use Rattle.c_lex.specs.Scan.Numeral.{numeral_value, numeral_type}
use Rattle.c_lex.specs.Scan.Quoted.{character_of, text_of}
use Rattle.c_lex.specs.Gap.{begins_line_comment, begins_block_comment, comment_end, block_comment, gap_bytes}
use Rattle.c_lex.specs.Spelling.{Spells}
use Rattle.c_lex.specs.Laws.Scanned.{Scans, spells-scans, scans-spells}
use Rattle.c_lex.specs.Scan.Reading.{keyword_or_name, read_word, read_number, read_character, read_text, read_directive, read_punctuator}
use Rattle.c_lex.specs.Scan.Reading.{read_token, comment_or, read}
use Rattle.c_lex.specs.Tokens.{TokenAt}
use Rattle.c_lex.specs.Laws.Classes.{lexeme_class, Scans-class, front-not_white}
use Rattle.c_lex.specs.Laws.Tells.{IsToken, Tells}
use Rattle.c_lex.specs.Laws.WordReads.{word-tells, number-tells, punctuator-tells}
use Rattle.c_lex.specs.Laws.QuotedReads.{character-tells, text-tells}
use Rattle.c_lex.specs.Laws.DirectiveReads.{directive-tells}
use Rattle.c_lex.specs.Laws.LineFaults.{FaultOn}
use Rattle.c_lex.specs.Laws.FaultReads.{read-fault, fault-read}

-- ---- one token

-- the lexeme of a class that bytes spell
abbrev by_class : ℕ → List ℕ → Option Lexeme
by_class class bytes =
    cond (eqb class 0) (Some (keyword_or_name (keyword_of bytes) bytes))
    (cond (eqb class 1) (option_map (lexeme.Number (numeral_value bytes)) (numeral_type bytes))
    (cond (eqb class 2) (option_map lexeme.Character (character_of bytes))
    (cond (eqb class 3) (option_map lexeme.Text (text_of bytes))
    (cond (eqb class 4) (Some lexeme.Include) (option_map lexeme.Punct (punctuator_of bytes))))))

Scans-by_class : (kind : Lexeme) (bytes : List ℕ) → Scans kind bytes → by_class (lexeme_class kind) bytes ≡ Some kind
unfolding Scans
Scans-by_class lexeme.Include bytes spells = refl
Scans-by_class (lexeme.Name name) bytes spells = rw (spells.1, spells.2) refl
Scans-by_class (lexeme.Number value ty) bytes spells = rw (spells.3, spells.2) refl
Scans-by_class (lexeme.Character value) bytes spells = rw spells refl
Scans-by_class (lexeme.Text values) bytes spells = rw spells refl
Scans-by_class (lexeme.Keyword number) bytes spells = rw spells refl
Scans-by_class (lexeme.Punct number) bytes spells = rw spells refl

-- bytes spell one token at most
pub Scans-one : (kind other : Lexeme) (bytes : List ℕ) → Scans kind bytes → Scans other bytes → kind ≡ other
Scans-one kind other bytes spells also =
    let class : lexeme_class kind ≡ lexeme_class other = sym (Scans-class kind bytes spells) ∙ Scans-class other bytes also in
    let one : by_class (lexeme_class kind) bytes ≡ Some kind = Scans-by_class kind bytes spells in
    let two : by_class (lexeme_class kind) bytes ≡ Some other = ap (λ c. by_class c bytes) class ∙ Scans-by_class other bytes also in
    cc

-- ---- what the first byte says

read_token-tells : (line : Line) (b : ℕ) (rest : List ℕ) → Tells (b ∷ rest) (read_token line b (b ∷ rest))
unfolding read_token
read_token-tells line b rest = word (is_letter b) refl
  where
    text : List ℕ
    text = b ∷ rest

    hash : (h : Bool) → eqb b 35 ≡ h → is_letter b ≡ false → is_ascii_digit b ≡ false → eqb b 39 ≡ false → eqb b 34 ≡ false →
        Tells (b ∷ rest) (cond h (read_directive line (b ∷ rest)) (read_punctuator (b ∷ rest)))
    hash true is no_letter no_digit no_quote no_quotes = subst (λ c. Tells (c ∷ rest) (read_directive line (c ∷ rest)))
        (sym (eqb-true b 35 is)) (directive-tells line rest)
    hash false is no_letter no_digit no_quote no_quotes = punctuator-tells (b ∷ rest)
        (rw (no_letter, no_digit, no_quote, no_quotes, is) refl)

    quotes : (q : Bool) → eqb b 34 ≡ q → is_letter b ≡ false → is_ascii_digit b ≡ false → eqb b 39 ≡ false →
        Tells (b ∷ rest) (cond q (read_text (b ∷ rest)) (cond (eqb b 35) (read_directive line (b ∷ rest)) (read_punctuator (b ∷ rest))))
    quotes true is no_letter no_digit no_quote = subst (λ c. Tells (c ∷ rest) (read_text (c ∷ rest))) (sym (eqb-true b 34 is))
        (text-tells rest)
    quotes false is no_letter no_digit no_quote = hash (eqb b 35) refl no_letter no_digit no_quote is

    quote : (q : Bool) → eqb b 39 ≡ q → is_letter b ≡ false → is_ascii_digit b ≡ false →
        Tells (b ∷ rest) (cond q (read_character (b ∷ rest))
        (cond (eqb b 34) (read_text (b ∷ rest)) (cond (eqb b 35) (read_directive line (b ∷ rest)) (read_punctuator (b ∷ rest)))))
    quote true is no_letter no_digit = subst (λ c. Tells (c ∷ rest) (read_character (c ∷ rest))) (sym (eqb-true b 39 is))
        (character-tells rest)
    quote false is no_letter no_digit = quotes (eqb b 34) refl no_letter no_digit is

    digit : (d : Bool) → is_ascii_digit b ≡ d → is_letter b ≡ false →
        Tells (b ∷ rest) (cond d (read_number (b ∷ rest)) (cond (eqb b 39) (read_character (b ∷ rest))
        (cond (eqb b 34) (read_text (b ∷ rest)) (cond (eqb b 35) (read_directive line (b ∷ rest)) (read_punctuator (b ∷ rest))))))
    digit true is no_letter = number-tells b rest is
    digit false is no_letter = quote (eqb b 39) refl no_letter is

    word : (l : Bool) → is_letter b ≡ l →
        Tells (b ∷ rest) (cond l (read_word (b ∷ rest)) (cond (is_ascii_digit b) (read_number (b ∷ rest))
        (cond (eqb b 39) (read_character (b ∷ rest)) (cond (eqb b 34) (read_text (b ∷ rest))
        (cond (eqb b 35) (read_directive line (b ∷ rest)) (read_punctuator (b ∷ rest)))))))
    word true is = word-tells b rest is
    word false is = digit (is_ascii_digit b) refl is

-- ---- gaps

-- a byte that is there stands in the text
present : (xs : List ℕ) (c : ℕ) → 0 < c → eqb (get_or xs 0 0) c ≡ true → 1 ≤ length xs
present [] c some h = absurd (omega (arith, eqb-true 0 c h))
present (x ∷ xs) c some h = omega arith

end_bound : (b : ℕ) (rest : List ℕ) (n : ℕ) (found : Option ℕ) (e : Bool) → (eqb b 42 && eqb (get_or rest 0 0) 47) ≡ e →
    cond e (Some 2) (option_map suc found) ≡ Some n → ((m : ℕ) → found ≡ Some m → m ≤ length rest) → n ≤ suc (length rest)
end_bound b rest n found true is h later =
    let two : 2 ≡ n = cc in
    omega (arith, present rest 47 (omega arith) (and_parts (eqb b 42) (eqb (get_or rest 0 0) 47) is).1)
end_bound b rest n None false is h later = cc
end_bound b rest n (Some m) false is h later = let one : suc m ≡ n = cc in omega (arith, later m refl)

-- a comment ends within the text
comment_end-bound : (rest : List ℕ) (n : ℕ) → comment_end rest ≡ Some n → n ≤ length rest
comment_end-bound [] n h = cc
comment_end-bound (b ∷ rest) n h = end_bound b rest n (comment_end rest) (eqb b 42 && eqb (get_or rest 0 0) 47) refl h
    (λ m found. comment_end-bound rest m found)

-- what the tests at the front choose between: white space, a comment of its line, a comment with an end, or what stands where no gap
-- begins
abbrev reading_of : (white lined blocked : Bool) → ℕ → Option ℕ → Reading → Reading
reading_of white lined blocked count end other = cond white (Gap 1) (cond lined (Gap count) (cond blocked (comment_or end) other))

abbrev gap_of : (white lined blocked : Bool) → ℕ → Option ℕ → Option ℕ
gap_of white lined blocked count end = cond white (Some 1) (cond lined (Some count) (cond blocked end None))

gap_gives : (white lined blocked : Bool) (count : ℕ) (end : Option ℕ) (other : Reading) (n : ℕ)
    → gap_of white lined blocked count end ≡ Some n → reading_of white lined blocked count end other ≡ Gap n
gap_gives true lined blocked count end other n h = cc
gap_gives false true blocked count end other n h = cc
gap_gives false false true count None other n h = cc
gap_gives false false true count (Some m) other n h = cc
gap_gives false false false count end other n h = cc

gives_gap : (white lined blocked : Bool) (count : ℕ) (end : Option ℕ) (other : Reading) (n : ℕ)
    → reading_of white lined blocked count end other ≡ Gap n → (other ≡ Gap n → ⊥) → gap_of white lined blocked count end ≡ Some n
gives_gap true lined blocked count end other n h never = cc
gives_gap false true blocked count end other n h never = cc
gives_gap false false true count None other n h never = cc
gives_gap false false true count (Some m) other n h never = cc
gives_gap false false false count end other n h never = absurd (never h)

gives_token : (white lined blocked : Bool) (count : ℕ) (end : Option ℕ) (other : Reading) (kind : Lexeme) (n : ℕ)
    → reading_of white lined blocked count end other ≡ Token kind n → ((lined || blocked) ≡ false) × (other ≡ Token kind n)
gives_token true lined blocked count end other kind n h = cc
gives_token false true blocked count end other kind n h = cc
gives_token false false true count None other kind n h = cc
gives_token false false true count (Some m) other kind n h = cc
gives_token false false false count end other kind n h = (refl, h)

gives_fault : (white lined blocked : Bool) (count : ℕ) (end : Option ℕ) (other : Reading) (what : Faults) (place : ℕ)
    → reading_of white lined blocked count end other ≡ Fault what place → (place ≡ 0) ⊎ (other ≡ Fault what place)
gives_fault true lined blocked count end other what place h = cc
gives_fault false true blocked count end other what place h = cc
gives_fault false false true count None other what place h = inl cc
gives_fault false false true count (Some m) other what place h = cc
gives_fault false false false count end other what place h = inr h

-- a gap is read as one
pub gap-reads : (line : Line) (rest : List ℕ) (n : ℕ) → gap_bytes rest ≡ Some n → read line rest ≡ Gap n
unfolding read
gap-reads line [] n h = cc
gap-reads line (b ∷ rest) n h = gap_gives (is_white b) (begins_line_comment (b ∷ rest)) (begins_block_comment (b ∷ rest)) _ _
    (read_token line b (b ∷ rest)) n h

-- and what is read as a gap is one
pub reads-gap : (line : Line) (rest : List ℕ) (n : ℕ) → 0 < length rest → read line rest ≡ Gap n → gap_bytes rest ≡ Some n
unfolding read
reads-gap line [] n some h = absurd (omega arith)
reads-gap line (b ∷ rest) n some h =
    gives_gap (is_white b) (begins_line_comment (b ∷ rest)) (begins_block_comment (b ∷ rest)) _ _ (read_token line b (b ∷ rest)) n h
    (λ gap. subst (Tells (b ∷ rest)) gap (read_token-tells line b rest))

-- a gap has at least one byte, and no more than there are
pub gap-fits : (rest : List ℕ) (n : ℕ) → gap_bytes rest ≡ Some n → (0 < n) × (n ≤ length rest)
gap-fits [] n h = cc
gap-fits (b ∷ rest) n h = white (is_white b) h
  where
    blocked : (k : Bool) → begins_block_comment (b ∷ rest) ≡ k → (end : Option ℕ) → comment_end (drop 1 rest) ≡ end
        → cond k (option_map (λ m. 2 + m) end) None ≡ Some n → (0 < n) × (n ≤ length (b ∷ rest))
    blocked true is None found h = cc
    blocked true is (Some m) found h =
        let count : 2 + m ≡ n = cc in
        let room = present rest 42 (omega arith) (and_parts (eqb b 47) (eqb (get_or rest 0 0) 42) is).1 in
        (omega arith, omega (arith, room, comment_end-bound (drop 1 rest) m found, length-drop 1 rest))
    blocked false is end found h = cc

    lined : (l : Bool) → begins_line_comment (b ∷ rest) ≡ l → cond l (Some (prefix_len is_in_line (b ∷ rest))) (cond
        (begins_block_comment (b ∷ rest)) (block_comment (b ∷ rest)) None) ≡ Some n → (0 < n) × (n ≤ length (b ∷ rest))
    lined true is h =
        let count : prefix_len is_in_line (b ∷ rest) ≡ n = cc in
        let slash : b ≡ 47 = eqb-true b 47 (and_parts (eqb b 47) (eqb (get_or rest 0 0) 47) is).0 in
        let more : prefix_len is_in_line (b ∷ rest) ≡ 1 + prefix_len is_in_line rest = rw slash refl in
        (omega arith, omega (arith, prefix_len-le-length is_in_line (b ∷ rest)))
    lined false is h = blocked (begins_block_comment (b ∷ rest)) refl (comment_end (drop 1 rest)) refl h

    white : (w : Bool) → cond w (Some 1) (cond (begins_line_comment (b ∷ rest)) (Some (prefix_len is_in_line (b ∷ rest)))
        (cond (begins_block_comment (b ∷ rest)) (block_comment (b ∷ rest)) None)) ≡ Some n → (0 < n) × (n ≤ length (b ∷ rest))
    white true h = let one : 1 ≡ n = cc in (omega arith, omega arith)
    white false h = lined (begins_line_comment (b ∷ rest)) refl h

-- a fault stands in the text or at its end
pub fault-fits : (line : Line) (rest : List ℕ) (what : Faults) (place : ℕ) → 0 < length rest → read line rest ≡ Fault what place
    → place ≤ length rest
unfolding read
fault-fits line [] what place some h = absurd (omega arith)
fault-fits line (b ∷ rest) what place some h =
    ⊎_elim (λ first. omega arith) (λ found. subst (Tells (b ∷ rest)) found (read_token-tells line b rest))
    (gives_fault (is_white b) (begins_line_comment (b ∷ rest)) (begins_block_comment (b ∷ rest)) _ _
    (read_token line b (b ∷ rest)) what place h)

-- what is read as a token is one
pub reads-token : (line : Line) (rest : List ℕ) (kind : Lexeme) (n : ℕ) → 0 < length rest → read line rest ≡ Token kind n
    → TokenAt rest kind n
unfolding read
reads-token line [] kind n some h = absurd (omega arith)
reads-token line (b ∷ rest) kind n some h =
    let chosen = gives_token (is_white b) (begins_line_comment (b ∷ rest)) (begins_block_comment (b ∷ rest)) _ _
    (read_token line b (b ∷ rest)) kind n h in
    let token : IsToken (b ∷ rest) kind n = subst (Tells (b ∷ rest)) chosen.1 (read_token-tells line b rest) in
    record {
      some = token.some;
      within = token.within;
      spells = scans-spells kind _ token.spells;
      longest = λ more other longer within spells. token.longest more other longer within (spells-scans other _ spells);
      apart = chosen.0;
    }

-- and there stands no fault
pub token-sound : (line : Line) (rest : List ℕ) (kind : Lexeme) (n : ℕ) → read line rest ≡ Token kind n → (what : Faults) (place : ℕ)
    → FaultOn line rest what place → ⊥
token-sound line rest kind n is what place fault =
    let clash : Token kind n ≡ Fault what place = sym is ∙ fault-read line rest what place fault in cc

-- of two tokens at one place neither is longer
same_bytes : (rest : List ℕ) (kind other : Lexeme) (n m : ℕ) → TokenAt rest kind n → TokenAt rest other m → n ≡ m
same_bytes rest kind other n m token also =
    ⊎_elim (λ shorter. absurd (token.longest m other shorter also.within also.spells))
    (λ not_shorter. ⊎_elim (λ longer. absurd (also.longest n kind longer token.within token.spells)) (λ not_longer. omega arith)
    (cases_lt m n))
    (cases_lt n m)

gap_not_token : (rest : List ℕ) (n m : ℕ) (kind : Lexeme) → gap_bytes rest ≡ Some n
    → (begins_line_comment rest || begins_block_comment rest) ≡ false → (is_white (get_or rest 0 0) ≡ true → ⊥) → ⊥
gap_not_token [] n m kind gap apart never = cc
gap_not_token (b ∷ rest) n m kind gap apart never = by_tests (is_white b) refl (begins_line_comment (b ∷ rest))
    (begins_block_comment (b ∷ rest)) gap apart
  where
    by_tests : (w : Bool) → is_white b ≡ w → (l k : Bool) → gap_of w l k (prefix_len is_in_line (b ∷ rest)) (block_comment
        (b ∷ rest)) ≡ Some n → (l || k) ≡ false → ⊥
    by_tests true is l k gap apart = never is
    by_tests false is true k gap apart = cc
    by_tests false is false true gap apart = cc
    by_tests false is false false gap apart = cc

by_reading : (line : Line) (rest : List ℕ) (kind : Lexeme) (n : ℕ) → TokenAt rest kind n
    → ((what : Faults) (place : ℕ) → FaultOn line rest what place → ⊥) → (found : Reading) → read line rest ≡ found
    → read line rest ≡ Token kind n
by_reading line rest kind n token sound (Gap m) is =
    absurd (gap_not_token rest m n kind (reads-gap line rest m (omega (arith, token.some, token.within)) is) token.apart
    (front-not_white rest n kind token.some (spells-scans kind _ token.spells)))
by_reading line rest kind n token sound (Fault what place) is = absurd
    (sound what place (read-fault line rest what place (omega (arith, token.some, token.within)) is))
by_reading line rest kind n token sound (Token other m) is =
    let also : TokenAt rest other m = reads-token line rest other m (omega (arith, token.some, token.within)) is in
    let bytes : n ≡ m = same_bytes rest kind other n m token also in
    let spelled : Spells other (take n rest) = rw bytes also.spells in
    let same : kind ≡ other = Scans-one kind other (take n rest) (spells-scans kind _ token.spells) (spells-scans other _ spelled) in
    rw (is, same, bytes) refl

-- a token where no fault stands is read as one
pub token-reads : (line : Line) (rest : List ℕ) (kind : Lexeme) (n : ℕ) → TokenAt rest kind n
    → ((what : Faults) (place : ℕ) → FaultOn line rest what place → ⊥) → read line rest ≡ Token kind n
token-reads line rest kind n token sound = by_reading line rest kind n token sound (read line rest) refl
