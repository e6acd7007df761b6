-- The directive is read as it is spelled.
use Rattle.std.proofs.Common.{◌≡◌, ℕ, zero, suc, ◌+◌, ◌-◌, ◌<◌, ◌≤◌, List, ◌∷◌, length, take, drop, Bool, true, false, cond, ◌&&◌, nat_eq}
use Rattle.std.proofs.Common.{Some, None, refl, ap, sym, ◌∙◌, arith, length-take-le, length-take, length-drop}
use Rattle.std.specs.Prelude.{codes}
use Rattle.std.specs.List.{prefix_len, starts_with}
use Rattle.std.specs.Str.{bytes_eq}
use Rattle.std.proofs.lemmas.Bool.{and_parts}
use Rattle.std.proofs.lemmas.List.{take-take, drop-take}
use Rattle.std.proofs.lemmas.List.Sums.{prefix_len-le-length}
use Rattle.std.proofs.lemmas.Slice.Eq.{bytes_eq-Decides}
use Rattle.c_ast.specs.declared.token.Lexeme.{Lexeme}
use Rattle.c_ast.specs.declared.token.Lexeme.TheVariants as lexeme
use Rattle.c_lex.specs.declared.reading.Line.{Line}
use Rattle.c_lex.specs.declared.reading.Line.TheVariants.{Clear, Spaced, Used}
use Rattle.c_lex.specs.Bytes.{is_blank}
use Rattle.c_lex.specs.Directive.{after_blanks, is_include, ends_line, is_include_line}
use Rattle.c_lex.specs.Laws.Scanned.{Scans}
use Rattle.c_lex.specs.Scan.Reading.{include_or, read_directive}
use Rattle.c_lex.specs.Laws.RunLaws.{prefix_len-take}
use Rattle.c_lex.specs.Laws.Classes.{front-class, include-bytes}
use Rattle.c_lex.specs.Laws.Tells.{IsToken, Tells}

-- behind the blanks of a front stands a front of what is behind the blanks
after_blanks-take : (k : ℕ) (xs : List ℕ) → prefix_len is_blank xs ≤ k
    → after_blanks (take k xs) ≡ take (k - prefix_len is_blank xs) (after_blanks xs)
after_blanks-take k xs within =
    let p = prefix_len is_blank xs in
    let same : prefix_len is_blank (take k xs) ≡ p = omega (arith, prefix_len-take is_blank k xs) in
    let split : k ≡ p + (k - p) = omega arith in
    ap (λ n. drop n (take k xs)) same ∙ ap (λ n. drop p (take n xs)) split ∙ drop-take p (k - p) xs

drop-front : (n k : ℕ) (xs : List ℕ) → n ≤ k → drop n (take k xs) ≡ take (k - n) (drop n xs)
drop-front n k xs within =
    let split : k ≡ n + (k - n) = omega arith in
    ap (λ m. drop n (take m xs)) split ∙ drop-take n (k - n) xs

starts_with-take : (k : ℕ) (xs needle : List ℕ) → length needle ≤ k → starts_with nat_eq (take k xs) needle ≡ starts_with nat_eq xs needle
starts_with-take k xs needle within = ap (λ front. bytes_eq needle front) (take-take (length needle) k xs within)

-- a text that starts with some bytes has them at its front
starts_with-is : (xs needle : List ℕ) → starts_with nat_eq xs needle ≡ true
    → (needle ≡ take (length needle) xs) × (length needle ≤ length xs)
starts_with-is xs needle h =
    let front = (bytes_eq-Decides needle (take (length needle) xs)).0 h in
    (front, omega (arith, ap length front, length-take (length needle) xs))

abbrev blanks_before : List ℕ → ℕ
blanks_before r = prefix_len is_blank r

abbrev blanks_within : List ℕ → ℕ
blanks_within r = prefix_len is_blank (drop 7 (after_blanks r))

abbrev header_of : List ℕ → List ℕ
header_of r = after_blanks (drop 7 (after_blanks r))

-- the bytes behind the `#` up to the `>`
abbrev directive_bytes : List ℕ → ℕ
directive_bytes r = blanks_before r + 7 + blanks_within r + 9

module _ (r : List ℕ) (named : starts_with nat_eq (after_blanks r) (codes "include") ≡ true)
    (headed : starts_with nat_eq (header_of r) (codes "<stdio.h>") ≡ true) where
  -- the lengths of the parts
  parts : (length r ≡ blanks_before r + length (after_blanks r)) × (7 ≤ length (after_blanks r))
      × (length (drop 7 (after_blanks r)) + 7 ≡ length (after_blanks r))
      × (length (drop 7 (after_blanks r)) ≡ blanks_within r + length (header_of r)) × (9 ≤ length (header_of r))
      × (length (drop 9 (header_of r)) + 9 ≡ length (header_of r))
  parts =
      let seven = (starts_with-is (after_blanks r) (codes "include") named).1 in
      let nine = (starts_with-is (header_of r) (codes "<stdio.h>") headed).1 in (
        omega (arith, length-drop (blanks_before r) r, prefix_len-le-length is_blank r),
        seven,
        omega (arith, length-drop 7 (after_blanks r), seven),
        omega (arith, length-drop (blanks_within r) (drop 7 (after_blanks r)), prefix_len-le-length is_blank (drop 7 (after_blanks r))),
        nine,
        omega (arith, length-drop 9 (header_of r), nine),
      )

  -- a front is the directive just where it ends with the header's name
  front_include : (m : ℕ) → directive_bytes r ≤ m → is_include (35 ∷ take m r)
      ≡ bytes_eq (take (m - blanks_before r - 7 - blanks_within r) (header_of r)) (codes "<stdio.h>")
  front_include m holds =
      let at_word : after_blanks (take m r) ≡ take (m - blanks_before r) (after_blanks r) = after_blanks-take m r (omega arith) in
      let at_include : starts_with nat_eq (after_blanks (take m r)) (codes "include") ≡ true =
      ap (λ w. starts_with nat_eq w (codes "include")) at_word
      ∙ starts_with-take (m - blanks_before r) (after_blanks r) (codes "include") (omega arith) ∙ named in
      let at_header : after_blanks (drop 7 (after_blanks (take m r))) ≡ take (m - blanks_before r - 7 - blanks_within r) (header_of r) =
      ap (λ w. after_blanks (drop 7 w)) at_word
      ∙ ap after_blanks (drop-front 7 (m - blanks_before r) (after_blanks r) (omega arith))
      ∙ after_blanks-take (m - blanks_before r - 7) (drop 7 (after_blanks r)) (omega arith) in
      ap (λ b. b && bytes_eq (after_blanks (drop 7 (after_blanks (take m r)))) (codes "<stdio.h>")) at_include
      ∙ ap (λ h. bytes_eq h (codes "<stdio.h>")) at_header

  include_token : IsToken (35 ∷ r) lexeme.Include (suc (directive_bytes r))
  unfolding Scans
  include_token = record {
    some = omega arith;
    within = omega (arith, parts);
    spells = whole;
    longest = λ more other longer within spells. longest more other longer within spells;
  }
    where
      whole : is_include (35 ∷ take (directive_bytes r) r) ≡ true
      whole =
          let nine : directive_bytes r - blanks_before r - 7 - blanks_within r ≡ 9 = omega arith in
          front_include (directive_bytes r) (omega arith)
          ∙ ap (λ n. bytes_eq (take n (header_of r)) (codes "<stdio.h>")) nine
          ∙ (bytes_eq-Decides (take 9 (header_of r)) (codes "<stdio.h>")).1
          (sym (starts_with-is (header_of r) (codes "<stdio.h>") headed).0)

      longest : (more : ℕ) (other : Lexeme) → suc (directive_bytes r) < more → more ≤ length (35 ∷ r) → Scans other (take more (35 ∷ r))
          → ⊥
      longest zero other longer within spells = omega arith
      longest (suc m) other longer within spells =
          let rest = m - blanks_before r - 7 - blanks_within r in
          let is = include-bytes other (35 ∷ take m r) (front-class (35 ∷ r) (suc m) 4 other refl (omega arith) spells) spells in
          let same = (bytes_eq-Decides (take rest (header_of r)) (codes "<stdio.h>")).0 (sym (front_include m (omega arith)) ∙ is) in
          let fits : rest ≤ length (header_of r) = omega (arith, parts) in
          omega (arith, ap length same, length-take-le rest (header_of r) fits)

line_tells : (r : List ℕ) (b : Bool) → is_include_line (35 ∷ r) ≡ b
    → Tells (35 ∷ r) (include_or (cond b (Some (length (35 ∷ r) - length (drop 9 (header_of r)))) None))
line_tells r false is = omega arith
line_tells r true is =
    let tests = and_parts (starts_with nat_eq (after_blanks r) (codes "include") && starts_with nat_eq (header_of r) (codes "<stdio.h>"))
    (ends_line (drop 9 (header_of r))) is in
    let both = and_parts (starts_with nat_eq (after_blanks r) (codes "include"))
    (starts_with nat_eq (header_of r) (codes "<stdio.h>")) tests.0 in
    let count : length (35 ∷ r) - length (drop 9 (header_of r)) ≡ suc (directive_bytes r) = omega (arith, parts r both.0 both.1) in
    rw count (include_token r both.0 both.1)

pub directive-tells : (line : Line) (r : List ℕ) → Tells (35 ∷ r) (read_directive line (35 ∷ r))
unfolding read_directive
directive-tells Used r = omega arith
directive-tells Spaced r = omega arith
directive-tells Clear r = line_tells r (is_include_line (35 ∷ r)) refl
