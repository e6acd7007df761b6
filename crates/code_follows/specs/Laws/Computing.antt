-- What lists of instructions compute, by the laws below (this project's own).
use Rattle.std.specs.Prelude.{◌≡◌, ℕ, zero, suc, ◌+◌, ◌/◌, ◌%◌, ◌^◌, ◌<◌, ◌≤◌, Bool, true, false, List, [], ◌∷◌, ◌++◌, ◌&&◌, length, refl}
use Rattle.std.proofs.Common.{arith, ap, ◌∙◌, length-append}
use Rattle.a64_code.specs.declared.instr.Instr.{Instr}
use Rattle.a64_code.specs.declared.instr.Instr.TheVariants.{Movz}
use Rattle.a64_code.specs.declared.instr.Reg.{Reg}
use Rattle.a64_laws.specs.Constants.{constant_moves, kept_halfword}
use Rattle.gen_laws.specs.Computes.{all}
use Rattle.code_follows.specs.Steps.{Suits}
use Rattle.code_follows.specs.Laws.Walking.{is_quiet, are_quiet}

-- a list for the part's own register alone, and any list in a part that is not alone
pub Suits-own : (alone : Bool) (reg : Reg) → reg.0 < 28 → Suits alone reg reg all
Suits-own alone reg low = record { low = low; base = tt; others = λ is. (refl, λ r other. tt) }

pub Suits-other : (reg into : Reg) (spares : ℕ → Type 0) → into.0 < 28 → spares 28 → Suits false reg into spares
Suits-other reg into spares low base = record { low = low; base = base; others = λ is. absurd (cc) }

pub are_quiet-append : (xs ys : List Instr) → are_quiet xs ≡ true → are_quiet ys ≡ true → are_quiet (xs ++ ys) ≡ true
are_quiet-append [] ys first second = second
are_quiet-append (x ∷ xs) ys first second = by_one (is_quiet x) (are_quiet xs) first (λ rest. are_quiet-append xs ys rest second)
  where
    by_one : (a b : Bool) → (a && b) ≡ true → (b ≡ true → are_quiet (xs ++ ys) ≡ true) → (a && are_quiet (xs ++ ys)) ≡ true
    by_one true b both rest = rest both
    by_one false b both rest = absurd (cc)

-- ---- constants

halfword_quiet : (hw bits : ℕ) (r : Reg) → are_quiet (kept_halfword hw bits r) ≡ true
halfword_quiet hw zero r = refl
halfword_quiet hw (suc bits) r = refl

-- the moves of the two lowest halfwords
abbrev lowest : Reg → ℕ → List Instr
lowest r value = Movz true 0 (value % 2 ^ 16) r ∷ kept_halfword 1 (value / 2 ^ 16 % 2 ^ 16) r

pub constant_quiet : (r : Reg) (value : ℕ) → are_quiet (constant_moves r value) ≡ true
constant_quiet r value =
    are_quiet-append (lowest r value ++ kept_halfword 2 (value / 2 ^ 32 % 2 ^ 16) r) (kept_halfword 3 (value / 2 ^ 48) r)
    (are_quiet-append (lowest r value) (kept_halfword 2 (value / 2 ^ 32 % 2 ^ 16) r)
    (halfword_quiet 1 (value / 2 ^ 16 % 2 ^ 16) r)
    (halfword_quiet 2 (value / 2 ^ 32 % 2 ^ 16) r))
    (halfword_quiet 3 (value / 2 ^ 48) r)

halfword_few : (hw bits : ℕ) (r : Reg) → length (kept_halfword hw bits r) ≤ 1
halfword_few hw zero r = omega arith
halfword_few hw (suc bits) r = omega arith

-- from one to four moves
pub record Few (least most n : ℕ) : Type 0 where
  pub some : least ≤ n
  pub few : n ≤ most

pub constant_few : (r : Reg) (value : ℕ) → Few 1 4 (length (constant_moves r value))
constant_few r value = record { some = omega (arith, whole); few = omega (arith, whole, one, two, three) }
  where
    first : List Instr
    first = kept_halfword 1 (value / 2 ^ 16 % 2 ^ 16) r

    second : List Instr
    second = kept_halfword 2 (value / 2 ^ 32 % 2 ^ 16) r

    third : List Instr
    third = kept_halfword 3 (value / 2 ^ 48) r

    one : length first ≤ 1
    one = halfword_few 1 (value / 2 ^ 16 % 2 ^ 16) r

    two : length second ≤ 1
    two = halfword_few 2 (value / 2 ^ 32 % 2 ^ 16) r

    three : length third ≤ 1
    three = halfword_few 3 (value / 2 ^ 48) r

    whole : length (constant_moves r value) ≡ 1 + length first + length second + length third
    whole =
        length-append (lowest r value ++ second) third
        ∙ ap (λ n. n + length third) (length-append (lowest r value) second)
        ∙ omega arith
