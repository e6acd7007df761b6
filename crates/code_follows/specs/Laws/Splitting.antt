-- A list of instructions that stands in the code, in two parts (this project's own).
use Rattle.std.specs.Prelude.{◌≡◌, ℕ, zero, suc, ◌+◌, ◌*◌, List, [], ◌∷◌, ◌++◌, length, Some, refl}
use Rattle.std.proofs.Common.{arith, subst, length-append}
use Rattle.a64_code.specs.declared.instr.Instr.{Instr}
use Rattle.a64_laws.specs.Runs.{instr_at}
use Rattle.code_relation.specs.Items.{HasInstr}
use Rattle.code_follows.specs.Scene.{Scene}
use Rattle.code_follows.specs.Laws.Lying.{HasInstrs}

instr_front : (xs ys : List Instr) (j : ℕ) (i : Instr) → instr_at xs j ≡ Some i → instr_at (xs ++ ys) j ≡ Some i
instr_front [] ys j i is = absurd (cc)
instr_front (x ∷ xs) ys zero i is = is
instr_front (x ∷ xs) ys (suc j) i is = instr_front xs ys j i is

instr_same : (xs : List Instr) (j n : ℕ) (i : Instr) → j ≡ n → instr_at xs j ≡ Some i → instr_at xs n ≡ Some i
instr_same xs j n i same is = subst (λ m. instr_at xs m ≡ Some i) same is

instr_back : (xs ys : List Instr) (j : ℕ) (i : Instr) → instr_at ys j ≡ Some i → instr_at (xs ++ ys) (length xs + j) ≡ Some i
instr_back [] ys j i is = instr_same ys j (0 + j) i (omega arith) is
instr_back (x ∷ xs) ys j i is =
    instr_same (x ∷ (xs ++ ys)) (suc (length xs + j)) (suc (length xs) + j) i (omega arith) (instr_back xs ys j i is)

-- where the first ends the second begins
pub record HasTwo (k : Scene) (xs ys : List Instr) (from to : ℕ) : Type 0 where
  pub middle : ℕ
  pub front : HasInstrs k xs from middle
  pub back : HasInstrs k ys middle to

pub has_two : {k : Scene} {from to : ℕ} (xs ys : List Instr) → HasInstrs k (xs ++ ys) from to → HasTwo k xs ys from to
has_two {k} {from} {to} xs ys has = record {
  middle = from + 4 * length xs;
  front = record { each = λ j i is. has.each j i (instr_front xs ys j i is); to_is = refl };
  back = record {
    each = λ j i is.
        subst (λ (at : ℕ). HasInstr k.code at i) (omega arith) (has.each (length xs + j) i (instr_back xs ys j i is));
    to_is = omega (arith, has.to_is, length-append xs ys);
  };
}
