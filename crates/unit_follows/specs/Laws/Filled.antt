-- Words filled, list by list (this project's own).
use Rattle.std.specs.Prelude.{◌≡◌, ℕ, suc, ◌+◌, ◌*◌, List, [], ◌∷◌, ◌++◌, length, map, refl}
use Rattle.std.proofs.Common.{arith, ap, ◌∙◌}
use Rattle.a64_code.specs.declared.instr.Instr.{Instr}
use Rattle.gen_unit.specs.Words.{Word, whole}
use Rattle.code_relation.specs.Sites.{Given}
use Rattle.unit_follows.specs.Placing.{Placing, filled, filled_by}

module _ (g : Given) (p : Placing) (unit : ℕ) where
  pub length-filled : (at : ℕ) (ws : List Word) → length (filled g p unit at ws) ≡ length ws
  length-filled at [] = refl
  length-filled at (w ∷ ws) = ap suc (length-filled (at + 4) ws)

  pub filled-append : (at : ℕ) (ws vs : List Word) →
      filled g p unit at (ws ++ vs) ≡ filled g p unit at ws ++ filled g p unit (at + 4 * length ws) vs
  filled-append at [] vs = ap (λ a. filled g p unit a vs) (let e : at ≡ at + 4 * 0 = omega arith in e)
  filled-append at (w ∷ ws) vs =
      ap (λ is. filled_by g p unit at w.wants w.instr ∷ is) (filled-append (at + 4) ws vs
      ∙ ap (λ a. filled g p unit (at + 4) ws ++ filled g p unit a vs)
      (let e : at + 4 + 4 * length ws ≡ at + 4 * length (w ∷ ws) = omega arith in e))

  -- those that wait for nothing are as they are
  pub filled-whole : (at : ℕ) (is : List Instr) → filled g p unit at (map whole is) ≡ is
  filled-whole at [] = refl
  filled-whole at (i ∷ is) = ap (λ rest. i ∷ rest) (filled-whole (at + 4) is)
