-- An example: a call and its return.
use Rattle.std.specs.Prelude.{◌≡◌, ℕ, ◌+◌, ◌*◌, List, [], ◌∷◌, refl}
use Rattle.std.proofs.Common.{arith, ap, ◌∙◌}
use Rattle.a64_code.specs.declared.instr.Instr.TheVariants.{Ret, Svc}
use Rattle.a64_code.specs.State.{State}
use Rattle.a64_code.specs.Stepped.{Leads}
use Rattle.a64_code.specs.Effect.{effect}
use Rattle.mte_machine.specs.Run.{Steps}
use Rattle.mte_machine.specs.Laws.Steps.{Steps-add}
use Rattle.a64_laws.specs.Forms.{puts_pc, puts_link}
use Rattle.a64_laws.specs.Branches.{Forward, Linked, jump_instr}
use Rattle.a64_laws.specs.Laws.Branches.{jump-taken, returned}
use Rattle.code_runs.specs.Items.{Item, Plain, Jump, HasAt, IsAt}
use Rattle.code_runs.specs.Laws.Items.{item-there, Steps-item}

-- a call of the function two items on, which returns at once
abbrev items : List Item
items = Jump Linked (Forward 2) ∷ Plain (Svc 3) ∷ Plain Ret ∷ []

abbrev there : ℕ → State → State
there at s = puts_link (at + 8) s

-- two steps lead to the item behind the call, whose address is in X30
called : (loaded : State) (at : ℕ) (s : State) → HasAt loaded at items → IsAt loaded at 12 0 s → Steps 2 s (puts_pc (at + 4) (there at s))
unfolding puts_pc puts_link
called loaded at s has is_at =
    Steps-add (Steps-item 0 has is_at refl call)
    (Steps-item 2 has (record { code = record { regions = is_at.code.regions; bytes = is_at.code.bytes }; pc = omega arith }) refl
    (returned (there at s) ∙ ap (λ (a : ℕ). Leads (puts_pc a (there at s))) (omega (arith, is_at.pc, has.below))))
  where
    call : effect (jump_instr Linked (Forward 2)) s ≡ Leads (there at s)
    call =
        jump-taken Linked (Forward 2) s (omega (arith, is_at.pc, has.below)) (item-there 0 has is_at refl).reach refl
        ∙ ap (λ (a : ℕ). Leads (puts_link a s)) (let e : s.pc + 4 * 2 ≡ at + 8 = omega (arith, is_at.pc) in e)
