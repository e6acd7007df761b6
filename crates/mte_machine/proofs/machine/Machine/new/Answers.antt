use Rattle.std.proofs.Common.{◌≡◌, ℕ, ◌%◌, ap, ◌∙◌, length}
use mathlib.Core.Path.{fun_ext}
use Rattle.a64_code.specs.State.{State}
use Rattle.mte_machine.specs.Machine.{clear_flags}
use Rattle.mte_machine.proofs.Zeros.{get_or-zeros}
use Rattle.mte_machine.proofs.machine.Machine.new.Goals as goal

pub returns : goal.returns
returns g c = record {
  state = λ w.
      let with_registers : (ℕ → ℕ) → ℕ → State = λ f drawn. record {
        register = f;
        sp = c.args.sp;
        pc = c.args.pc;
        flags = clear_flags;
        byte = g.M.TagMemory.byte c.args.memory;
        tag = g.M.TagMemory.tags c.args.memory;
        regions = g.M.TagMemory.regions c.args.memory;
        guard = g.M.TagMemory.guard c.args.memory;
        choices = c.args.choices.items;
        drawn = drawn;
        outside = w;
      } in
      let count : c.len.result ≡ length c.args.choices.items = c.len.ensures ∙ c.args.choices.ok.0 in
      ap (λ f. with_registers f (c.args.drawn % c.len.result)) (fun_ext (λ i. get_or-zeros 31 i))
      ∙ ap (λ n. with_registers (λ _. 0) (c.args.drawn % n)) count;
}
