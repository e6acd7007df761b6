use Rattle.std.proofs.Common.{[], ◌∷◌, true}
use Rattle.a64_code.specs.declared.instr.Instr.TheVariants.{AddImm}
use Rattle.gen_unit.specs.declared.parts.CodeTarget.TheVariants.{Text}
use Rattle.gen_unit.specs.Words.{low_kind, waiting}
use Rattle.gen_unit.proofs.Gains.{then_ok}
use Rattle.gen_unit.proofs.items.push_text.Goals as goal

pub returns : goal.returns
returns c =
    then_ok c.push_waiting-2.result c.args.out.now c.push_waiting.new.out c.push_waiting-2.new.out _
    (waiting (AddImm true 0 0 c.args.reg c.args.reg) low_kind (Text c.args.number) ∷ []) c.in_ok-push_waiting.ensures
    c.push_waiting-2.ensures
