use Rattle.std.proofs.Common.{◌≡◌, ap, subst, sym, ◌∙◌, Some, slice_get, option_copied}
use Rattle.c_type_base.specs.Layout.{members_of}
use Rattle.block_meaning.specs.Memory.{structs_at}
use Rattle.mean_machine.specs.Execution.{members}
use Rattle.mean_expressions.specs.Stacked.{Stands}
use Rattle.mean_control.proofs.initialising.struct_members.Goals as goal

pub returns-in-Some : goal.returns-in-Some
returns-in-Some c = λ n w here k now of_here stacked of_now.
    let there : slice_get (structs_at here) c.args.number ≡ Some c.in-Some.info.now =
    ap (λ structs. slice_get structs c.args.number) (sym of_here.structs) ∙ sym c.at.ensures ∙ ap option_copied c.in-Some.is in
    subst (λ infos. Stands n c.members.new.stack.items w here now c.members.result (members here k c.args.p infos c.args.list.now now))
    (sym (ap members_of there ∙ sym c.as_slice.ensures)) (c.members.ensures n w here k now stacked of_now)
