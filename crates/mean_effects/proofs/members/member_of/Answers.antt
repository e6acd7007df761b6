use Rattle.std.proofs.Common.{subst, sym}
use Rattle.std.specs.Prelude.{option_copied}
use Rattle.block_meaning.specs.Expressions.{member_of}
use Rattle.mean_effects.specs.Shown.{Gives}
use Rattle.mean_effects.proofs.members.member_of.Goals as goal

pub returns-in-Some : goal.returns-in-Some
returns-in-Some c = λ here n now of_here of_now.
    subst (λ o. Gives n now c.member_of_type.result (member_of here (option_copied o) c.args.member c.args.p now)) (sym c.in-Some.is)
    (c.member_of_type.ensures here n now of_here of_now)
