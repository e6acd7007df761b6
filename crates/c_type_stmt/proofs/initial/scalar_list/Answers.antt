use Rattle.std.proofs.Common.{map}
use Rattle.c_type_stmt.specs.Initials.{initialiser}
use Rattle.c_type_stmt.proofs.ListLaws.{scalar_known}
use Rattle.c_type_stmt.proofs.initial.scalar_list.Goals as goal

pub returns-then-branch : goal.returns-then-branch
returns-then-branch c =
    scalar_known c.args.span (map initialiser c.args.inits.now) _ _ _ c.in_ok-loose_all.field-0 c.if-branch.true c.in_ok-loose_all.ensures
    c.ask.ensures
