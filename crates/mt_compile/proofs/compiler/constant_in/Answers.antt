use Rattle.std.proofs.Common.{inr}
use Rattle.mt_compile.specs.Refused.{not_yet}
use Rattle.mt_compile.specs.Laws.OneRefusal.{returns_only}
use Rattle.mt_compile.proofs.Causes.{compile_unread}
use Rattle.mt_compile.proofs.compiler.constant_in.Goals as goal

-- the text spells no program that is read
pub returns-in-Err-clause-refused : goal.returns-in-Err-clause-refused
returns-in-Err-clause-refused c = compile_unread c.args.text.now c.in-Err.refused c.in-Err.ensures.refused

-- the program returns a constant
pub returns-in-Some-clause-constant : goal.returns-in-Some-clause-constant
returns-in-Some-clause-constant c = returns_only c.in-Ok.ensures.spelled c.in-Some.ensures.some

-- or none
pub returns-clause-refused : goal.returns-clause-refused
returns-clause-refused c = inr (not_yet _ c.in-Ok.ensures.spelled c.in-None.ensures.none)
