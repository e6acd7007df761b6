use Rattle.std.proofs.Common.{refl}
use Rattle.mte_machine.proofs.machine.Machine.behind.Goals as goal

pub returns : goal.returns
returns g c = λ w. rw (← c.general_or_sp.ensures w, ← c.from.ensures, ← c.from-2.ensures) refl
