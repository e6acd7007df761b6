-- What is left decides.
use Rattle.std.proofs.Common.{◌≡◌, map, drop}
use Rattle.block_meaning.specs.Linkage.{all_same_across, type_of_local}
use Rattle.mean_start.proofs.agreement.all_same_across.Given as goal

abbrev pub invariant-loop-i : goal.invariant-loop-i
invariant-loop-i l =
    all_same_across l.structs.these.now l.structs.those.now (drop l.i l.params) (map type_of_local (drop l.i l.locals)) ≡
    all_same_across l.structs.these.now l.structs.those.now l.params (map type_of_local l.locals)
