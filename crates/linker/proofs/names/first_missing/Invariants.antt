use Rattle.std.proofs.Common.{◌≡◌, drop}
use Rattle.linker.specs.Names.{all_numbered}
use Rattle.linker.specs.Known.{objects_of, is_unknown}
use Rattle.linker.proofs.Binding.{find_in}
use Rattle.linker.proofs.names.first_missing.Given as goal

abbrev pub invariant-loop-object : goal.invariant-loop-object
invariant-loop-object l =
    let all = all_numbered (objects_of l.objects) in
    find_in (is_unknown all) (drop l.object-index (objects_of l.objects)) ≡ find_in (is_unknown all) (objects_of l.objects)
