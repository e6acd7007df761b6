use Rattle.std.proofs.Common.{◌≡◌, take, find, None}
use Rattle.linker.specs.Names.{all_numbered}
use Rattle.linker.specs.LinkFault.{is_repeated}
use Rattle.linker.specs.Known.{objects_of, Knows}
use Rattle.linker.proofs.names.names_of.Given as goal

abbrev pub invariant-loop-object : goal.invariant-loop-object
invariant-loop-object l = record {
  known : Knows l.names (all_numbered (take l.object (objects_of l.objects)));
  once : find (is_repeated (all_numbered (objects_of l.objects))) (all_numbered (take l.object (objects_of l.objects))) ≡ None;
}
