use Rattle.std.proofs.Common.{◌≡◌, drop}
use Rattle.std.specs.List.{list_any}
use Rattle.linker.specs.Known.{objects_of, is_main}
use Rattle.linker.proofs.names.main_is_there.Given as goal

abbrev pub invariant-loop-object : goal.invariant-loop-object
invariant-loop-object l =
    list_any (λ o. list_any is_main o.symbols) (drop l.object-index (objects_of l.objects))
    ≡ list_any (λ o. list_any is_main o.symbols) (objects_of l.objects)
