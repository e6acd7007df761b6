use Rattle.std.proofs.Common.{◌≡◌, ◌++◌, drop}
use Rattle.linker.specs.Known.{objects_of}
use Rattle.linker.specs.Spans.{spans_from}
use Rattle.linker.proofs.spans.all_spans.Given as goal

abbrev pub invariant-loop-object : goal.invariant-loop-object
invariant-loop-object l =
    let os = objects_of l.objects in
    l.spans.items ++ spans_from os l.object (drop l.object os) ≡ spans_from os 0 os
