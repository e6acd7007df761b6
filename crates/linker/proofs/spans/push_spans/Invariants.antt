use Rattle.std.proofs.Common.{◌≡◌, ◌++◌, drop, filter_map, slice_get}
use Rattle.std.specs.Option.{option_map}
use Rattle.linker.specs.Spans.{span_of, object_spans}
use Rattle.elf_obj.specs.Object.{object_of}
use Rattle.linker.proofs.spans.push_spans.Given as goal

abbrev pub invariant-loop-number : goal.invariant-loop-number
invariant-loop-number l =
    l.spans.items
    ++ filter_map (λ n. option_map (span_of l.init l.zero) (slice_get l.parts.symbols.items n)) (drop l.number-index l.parts.tagged.items)
    ≡ l.fn.spans.items ++ object_spans l.init l.zero (object_of l.parts)
