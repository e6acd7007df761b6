use Rattle.std.proofs.Common.{◌≡◌, ◌+◌, ◌≤◌, ◌^◌, map, take, drop}
use Rattle.std.specs.List.{AllByRecursion}
use Rattle.linker.specs.Spans.{at_place}
use Rattle.linker.proofs.descriptors.intervals_of.Given as goal

abbrev pub invariant-loop-span : goal.invariant-loop-span
invariant-loop-span l = record {
  done : l.intervals.items ≡ map (at_place l.place) (take l.span-index l.spans);
  small : AllByRecursion (λ s. s.start + s.bytes ≤ 2 ^ 32) (drop l.span-index l.spans);
}
