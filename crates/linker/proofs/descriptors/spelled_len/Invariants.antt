use Rattle.std.proofs.Common.{◌≡◌, ℕ, ◌+◌, ◌-◌, ◌*◌, ◌%◌, ◌≤◌, map, drop}
use Rattle.linker.specs.Tagged.{SpellsFrom}
use Rattle.linker.specs.Spans.{at_place, AreApart, HasLength}
use Rattle.linker.proofs.descriptors.spelled_len.Given as goal

abbrev pub invariant-loop-span : goal.invariant-loop-span
invariant-loop-span l = record {
  apart : AreApart (l.from - l.place) l.end (drop l.span-index l.spans);
  whole : l.from % 16 ≡ 0;
  far : l.from ≤ l.place + l.end;
  rest : (m : ℕ) → HasLength (SpellsFrom l.from (map (at_place l.place) (drop l.span-index l.spans))) m
      → HasLength (SpellsFrom 0 (map (at_place l.place) l.spans)) (l.total + m);
  few : l.total ≤ 40 * l.span-index;
}
