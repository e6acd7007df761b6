use Rattle.std.proofs.Common.{◌≡◌, ℕ, ◌-◌, ◌*◌, ◌≤◌, List, map, length}
use Rattle.elf_obj.specs.Object.{Object}
use Rattle.linker.specs.Tagged.{SpellsFrom, AgreesWithItself}
use Rattle.linker.specs.Totals.{totals_of, filled_by}
use Rattle.linker.specs.Spans.{at_place, AreSpans, HasLength}
use Rattle.linker.proofs.descriptors.fewest.Given as goal

abbrev pub invariant-loop-next : goal.invariant-loop-next
invariant-loop-next l = record {
  next_is : HasLength (SpellsFrom 0 (map (at_place (filled_by l.totals l.count)) l.spans)) l.next;
  rises : l.count ≤ l.next;
  few : l.next ≤ 40 * length l.spans;
  least : (objects : List Object) (other : ℕ) → AreSpans objects l.spans → l.totals ≡ totals_of objects → AgreesWithItself objects other
      → l.count ≤ other;
}

abbrev pub decreases-loop-next : goal.decreases-loop-next
decreases-loop-next l = 40 * length l.spans - l.count
