use Rattle.std.proofs.Common.{arith, false}
use Rattle.slot_safety.specs.declared.kind.Kind.TheVariants.{Safe}
use Rattle.frame_layout.specs.declared.placed.Part.{Part}
use Rattle.frame_layout.proofs.SlotTurns.{positive_at, safe_fits, safe_started, tagged_fits, tagged_started}
use Rattle.frame_layout.proofs.placed.slots.Goals as goal

abbrev none_there : Part
none_there = record { bytes = 0; align = 0; kind = Safe; inner = false }

pub slot_of-requires-clause-safe_fits : goal.slot_of-requires-clause-safe_fits
slot_of-requires-clause-safe_fits c =
    safe_fits c.args.parts.now c.loop-part.part-index none_there c.loop-part.safe c.requires.positive c.loop-part-test.true
    c.loop-part.invariant.1.0

pub slot_of-requires-clause-tagged_fits : goal.slot_of-requires-clause-tagged_fits
slot_of-requires-clause-tagged_fits c =
    tagged_fits c.args.parts.now c.loop-part.part-index none_there c.loop-part.tagged c.loop-part-test.true c.loop-part.invariant.1.1.0

pub slot_of-requires-clause-started : goal.slot_of-requires-clause-started
slot_of-requires-clause-started c =
    safe_started c.args.parts.now c.loop-part.part-index c.loop-part.safe c.requires.positive c.loop-part.invariant.1.0

pub safe_after-safe-requires-clause-positive : goal.safe_after-safe-requires-clause-positive
safe_after-safe-requires-clause-positive c =
    positive_at c.args.parts.now c.loop-part.part-index none_there c.requires.positive c.loop-part-test.true

pub safe_after-safe-requires-clause-fits : goal.safe_after-safe-requires-clause-fits
safe_after-safe-requires-clause-fits c =
    omega (arith, safe_started c.args.parts.now c.loop-part.part-index c.loop-part.safe c.requires.positive c.loop-part.invariant.1.0)

pub tagged_after-tagged-requires : goal.tagged_after-tagged-requires
tagged_after-tagged-requires c = record {
  fits = omega (arith, tagged_started c.args.parts.now c.loop-part.part-index c.loop-part.tagged c.loop-part.invariant.1.1.0);
}
