use Rattle.std.proofs.Common.{◌^◌}
use Rattle.linker.specs.Laws.Spelled.{apart_within}
use Rattle.linker.proofs.descriptors.intervals_of.Goals as goal

pub loop-span-init : goal.loop-span-init
loop-span-init c = record { done = c.new-intervals.ensures.items; small = apart_within 0 (2 ^ 32) c.args.spans.now c.requires.apart }
