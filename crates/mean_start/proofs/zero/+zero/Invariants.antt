-- Each call goes down a level, and within a level from structs to their members.
use Rattle.std.proofs.Common.{◌≡◌, ◌+◌, ◌*◌, replicate, take}
use Rattle.block_meaning.specs.declared.cell.Cell.TheVariants.{Byte}
use Rattle.block_meaning.specs.Opening.{zero_by, zero_in_struct, zero_members}
use Rattle.mean_start.proofs.zero.+zero.Given as goal

abbrev pub decreases-zero_array : goal.decreases-zero_array
decreases-zero_array l = 4 * l.inside.levels + 1

abbrev pub decreases-zero_inside : goal.decreases-zero_inside
decreases-zero_inside l = 4 * l.inside.levels

abbrev pub decreases-zero_struct : goal.decreases-zero_struct
decreases-zero_struct l = 4 * l.inside.levels + 2

abbrev pub decreases-zero_with_members : goal.decreases-zero_with_members
decreases-zero_with_members l = 4 * l.inside.levels + 1

abbrev pub invariant-zero_with_members-loop-m : goal.invariant-zero_with_members-loop-m
invariant-zero_with_members-loop-m l =
    l.made.items ≡ zero_members (zero_by (zero_in_struct l.inside.deeper l.inside.structs.now)) (take l.m-index l.m-items)
    (replicate l.info.bytes (Byte 0))
