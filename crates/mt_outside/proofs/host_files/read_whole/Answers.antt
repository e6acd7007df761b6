-- The bytes end before the limit of the read, so they are all that the file had left.
use Rattle.std.proofs.Common.{rules}
use Rattle.mt_outside.proofs.Whole.{whole-from_take}
use Rattle.mt_outside.proofs.host_files.read_whole.Goals as goal

pub returns-clause-whole : goal.returns-clause-whole
returns-clause-whole g c =
    whole-from_take (g.F.Read.remaining) _ _ 536870912 _ _ _ c.take.ensures.inner c.take.ensures.limit
    (search rules) c.new-bytes.ensures.items
    c.in_ok-read_to_end.ensures.bytes
