use Rattle.mean_memory.proofs.Numbers.{seven_bytes, rest_few}
use Rattle.mean_memory.proofs.reading.+number_of_cells.Goals as goal

pub with_byte-requires : goal.with_byte-requires
with_byte-requires t c = seven_bytes c.in-Some.n _ c.in-Some.ensures.fits (rest_few c.args.cells.now c.requires)
