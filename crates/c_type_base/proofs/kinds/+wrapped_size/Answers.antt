use Rattle.std.proofs.lemmas.Nat.{mul-mod_second}
use Rattle.c_type_base.specs.Sizes.{size}
use Rattle.c_type_base.specs.Laws.SizeLaws.{size-array}
use Rattle.c_type_base.proofs.kinds.+wrapped_size.Goals as goal

pub returns-in-Array : goal.returns-in-Array
returns-in-Array t c =
    rw (c.in-Array.is, size-array, ← c.get.ensures, c.wrapped_size.ensures)
    (mul-mod_second c.in-Array.length (size c.args.structs.now c.get.result.now) 18446744073709551616)
