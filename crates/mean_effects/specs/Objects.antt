-- Objects of the code, as the definition's.
use Rattle.std.specs.Prelude.{Result, Ok, Err}
use Rattle.block_meaning.specs.Memory as spec
use Rattle.mean_effects.specs.declared.now.Ending.{Ending}
use Rattle.mean_effects.specs.declared.object.Object.{Object}

abbrev pub object_of : Object → spec.Object
object_of o = spec.object o.ty.now o.at

abbrev pub objects_of : Result Object Ending → Result spec.Object Ending
objects_of (Ok o) = Ok (object_of o)
objects_of (Err e) = Err e
