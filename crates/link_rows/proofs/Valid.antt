-- Objects that are valid, and one more.
use Rattle.std.proofs.Common.{List, [], ◌∷◌, ◌++◌}
use Rattle.std.specs.List.{AllByRecursion}
use Rattle.elf_obj.specs.declared.parts.ObjectParts.{ObjectParts}
use Rattle.elf_obj.specs.Object.{object_of}
use Rattle.elf_obj.specs.ObjectFile.{IsValid}
use Rattle.linker.specs.Known.{objects_of}

pub valid_more : (ps : List ObjectParts) (p : ObjectParts) → AllByRecursion IsValid (objects_of ps) → IsValid (object_of p)
    → AllByRecursion IsValid (objects_of (ps ++ p ∷ []))
valid_more [] p h v = (v, h)
valid_more (q ∷ ps) p h v = (h.0, valid_more ps p h.1 v)
