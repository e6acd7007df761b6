-- Two files, computed: the first defines an object `a` and has a text of 2 bytes; the second defines `b`, and declares `a` and `c`.
use Rattle.std.proofs.Common.{◌≡◌, refl, ℕ, List, [], ◌∷◌, Some, None, false}
use Rattle.c_ast.specs.declared.token.Span.{Span}
use Rattle.c_type_base.specs.declared.ty.Ty.TheVariants as ty
use Rattle.c_type_base.specs.declared.typed.ExternInfo.{ExternInfo}
use Rattle.c_type_base.specs.declared.typed.GlobalInfo.{GlobalInfo}
use Rattle.c_type_base.specs.declared.typed.Typed.{Typed}
use Rattle.block_meaning.specs.Linkage.{object_block, text_block}
use Rattle.mean_start.specs.declared.file.Called.TheVariants as called
use Rattle.mean_start.specs.Files.{extern_as}

abbrev span : Span
span = record { start = 0; end = 0 }

abbrev object : ℕ → GlobalInfo
object name = record { name = name ∷ []; ty = ty.Void; local = false; init = []; span = span }

abbrev declared : ℕ → ExternInfo
declared name = record { name = name ∷ []; object = Some ty.Void; result = ty.Void; params = [] }

abbrev units : List Typed
units =
    record { structs = []; globals = object 97 ∷ []; functions = []; externs = []; texts = (120 ∷ 0 ∷ []) ∷ [] }
    ∷ record { structs = []; globals = object 98 ∷ []; functions = []; externs = declared 97 ∷ declared 99 ∷ []; texts = [] } ∷ []

-- the null block, `a`, the text and `b`
first_object : object_block units 0 0 ≡ 1
first_object = refl

the_text : text_block units 0 0 ≡ 2
the_text = refl

second_object : object_block units 1 0 ≡ 3
second_object = refl

-- `a` is the object of the first file, which no call reaches
linked_object : extern_as units 1 (declared 97) ≡ record { block = Some 1; called = called.OtherType }
linked_object = refl

-- no file defines `c`
missing_name : extern_as units 1 (declared 99) ≡ record { block = None; called = called.Missing }
missing_name = refl
