-- Why objects have no image: the first of these conditions that holds (this project's own).
use Rattle.std.specs.Prelude.{◌≡◌, ℕ, ◌*◌, ◌<◌, ◌≤◌, min, Bool, true, false, not, ◌&&◌, nat_lt, List, Option, Some, None, length}
use Rattle.std.specs.Prelude.{if◌then◌else◌}
use Rattle.std.specs.List.{find, list_any}
use Rattle.elf_obj.specs.Object.{Object}
use Rattle.elf_image.specs.Image.{Image}
use Rattle.elf_image.specs.Places.{memory_end}
use Rattle.linker.specs.declared.refusal.LinkRefusal.{LinkRefusal}
use Rattle.linker.specs.declared.refusal.LinkRefusal.TheVariants.{TooManyObjects, Duplicate, NoMain, Undefined, ImageTooLarge}
use Rattle.linker.specs.Names.{NumberedSymbol, all_numbered, is_global, is_defined, defines, main_name}
use Rattle.linker.specs.Tagged.{sized, IsFewest}

-- ---- names

-- how many objects a link takes
abbrev pub object_limit : ℕ
object_limit = 16

-- among these symbols, one of an earlier object defines the name that this one defines, both for all objects
abbrev pub is_repeated : List NumberedSymbol → NumberedSymbol → Bool
is_repeated all e = is_global e.symbol && list_any (λ d. nat_lt d.object e.object && defines e.symbol.name d) all

-- the first symbol, in the order of objects and symbols, whose name an earlier object has defined
abbrev pub first_repeated : List Object → Option NumberedSymbol
first_repeated objects = find (is_repeated (all_numbered objects)) (all_numbered objects)

-- an object defines a function `main` for all objects
abbrev pub has_main : List Object → Bool
has_main objects = list_any (λ e. e.symbol.function && defines main_name e) (all_numbered objects)

-- among these symbols, this one is not defined, and none defines its name for all objects
abbrev pub is_missing : List NumberedSymbol → NumberedSymbol → Bool
is_missing all e = not (is_defined e.symbol.home) && not (list_any (defines e.symbol.name) all)

-- the first symbol, in the order of objects and symbols, that no object defines
abbrev pub first_missing : List Object → Option NumberedSymbol
first_missing objects = find (is_missing (all_numbered objects)) (all_numbered objects)

-- ---- sizes

-- how much memory an image takes, and how much its code, in bytes
abbrev pub memory_limit : ℕ
memory_limit = 268435456

abbrev pub code_limit : ℕ
code_limit = 134217728

-- a number of bytes as 64 bits tell it: one that they do not hold is told as their last number
abbrev pub told_bytes : ℕ → ℕ
told_bytes n = min n 18446744073709551615

-- how many bytes are told of an image that is too large: those of its code where they pass their limit, else those of its memory
abbrev pub excess : Image → Option ℕ
excess image =
    if nat_lt code_limit (4 * length image.words) then Some (told_bytes (4 * length image.words))
    else if nat_lt memory_limit (memory_end image) then Some (told_bytes (memory_end image))
    else None

-- ---- the first condition

-- the objects are few, no name is defined twice, `main` is there, and each name is defined
pub record AreBound (objects : List Object) : Type 0 where
  pub few : length objects ≤ object_limit
  pub once : first_repeated objects ≡ None
  pub main : has_main objects ≡ true
  pub defined : first_missing objects ≡ None

-- the first condition that holds of the objects, in this order; the size judged is that of the image whose descriptors have the fewest
-- bytes that agree with themselves
pub data LinkFault (objects : List Object) : LinkRefusal → Type 0 where
  too_many : object_limit < length objects → LinkFault objects (TooManyObjects (length objects))
  repeated : (e : NumberedSymbol) → length objects ≤ object_limit → first_repeated objects ≡ Some e
      → LinkFault objects (Duplicate e.symbol.name)
  no_main : length objects ≤ object_limit → first_repeated objects ≡ None → has_main objects ≡ false → LinkFault objects NoMain
  missing : (e : NumberedSymbol) → length objects ≤ object_limit → first_repeated objects ≡ None → has_main objects ≡ true
      → first_missing objects ≡ Some e → LinkFault objects (Undefined e.symbol.name)
  too_large : (count bytes : ℕ) → AreBound objects → IsFewest objects count → excess (sized objects count) ≡ Some bytes
      → LinkFault objects (ImageTooLarge bytes)
