-- Why files do not link: the first of these conditions that holds, as the linker judges the objects that are made of the files (this
-- project's own).
use Rattle.std.specs.Prelude.{◌≡◌, ◌⊎◌, ◌<◌, ◌≤◌, ℕ, Bool, true, false, not, List, [], ◌∷◌, ◌++◌, flat_map, length, Option, Some, None}
use Rattle.std.specs.List.{find, list_any}
use Rattle.std.specs.Option.{option_or}
use Rattle.linker.specs.declared.refusal.LinkRefusal.{LinkRefusal}
use Rattle.linker.specs.declared.refusal.LinkRefusal.TheVariants.{TooManyObjects, Duplicate, NoMain, Undefined, NoMemory}
use Rattle.mean_link.specs.Names.{is_among}
use Rattle.mean_link.specs.declared.names.FileNames.{FileNames}

-- how many files a link takes
abbrev pub file_limit : ℕ
file_limit = 16

abbrev pub defined_by : FileNames → List (List ℕ)
defined_by file = file.defined

abbrev pub undefined_by : FileNames → List (List ℕ)
undefined_by file = file.undefined

abbrev pub main_in : FileNames → Bool
main_in file = file.has_main

-- the first name, in the order of files and names, that an earlier file defines; these names are defined before all files
abbrev pub repeated_from : List (List ℕ) → List FileNames → Option (List ℕ)
repeated_from earlier [] = None
repeated_from earlier (file ∷ files) =
    option_or (find (is_among earlier) file.defined) (repeated_from (earlier ++ file.defined) files)

abbrev pub first_repeated : List FileNames → Option (List ℕ)
first_repeated files = repeated_from [] files

-- a file defines a function `main` for all files
abbrev pub has_main : List FileNames → Bool
has_main files = list_any main_in files

-- the name is none that a file defines
abbrev pub is_missing : List FileNames → List ℕ → Bool
is_missing files name = not (is_among (flat_map defined_by files) name)

-- the first name, in the order of files and names, that a file leaves to others and none defines
abbrev pub first_missing : List FileNames → Option (List ℕ)
first_missing files = find (is_missing files) (flat_map undefined_by files)

-- the files are few, no name is defined twice, `main` is there, and each name is defined
pub record AreLinked (files : List FileNames) : Type 0 where
  pub few : length files ≤ file_limit
  pub once : first_repeated files ≡ None
  pub main : has_main files ≡ true
  pub defined : first_missing files ≡ None

-- the first condition that holds of the files, in this order
pub data LinkFault (files : List FileNames) : LinkRefusal → Type 0 where
  too_many : file_limit < length files → LinkFault files (TooManyObjects (length files))
  repeated : {name : List ℕ} → length files ≤ file_limit → first_repeated files ≡ Some name → LinkFault files (Duplicate name)
  no_main : length files ≤ file_limit → first_repeated files ≡ None → has_main files ≡ false → LinkFault files NoMain
  missing : {name : List ℕ} → length files ≤ file_limit → first_repeated files ≡ None → has_main files ≡ true →
      first_missing files ≡ Some name → LinkFault files (Undefined name)

-- memory is wanting, or the files do not link so
abbrev pub IsLinkCause : List FileNames → LinkRefusal → Type 0
IsLinkCause files refusal = (refusal ≡ NoMemory) ⊎ LinkFault files refusal
