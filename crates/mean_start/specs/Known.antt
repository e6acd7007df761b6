-- A map of the names that files define for all files.
use Rattle.std.specs.Prelude.{◌≡◌, ℕ, Bool, List, Option, Some, None, if◌then◌else◌}
use Rattle.std.specs.Borrow.{Bor}
use Rattle.std.specs.Option.{option_map}
use Rattle.std.specs.Str.{bytes_eq}
use Rattle.indexmap.specs.IndexMap.{IndexMap, get_by}
use Rattle.c_type_base.specs.declared.typed.Typed.{Typed}
use Rattle.block_meaning.specs.Linkage.{Definition, AnObject, AFunction, object_block, code_block, or_definition}
use Rattle.mean_start.specs.declared.names.Meant.{Meant}
use Rattle.mean_start.specs.Files.{id_of}

-- a definition as the map has it
abbrev pub meant_by : List Typed → Definition → Meant
meant_by units (AnObject unit number) = record { block = object_block units unit number; function = None }
meant_by units (AFunction f) = record { block = code_block units f.unit f.number; function = Some (id_of f) }

-- the map has the definition of each name
abbrev pub Knows : {S : Type 0} → IndexMap (Bor (List ℕ)) Meant S → List Typed → (List ℕ → Option Definition) → Type 0
Knows m units found = (name : List ℕ) → get_by (λ k. bytes_eq name k.now) m ≡ option_map (meant_by units) (found name)

abbrev pub where_true : Bool → Definition → Option Definition
where_true b d = (if b then Some d else None)

-- a definition more, of a name that may be there
abbrev pub also : (List ℕ → Option Definition) → List ℕ → Definition → List ℕ → Option Definition
also found name d n = or_definition (found n) (where_true (bytes_eq name n) d)
