-- The numbers of symbols: by the lists of numbers, and by names.
use Rattle.std.proofs.Common.{◌≡◌, refl, sym, ◌∙◌, ap, ℕ, zero, suc, ◌+◌, List, [], ◌∷◌, ◌++◌, map, length, Option, Some, None}
use Rattle.std.specs.Prelude.{slice_get, slice_index, flat_map}
use Rattle.c_type_base.specs.declared.typed.ExternInfo.{ExternInfo}
use Rattle.c_type_base.specs.declared.typed.GlobalInfo.{GlobalInfo}
use Rattle.c_type_base.specs.declared.typed.InitPiece.{InitPiece}
use Rattle.c_type_base.specs.declared.typed.InitValue.{InitValue}
use Rattle.c_type_base.specs.declared.typed.InitValue.TheVariants as initial
use Rattle.c_type_base.specs.declared.typed.StructInfo.{StructInfo}
use Rattle.c_type_base.specs.declared.typed.Target.{Target}
use Rattle.c_type_base.specs.declared.typed.Target.TheVariants as target
use Rattle.c_type_base.specs.declared.typed.Typed.{Typed}
use Rattle.gen_unit.specs.declared.parts.CodeReloc.{CodeReloc}
use Rattle.gen_unit.specs.declared.parts.CodeTarget.{CodeTarget}
use Rattle.gen_unit.specs.declared.parts.CodeTarget.TheVariants as code_target
use Rattle.gen_unit.specs.declared.parts.UnitCode.{UnitCode}
use Rattle.elf_obj.specs.declared.parts.Symbol.{Symbol}
use Rattle.unit_object.specs.Counted.{name_number, function_numbers, global_numbers, extern_numbers}
use Rattle.unit_object.specs.Data.{room}
use Rattle.unit_object.specs.Numbers.{code_number, data_number}
use Rattle.unit_object.specs.declared.numbers.Numbers.{Numbers}
use Rattle.unit_object.specs.Parts.{named_number, code_symbol, data_symbol, code_reloc}
use Rattle.unit_object.specs.Parts.{data_relocs, piece_relocs, value_relocs, address_kind}
use Rattle.unit_object.specs.Symbols.{number_of, name_of}
use Rattle.unit_object.proofs.FoundLaws.{number_counted}

abbrev Name : Type 0
Name = List ℕ

-- the lists are those of these names
pub record Tell (n : Numbers) (from : ℕ) (names : List Name) (typed : Typed) (code : UnitCode) : Type 0 where
  pub functions : n.functions.items ≡ function_numbers from names code.functions.items
  pub globals : n.globals.items ≡ global_numbers from names typed.globals
  pub externs : n.externs.items ≡ extern_numbers from names typed.externs

at_index : {A : Type 0} (number : Name → ℕ) (name : A → Name) (xs : List A) (k : ℕ) →
    slice_index (map (λ a. number (name a)) xs) k ≡ named_number number name (slice_get xs k)
at_index number name [] k = refl
at_index number name (x ∷ xs) zero = refl
at_index number name (x ∷ xs) (suc k) = at_index number name xs k

-- the number of a name among symbols
pub number_is_counted : (named : List Symbol) (from : ℕ) (name : Name) → number_of from named name ≡ name_number from
    (map name_of named) name
number_is_counted named from name = number_counted named name_of name from

same_named : {A : Type 0} (number other : Name → ℕ) (name : A → Name) (o : Option A) → ((n : Name) → number n ≡ other n) →
    named_number number name o ≡ named_number other name o
same_named number other name None same = refl
same_named number other name (Some a) same = same (name a)

module _ (n : Numbers) (from : ℕ) (named : List Symbol) (typed : Typed) (code : UnitCode)
    (tell : Tell n from (map name_of named) typed code) where
  there : {A : Type 0} (items : List ℕ) (name : A → Name) (xs : List A) (k : ℕ) →
      items ≡ map (λ a. name_number from (map name_of named) (name a)) xs →
      slice_index items k ≡ named_number (number_of from named) name (slice_get xs k)
  there items name xs k is =
      ap (λ l. slice_index l k) is ∙ at_index (name_number from (map name_of named)) name xs k
      ∙ same_named (name_number from (map name_of named)) (number_of from named) name (slice_get xs k)
      (λ x. sym (number_is_counted named from x))

  pub code_symbols : (t : CodeTarget) → code_number n t ≡ code_symbol (number_of from named) typed code t
  code_symbols (code_target.Function k) = there n.functions.items (λ f. f.name) code.functions.items k tell.functions
  code_symbols (code_target.Extern k) = there n.externs.items (λ e. e.name) typed.externs k tell.externs
  code_symbols (code_target.Global k) = there n.globals.items (λ g. g.name) typed.globals k tell.globals
  code_symbols (code_target.Text k) = refl

  pub data_symbols : (t : Target) → data_number n t ≡ data_symbol (number_of from named) typed t
  data_symbols (target.Global k) = there n.globals.items (λ g. g.name) typed.globals k tell.globals
  data_symbols (target.Extern k) = there n.externs.items (λ e. e.name) typed.externs k tell.externs
  data_symbols (target.Text k) = refl

  pub code_relocs_are : (rs : List CodeReloc) →
      map (code_reloc (code_number n)) rs ≡ map (code_reloc (code_symbol (number_of from named) typed code)) rs
  code_relocs_are [] = refl
  code_relocs_are (r ∷ rs) =
      ap (λ s. record { offset = r.offset; kind = r.kind; symbol = s; addend = r.addend } ∷ map (code_reloc (code_number n)) rs)
      (code_symbols r.target)
      ∙ ap (λ l. code_reloc (code_symbol (number_of from named) typed code) r ∷ l) (code_relocs_are rs)

  piece_same : (at : ℕ) (p : InitPiece) →
      piece_relocs (data_number n) at p ≡ piece_relocs (data_symbol (number_of from named) typed) at p
  piece_same at p = by p.value
    where
      by : (v : InitValue) →
          value_relocs (data_number n) (at + p.offset) v ≡ value_relocs (data_symbol (number_of from named) typed) (at + p.offset) v
      by (initial.Number m bytes) = refl
      by (initial.Address t offset) =
          ap (λ s. record { offset = at + p.offset; kind = address_kind; symbol = s; addend = offset } ∷ []) (data_symbols t)

  pieces_same : (at : ℕ) (ps : List InitPiece) →
      flat_map (piece_relocs (data_number n) at) ps ≡ flat_map (piece_relocs (data_symbol (number_of from named) typed) at) ps
  pieces_same at [] = refl
  pieces_same at (p ∷ ps) =
      ap (λ l. l ++ flat_map (piece_relocs (data_number n) at) ps) (piece_same at p)
      ∙ ap (λ l. piece_relocs (data_symbol (number_of from named) typed) at p ++ l) (pieces_same at ps)

  pub data_relocs_are : (structs : List StructInfo) (at : ℕ) (gs : List GlobalInfo) →
      data_relocs (data_number n) structs at gs ≡ data_relocs (data_symbol (number_of from named) typed) structs at gs
  data_relocs_are structs at [] = refl
  data_relocs_are structs at (g ∷ gs) =
      ap (λ l. l ++ data_relocs (data_number n) structs (at + room structs g) gs) (pieces_same at g.init)
      ∙ ap (λ l. flat_map (piece_relocs (data_symbol (number_of from named) typed) at) g.init ++ l)
      (data_relocs_are structs (at + room structs g) gs)
