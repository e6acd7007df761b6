-- Which bytes are the file of an object.
use Rattle.std.specs.Prelude.{◌≡◌, ℕ, ◌+◌, ◌<◌, ◌^◌, true, false, List, [], ◌∷◌, length, FitsSigned}
use Rattle.std.specs.List.{AllByRecursion}
use Rattle.std.specs.Int.{w64}
use Rattle.elf_base.specs.Layout.{IsLaidOut}
use Rattle.elf_obj.specs.declared.parts.Symbol.{Symbol}
use Rattle.elf_obj.specs.declared.parts.Reloc.{Reloc}
use Rattle.elf_obj.specs.Object.{Object}
use Rattle.elf_obj.specs.Sections.{first_global, sizes_of, file_size}
use Rattle.elf_obj.specs.Contents.{pieces}
use Rattle.elf_obj.specs.Rules.{symbols_keep, reloc_rule, relocs_keep, tags_keep}

-- the places of the names fit the four bytes that name them
abbrev pub NamesFit : ℕ → List Symbol → Type 0
NamesFit place [] = Unit {0}
NamesFit place (s ∷ ss) = (place < 2 ^ 32) × NamesFit (place + length s.name + 1) ss

-- symbols are counted from 1 in the file, and these numbers fit four bytes
abbrev pub AllCounted : List Reloc → Type 0
AllCounted [] = Unit {0}
AllCounted (r ∷ rs) = (r.symbol + 1 < 2 ^ 32) × AllCounted rs

abbrev pub AllNumbered : List ℕ → Type 0
AllNumbered [] = Unit {0}
AllNumbered (t ∷ ts) = (t + 1 < 2 ^ 32) × AllNumbered ts

-- what the file counts and names fits the fields
pub record NumbersFit (p : Object) : Type 0 where
  pub names : NamesFit 1 p.symbols
  pub globals : first_global 1 p.symbols < 2 ^ 32
  pub text_relocs : AllCounted p.text_relocs
  pub init_relocs : AllCounted p.init_relocs
  pub tagged : AllNumbered p.tagged

-- the parts of which there is a file
pub record IsValid (p : Object) : Type 0 where
  pub symbols : symbols_keep (sizes_of p) [] p.symbols ≡ true
  pub text_relocs : relocs_keep (reloc_rule true (sizes_of p).text (length p.symbols)) 0 p.text_relocs ≡ true
  pub init_relocs : relocs_keep (reloc_rule false (sizes_of p).init (length p.symbols)) 0 p.init_relocs ≡ true
  pub tagged : tags_keep p.symbols [] 0 p.tagged ≡ true
  pub numbers : NumbersFit p
  pub small : file_size (sizes_of p) < 2 ^ 63

-- the bytes are the file of the object, which is valid
pub record ObjectFile (p : Object) (file : List ℕ) : Type 0 where
  pub valid : IsValid p
  pub laid_out : IsLaidOut (pieces p) (file_size (sizes_of p)) file

-- a symbol's numbers and the bytes of its name are within their ranges, as those of `Symbol` are by their types
pub record SymbolFits (s : Symbol) : Type 0 where
  pub name : AllByRecursion (λ b. b < 2 ^ 8) s.name
  pub value : s.value < 2 ^ 64
  pub size : s.size < 2 ^ 64

pub record RelocFits (r : Reloc) : Type 0 where
  pub offset : r.offset < 2 ^ 64
  pub kind : r.kind < 2 ^ 32
  pub symbol : r.symbol < 2 ^ 32
  pub addend : FitsSigned w64 r.addend

pub record HasRanges (p : Object) : Type 0 where
  pub words : AllByRecursion (λ w. w < 2 ^ 32) p.words
  pub zero_bytes : p.zero_bytes < 2 ^ 64
  pub symbols : AllByRecursion SymbolFits p.symbols
  pub text_relocs : AllByRecursion RelocFits p.text_relocs
  pub init_relocs : AllByRecursion RelocFits p.init_relocs
  pub tagged : AllByRecursion (λ t. t < 2 ^ 32) p.tagged

-- the bytes are the file of the object, whose numbers are within their ranges: such an object is the only one
pub record IsFileOf (p : Object) (file : List ℕ) : Type 0 where
  pub is_file : ObjectFile p file
  pub ranges : HasRanges p
