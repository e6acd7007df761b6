-- What the symbols of objects stand for (ELF64: global symbols of the objects of one link, and undefined ones).
use Rattle.std.specs.Prelude.{ℕ, ◌+◌, ◌==◌, Bool, true, false, not, ◌&&◌, List, [], ◌∷◌, ◌++◌, Option, Some, None, slice_get, codes}
use Rattle.std.specs.Prelude.{if◌then◌else◌}
use Rattle.std.specs.List.{find}
use Rattle.std.specs.Str.{bytes_eq}
use Rattle.elf_obj.specs.declared.parts.Symbol.{Symbol}
use Rattle.elf_obj.specs.declared.parts.Home.{Home}
use Rattle.elf_obj.specs.declared.parts.Home.TheVariants.{Undef, Text, Rodata, Init, Zero}
use Rattle.elf_obj.specs.Object.{Object}

-- a symbol of some objects, with the number of its object and its own number there, both from 0
pub record NumberedSymbol : Type 0 where
  pub object : ℕ
  pub number : ℕ
  pub symbol : Symbol

abbrev pub numbered : ℕ → ℕ → Symbol → NumberedSymbol
numbered object number symbol = record { object = object; number = number; symbol = symbol }

-- two all_numbered are one symbol where their numbers are equal
abbrev pub is_same : NumberedSymbol → NumberedSymbol → Bool
is_same a b = a.object == b.object && a.number == b.number

-- the symbols of an object, counted from a number
abbrev pub numbered_from : ℕ → ℕ → List Symbol → List NumberedSymbol
numbered_from object number [] = []
numbered_from object number (s ∷ ss) = numbered object number s ∷ numbered_from object (number + 1) ss

-- the symbols of all objects, in the order of the objects, which are counted from a number
abbrev pub all_numbered_from : ℕ → List Object → List NumberedSymbol
all_numbered_from k [] = []
all_numbered_from k (o ∷ os) = numbered_from k 0 o.symbols ++ all_numbered_from (k + 1) os

abbrev pub all_numbered : List Object → List NumberedSymbol
all_numbered objects = all_numbered_from 0 objects

-- the symbol has a place in its object
abbrev pub is_defined : Home → Bool
is_defined Undef = false
is_defined Text = true
is_defined Rodata = true
is_defined Init = true
is_defined Zero = true

-- the symbol is defined and not local: it defines its name for all objects
abbrev pub is_global : Symbol → Bool
is_global s = is_defined s.home && not s.local

-- the symbol defines this name for all objects
abbrev pub defines : List ℕ → NumberedSymbol → Bool
defines name e = is_global e.symbol && bytes_eq e.symbol.name name

-- the symbol that defines a name for all objects; where several do, the first
abbrev pub definition : List Object → List ℕ → Option NumberedSymbol
definition objects name = find (defines name) (all_numbered objects)

-- the symbol that a symbol stands for: itself where it is defined, a local one too, and else the one that defines its name
abbrev pub stands_for : List Object → NumberedSymbol → Option NumberedSymbol
stands_for objects e = if is_defined e.symbol.home then Some e else definition objects e.symbol.name

-- the symbol that the symbol of a number stands for, in the object of a number with these symbols
abbrev pub target : List Object → ℕ → List Symbol → ℕ → Option NumberedSymbol
target objects k symbols number =
    elim (slice_get symbols number) as (λ _. Option NumberedSymbol) [ None ↦ None | Some s ↦ stands_for objects (numbered k number s) ]

-- the function with which a program begins (C11 5.1.2.2.1)
abbrev pub main_name : List ℕ
main_name = codes "main"
