-- Code of a part of a tree: the items that are appended where so many stand already (this project's own). The position makes the numbers
-- of labels, so no counter is wanted, and each label stands once.
use Rattle.std.specs.Prelude.{◌≡◌, ℕ, ◌+◌, ◌*◌, List, [], ◌∷◌, ◌++◌, length, map}
use Rattle.a64_code.specs.declared.instr.Instr.{Instr}
use Rattle.sym_code.specs.declared.item.SymCode.{SymCode}
use Rattle.sym_code.specs.declared.item.SymItem.{SymItem}
use Rattle.sym_code.specs.declared.item.SymItem.TheVariants as item

abbrev pub Code : Type 0
Code = ℕ → List SymItem

abbrev pub nothing : Code
nothing at = []

-- one item
abbrev pub only : SymItem → Code
only i at = i ∷ []

-- instructions
abbrev pub plain : List Instr → Code
plain is at = map item.Plain is

-- one behind the other
abbrev pub in_turn : List Code → Code
in_turn [] at = []
in_turn (c ∷ cs) at = c at ++ in_turn cs (at + length (c at))

-- Code with labels of its own: their numbers are the given one and the three behind it. Its first item is no part of other code with
-- labels.
abbrev pub labelled : (ℕ → Code) → Code
labelled f at = f (4 * at) at

-- the code after a call is that before it, and this behind it
abbrev pub Appends : SymCode → Code → SymCode → Type 0
Appends old c new = new.items.items ≡ old.items.items ++ c (length old.items.items)
