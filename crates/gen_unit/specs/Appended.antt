-- What the code of a function is appended to, and what its items find of its labels (this project's own).
use Rattle.std.specs.Prelude.{◌≡◌, ℕ, ◌^◌, ◌<◌, Bool, true, false, List, ◌++◌, length, Option, Some, None, unwrap_or}
use Rattle.std.specs.Prelude.{slice_index_or}
use Rattle.a64_code.specs.declared.instr.Reg.{Reg}
use Rattle.a64_laws.specs.Branches.{Branch, OnZero, OnOther}
use Rattle.c_type_base.specs.declared.typed.StructInfo.{StructInfo}
use Rattle.c_type_base.specs.declared.typed.TFunction.{TFunction}
use Rattle.frame_layout.specs.declared.frame.Frame.{Frame}
use Rattle.sym_code.specs.declared.item.SymItem.{SymItem}
use Rattle.gen_unit.specs.declared.labels.Labels.{Labels}
use Rattle.gen_unit.specs.declared.output.Output.{Output}
use Rattle.gen_unit.specs.declared.parts.Place.{Place}
use Rattle.gen_unit.specs.Functions.{entry}
use Rattle.gen_unit.specs.Labels.{is_label, label_in, end_of, form_of}
use Rattle.gen_unit.specs.Units.{AreWords, relocs_from, places_from, all_words}
use Rattle.gen_unit.specs.Words.{Word, Targets, Form}

-- ---- what is appended

-- the numbers of some words stand behind what was there, and those that wait are told by their places
pub record Gains (old : Output) (ws : List Word) (new : Output) : Type 0 where
  pub numbers : List ℕ
  pub are : AreWords numbers ws
  pub words : new.words.items ≡ old.words.items ++ numbers
  pub relocs : new.relocs.items ≡ old.relocs.items ++ relocs_from (length old.words.items) ws

-- ---- labels

-- what a table has of a label
abbrev pub entry_of : List (Option ℕ) → ℕ → Option ℕ
entry_of table n = slice_index_or table n None

-- the first place stays
abbrev pub first_of : Option ℕ → ℕ → Option ℕ
first_of None place = Some place
first_of (Some before) place = Some before

-- an item is at a place
abbrev pub noted : Bool → ℕ → Option ℕ → Option ℕ
noted false place found = found
noted true place found = first_of found place

pub record Notes (old : List (Option ℕ)) (i : SymItem) (place : ℕ) (new : List (Option ℕ)) : Type 0 where
  pub each : (n : ℕ) → entry_of new n ≡ noted (is_label n i) place (entry_of old n)

-- a label that stands nowhere is that of what comes behind the items
abbrev pub targets_of : Labels → Targets
targets_of l = record { label = λ n. unwrap_or (entry_of l.places.items n) l.end; exit = l.end }

-- the labels of some items, from a place on
pub record AreLabels (f : Form) (at : ℕ) (is : List SymItem) (l : Labels) : Type 0 where
  pub each : (n : ℕ) → unwrap_or (entry_of l.places.items n) l.end ≡ label_in f at is n
  pub end : l.end ≡ end_of f at is
  pub long : l.long ≡ f.long

-- ---- forms

abbrev pub form : Frame → Bool → Form
form frame long = record { frame = frame; long = long }

-- the branch where a register is zero, or where it is not
abbrev pub on : Bool → Reg → Branch
on true r = OnZero true r
on false r = OnOther true r

-- each jump of a function reaches the place where it goes
abbrev pub IsNear : Frame → List SymItem → Type 0
IsNear frame is = let at = length (entry frame) in end_of (form_of frame at is) at is < 2 ^ 25

-- ---- functions

-- the words of some functions stand behind what was there, and the places where each of them stands
pub record AreParts (structs : List StructInfo) (fs : List TFunction) (old : Output) (before : List Place) (new : Output)
    (behind : List Place) : Type 0 where
  pub gained : Gains old (all_words structs fs) new
  pub places : behind ≡ before ++ places_from structs (length old.words.items) fs
