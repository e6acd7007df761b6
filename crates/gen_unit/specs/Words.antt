-- The words of symbolic items where they stand: instructions, some of which wait for the address of a symbol (ELF for the Arm 64-bit
-- architecture). Places are counted in words from the function's start.
use Rattle.std.specs.Prelude.{ℕ, ◌+◌, ◌-◌, nat_le, Bool, true, false, List, [], ◌∷◌, length, map, Option, Some, None}
use Rattle.std.specs.Prelude.{slice_get, if◌then◌else◌}
use Rattle.a64_code.specs.declared.instr.Instr.{Instr}
use Rattle.a64_code.specs.declared.instr.Instr.TheVariants.{AddImm, Adrp, Bl, Ldr}
use Rattle.a64_code.specs.declared.instr.Reg.{Reg}
use Rattle.a64_laws.specs.Branches.{Way, Forward, Back, Branch, Always, OnZero, OnOther, jump_instr}
use Rattle.frame_layout.specs.declared.frame.Frame.{Frame}
use Rattle.frame_layout.specs.declared.frame.Slot.{Slot}
use Rattle.tag_plan.specs.Lists.{slot_address_list, enter_list, leave_list}
use Rattle.sym_code.specs.declared.item.SymItem.{SymItem}
use Rattle.sym_code.specs.declared.item.SymItem.TheVariants as item
use Rattle.gen_unit.specs.declared.parts.CodeTarget.{CodeTarget}
use Rattle.gen_unit.specs.declared.parts.CodeTarget.TheVariants as target

-- ---- words that wait

-- R_AARCH64_ADR_PREL_PG_HI21, R_AARCH64_ADD_ABS_LO12_NC, R_AARCH64_CALL26, R_AARCH64_ADR_GOT_PAGE and R_AARCH64_LD64_GOT_LO12_NC
abbrev pub page_kind : ℕ
page_kind = 275

abbrev pub low_kind : ℕ
low_kind = 277

abbrev pub call_kind : ℕ
call_kind = 283

abbrev pub got_page_kind : ℕ
got_page_kind = 311

abbrev pub got_low_kind : ℕ
got_low_kind = 312

-- what a word waits for: nothing is added to the symbol's address
pub record Wanted : Type 0 where
  pub kind : ℕ
  pub target : CodeTarget

pub record Word : Type 0 where
  pub instr : Instr
  pub wants : Option Wanted

abbrev pub whole : Instr → Word
whole i = record { instr = i; wants = None }

abbrev pub waiting : Instr → ℕ → CodeTarget → Word
waiting i kind t = record { instr = i; wants = Some (record { kind = kind; target = t }) }

-- the pointer to an object is the word of the GOT that the linker makes for it
abbrev pub object_words : CodeTarget → Reg → List Word
object_words t r = waiting (Adrp 0 0 r) got_page_kind t ∷ waiting (Ldr true 0 r r) got_low_kind t ∷ []

-- the pointer to a text is its address
abbrev pub text_words : ℕ → Reg → List Word
text_words n r = waiting (Adrp 0 0 r) page_kind (target.Text n) ∷ waiting (AddImm true 0 0 r r) low_kind (target.Text n) ∷ []

abbrev pub call_words : CodeTarget → List Word
call_words t = waiting (Bl 0) call_kind t ∷ []

-- ---- jumps

abbrev pub way : ℕ → ℕ → Way
way from to = if nat_le from to then Forward (to - from) else Back (from - to)

-- where labels stand, and the exit of the function
pub record Targets : Type 0 where
  pub label : ℕ → ℕ
  pub exit : ℕ

-- A branch on a register reaches 2^18 words on. Where the function may be longer, the contrary branch passes a jump.
abbrev pub branch_words : Bool → Branch → Branch → ℕ → ℕ → List Instr
branch_words false taken contrary at to = jump_instr taken (way at to) ∷ []
branch_words true taken contrary at to = jump_instr contrary (Forward 2) ∷ jump_instr Always (way (at + 1) to) ∷ []

-- ---- items

-- how the items of a function become words: with its frame, and whether it may be long
pub record Form : Type 0 where
  pub frame : Frame
  pub long : Bool

abbrev pub address_of : Option Slot → Reg → List Instr
address_of None r = []
address_of (Some s) r = slot_address_list s r

-- the words of an item, which stand at a place
abbrev pub item_words : Form → Targets → ℕ → SymItem → List Word
item_words f ts at (item.Plain i) = whole i ∷ []
item_words f ts at (item.Label n) = []
item_words f ts at (item.Jump n) = whole (jump_instr Always (way at (ts.label n))) ∷ []
item_words f ts at (item.JumpIfZero r n) = map whole (branch_words f.long (OnZero true r) (OnOther true r) at (ts.label n))
item_words f ts at (item.JumpIfNotZero r n) = map whole (branch_words f.long (OnOther true r) (OnZero true r) at (ts.label n))
item_words f ts at (item.SlotAddress n r) = map whole (address_of (slice_get f.frame.slots n) r)
item_words f ts at (item.GlobalAddress n r) = object_words (target.Global n) r
item_words f ts at (item.ExternAddress n r) = object_words (target.Extern n) r
item_words f ts at (item.TextAddress n r) = text_words n r
item_words f ts at (item.CallFunction n) = call_words (target.Function n)
item_words f ts at (item.CallExtern n) = call_words (target.Extern n)
item_words f ts at item.Leave = whole (jump_instr Always (way at ts.exit)) ∷ []
item_words f ts at (item.EnterScope slots) = map whole (enter_list f.frame slots.0)
item_words f ts at (item.LeaveScope first last) = map whole (leave_list f.frame first last)

-- how many they are, wherever they stand
abbrev pub item_length : Form → SymItem → ℕ
item_length f i = length (item_words f (record { label = λ n. 0; exit = 0 }) 0 i)
