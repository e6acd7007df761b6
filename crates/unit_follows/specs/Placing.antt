-- Where the words of a file are in memory, and what they name; and what they are with their fields filled (ELF for the Arm 64-bit
-- architecture, 5.7).
use Rattle.std.specs.Prelude.{◌≡◌, ℕ, ◌+◌, ◌*◌, ◌/◌, ◌%◌, ◌^◌, ◌<◌, ◌≤◌, List, [], ◌∷◌, length, slice_get}
use Rattle.std.specs.Prelude.{Option, Some, None}
use Rattle.a64_code.specs.declared.instr.Instr.{Instr}
use Rattle.a64_code.specs.declared.instr.Instr.TheVariants.{AddImm, Adrp, Bl, Ldr}
use Rattle.a64_laws.specs.Branches.{Linked, jump_instr}
use Rattle.a64_laws.specs.Sequences.{page_instr}
use Rattle.block_meaning.specs.Linkage.{Definition, AFunction, function_of, text_block}
use Rattle.block_meaning.specs.Linkage.{extern_at, definition_of}
use Rattle.block_meaning.specs.Running.{Function}
use Rattle.gen_unit.specs.declared.parts.CodeTarget.{CodeTarget}
use Rattle.gen_unit.specs.declared.parts.CodeTarget.TheVariants as target
use Rattle.gen_unit.specs.Words.{Wanted, Word, way, page_kind, got_page_kind}
use Rattle.code_relation.specs.Sites.{Given, units_of}
use Rattle.code_relation.specs.Stands.{IsThere}

-- The addresses of a file's words and of what they name. All are those of one image, which was loaded as a whole.
pub record Placing : Type 0 where
  -- where address 0 of the image is
  pub load : ℕ
  -- the first word
  pub words : ℕ
  -- the word of the global offset table for an object
  pub got : CodeTarget → ℕ
  -- each function of the program
  pub function : Function → ℕ

-- ---- what a word names

abbrev pub defined_at : Placing → Option Definition → ℕ
defined_at p (Some (AFunction f)) = p.function f
defined_at p _ = 0

-- the address of a function that is called
abbrev pub callee_at : Given → Placing → ℕ → CodeTarget → ℕ
callee_at g p unit (target.Function n) = p.function (function_of unit n)
callee_at g p unit (target.Extern n) = defined_at p (definition_of (units_of g) (extern_at (units_of g) unit n))
callee_at g p unit _ = 0

abbrev pub text_at : Given → ℕ → ℕ → ℕ
text_at g unit n = (g.starts (text_block (units_of g) unit n)).start

-- the address by which an object or a text is reached: its word of the table, or its own
abbrev pub reached_at : Given → Placing → ℕ → CodeTarget → ℕ
reached_at g p unit (target.Text n) = text_at g unit n
reached_at g p unit t = p.got t

-- ---- fields

-- an instruction at an address, which waits for a symbol
abbrev pub field_filled : Given → Placing → ℕ → ℕ → CodeTarget → Instr → Instr
field_filled g p unit at t (Adrp lo hi rd) = page_instr at (reached_at g p unit t) rd
field_filled g p unit at t (AddImm wide sh imm12 rn rd) = AddImm wide sh (reached_at g p unit t % 4096) rn rd
field_filled g p unit at t (Ldr wide imm12 rn rt) = Ldr wide (reached_at g p unit t % 4096 / 8) rn rt
field_filled g p unit at t (Bl imm26) = jump_instr Linked (way (at / 4) (callee_at g p unit t / 4))
field_filled g p unit at t i = i

abbrev pub filled_by : Given → Placing → ℕ → ℕ → Option Wanted → Instr → Instr
filled_by g p unit at None i = i
filled_by g p unit at (Some w) i = field_filled g p unit at w.target i

-- the instructions of words that stand from an address on
abbrev pub filled : Given → Placing → ℕ → ℕ → List Word → List Instr
filled g p unit at [] = []
filled g p unit at (w ∷ ws) = filled_by g p unit at w.wants w.instr ∷ filled g p unit (at + 4) ws

-- ---- ranges

-- so many bytes lie in an image of 2^28
pub record IsInImage (p : Placing) (at bytes : ℕ) : Type 0 where
  pub from : p.load ≤ at
  pub to : at + bytes ≤ p.load + 2 ^ 28

-- some word waits for a symbol in this way
pub record IsWanted (ws : List Word) (kind : ℕ) (t : CodeTarget) : Type 0 where
  pub position : ℕ
  pub word : Word
  pub there : slice_get ws position ≡ Some word
  pub is : word.wants ≡ Some (record { kind = kind; target = t })

-- Where the words and what they name may be.
pub record IsPlacing (g : Given) (p : Placing) (unit : ℕ) (ws : List Word) : Type 0 where
  pub load_whole : p.load % 4096 ≡ 0
  pub load_below : p.load < 2 ^ 55
  pub words_whole : p.words % 16 ≡ 0
  pub words_in : IsInImage p p.words (4 * length ws)
  pub gots_whole : (t : CodeTarget) → IsWanted ws got_page_kind t → p.got t % 8 ≡ 0
  pub gots_in : (t : CodeTarget) → IsWanted ws got_page_kind t → IsInImage p (p.got t) 8
  pub texts_in : (n : ℕ) → IsWanted ws page_kind (target.Text n) → IsInImage p (text_at g unit n) 0
  pub functions_whole : (f : Function) → IsThere (units_of g) f → p.function f % 4 ≡ 0
  pub functions_in : (f : Function) → IsThere (units_of g) f → IsInImage p (p.function f) 0
  -- the words and all functions are so near that a call reaches them
  pub functions_on : (f : Function) → IsThere (units_of g) f → p.function f < p.words + 2 ^ 27
  pub functions_back : (f : Function) → IsThere (units_of g) f → p.words + 4 * length ws ≤ p.function f + 2 ^ 27
