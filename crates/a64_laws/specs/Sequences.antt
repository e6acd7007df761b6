-- Lists of two instructions that do one thing: an address, a word of the GOT, a comparison, a remainder (this project's own).
use Rattle.std.specs.Prelude.{ℕ, ◌+◌, ◌-◌, ◌/◌, ◌%◌, ◌^◌, ◌<◌, ◌≤◌, Bool, true, if◌then◌else◌, List, [], ◌∷◌, int_div, int_rem}
use Rattle.mt_base.specs.TwosComplement.{to_signed, from_signed}
use Rattle.a64_alu.specs.Width.{of_width}
use Rattle.a64_code.specs.declared.instr.Instr.{Instr}
use Rattle.a64_code.specs.declared.instr.Instr.TheVariants.{Adrp, AddImm, Ldr, SubsReg, SubsImm, Csinc, Udiv, Sdiv, Msub}
use Rattle.a64_code.specs.declared.instr.Reg.{Reg}
use Rattle.a64_code.specs.State.{State}
use Rattle.a64_laws.specs.Forms.{zero_register}
use Rattle.a64_laws.specs.Branches.{Way, OnCondition, jump_instr}
use Rattle.a64_laws.specs.Relations.{Relation, Equal, Unequal, HigherOrSame, Lower, Higher, LowerOrSame, AtLeast, Less, Greater, AtMost}
use Rattle.a64_laws.specs.Relations.{code_of}

-- ---- addresses of an image

-- the field of ADRP for an address: pages on from PC's, or back, as a signed number of 21 bits
abbrev pub page_field : ℕ → ℕ → ℕ
page_field pc address = (2 ^ 21 + address / 4096 - pc / 4096) % 2 ^ 21

abbrev pub page_instr : ℕ → ℕ → Reg → Instr
page_instr pc address rd = Adrp (page_field pc address % 4) (page_field pc address / 4) rd

-- ADRP and ADD at PC: the address into a register
abbrev pub address_instrs : ℕ → ℕ → Reg → List Instr
address_instrs pc address rd = page_instr pc address rd ∷ AddImm true 0 (address % 4096) rd rd ∷ []

-- ADRP and LDR at PC: the word of the GOT at the slot
abbrev pub got_instrs : ℕ → ℕ → Reg → List Instr
got_instrs pc slot rd = page_instr pc slot rd ∷ Ldr true (slot % 4096 / 8) rd rd ∷ []

-- the page of the address is less than 2 ^ 20 pages on from that of PC, or up to so many back
pub record IsPageNear (pc address : ℕ) : Type 0 where
  pub on : address / 4096 < pc / 4096 + 2 ^ 20
  pub back : pc / 4096 ≤ address / 4096 + 2 ^ 20

-- ---- comparisons

-- the relation that holds where another does not
abbrev pub contrary : Relation → Relation
contrary Equal = Unequal
contrary Unequal = Equal
contrary HigherOrSame = Lower
contrary Lower = HigherOrSame
contrary Higher = LowerOrSame
contrary LowerOrSame = Higher
contrary AtLeast = Less
contrary Less = AtLeast
contrary Greater = AtMost
contrary AtMost = Greater

-- what a register is compared with: another one, or a number below 2 ^ 12
pub data Compared : Type 0 where
  With : Reg → Compared
  WithNumber : ℕ → Compared

abbrev pub compare_instr : Bool → Compared → Reg → Instr
compare_instr wide (With rm) rn = SubsReg wide rm rn zero_register
compare_instr wide (WithNumber imm12) rn = SubsImm wide 0 imm12 rn zero_register

-- the number that it is compared with, at either width
abbrev pub second_number : Bool → Compared → State → ℕ
second_number wide (With rm) s = of_width wide (s.register rm.0)
second_number wide (WithNumber imm12) s = imm12

abbrev pub IsComparable : Compared → State → Type 0
IsComparable (With rm) s = (rm.0 < 31) × (s.register rm.0 < 2 ^ 64)
IsComparable (WithNumber imm12) s = imm12 < 2 ^ 12

-- SUBS and CSINC: 1 into a register where the relation holds, else 0
abbrev pub comparison_instrs : Relation → Bool → Compared → Reg → Reg → List Instr
comparison_instrs r wide second rn rd =
    compare_instr wide second rn ∷ Csinc true zero_register (code_of (contrary r)) zero_register rd ∷ []

abbrev pub bit_of : Bool → ℕ
bit_of holds = if holds then 1 else 0

-- SUBS and a branch where the relation holds
abbrev pub comparison_branch : Relation → Bool → Compared → Reg → Way → List Instr
comparison_branch r wide second rn way = compare_instr wide second rn ∷ jump_instr (OnCondition (code_of r)) way ∷ []

-- ---- remainders

pub data Sign : Type 0 where
  Unsigned : Sign
  Signed : Sign

abbrev pub divide_instr : Sign → Bool → Reg → Reg → Reg → Instr
divide_instr Unsigned wide rm rn rd = Udiv wide rm rn rd
divide_instr Signed wide rm rn rd = Sdiv wide rm rn rd

-- division and MSUB: the quotient of Rn and Rm into one register, and then the remainder into another
abbrev pub remainder_instrs : Sign → Bool → Reg → Reg → Reg → Reg → List Instr
remainder_instrs sign wide rm rn rq rd = divide_instr sign wide rm rn rq ∷ Msub wide rm rn rq rd ∷ []

-- of two numbers of so many bits, rounded toward zero
abbrev pub quotient : Sign → ℕ → ℕ → ℕ → ℕ
quotient Unsigned k x y = x / y
quotient Signed k x y = from_signed k (int_div (to_signed k x) (to_signed k y))

abbrev pub remainder : Sign → ℕ → ℕ → ℕ → ℕ
remainder Unsigned k x y = x % y
remainder Signed k x y = from_signed k (int_rem (to_signed k x) (to_signed k y))
