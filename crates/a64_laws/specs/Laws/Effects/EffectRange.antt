-- An instruction leaves the numbers of a state in range (this project's own).
use Rattle.std.specs.Prelude.{ℕ, zero, suc, ◌+◌, ◌-◌, ◌*◌, ◌/◌, ◌%◌, ◌^◌, ◌<◌, ◌≤◌, ◌==◌, nat_le, Bool, true, false, if◌then◌else◌}
use Rattle.std.specs.Prelude.{int_div, bit_and, bit_or, bit_xor}
use Rattle.std.proofs.Common.{arith, mod-lt, pow_pos, lit≤}
use Rattle.std.proofs.Math.Nat.{lt_of_le_of_lt, le_trans, mod-le, div-le_self}
use Rattle.std.proofs.lemmas.Nat.{and_le_l, or_lt, xor_lt}
use Rattle.mt_base.specs.Wrapping.{wrapping_add}
use Rattle.mt_base.specs.TwosComplement.{to_signed, from_signed}
use Rattle.mt_base.specs.Laws.TwosComplement.{from_signed-lt}
use Rattle.mt_base.specs.Extension.{zero_extend, sign_extend}
use Rattle.mt_base.specs.Laws.Extension.{sign_extend-lt}
use Rattle.mt_base.specs.Shifts.{shift_left, shift_right, arithmetic_shift_right}
use Rattle.mt_base.specs.Laws.Shifts.{shift_left-lt, shift_right_le, arithmetic_shift_right-lt}
use Rattle.mt_base.specs.Memory.{load, store}
use Rattle.mt_base.specs.Laws.Memory.{load-lt}
use Rattle.mt_base.specs.Pointers.{with_tag, address_of}
use Rattle.mt_base.specs.Laws.Pointers.{with_tag-lt, tag_of-lt}
use Rattle.mt_base.specs.Tags.{next_tag}
use Rattle.mt_base.specs.Laws.TagChoice.{next_tag-lt}
use Rattle.a64_alu.specs.Width.{width, invert}
use Rattle.a64_alu.specs.Bitfield.{bitfield_unsigned, bitfield_signed}
use Rattle.a64_alu.specs.Dividing.{divide_unsigned, divide_signed}
use Rattle.a64_code.specs.declared.instr.Instr.{Instr}
use Rattle.a64_code.specs.declared.instr.Instr.TheVariants.{Movz, Movk}
use Rattle.a64_code.specs.declared.instr.Instr.TheVariants.{Nop}
use Rattle.a64_code.specs.declared.instr.Reg.{Reg}
use Rattle.a64_code.specs.State.{State, operand, with_general, with_flags, with_choice_drawn, advanced}
use Rattle.a64_code.specs.Access.{single, pair, tag_store, access_end}
use Rattle.a64_code.specs.LoadsAndStores.{register_bytes}
use Rattle.a64_code.specs.Services.{service_register, low_byte, service}
use Rattle.a64_code.specs.Outside.{next_number}
use Rattle.a64_code.specs.Shape.{Result, Shape, GoesOn, Puts, PutsWithFlags, PutsAndDraws, Branches, BranchesWithLink, Loads, LoadsPair}
use Rattle.a64_code.specs.Shape.{Stores, StoresPair, StoresTags, Clears, Serves, link_register, with_result, done}
use Rattle.a64_code.specs.Results.{number, with_halfword, chosen_or_next}
use Rattle.a64_code.specs.Effect.{shape, effect}
use Rattle.a64_laws.specs.Laws.Effects.Leaves.{OnLeads}
use Rattle.a64_laws.specs.Laws.Effects.Kept.{unless_leads, service_leads}
use Rattle.a64_laws.specs.Laws.Effects.InRange.{IsInRange, operand-lt, of_width-lt, range_operand, range_at_pc, range_advanced, range_flags}
use Rattle.a64_laws.specs.Laws.Effects.InRange.{range_bytes, range_tags, range_drawn, range_next, range_put, range_number}
use Rattle.a64_laws.specs.Laws.Effects.InRange.{store-lt, tagged-lt}

-- the fields of a move of an immediate are within their widths
abbrev pub MoveFits : Instr → Type 0
MoveFits (Movz wide hw imm16 rd) = (hw < 4) × (imm16 < 2 ^ 16)
MoveFits (Movk wide hw imm16 rd) = (hw < 4) × (imm16 < 2 ^ 16)
MoveFits _ = Unit {0}

-- ---- results are numbers of 64 bits

-- of a number of the width
of_the_width : (wide : Bool) (n : ℕ) → n < 2 ^ width wide → n < 2 ^ 64
of_the_width true n small = small
of_the_width false n small = omega (arith, small)

number-lt : (takes wide : Bool) (s : State) (r : Reg) → IsInRange s → number takes wide s r < 2 ^ 64
number-lt takes wide s r range = of_width-lt wide (operand takes s r) (operand-lt takes s r range)

halfword_at-lt : (hw imm16 : ℕ) → hw < 4 → imm16 < 2 ^ 16 → imm16 * 2 ^ (16 * hw) < 2 ^ 64
halfword_at-lt zero imm16 place small = omega (arith, small)
halfword_at-lt (suc zero) imm16 place small = omega (arith, small)
halfword_at-lt (suc (suc zero)) imm16 place small = omega (arith, small)
halfword_at-lt (suc (suc (suc zero))) imm16 place small = omega (arith, small)
halfword_at-lt (suc (suc (suc (suc hw)))) imm16 place small = absurd (omega (arith, place))

with_halfword-lt : (hw imm16 value : ℕ) → hw < 4 → imm16 < 2 ^ 16 → value < 2 ^ 64 → with_halfword (16 * hw) imm16 value < 2 ^ 64
with_halfword-lt zero imm16 value place small fits = omega (arith, small, fits)
with_halfword-lt (suc zero) imm16 value place small fits = omega (arith, small, fits)
with_halfword-lt (suc (suc zero)) imm16 value place small fits = omega (arith, small, fits)
with_halfword-lt (suc (suc (suc zero))) imm16 value place small fits = omega (arith, small, fits)
with_halfword-lt (suc (suc (suc (suc hw)))) imm16 value place small fits = absurd (omega (arith, place))

invert-lt : (wide : Bool) (n : ℕ) → invert (width wide) n < 2 ^ 64
invert-lt wide n = of_the_width wide (invert (width wide) n) (omega (arith, pow_pos (width wide)))

mod_width-lt : (wide : Bool) (n : ℕ) → n % 2 ^ width wide < 2 ^ 64
mod_width-lt wide n = of_the_width wide (n % 2 ^ width wide) (mod-lt n (pow_pos (width wide)))

divide_unsigned-lt : (x y : ℕ) → x < 2 ^ 64 → divide_unsigned x y < 2 ^ 64
divide_unsigned-lt x y small = by_zero (y == 0)
  where
    by_zero : (none : Bool) → (if none then 0 else x / y) < 2 ^ 64
    by_zero true = omega arith
    by_zero false = lt_of_le_of_lt (div-le_self x y) small

divide_signed-lt : (wide : Bool) (x y : ℕ) → divide_signed (width wide) x y < 2 ^ 64
divide_signed-lt wide x y = by_zero (y == 0)
  where
    by_zero : (none : Bool) →
        (if none then 0 else from_signed (width wide) (int_div (to_signed (width wide) x) (to_signed (width wide) y))) < 2 ^ 64
    by_zero true = omega arith
    by_zero false = of_the_width wide _ (from_signed-lt (width wide) (int_div (to_signed (width wide) x) (to_signed (width wide) y)))

bitfield_unsigned-lt : (wide : Bool) (immr imms x : ℕ) → x < 2 ^ 64 → bitfield_unsigned (width wide) immr imms x < 2 ^ 64
bitfield_unsigned-lt wide immr imms x small = by_order (nat_le (immr % width wide) (imms % width wide))
  where
    by_order : (ordered : Bool) →
        (if ordered then zero_extend (suc (imms % width wide - immr % width wide)) (shift_right x (immr % width wide)) else shift_left
        (width wide) (zero_extend (suc (imms % width wide)) x) (width wide - immr % width wide)) < 2 ^ 64
    by_order true =
        lt_of_le_of_lt (le_trans (mod-le (shift_right x (immr % width wide)) (2 ^ suc (imms % width wide - immr % width wide)))
        (shift_right_le x (immr % width wide))) small
    by_order false = of_the_width wide _
        (shift_left-lt (width wide) (zero_extend (suc (imms % width wide)) x) (width wide - immr % width wide))

bitfield_signed-lt : (wide : Bool) (immr imms x : ℕ) → bitfield_signed (width wide) immr imms x < 2 ^ 64
bitfield_signed-lt wide immr imms x = by_order (nat_le (immr % width wide) (imms % width wide))
  where
    by_order : (ordered : Bool) →
        (if ordered then sign_extend (suc (imms % width wide - immr % width wide)) (width wide)
        (shift_right x (immr % width wide)) else shift_left (width wide) (sign_extend (suc (imms % width wide)) (width wide) x)
        (width wide - immr % width wide)) < 2 ^ 64
    by_order true =
        of_the_width wide _ (sign_extend-lt (suc (imms % width wide - immr % width wide)) (width wide) (shift_right x (immr % width wide)))
    by_order false = of_the_width wide _
        (shift_left-lt (width wide) (sign_extend (suc (imms % width wide)) (width wide) x) (width wide - immr % width wide))

chosen_or_next-lt : (holds wide : Bool) (x y : ℕ) → x < 2 ^ 64 → chosen_or_next holds (width wide) x y < 2 ^ 64
chosen_or_next-lt true wide x y small = small
chosen_or_next-lt false wide x y small = mod_width-lt wide (y + 1)

-- a number of so many bytes
load_range : (n : ℕ) (s : State) (at : ℕ) → 256 ^ n ≤ 2 ^ 64 → IsInRange s → load n s.byte at < 2 ^ 64
load_range n s at few range = omega (arith, load-lt n s.byte at range.bytes, few)

load-register : (wide : Bool) (s : State) (at : ℕ) → IsInRange s → load (register_bytes wide) s.byte at < 2 ^ 64
load-register true s at range = load_range 8 s at (lit≤ tt) range
load-register false s at range = load_range 4 s at (lit≤ tt) range

load-eight : (s : State) (at : ℕ) → IsInRange s → load 8 s.byte at < 2 ^ 64
load-eight s at range = load_range 8 s at (lit≤ tt) range

load-two : (s : State) (at : ℕ) → IsInRange s → load 2 s.byte at < 2 ^ 64
load-two s at range = load_range 2 s at (lit≤ tt) range

load-one : (s : State) (at : ℕ) → IsInRange s → load 1 s.byte at < 2 ^ 64
load-one s at range = load_range 1 s at (lit≤ tt) range

signed-lt : (bits value : ℕ) → sign_extend bits 64 value < 2 ^ 64
signed-lt bits value = sign_extend-lt bits 64 value

tag-lt : (s : State) (granule : ℕ) → IsInRange s → s.tag granule < 16
tag-lt s granule range = range.tags granule

-- ---- shapes

-- what an instruction of a shape puts into registers and PC are numbers of 64 bits
abbrev pub Fits : Shape → Type 0
Fits (Puts r) = r.value < 2 ^ 64
Fits (PutsWithFlags flags r) = r.value < 2 ^ 64
Fits (PutsAndDraws r) = r.value < 2 ^ 64
Fits (Branches taken address) = address < 2 ^ 64
Fits (BranchesWithLink address) = address < 2 ^ 64
Fits (Loads access r) = r.value < 2 ^ 64
Fits (LoadsPair access first second) = (first.value < 2 ^ 64) × (second.value < 2 ^ 64)
Fits (StoresTags granules pointer tag) = tag < 16
Fits (Clears granules pointer tag) = tag < 16
Fits _ = Unit {0}

result_range : (r : Result) (s : State) → r.value < 2 ^ 64 → IsInRange s → IsInRange (advanced (with_result r s))
result_range r s small range = range_advanced (with_result r s) (range_operand r.takes_sp r.register r.value s small range)

branch_range : (taken : Bool) (address : ℕ) (s : State) → address < 2 ^ 64 → IsInRange s →
    OnLeads (done (Branches taken address) s) IsInRange
branch_range true address s small range = range_at_pc address s small range
branch_range false address s small range = range_advanced s range

service_range : (number : ℕ) (s : State) → IsInRange s → OnLeads (service number s) IsInRange
service_range number s range =
    service_leads IsInRange number s
    (result_range (record { takes_sp = false; register = service_register; value = low_byte s }) _ (omega arith)
    (range_put (low_byte s) s range))
    (result_range (record { takes_sp = false; register = service_register; value = next_number s.outside.answers }) _
    (range_number s range) (range_next s range))

pub done-range : (x : Shape) (s : State) → Fits x → IsInRange s → OnLeads (done x s) IsInRange
done-range GoesOn s fits range = range_advanced s range
done-range (Puts r) s fits range = result_range r s fits range
done-range (PutsWithFlags flags r) s fits range = result_range r (with_flags flags s) fits (range_flags flags s range)
done-range (PutsAndDraws r) s fits range = result_range r (with_choice_drawn s) fits (range_drawn s range)
done-range (Branches taken address) s fits range = branch_range taken address s fits range
done-range (BranchesWithLink address) s fits range =
    range_at_pc address (with_general link_register (wrapping_add 64 s.pc 4) s) fits
    (range_operand false link_register (wrapping_add 64 s.pc 4) s (omega arith) range)
done-range (Loads access r) s fits range = unless_leads IsInRange (access_end s access) _ (λ none. result_range r s fits range)
done-range (LoadsPair access first second) s fits range =
    unless_leads IsInRange (access_end s access) _
    (λ none. result_range second (with_result first s) fits.1 (range_operand first.takes_sp first.register first.value s fits.0 range))
done-range (Stores n pointer checked value) s fits range =
    unless_leads IsInRange (access_end s (single n pointer true checked)) _
    (λ none. range_advanced _ (range_bytes _ s (store-lt n s.byte (address_of pointer) value range.bytes) range))
done-range (StoresPair pointer checked first second) s fits range =
    unless_leads IsInRange (access_end s (pair pointer true checked)) _
    (λ none. range_advanced _ (range_bytes _ s
    (store-lt 8 (store 8 s.byte (address_of pointer) first) (address_of pointer + 8) second
    (store-lt 8 s.byte (address_of pointer) first range.bytes)) range))
done-range (StoresTags n pointer tag) s fits range =
    unless_leads IsInRange (access_end s (tag_store n pointer)) _
    (λ none. range_advanced _ (range_tags _ s (tagged-lt n s.tag (address_of pointer) tag range.tags fits) range))
done-range (Clears n pointer tag) s fits range =
    unless_leads IsInRange (access_end s (tag_store n pointer)) _
    (λ none. range_advanced _ (range_bytes _ _ (store-lt (16 * n) s.byte (address_of pointer) 0 range.bytes)
    (range_tags _ s (tagged-lt n s.tag (address_of pointer) tag range.tags fits) range)))
done-range (Serves number) s fits range = service_range number s range

-- ---- what instructions compute

-- a pointer with a tag that was chosen
tagged_pointer-lt : (pointer tag offset exclude : ℕ) → pointer < 2 ^ 64 → with_tag pointer (next_tag tag offset exclude) < 2 ^ 64
tagged_pointer-lt pointer tag offset exclude small =
    with_tag-lt pointer (next_tag tag offset exclude) small (next_tag-lt tag offset exclude)

bit_and-lt : (x y : ℕ) → x < 2 ^ 64 → bit_and x y < 2 ^ 64
bit_and-lt x y small = lt_of_le_of_lt (and_le_l x y) small

bit_or-lt : (x y : ℕ) → x < 2 ^ 64 → y < 2 ^ 64 → bit_or x y < 2 ^ 64
bit_or-lt x y = or_lt 64 x y

bit_xor-lt : (x y : ℕ) → x < 2 ^ 64 → y < 2 ^ 64 → bit_xor x y < 2 ^ 64
bit_xor-lt x y = xor_lt 64 x y

shift_right-lt : (x amount : ℕ) → x < 2 ^ 64 → shift_right x amount < 2 ^ 64
shift_right-lt x amount small = lt_of_le_of_lt (shift_right_le x amount) small

arithmetic-lt : (wide : Bool) (x amount : ℕ) → arithmetic_shift_right (width wide) x amount < 2 ^ 64
arithmetic-lt wide x amount = of_the_width wide _ (arithmetic_shift_right-lt (width wide) x amount)

-- what is known of each operation
ruleset operations = (
  of_width-lt,
  number-lt,
  operand-lt,
  halfword_at-lt,
  with_halfword-lt,
  invert-lt,
  mod_width-lt,
  bit_and-lt,
  bit_or-lt,
  bit_xor-lt,
  shift_right-lt,
  arithmetic-lt,
  divide_unsigned-lt,
  divide_signed-lt,
  bitfield_signed-lt,
  bitfield_unsigned-lt,
  chosen_or_next-lt,
  load-register,
  load-eight,
  load-two,
  load-one,
  signed-lt,
  tag-lt,
  tag_of-lt,
  tagged_pointer-lt,
  with_tag-lt,
)

-- Of fields within their widths, and of numbers in range: the second line stands for every other instruction, and an operation that is
-- new wants its law in the list above.
computes-lt : (instr : Instr) (s : State) → MoveFits instr → IsInRange s → Fits (shape instr s)
computes-lt Nop s fits range = tt
computes-lt instr s fits range = search (operations, arith)

pub effect-range : (instr : Instr) (s : State) → MoveFits instr → IsInRange s → OnLeads (effect instr s) IsInRange
effect-range instr s fits range = done-range (shape instr s) s (computes-lt instr s fits range) range
