-- The definitions compute.
use Rattle.std.proofs.Common.{◌≡◌, refl, true, false}
use Rattle.a64_alu.specs.declared.flags.Flags.{Flags}
use Rattle.a64_alu.specs.Width.{width, invert}
use Rattle.a64_alu.specs.Adding.{add_with_carry, subtract_with_flags}
use Rattle.a64_alu.specs.Condition.{condition_holds}
use Rattle.a64_alu.specs.Bitfield.{bitfield_unsigned, bitfield_signed}
use Rattle.a64_alu.specs.Dividing.{divide_unsigned, divide_signed}
use Rattle.a64_alu.specs.Multiplying.{multiply_add, multiply_sub}
use Rattle.a64_alu.specs.Shifting.{shift_left_by, shift_right_by, arithmetic_shift_right_by}

abbrev flags_of_less : Flags
flags_of_less = record { negative = true; zero = false; carry = false; overflow = false }

-- 1 - 2 is -1, with a borrow
less_is_negative : subtract_with_flags (width true) 1 2 ≡ (0xffff_ffff_ffff_ffff, flags_of_less)
less_is_negative = refl

equal_is_zero : subtract_with_flags (width false) 7 7 ≡ (0, record { negative = false; zero = true; carry = true; overflow = false })
equal_is_zero = refl

-- the least number less 1 is the greatest
least_overflows : subtract_with_flags 32 0x8000_0000 1
    ≡ (0x7fff_ffff, record { negative = false; zero = false; carry = true; overflow = true })
least_overflows = refl

sum_wraps : add_with_carry 64 0xffff_ffff_ffff_ffff 1 0 ≡ (0, record { negative = false; zero = true; carry = true; overflow = false })
sum_wraps = refl

-- LT, GE, LE and the two that always hold
less_than_holds : condition_holds 11 flags_of_less ≡ true
less_than_holds = refl

no_less_does_not : condition_holds 10 flags_of_less ≡ false
no_less_does_not = refl

equal_is_at_most : condition_holds 13 (record { negative = false; zero = true; carry = true; overflow = false }) ≡ true
equal_is_at_most = refl

always_holds : condition_holds 15 flags_of_less ≡ true
always_holds = refl

-- LSR by 4, LSL by 8, ASR by 4 and SXTB
shifted_right : bitfield_unsigned 64 4 63 0x8000_0000_0000_00f0 ≡ 0x0800_0000_0000_000f
shifted_right = refl

shifted_left : bitfield_unsigned 32 24 23 0x1234_5678 ≡ 0x3456_7800
shifted_left = refl

shifted_with_sign : bitfield_signed 32 4 31 0x8000_0010 ≡ 0xf800_0001
shifted_with_sign = refl

byte_is_extended : bitfield_signed 64 0 7 0x1280 ≡ 0xffff_ffff_ffff_ff80
byte_is_extended = refl

-- SBFIZ of 4 bits at place 8
field_is_placed : bitfield_signed 32 24 3 0x1a ≡ 0xffff_fa00
field_is_placed = refl

toward_zero : divide_signed 64 0xffff_ffff_ffff_fff9 2 ≡ 0xffff_ffff_ffff_fffd
toward_zero = refl

least_by_minus_one : divide_signed 32 0x8000_0000 0xffff_ffff ≡ 0x8000_0000
least_by_minus_one = refl

by_zero : divide_unsigned 9 0 ≡ 0
by_zero = refl

multiplied : multiply_add 32 0xffff_ffff 2 5 ≡ 3
multiplied = refl

taken_away : multiply_sub 64 3 4 5 ≡ 0xffff_ffff_ffff_fff9
taken_away = refl

count_wraps : shift_left_by 32 1 33 ≡ 2
count_wraps = refl

count_of_the_width_is_none : shift_right_by 64 9 64 ≡ 9
count_of_the_width_is_none = refl

sign_stays : arithmetic_shift_right_by 32 0x8000_0000 31 ≡ 0xffff_ffff
sign_stays = refl

turned : invert 32 0xff ≡ 0xffff_ff00
turned = refl
