-- What loads, stores and tag instructions do, with values worked by hand from the Arm ARM's pseudocode.
use Rattle.std.proofs.Common.{◌≡◌, refl, ◌%◌, Some, None, Option, ℕ, Bool, true, false, List, [], ◌∷◌}
use Rattle.std.specs.Prelude.{◌==◌, if◌then◌else◌}
use Rattle.mt_base.specs.Memory.{Extent, load, store_bytes, bytes_of, store_tag, every_byte, some_byte}
use Rattle.mt_base.specs.Tags.{allowed_from}
use Rattle.a64_code.specs.declared.instr.Instr.TheVariants.{Ldr, Str, Strb, Ldrsb, Ldrsw, Ldrh, Ldp, Stp, Svc, Addg, Subg, Irg, Stg, Stzg}
use Rattle.a64_code.specs.declared.instr.Instr.TheVariants.{St2g, Stz2g, Ldg}
use Rattle.a64_code.specs.declared.end.MachineEnd.{MachineEnd}
use Rattle.a64_code.specs.declared.end.MachineEnd.TheVariants.{TagFault, MemoryFault, AlignFault, StackFault, BadCode, Exited, Divide}
use Rattle.a64_code.specs.Outside.{outside_of}
use Rattle.a64_code.specs.State.{State}
use Rattle.a64_code.specs.Stepped.{Stepped, Leads, Ends}
use Rattle.a64_code.specs.Access.{tag_end, access_end}
use Rattle.a64_code.specs.Effect.{effect}
use Rattle.a64_code.specs.Step.{fetched, step}
use Rattle.a64_code.proofs.EffectExamples.{x, nzcv, register_after, sp_after}

-- so many bytes from an address on, with their rights
abbrev region : ℕ → ℕ → Bool → Bool → Extent
region start bytes writable executable = record { start = start; bytes = bytes; writable = writable; executable = executable }

-- Data from 0x1000 on, code from 0x2000 on, and a guard at 0x3000. Each byte is the low byte of its address, the granule
-- at 0x1000 has the tag 5, that at 0x1010 the tag 6, and all others 0. X1 and X2 hold these numbers, and SP the first too.
abbrev with_base : ℕ → ℕ → State
with_base base value = record {
  register = λ n. if n == 1 then base else if n == 2 then value else 0;
  sp = base;
  pc = 0x2000;
  flags = nzcv false false false false;
  byte = λ at. at % 256;
  tag = λ granule. if granule == 0x100 then 5 else if granule == 0x101 then 6 else 0;
  regions = region 0x1000 0x100 true false ∷ region 0x2000 0x100 false true ∷ [];
  guard = record { start = 0x3000; bytes = 0x100 };
  choices = 5 ∷ 9 ∷ [];
  drawn = 1;
  outside = outside_of (65 ∷ []);
}

-- how an effect ends the run, and what it leaves in a byte and in the tag of a granule
abbrev end_of : Stepped → Option MachineEnd
end_of (Leads s) = None
end_of (Ends end) = Some end

abbrev byte_after : ℕ → Stepped → Option ℕ
byte_after at (Leads s) = Some (s.byte at)
byte_after at (Ends end) = None

abbrev tag_after : ℕ → Stepped → Option ℕ
tag_after granule (Leads s) = Some (s.tag granule)
tag_after granule (Ends end) = None

abbrev drawn_after : Stepped → Option ℕ
drawn_after (Leads s) = Some s.drawn
drawn_after (Ends end) = None

abbrev output_after : Stepped → Option (List ℕ)
output_after (Leads s) = Some s.outside.output
output_after (Ends end) = None

-- ---- loads and stores, where the tags agree

-- ldr w0, [x1, #4]; ldrsb x0, [x1]; ldrsw x0, [x1]; the top byte of the pointer is ignored but for its tag
ldr_narrow : register_after 0 (effect (Ldr false 1 (x 1) (x 0)) (with_base 0xF500000000001000 0)) ≡ Some 0x07060504
unfolding access_end tag_end every_byte some_byte load
ldr_narrow = refl

ldrsb_negative : register_after 0 (effect (Ldrsb 0x90 (x 1) (x 0)) (with_base 0x1000 0)) ≡ Some 0xFFFFFFFFFFFFFF90
unfolding access_end tag_end every_byte some_byte load
ldrsb_negative = refl

ldrsw_negative : register_after 0 (effect (Ldrsw 0x24 (x 1) (x 0)) (with_base 0x1000 0)) ≡ Some 0xFFFFFFFF93929190
unfolding access_end tag_end every_byte some_byte load
ldrsw_negative = refl

-- strb w2, [x1, #2], of which the low byte goes to memory and the byte beside it stays
strb_low : byte_after 0x1002 (effect (Strb 2 (x 1) (x 2)) (with_base 0x0500000000001000 0x1234)) ≡ Some 0x34
unfolding access_end tag_end every_byte some_byte store_bytes bytes_of
strb_low = refl

strb_beside : byte_after 0x1003 (effect (Strb 2 (x 1) (x 2)) (with_base 0x0500000000001000 0x1234)) ≡ Some 3
unfolding access_end tag_end every_byte some_byte store_bytes bytes_of
strb_beside = refl

-- ldp x3, x3, [x1, #-8], where the second number stays; stp x2, x1, [x1, #16]
ldp_equal : register_after 3 (effect (Ldp 0x7F (x 3) (x 1) (x 3)) (with_base 0x1030 0)) ≡ Some 0x3736353433323130
unfolding access_end tag_end every_byte some_byte load
ldp_equal = refl

stp_second : byte_after 0x1039 (effect (Stp 2 (x 1) (x 1) (x 2)) (with_base 0x1020 7)) ≡ Some 0x10
unfolding access_end tag_end every_byte some_byte store_bytes bytes_of
stp_second = refl

-- ---- the order in which an access is judged

-- misaligned, and in the guard
misaligned_in_guard : end_of (effect (Ldr true 0 (x 1) (x 0)) (with_base 0x3004 0)) ≡ Some (AlignFault 0x3004)
unfolding access_end
misaligned_in_guard = refl

-- in the guard, and in no region
guard_before_unmapped : end_of (effect (Ldr true 0 (x 1) (x 0)) (with_base 0x0A00000000003008 0)) ≡ Some StackFault
unfolding access_end some_byte
guard_before_unmapped = refl

-- in no region, and of another tag; a pair of which the second half is in no region
unmapped_before_tag : end_of (effect (Ldrh 0 (x 1) (x 0)) (with_base 0x0A00000000004000 0)) ≡ Some (MemoryFault 0x4000)
unfolding access_end every_byte some_byte
unmapped_before_tag = refl

pair_half_unmapped : end_of (effect (Ldp 0 (x 3) (x 1) (x 2)) (with_base 0x10F8 0)) ≡ Some (MemoryFault 0x10F8)
unfolding access_end every_byte some_byte
pair_half_unmapped = refl

-- a store to code, and of another tag
protected_before_tag : end_of (effect (Str true 0 (x 1) (x 2)) (with_base 0x0300000000002000 0)) ≡ Some (MemoryFault 0x2000)
unfolding access_end every_byte some_byte
protected_before_tag = refl

-- the tag 3 at a granule of the tag 5; a pair over two granules, of which the second differs
wrong_tag : end_of (effect (Str true 1 (x 1) (x 2)) (with_base 0x0300000000001000 0)) ≡ Some (TagFault 0x1008 3 5)
unfolding access_end tag_end every_byte some_byte
wrong_tag = refl

second_granule_differs : end_of (effect (Ldp 1 (x 3) (x 1) (x 2)) (with_base 0x0500000000001000 0)) ≡ Some (TagFault 0x1008 5 6)
unfolding access_end tag_end every_byte some_byte
second_granule_differs = refl

-- SP with another tag, which is not judged
sp_with_wrong_tag : register_after 0 (effect (Ldr true 1 (x 31) (x 0)) (with_base 0x0300000000001000 0)) ≡ Some 0x0F0E0D0C0B0A0908
unfolding access_end every_byte some_byte load
sp_with_wrong_tag = refl

-- ---- tags of pointers

-- irg x0, x1, x2 draws 9, which the mask excludes as it does 10; the choice behind the last is the first
irg_excluded : register_after 0 (effect (Irg (x 2) (x 1) (x 0)) (with_base 0xA200000000001008 0xFFFF0600)) ≡ Some 0xAB00000000001008
unfolding allowed_from
irg_excluded = refl

irg_draws : drawn_after (effect (Irg (x 31) (x 31) (x 31)) (with_base 0x1000 0)) ≡ Some 0
unfolding allowed_from
irg_draws = refl

irg_to_sp : sp_after (effect (Irg (x 31) (x 31) (x 31)) (with_base 0x1000 0)) ≡ Some 0x0900000000001000
unfolding allowed_from
irg_to_sp = refl

-- addg x0, x1, #16, #1 goes from the tag 15 past 0; subg x0, x1, #1008, #0 keeps the tag of x1
addg_past_zero : register_after 0 (effect (Addg 1 1 (x 1) (x 0)) (with_base 0x0F00000000001000 0)) ≡ Some 0x0100000000001010
unfolding allowed_from
addg_past_zero = refl

subg_below_zero : register_after 0 (effect (Subg 63 0 (x 1) (x 0)) (with_base 0x0700000000000000 0)) ≡ Some 0x07FFFFFFFFFFFC10
unfolding allowed_from
subg_below_zero = refl

-- ---- tags of granules

-- stg x2, [x1, #16] tags one granule and st2g x2, [x1, #-16] two, of which the bytes stay; no tag is judged
stg_one : tag_after 0x101 (effect (Stg 1 (x 1) (x 2)) (with_base 0x1000 0x0A00000000000000)) ≡ Some 10
unfolding access_end every_byte some_byte store_tag
stg_one = refl

stg_no_more : tag_after 0x102 (effect (Stg 1 (x 1) (x 2)) (with_base 0x1000 0x0A00000000000000)) ≡ Some 0
unfolding access_end every_byte some_byte store_tag
stg_no_more = refl

st2g_second : tag_after 0x104 (effect (St2g 0x1FF (x 1) (x 2)) (with_base 0x1040 0x0A00000000000000)) ≡ Some 10
unfolding access_end every_byte some_byte store_tag
st2g_second = refl

st2g_keeps_bytes : byte_after 0x1041 (effect (St2g 0x1FF (x 1) (x 2)) (with_base 0x1040 0x0A00000000000000)) ≡ Some 0x41
unfolding access_end every_byte some_byte
st2g_keeps_bytes = refl

-- stzg and stz2g write zeros, too
stzg_clears : byte_after 0x100F (effect (Stzg 0 (x 1) (x 2)) (with_base 0x1000 0)) ≡ Some 0
unfolding access_end every_byte some_byte store_bytes bytes_of
stzg_clears = refl

stz2g_clears : byte_after 0x101F (effect (Stz2g 0 (x 1) (x 2)) (with_base 0x1000 0)) ≡ Some 0
unfolding access_end every_byte some_byte store_bytes bytes_of
stz2g_clears = refl

-- a tag is stored at a multiple of 16 only, and not to code; it is loaded from anywhere in the granule
stg_misaligned : end_of (effect (Stg 0 (x 1) (x 2)) (with_base 0x1008 0)) ≡ Some (AlignFault 0x1008)
unfolding access_end
stg_misaligned = refl

stg_protected : end_of (effect (Stg 0 (x 1) (x 2)) (with_base 0x2000 0)) ≡ Some (MemoryFault 0x2000)
unfolding access_end every_byte some_byte
stg_protected = refl

ldg_anywhere : register_after 2 (effect (Ldg 1 (x 1) (x 2)) (with_base 0x1009 0xFFFFFFFFFFFFFFFF)) ≡ Some 0xF6FFFFFFFFFFFFFF
unfolding access_end every_byte some_byte
ldg_anywhere = refl

ldg_in_guard : end_of (effect (Ldg 0 (x 1) (x 2)) (with_base 0x300F 0)) ≡ Some StackFault
unfolding access_end some_byte
ldg_in_guard = refl

-- ---- services, and the fetch

-- #1 puts the low byte; #2 takes the next byte
put_service : output_after (effect (Svc 1) (record (with_base 0 0) { register = λ n. 0x141 })) ≡ Some (0x41 ∷ [])
put_service = refl

next_service : register_after 0 (effect (Svc 2) (with_base 0 0)) ≡ Some 65
next_service = refl

next_at_end : register_after 0 (effect (Svc 2) (record (with_base 0 0) { outside = outside_of [] })) ≡ Some 0xFFFFFFFFFFFFFFFF
next_at_end = refl

exit_service : end_of (effect (Svc 3) (record (with_base 0 0) { register = λ n. 0x12A })) ≡ Some (Exited 0x2A)
exit_service = refl

divide_service : end_of (effect (Svc 4) (with_base 0 0)) ≡ Some Divide
divide_service = refl

no_service : end_of (effect (Svc 5) (with_base 0 0)) ≡ Some (BadCode 0x2000)
no_service = refl

-- no word is fetched at an odd half, nor from a region that is not executable
odd_half : end_of (step (record (with_base 0 0) { pc = 0x2002 })) ≡ Some (BadCode 0x2002)
unfolding fetched
odd_half = refl

data_is_no_code : end_of (step (record (with_base 0 0) { pc = 0x1000 })) ≡ Some (BadCode 0x1000)
unfolding fetched every_byte
data_is_no_code = refl
