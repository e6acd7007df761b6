-- What instructions do, with values worked by hand from the Arm ARM's pseudocode: moves, arithmetic and branches.
use Rattle.std.proofs.Common.{◌≡◌, refl, Some, None, Option, ℕ, Bool, true, false, [], ◌∷◌}
use Rattle.std.specs.Prelude.{◌==◌, if◌then◌else◌}
use Rattle.a64_alu.specs.declared.flags.Flags.{Flags}
use Rattle.a64_code.specs.declared.instr.Reg.{Reg}
use Rattle.a64_code.specs.declared.instr.Instr.TheVariants.{Movz, Movk, Movn, AddImm, SubImm, SubsImm, AddReg, SubsReg, EorReg, Lslv}
use Rattle.a64_code.specs.declared.instr.Instr.TheVariants.{Asrv, Udiv, Sdiv, Madd, Msub, Sbfm, Ubfm, Csinc, Cbz, B, Bl, BCond, Adrp, Ret}
use Rattle.a64_code.specs.Outside.{outside_of}
use Rattle.a64_code.specs.State.{State}
use Rattle.a64_code.specs.Stepped.{Stepped, Leads, Ends}
use Rattle.a64_code.specs.Effect.{effect}

-- a register by its number
abbrev pub x : ℕ → Reg
x n = record { 0 = n }

-- flags by N, Z, C and V
abbrev pub nzcv : Bool → Bool → Bool → Bool → Flags
nzcv n z c v = record { negative = n; zero = z; carry = c; overflow = v }

-- X1 and X2 hold these numbers, X30 an address to return to, and the flags say "equal"
abbrev pub with_two : ℕ → ℕ → State
with_two one two = record {
  register = λ n. if n == 1 then one else if n == 2 then two else if n == 30 then 0x10002000 else 0;
  sp = 0x40000000;
  pc = 0x10001ffc;
  flags = nzcv false true true false;
  byte = λ at. 0;
  tag = λ granule. 0;
  regions = [];
  guard = record { start = 0; bytes = 0 };
  choices = 5 ∷ 9 ∷ [];
  drawn = 0;
  outside = outside_of [];
}

-- what an effect leaves in a register, in SP, in PC and in the flags
abbrev pub register_after : ℕ → Stepped → Option ℕ
register_after n (Leads s) = Some (s.register n)
register_after n (Ends end) = None

abbrev pub sp_after : Stepped → Option ℕ
sp_after (Leads s) = Some s.sp
sp_after (Ends end) = None

abbrev pub pc_after : Stepped → Option ℕ
pc_after (Leads s) = Some s.pc
pc_after (Ends end) = None

abbrev pub flags_after : Stepped → Option Flags
flags_after (Leads s) = Some s.flags
flags_after (Ends end) = None

-- ---- moves

-- movn x0, #5, lsl #16; movn w0, #5, of which the upper half is clear; movk w1, #1, lsl #16
movn_wide : register_after 0 (effect (Movn true 1 5 (x 0)) (with_two 0 0)) ≡ Some 0xFFFFFFFFFFFAFFFF
movn_wide = refl

movn_narrow : register_after 0 (effect (Movn false 0 5 (x 0)) (with_two 0 0)) ≡ Some 0xFFFFFFFA
movn_narrow = refl

movk_narrow : register_after 1 (effect (Movk false 1 1 (x 1)) (with_two 0xAAAABBBBCCCCDDDD 0)) ≡ Some 0x0001DDDD
movk_narrow = refl

-- a write to xzr is dropped, and the next instruction follows
movz_to_zero : register_after 31 (effect (Movz true 0 7 (x 31)) (with_two 0 0)) ≡ Some 0
movz_to_zero = refl

movz_goes_on : pc_after (effect (Movz true 0 7 (x 31)) (with_two 0 0)) ≡ Some 0x10002000
movz_goes_on = refl

-- ---- arithmetic

-- sub sp, sp, #4096; add w1, w1, #4095, where the sum wraps; add x0, x1, xzr
sub_from_sp : sp_after (effect (SubImm true 1 1 (x 31) (x 31)) (with_two 0 0)) ≡ Some 0x3FFFF000
sub_from_sp = refl

add_narrow_wraps : register_after 1 (effect (AddImm false 0 4095 (x 1) (x 1)) (with_two 0x5FFFFFFFF 0)) ≡ Some 0xFFE
add_narrow_wraps = refl

add_reads_zero : register_after 0 (effect (AddReg true (x 31) (x 1) (x 0)) (with_two 7 0)) ≡ Some 7
add_reads_zero = refl

-- 3 - 5 borrows; 5 - 5 is zero; the least number minus 1 overflows; so does the greatest of 32 bits minus -1, and borrows
subs_less : flags_after (effect (SubsReg true (x 2) (x 1) (x 0)) (with_two 3 5)) ≡ Some (nzcv true false false false)
subs_less = refl

subs_equal : flags_after (effect (SubsImm true 0 5 (x 1) (x 31)) (with_two 5 0)) ≡ Some (nzcv false true true false)
subs_equal = refl

subs_overflows : flags_after (effect (SubsImm true 0 1 (x 1) (x 0)) (with_two 0x8000000000000000 0)) ≡ Some (nzcv false false true true)
subs_overflows = refl

subs_narrow : flags_after (effect (SubsReg false (x 2) (x 1) (x 0)) (with_two 0x7FFFFFFF 0xFFFFFFFF)) ≡ Some (nzcv true false false true)
subs_narrow = refl

-- cmp sp, #0 reads SP
subs_reads_sp : register_after 0 (effect (SubsImm true 0 0 (x 31) (x 0)) (with_two 0 0)) ≡ Some 0x40000000
subs_reads_sp = refl

eor_narrow : register_after 0 (effect (EorReg false (x 2) (x 1) (x 0)) (with_two 0xFF00FF00FF 0x0F0F0F0F0F)) ≡ Some 0x0FF00FF0
eor_narrow = refl

-- a count is taken modulo the width
lslv_by_65 : register_after 0 (effect (Lslv true (x 2) (x 1) (x 0)) (with_two 3 65)) ≡ Some 6
lslv_by_65 = refl

asrv_narrow : register_after 0 (effect (Asrv false (x 2) (x 1) (x 0)) (with_two 0x80000010 36)) ≡ Some 0xF8000001
asrv_narrow = refl

udiv_by_zero : register_after 0 (effect (Udiv true (x 2) (x 1) (x 0)) (with_two 7 0)) ≡ Some 0
udiv_by_zero = refl

sdiv_toward_zero : register_after 0 (effect (Sdiv false (x 2) (x 1) (x 0)) (with_two 0xFFFFFFF9 2)) ≡ Some 0xFFFFFFFD
sdiv_toward_zero = refl

sdiv_least_by_minus_one : register_after 0 (effect (Sdiv true (x 2) (x 1) (x 0)) (with_two 0x8000000000000000 0xFFFFFFFFFFFFFFFF))
    ≡ Some 0x8000000000000000
sdiv_least_by_minus_one = refl

madd_wraps : register_after 0 (effect (Madd false (x 2) (x 1) (x 1) (x 0)) (with_two 0xFFFFFFFF 3)) ≡ Some 0xFFFFFFFC
madd_wraps = refl

mneg : register_after 0 (effect (Msub true (x 2) (x 31) (x 1) (x 0)) (with_two 6 7)) ≡ Some 0xFFFFFFFFFFFFFFD6
mneg = refl

-- asr x0, x1, #4; lsl x0, x1, #4; lsr w0, w1, #4; sxtw x0, w1; uxtb w0, w1; sbfiz x0, x1, #8, #4
asr_alias : register_after 0 (effect (Sbfm true 4 63 (x 1) (x 0)) (with_two 0x8000000000000010 0)) ≡ Some 0xF800000000000001
asr_alias = refl

lsl_alias : register_after 0 (effect (Ubfm true 60 59 (x 1) (x 0)) (with_two 0x1234567890ABCDEF 0)) ≡ Some 0x234567890ABCDEF0
lsl_alias = refl

lsr_alias : register_after 0 (effect (Ubfm false 4 31 (x 1) (x 0)) (with_two 0xFFFFFFFF800000FF 0)) ≡ Some 0x0800000F
lsr_alias = refl

sxtw_alias : register_after 0 (effect (Sbfm true 0 31 (x 1) (x 0)) (with_two 0x180000001 0)) ≡ Some 0xFFFFFFFF80000001
sxtw_alias = refl

uxtb_alias : register_after 0 (effect (Ubfm false 0 7 (x 1) (x 0)) (with_two 0x1FF 0)) ≡ Some 0xFF
uxtb_alias = refl

sbfiz_alias : register_after 0 (effect (Sbfm true 56 3 (x 1) (x 0)) (with_two 0x1C 0)) ≡ Some 0xFFFFFFFFFFFFFC00
sbfiz_alias = refl

-- csinc w0, w1, w2, ne, where the flags say "equal"; cset x0, eq
csinc_fails : register_after 0 (effect (Csinc false (x 2) 1 (x 1) (x 0)) (with_two 8 0xFFFFFFFF)) ≡ Some 0
csinc_fails = refl

cset_holds : register_after 0 (effect (Csinc true (x 31) 1 (x 31) (x 0)) (with_two 8 9)) ≡ Some 1
cset_holds = refl

-- ---- branches

-- b .-4; bl .+8, which leaves the address behind it in X30; b.ge .+12; cbz w1, where the upper half does not count
b_back : pc_after (effect (B 0x3FFFFFF) (with_two 0 0)) ≡ Some 0x10001ff8
b_back = refl

bl_links : register_after 30 (effect (Bl 2) (with_two 0 0)) ≡ Some 0x10002000
bl_links = refl

ge_is_taken : pc_after (effect (BCond 3 10) (with_two 0 0)) ≡ Some 0x10002008
ge_is_taken = refl

lt_is_not : pc_after (effect (BCond 3 11) (with_two 0 0)) ≡ Some 0x10002000
lt_is_not = refl

cbz_narrow : pc_after (effect (Cbz false 0x7FFFF (x 1)) (with_two 0x100000000 0)) ≡ Some 0x10001ff8
cbz_narrow = refl

ret_to_link : pc_after (effect Ret (with_two 0 0)) ≡ Some 0x10002000
ret_to_link = refl

-- adrp x0, .-4096
adrp_back : register_after 0 (effect (Adrp 3 0x7FFFF (x 0)) (with_two 0 0)) ≡ Some 0x10000000
adrp_back = refl
