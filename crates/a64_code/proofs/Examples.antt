-- `decoded` and `Row` compute.
use Rattle.std.proofs.Common.{◌≡◌, refl, Some, None, true, lit<}
use Rattle.a64_code.specs.declared.instr.Instr.TheVariants.{Movz, Svc, Irg, Addg, St2g}
use Rattle.a64_code.specs.Row.{Row}
use Rattle.a64_code.specs.Decoded.{decoded}

movz_is_decoded : decoded 0xD2800540 ≡ Some (Movz true 0 42 (record { 0 = 0 }))
movz_is_decoded = refl

zero_is_no_word : decoded 0 ≡ None
zero_is_no_word = refl

svc_has_a_row : Row 0xD4000061 (Svc 3)
svc_has_a_row = record { within = (lit< tt, tt); spelled = refl }

irg_is_decoded : decoded 0x9ADF13E9 ≡ Some (Irg (record { 0 = 31 }) (record { 0 = 31 }) (record { 0 = 9 }))
irg_is_decoded = refl

addg_is_decoded : decoded 0x91810520 ≡ Some (Addg 1 1 (record { 0 = 9 }) (record { 0 = 0 }))
addg_is_decoded = refl

st2g_has_a_row : Row 0xD9A02BFF (St2g 2 (record { 0 = 31 }) (record { 0 = 31 }))
st2g_has_a_row = record { within = (lit< tt, (lit< tt, (lit< tt, tt))); spelled = refl }

-- A narrow move has no shift by 32.
narrow_shift_is_no_word : decoded 0x52C00000 ≡ None
narrow_shift_is_no_word = refl
