-- Loads and stores of one register and of a pair (`Mem[]` of the Arm ARM). They take `sp`, which says of a field whether
-- the number 31 is the stack pointer there; an access whose base is the stack pointer is not judged by its tag.
use Rattle.std.specs.Prelude.{ℕ, ◌+◌, ◌*◌, Bool, true, false, not, if◌then◌else◌}
use Rattle.mt_base.specs.Wrapping.{wrapping_add}
use Rattle.mt_base.specs.Extension.{sign_extend}
use Rattle.mt_base.specs.Memory.{load}
use Rattle.mt_base.specs.Pointers.{address_of}
use Rattle.a64_code.specs.declared.instr.Reg.{Reg}
use Rattle.a64_code.specs.declared.register.RegisterField.{RegisterField}
use Rattle.a64_code.specs.declared.register.RegisterField.TheVariants.{Rn, Rt, Rt2}
use Rattle.a64_code.specs.State.{State, operand, is_sp}
use Rattle.a64_code.specs.Access.{single, pair}
use Rattle.a64_code.specs.Shape.{Shape, Loads, LoadsPair, Stores, StoresPair}
use Rattle.a64_code.specs.Results.{result_of}

-- the bytes of a register of 64 bits, or of 32
abbrev pub register_bytes : Bool → ℕ
register_bytes wide = if wide then 8 else 4

-- an unsigned offset in units of so many bytes, behind the base
abbrev pub behind : (RegisterField → Bool) → ℕ → ℕ → Reg → State → ℕ
behind sp unit offset rn s = wrapping_add 64 (operand (sp Rn) s rn) (offset * unit)

-- a signed offset of so many bits in such units, behind or before the base
abbrev pub beside : (RegisterField → Bool) → ℕ → ℕ → ℕ → Reg → State → ℕ
beside sp bits unit offset rn s = wrapping_add 64 (operand (sp Rn) s rn) (unit * sign_extend bits 64 offset)

abbrev pub is_checked : (RegisterField → Bool) → Reg → Bool
is_checked sp rn = not (is_sp (sp Rn) rn)

-- Rt becomes the number of so many bytes there, once it is extended
abbrev pub loads : (RegisterField → Bool) → ℕ → (ℕ → ℕ) → ℕ → Reg → Reg → State → Shape
loads sp bytes extended imm12 rn rt s =
    let pointer = behind sp bytes imm12 rn s in
    Loads (single bytes pointer false (is_checked sp rn)) (result_of (sp Rt) true rt (extended (load bytes s.byte (address_of pointer))))

-- the low bytes of Rt go there
abbrev pub stores : (RegisterField → Bool) → ℕ → ℕ → Reg → Reg → State → Shape
stores sp bytes imm12 rn rt s = Stores bytes (behind sp bytes imm12 rn s) (is_checked sp rn) (operand (sp Rt) s rt)

-- Rt becomes the first number of 8 bytes and then Rt2 the second, which is what stays where both are one register (the Arm
-- ARM leaves that open)
abbrev pub loads_pair : (RegisterField → Bool) → ℕ → Reg → Reg → Reg → State → Shape
loads_pair sp imm7 rt2 rn rt s =
    let pointer = beside sp 7 8 imm7 rn s in
    LoadsPair (pair pointer false (is_checked sp rn)) (result_of (sp Rt) true rt (load 8 s.byte (address_of pointer)))
    (result_of (sp Rt2) true rt2 (load 8 s.byte (address_of pointer + 8)))

-- Rt goes to the first 8 bytes and Rt2 to the second
abbrev pub stores_pair : (RegisterField → Bool) → ℕ → Reg → Reg → Reg → State → Shape
stores_pair sp imm7 rt2 rn rt s =
    StoresPair (beside sp 7 8 imm7 rn s) (is_checked sp rn) (operand (sp Rt) s rt) (operand (sp Rt2) s rt2)
