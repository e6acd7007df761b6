-- How many moves put a constant: one to four (this project's own).
use Rattle.std.specs.Prelude.{ℕ, zero, suc, ◌+◌, ◌≡◌, ◌/◌, ◌%◌, ◌^◌, ◌≤◌, true, List, ◌∷◌, ◌++◌, length}
use Rattle.std.proofs.Common.{arith, length-append}
use Rattle.a64_code.specs.declared.instr.Instr.{Instr}
use Rattle.a64_code.specs.declared.instr.Instr.TheVariants.{Movz}
use Rattle.a64_code.specs.declared.instr.Reg.{Reg}
use Rattle.a64_laws.specs.Constants.{kept_halfword, constant_moves}

kept_few : (hw bits : ℕ) (rd : Reg) → length (kept_halfword hw bits rd) ≤ 1
kept_few hw zero rd = omega arith
kept_few hw (suc bits) rd = omega arith

pub record FewMoves (rd : Reg) (value : ℕ) : Type 0 where
  pub some : 1 ≤ length (constant_moves rd value)
  pub most : length (constant_moves rd value) ≤ 4

pub few_moves : (rd : Reg) (value : ℕ) → FewMoves rd value
few_moves rd value = record { some = omega (arith, all); most = omega (arith, all, kept_few 1 a rd, kept_few 2 b rd, kept_few 3 c rd) }
  where
    a : ℕ
    a = value / 2 ^ 16 % 2 ^ 16

    b : ℕ
    b = value / 2 ^ 32 % 2 ^ 16

    c : ℕ
    c = value / 2 ^ 48

    one : List Instr
    one = Movz true 0 (value % 2 ^ 16) rd ∷ kept_halfword 1 a rd

    all : length (constant_moves rd value)
        ≡ suc (length (kept_halfword 1 a rd)) + length (kept_halfword 2 b rd) + length (kept_halfword 3 c rd)
    all = omega (arith, length-append (one ++ kept_halfword 2 b rd) (kept_halfword 3 c rd), length-append one (kept_halfword 2 b rd))
