-- The code of a constant as instructions (this project's own): its words are those of `movz w0`, `movk w0` with its
-- halfword at bit 16, and `svc #3`.
use Rattle.std.proofs.Common.{◌≡◌, ℕ, ◌/◌, ◌%◌, ◌<◌, ◌≤◌, false, [], ◌∷◌, refl, arith}
use Rattle.std.proofs.lemmas.Bool.{lt-ltb, le-ltb}
use Rattle.a64_code.specs.declared.instr.Instr.TheVariants.{Movz, Movk, Svc}
use Rattle.a64_code.specs.declared.instr.Reg.{Reg}
use Rattle.a64_code.specs.Row.{Row}
use Rattle.elf_image.specs.Constant.{constant_code, movz_word, movk_word, svc_word}

-- register 0, which holds the status at the end
abbrev pub status_register : Reg
status_register = record { 0 = 0 }

pub movz_row : (low : ℕ) → low < 65536 → Row (movz_word low) (Movz false 0 low status_register)
movz_row low within = record { within = (omega arith, (omega arith, (omega arith, tt))); spelled = omega arith }

pub movk_row : (high : ℕ) → high < 65536 → Row (movk_word high) (Movk false 1 high status_register)
movk_row high within = record { within = (omega arith, (omega arith, (omega arith, tt))); spelled = omega arith }

pub svc_row : Row svc_word (Svc 3)
svc_row = record { within = (omega arith, tt); spelled = refl }

-- the code of a constant whose upper half is zero, and of any other
pub constant_code-short : (n : ℕ) → n ≤ 65535 → constant_code n ≡ movz_word (n % 65536) ∷ svc_word ∷ []
constant_code-short n short = rw (le-ltb 65535 n short) refl

pub constant_code-long : (n : ℕ) → 65535 < n → constant_code n ≡ movz_word (n % 65536) ∷ movk_word (n / 65536) ∷ svc_word ∷ []
constant_code-long n long = rw (lt-ltb 65535 n long) refl
