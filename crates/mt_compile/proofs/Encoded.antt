-- The words of the instructions of a constant's code.
use Rattle.std.proofs.Common.{◌≡◌, ℕ, ◌+◌, false, Option, Some, None, IfNone, IsSome, refl, arith}
use Rattle.a64_code.specs.declared.instr.Instr.{Instr}
use Rattle.a64_code.specs.declared.instr.Instr.TheVariants.{Movz, Movk, Svc}
use Rattle.a64_code.specs.Field.{AllFit, placed}
use Rattle.a64_code.specs.Row.{Row}
use Rattle.a64_code.specs.Table.{encoding}
use Rattle.elf_image.specs.Constant.{movz_word, movk_word, svc_word}
use Rattle.mt_compile.specs.Laws.CodeRows.{status_register}

-- an instruction whose fields are in range has a word
pub has_word : (instr : Instr) (word : Option ℕ) → AllFit (encoding instr).fields → IfNone word ((w : ℕ) → ¬ Row w instr) → IsSome word
has_word instr None within none =
    absurd (none ((encoding instr).base + placed (encoding instr).fields) (record { within = within; spelled = refl }))
has_word instr (Some w) within none = refl

-- the words of the rows are the only ones
pub movz_word-is : (word low : ℕ) → Row word (Movz false 0 low status_register) → word ≡ movz_word low
movz_word-is word low row = omega (arith, row.spelled)

pub movk_word-is : (word high : ℕ) → Row word (Movk false 1 high status_register) → word ≡ movk_word high
movk_word-is word high row = omega (arith, row.spelled)

pub svc_word-is : (word : ℕ) → Row word (Svc 3) → word ≡ svc_word
svc_word-is word row = row.spelled
