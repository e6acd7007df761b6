-- A step leaves the numbers of a state in range, for the fields of a word's instruction are within their widths (this project's own).
use Rattle.std.proofs.Common.{◌≡◌, Bool, true, false, if◌then◌else◌, Option, Some, None, refl, arith}
use Rattle.std.proofs.lemmas.Option.{none-some}
use Rattle.mt_base.specs.Memory.{load}
use Rattle.a64_code.specs.declared.instr.Instr.{Instr}
use Rattle.a64_code.specs.declared.instr.Instr.TheVariants.{Movz, Movk}
use Rattle.a64_code.specs.Field.{AllFit}
use Rattle.a64_code.specs.Table.{encoding}
use Rattle.a64_code.specs.Instruction.{instruction_of}
use Rattle.a64_code.specs.State.{State}
use Rattle.a64_code.specs.Step.{is_fetchable, fetched, carried_out, step}
use Rattle.a64_laws.specs.Laws.Effects.Leaves.{OnLeads}
use Rattle.a64_laws.specs.Laws.Effects.InRange.{IsInRange}
use Rattle.a64_laws.specs.Laws.Effects.EffectRange.{MoveFits, effect-range}
use Rattle.a64_code.specs.Laws.Words.{instruction_of-Row}

fields_fit : (instr : Instr) → AllFit (encoding instr).fields → MoveFits instr
fields_fit (Movz true hw imm16 rd) fit = (omega (arith, fit.0), fit.1.0)
fields_fit (Movz false hw imm16 rd) fit = (omega (arith, fit.0), fit.1.0)
fields_fit (Movk true hw imm16 rd) fit = (omega (arith, fit.0), fit.1.0)
fields_fit (Movk false hw imm16 rd) fit = (omega (arith, fit.0), fit.1.0)
fields_fit _ fit = tt

pub fetched-fits : (s : State) (instr : Instr) → fetched s ≡ Some instr → MoveFits instr
unfolding fetched
fetched-fits s instr found = by_fetch (is_fetchable s) found
  where
    by_fetch : (can : Bool) → (if can then instruction_of (load 4 s.byte s.pc) else None) ≡ Some instr → MoveFits instr
    by_fetch true is = fields_fit instr ((instruction_of-Row (load 4 s.byte s.pc) instr).0 is).within
    by_fetch false is = absurd (none-some instr is)

pub step-range : (s : State) → IsInRange s → OnLeads (step s) IsInRange
step-range s range = by_instr (fetched s) refl
  where
    by_instr : (instr : Option Instr) → fetched s ≡ instr → OnLeads (carried_out instr s) IsInRange
    by_instr None is = tt
    by_instr (Some instr) is = effect-range instr s (fetched-fits s instr is) range
