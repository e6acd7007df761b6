-- The faults at a place by what the scanner knows of the line before it.
use Rattle.std.proofs.Common.{◌≡◌, ℕ, List, get_or, false}
use Rattle.c_lex.specs.declared.fault.Fault.{Fault}
use Rattle.c_lex.specs.declared.fault.Fault.TheVariants.{BadByte, BadDirective}
use Rattle.c_lex.specs.declared.reading.Line.{Line}
use Rattle.c_lex.specs.declared.reading.Line.TheVariants.{Clear, Spaced, Used}
use Rattle.c_lex.specs.Directive.{is_include_line}
use Rattle.c_lex.specs.Laws.ScannedFaults.{FaultAt}

pub data FaultOn (line : Line) (rest : List ℕ) : Fault → ℕ → Type 0 where
  by_bytes : {what : Fault} {offset : ℕ} → FaultAt rest what offset → FaultOn line rest what offset
  not_directive : get_or rest 0 0 ≡ 35 → line ≡ Clear → is_include_line rest ≡ false → FaultOn line rest BadDirective 0
  spaced_directive : get_or rest 0 0 ≡ 35 → line ≡ Spaced → FaultOn line rest BadDirective 0
  late_hash : get_or rest 0 0 ≡ 35 → line ≡ Used → FaultOn line rest BadByte 0
