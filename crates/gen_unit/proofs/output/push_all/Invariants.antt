use Rattle.std.proofs.Common.{map, take}
use Rattle.gen_unit.specs.Appended.{Gains}
use Rattle.gen_unit.specs.Words.{whole}
use Rattle.gen_unit.proofs.output.push_all.Given as goal

-- those so far are appended
abbrev pub invariant-loop-instr : goal.invariant-loop-instr
invariant-loop-instr l = Gains l.initial.out (map whole (take l.instr-index l.instrs)) l.out
