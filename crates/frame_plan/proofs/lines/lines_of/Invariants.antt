use Rattle.std.proofs.Common.{◌≡◌, flat_map, take}
use Rattle.std.specs.Prelude.{All}
use Rattle.frame_plan.specs.Lines.{lines_of}
use Rattle.frame_plan.specs.Refusal.{Fits}
use Rattle.frame_plan.proofs.lines.lines_of.Given as goal

-- those so far fit, and these are their lines
abbrev pub invariant-loop-function : goal.invariant-loop-function
invariant-loop-function l = record {
  fit : All (Fits l.structs) (take l.function-index l.functions);
  text : l.text.items ≡ flat_map (lines_of l.structs) (take l.function-index l.functions);
}
