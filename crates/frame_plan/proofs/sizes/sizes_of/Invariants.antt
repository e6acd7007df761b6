use Rattle.std.proofs.Common.{◌≡◌, map, take}
use Rattle.std.specs.Prelude.{All}
use Rattle.frame_plan.specs.Refusal.{Fits, frame_bytes}
use Rattle.frame_plan.proofs.sizes.sizes_of.Given as goal

-- those so far fit, and these are their bytes
abbrev pub invariant-loop-function : goal.invariant-loop-function
invariant-loop-function l = record {
  fit : All (Fits l.structs) (take l.function-index l.functions);
  is : l.sizes.items ≡ map (frame_bytes l.structs) (take l.function-index l.functions);
}
