use Rattle.std.proofs.Common.{◌≡◌, take}
use Rattle.unit_object.specs.Data as spec
use Rattle.unit_object.proofs.texts.text_bytes.Given as goal

-- the texts passed are there
abbrev pub invariant-loop-text : goal.invariant-loop-text
invariant-loop-text l = l.out.items ≡ spec.text_bytes (take l.text-index l.texts)
