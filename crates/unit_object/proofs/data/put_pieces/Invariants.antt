use Rattle.std.proofs.Common.{◌≡◌, drop}
use Rattle.unit_object.specs.Data.{with_pieces}
use Rattle.unit_object.proofs.data.put_pieces.Given as goal

-- what is left leads to the whole
abbrev pub invariant-loop-piece : goal.invariant-loop-piece
invariant-loop-piece l = with_pieces (drop l.piece-index l.pieces) l.out ≡ with_pieces l.pieces l.initial.out
