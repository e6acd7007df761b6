use Rattle.std.proofs.Common.{◌≡◌, map, take}
use Rattle.c_type_stmt.specs.Initials.{moved_piece}
use Rattle.c_type_stmt.proofs.first_bytes.moved_pieces.Given as goal

-- the pieces passed are moved
abbrev pub invariant-loop-piece : goal.invariant-loop-piece
invariant-loop-piece l = l.moved ≡ map (moved_piece l.by) (take l.piece-index l.pieces)
