use Rattle.std.proofs.Common.{◌≡◌, map, take, true}
use Rattle.slot_safety.specs.Kinds.{put}
use Rattle.mean_link.specs.Uses.{joined, piece_uses}
use Rattle.mean_link.proofs.statements.use_pieces.Given as goal

-- those passed are marked
abbrev pub invariant-loop-piece : goal.invariant-loop-piece
invariant-loop-piece l =
    l.used ≡ put true l.initial.used (joined (map piece_uses (take l.piece-index l.pieces)))
