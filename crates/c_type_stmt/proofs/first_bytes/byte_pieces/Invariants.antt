use Rattle.std.proofs.Common.{◌≡◌, take}
use Rattle.c_type_stmt.specs.Initials.{byte_pieces}
use Rattle.c_type_stmt.proofs.first_bytes.byte_pieces.Given as goal

-- the bytes passed have their pieces
abbrev pub invariant-loop-i : goal.invariant-loop-i
invariant-loop-i l = l.pieces ≡ byte_pieces 0 (take l.i l.kept)
