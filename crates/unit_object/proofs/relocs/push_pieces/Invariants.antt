use Rattle.std.proofs.Common.{◌≡◌, ◌++◌, drop}
use Rattle.std.specs.Prelude.{flat_map}
use Rattle.unit_object.specs.Numbers as number
use Rattle.unit_object.specs.Parts as spec
use Rattle.unit_object.proofs.relocs.push_pieces.Given as goal

-- those of what is left follow
abbrev pub invariant-loop-piece : goal.invariant-loop-piece
invariant-loop-piece l =
    l.made.items ++ flat_map (spec.piece_relocs (number.data_number l.numbers) l.place) (drop l.piece-index l.pieces)
    ≡ l.initial.made.items ++ flat_map (spec.piece_relocs (number.data_number l.numbers) l.place) l.pieces
