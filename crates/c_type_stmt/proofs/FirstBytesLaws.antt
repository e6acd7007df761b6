-- The pieces of an object's first bytes, one more at the end.
use Rattle.std.proofs.Common.{◌≡◌, ◌∙◌, ap, ℕ, ◌+◌, ◌<◌, arith, List, [], ◌∷◌, ◌++◌, map, take, get_or, length}
use Rattle.std.proofs.lemmas.List.{take_more, map-append, length-take-le}
use Rattle.c_type_base.specs.declared.typed.InitPiece.{InitPiece}
use Rattle.c_type_base.specs.declared.typed.InitValue.TheVariants as initial_value
use Rattle.c_type_stmt.specs.Initials.{piece, moved_piece, byte_pieces}

abbrev byte_piece : ℕ → ℕ → InitPiece
byte_piece offset b = piece offset (initial_value.Number b 1)

byte_pieces_more : (offset : ℕ) (bs : List ℕ) (b : ℕ) → byte_pieces offset (bs ++ b ∷ []) ≡
    byte_pieces offset bs ++ byte_piece (offset + length bs) b ∷ []
byte_pieces_more offset [] b = ap (λ n. byte_piece n b ∷ []) (omega arith)
byte_pieces_more offset (x ∷ bs) b =
    ap (λ ps. byte_piece offset x ∷ ps)
    (byte_pieces_more (offset + 1) bs b ∙ ap (λ n. byte_pieces (offset + 1) bs ++ byte_piece n b ∷ []) (omega arith))

length_take : (bs : List ℕ) (n : ℕ) → n < length bs → length (take n bs) ≡ n
length_take bs n below = length-take-le n bs (omega arith)

from_zero : (m n : ℕ) → m ≡ n → 0 + m ≡ n
from_zero m n is = omega (arith, is)

pub bytes_next : (bs : List ℕ) (n d : ℕ) → n < length bs → byte_pieces 0 (take (n + 1) bs) ≡
    byte_pieces 0 (take n bs) ++ byte_piece n (get_or bs n d) ∷ []
bytes_next bs n d below =
    ap (byte_pieces 0) (take_more bs n d below) ∙ byte_pieces_more 0 (take n bs) (get_or bs n d)
    ∙ ap (λ m. byte_pieces 0 (take n bs) ++ byte_piece m (get_or bs n d) ∷ []) (from_zero (length (take n bs)) n (length_take bs n below))

pub moved_next : (by : ℕ) (ps : List InitPiece) (n : ℕ) (d : InitPiece) → n < length ps → map (moved_piece by) (take (n + 1) ps) ≡
    map (moved_piece by) (take n ps) ++ moved_piece by (get_or ps n d) ∷ []
moved_next by ps n d below =
    ap (map (moved_piece by)) (take_more ps n d below) ∙ map-append (moved_piece by) (take n ps) (get_or ps n d ∷ [])
