-- Places between pieces that are in order.
use Rattle.std.proofs.Common.{ℕ, ◌+◌, ◌≤◌, ◌<◌, List, [], ◌∷◌, ◌++◌, length, inl, inr, arith}
use Rattle.elf_base.specs.Layout.{Piece, IsGap}
use Rattle.elf_base.specs.Laws.LaidOut.{AreInOrder, end_of, in_front}

ends_after : (ps : List Piece) (at : ℕ) → AreInOrder at ps → at ≤ end_of at ps
ends_after [] at o = omega arith
ends_after (p ∷ ps) at o = omega (arith, o.0, ends_after ps (p.place + length p.bytes) o.1)

-- a place behind some pieces and before the next one
pub gap_between : (front : List Piece) (next : Piece) (back : List Piece) (at i : ℕ) → AreInOrder at (front ++ next ∷ back)
    → AreInOrder at front → end_of at front ≤ i → i < next.place → IsGap i (front ++ next ∷ back)
gap_between [] next back at i o f ends before =
    (inl before, in_front back (next.place + length next.bytes) i o.1 (omega arith))
gap_between (p ∷ ps) next back at i o f ends before = (
  inr (omega (arith, ends_after ps (p.place + length p.bytes) f.1)),
  gap_between ps next back (p.place + length p.bytes) i o.1 f.1 ends before,
)

pub in_order_front : (front back : List Piece) (at : ℕ) → AreInOrder at (front ++ back) → AreInOrder at front
in_order_front [] back at o = tt
in_order_front (p ∷ ps) back at o = (o.0, in_order_front ps back (p.place + length p.bytes) o.1)
