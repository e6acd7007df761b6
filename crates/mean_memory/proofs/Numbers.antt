-- The cells of a number.
use Rattle.std.proofs.Common.{◌≡◌, sym, subst, ap, ◌∙◌, arith, ℕ, suc, ◌+◌, ◌-◌, ◌/◌, ◌%◌, ◌^◌, ◌<◌, ◌≤◌, List, [], ◌∷◌, ◌++◌}
use Rattle.std.proofs.Common.{append_assoc, length, take, drop, set, lit<}
use Rattle.std.proofs.Math.Nat.{pow-le-pow_right}
use Rattle.std.proofs.lemmas.List.{take_more_set, length-set, length-take}
use Rattle.block_meaning.specs.declared.cell.Cell.{Cell}
use Rattle.block_meaning.specs.declared.cell.Cell.TheVariants.{Byte}
use Rattle.block_meaning.specs.Values.{number_cells}

-- one more byte is filled
number_step : (cells : List Cell) (i rest : ℕ) → i < length cells →
    take (i + 1) (set cells i (Byte (rest % 256))) ++ number_cells (length cells - (i + 1)) (rest / 256)
    ≡ take i cells ++ number_cells (length cells - i) rest
number_step cells i rest within =
    let more : length cells - i ≡ suc (length cells - (i + 1)) = omega arith in
    ap (λ l. l ++ number_cells (length cells - (i + 1)) (rest / 256)) (take_more_set cells i (Byte (rest % 256)) within)
    ∙ append_assoc (take i cells) (Byte (rest % 256) ∷ []) (number_cells (length cells - (i + 1)) (rest / 256))
    ∙ ap (λ k. take i cells ++ number_cells k rest) (sym more)

pub number_kept : (cells : List Cell) (i n rest : ℕ) → i < length cells →
    take i cells ++ number_cells (length cells - i) rest ≡ number_cells (length cells) n →
    take (i + 1) (set cells i (Byte (rest % 256)))
    ++ number_cells (length (set cells i (Byte (rest % 256))) - (i + 1)) (rest / 256)
    ≡ number_cells (length (set cells i (Byte (rest % 256)))) n
number_kept cells i n rest within kept = subst
    (λ k. take (i + 1) (set cells i (Byte (rest % 256))) ++ number_cells (k - (i + 1)) (rest / 256) ≡ number_cells k n)
    (sym (length-set cells i (Byte (rest % 256)))) (number_step cells i rest within ∙ kept)

-- a number of fewer bytes than 8
pub seven_bytes : (n k : ℕ) → n < 256 ^ k → k ≤ 7 → n < 256 ^ 7
seven_bytes n k below few =
    let most : 256 ^ k ≤ 256 ^ 7 = pow-le-pow_right {n = 256} (lit< tt) {i = k} {j = 7} few in
    omega arith

pub rest_few : (cells : List Cell) → length cells ≤ 8 → length (take (length cells - 1) (drop 1 cells)) ≤ 7
rest_few cells few =
    let taken = length-take (length cells - 1) (drop 1 cells) in
    omega arith
