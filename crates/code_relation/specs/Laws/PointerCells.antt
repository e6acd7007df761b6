-- The cells of a pointer, where its number is stored (this project's own).
use Rattle.std.specs.Prelude.{◌≡◌, ℕ, zero, suc, ◌+◌, ◌<◌, List, [], ◌∷◌, slice_get, Some}
use Rattle.std.proofs.Common.{arith, ap, sym, subst, ◌∙◌}
use Rattle.mt_base.specs.Memory.{store}
use Rattle.a64_laws.specs.Laws.Numbers.{byte_of, store-byte}
use Rattle.block_meaning.specs.declared.cell.Cell.{Cell}
use Rattle.block_meaning.specs.declared.value.Pointer.{Pointer}
use Rattle.block_meaning.specs.Running.{State as MeaningState}
use Rattle.block_meaning.specs.Values.{part_of, pointer_cells}
use Rattle.code_relation.specs.Cells.{IsCell}
use Rattle.code_relation.specs.Numbers.{IsNumber}
use Rattle.code_relation.specs.Sites.{Given}
use Rattle.code_relation.specs.Laws.Reading.{AreCells}

-- so many parts of a pointer, from one on
abbrev parts_from : Pointer → ℕ → ℕ → List Cell
parts_from p k zero = []
parts_from p k (suc n) = part_of k p ∷ parts_from p (suc k) n

record IsPart (p : Pointer) (k n j : ℕ) (c : Cell) : Type 0 where
  within : j < n
  is : c ≡ part_of (k + j) p

part_there : (p : Pointer) (k n j : ℕ) (c : Cell) → slice_get (parts_from p k n) j ≡ Some c → IsPart p k n j c
part_there p k zero j c is = absurd (cc)
part_there p k (suc n) zero c is =
    let same : part_of k p ≡ c = cc in
    record { within = omega arith; is = sym same ∙ ap (λ m. part_of m p) (let e : k ≡ k + 0 = omega arith in e) }
part_there p k (suc n) (suc j) c is =
    let rest : IsPart p (suc k) n j c = part_there p (suc k) n j c is in
    record {
      within = omega (arith, rest.within);
      is = rest.is ∙ ap (λ m. part_of m p) (let e : suc k + j ≡ k + suc j = omega arith in e);
    }

-- A pointer's number is stored: its parts are there.
pub AreCells-pointer : (g : Given) (now : MeaningState) (byte : ℕ → ℕ) (at : ℕ) (p : Pointer) (n : ℕ) → IsNumber g now p n →
    AreCells g now (pointer_cells p) (store 8 byte at n) at
AreCells-pointer g now byte at p n number = record {
  each = λ j c is.
      let there : IsPart p 0 8 j c = part_there p 0 8 j c is in
      subst (λ cell. IsCell g now cell (store 8 byte at n (at + j))) (sym there.is) (record {
        number = n;
        is = number;
        byte_is = store-byte 8 byte at n j there.within ∙ ap (λ m. byte_of n m) (let e : j ≡ 0 + j = omega arith in e);
      });
}
