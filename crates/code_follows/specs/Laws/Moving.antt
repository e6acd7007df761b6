-- A pointer some bytes on, and its number (this project's own).
use Rattle.std.specs.Prelude.{◌≡◌, ℕ, ◌+◌, ◌*◌, ◌/◌, ◌%◌, ◌^◌}
use Rattle.std.proofs.Common.{arith, sym, subst, ap, ◌∙◌}
use Rattle.std.proofs.Math.Nat.{mul-add}
use Rattle.block_meaning.specs.Blocks.{moved}
use Rattle.block_meaning.specs.Running.{State as MeaningState}
use Rattle.block_meaning.specs.declared.value.Pointer.{Pointer}
use Rattle.code_relation.specs.Numbers.{number_at, IsNumber}
use Rattle.code_relation.specs.Sites.{Site, Given, site_of}

at_moved : (at : Site) (offset bytes n : ℕ) → n ≡ number_at at offset →
    (n + bytes) % 2 ^ 64 ≡ number_at at ((offset + bytes) % 2 ^ 64)
at_moved at offset bytes n is = omega (arith, is)

pub IsNumber-moved : {g : Given} {now : MeaningState} {p : Pointer} {n : ℕ} (bytes : ℕ) → IsNumber g now p n →
    IsNumber g now (moved p bytes) ((n + bytes) % 2 ^ 64)
IsNumber-moved {g} {now} {p} {n} bytes is = record {
  block = is.block;
  is = is.is;
  fits = omega arith;
  number = at_moved (site_of g now p.block is.block) p.offset bytes n is.number;
}

-- by so many objects of a size, of which a register has the low bits
pub by_objects : (n count bytes : ℕ) → (n + count * (bytes % 2 ^ 64)) % 2 ^ 64 ≡ (n + count * bytes) % 2 ^ 64
by_objects n count bytes =
    let whole : count * bytes ≡ count * (bytes % 2 ^ 64) + count * (2 ^ 64 * (bytes / 2 ^ 64)) =
    ap (λ b. count * b) (let e : bytes ≡ bytes % 2 ^ 64 + 2 ^ 64 * (bytes / 2 ^ 64) = omega arith in e)
    ∙ mul-add count (bytes % 2 ^ 64) (2 ^ 64 * (bytes / 2 ^ 64)) in
    omega (arith, whole)

-- so many objects of a size on
pub moves_on : {g : Given} {now : MeaningState} {p : Pointer} {n : ℕ} (count bytes : ℕ) → IsNumber g now p n →
    IsNumber g now (moved p (count * bytes)) ((n + count * (bytes % 2 ^ 64)) % 2 ^ 64)
moves_on {g} {now} {p} {n} count bytes is =
    subst (λ (m : ℕ). IsNumber g now (moved p (count * bytes)) m) (sym (by_objects n count bytes)) (IsNumber-moved (count * bytes) is)
