-- Numbers of 1, 2, 4 and 8 bytes in memory are those of Rust's `from_le_bytes` and `to_le_bytes`.
use Rattle.std.specs.Prelude.{◌≡◌, ℕ, List, ◌∷◌, refl}
use Rattle.std.specs.Int.{w16, w32, w64, from_le_bytes, to_le_bytes}
use Rattle.std.proofs.Common.{ap₂, arith}
use Rattle.mt_base.specs.Memory.{load, bytes_at, bytes_of}

pub load_of_2 : (byte : ℕ → ℕ) (at : ℕ) → from_le_bytes w16 (bytes_at 2 byte at) ≡ load 2 byte at
unfolding load bytes_at
load_of_2 byte at = omega arith

pub load_of_4 : (byte : ℕ → ℕ) (at : ℕ) → from_le_bytes w32 (bytes_at 4 byte at) ≡ load 4 byte at
unfolding load bytes_at
load_of_4 byte at = omega arith

pub load_of_8 : (byte : ℕ → ℕ) (at : ℕ) → from_le_bytes w64 (bytes_at 8 byte at) ≡ load 8 byte at
unfolding load bytes_at
load_of_8 byte at = omega arith

-- two lists of bytes with the same first byte and the same rest
next : {x y : ℕ} {xs ys : List ℕ} → x ≡ y → xs ≡ ys → x ∷ xs ≡ y ∷ ys
next first rest = ap₂ (λ b bs. b ∷ bs) first rest

pub bytes_of_2 : (value : ℕ) → bytes_of 2 value ≡ to_le_bytes w16 value
unfolding bytes_of
bytes_of_2 value = refl

pub bytes_of_4 : (value : ℕ) → bytes_of 4 value ≡ to_le_bytes w32 value
unfolding bytes_of
bytes_of_4 value = next refl (next refl (next (omega arith) (next (omega arith) refl)))

pub bytes_of_8 : (value : ℕ) → bytes_of 8 value ≡ to_le_bytes w64 value
unfolding bytes_of
bytes_of_8 value =
    next refl (next refl (next (omega arith) (next (omega arith)
    (next (omega arith) (next (omega arith) (next (omega arith) (next (omega arith) refl)))))))
