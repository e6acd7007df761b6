-- The bytes of a number in memory (this project's own).
use Rattle.std.specs.Prelude.{◌≡◌, ℕ, zero, suc, ◌+◌, ◌*◌, ◌/◌, ◌%◌, ◌^◌, ◌<◌, ◌≤◌}
use Rattle.std.proofs.Common.{arith, ap, sym, ◌∙◌, get_or, pow-suc, mul_comm}
use Rattle.std.proofs.Math.Nat.{div-div-eq-div-mul}
use Rattle.mt_base.specs.Memory.{load, bytes_of, store}
use Rattle.mt_base.specs.Laws.Memory.{load_same, load-store_same, store_bytes_inside, length-bytes_of}

-- byte k of a number
abbrev pub byte_of : ℕ → ℕ → ℕ
byte_of value k = value / 256 ^ k % 256

pub byte_of-lt : (value k : ℕ) → byte_of value k < 256
byte_of-lt value k = omega arith

-- it is the one that stands at k among the bytes of the number
pub get_or-bytes_of : (n value k : ℕ) → k < n → get_or (bytes_of n value) k 0 ≡ byte_of value k
unfolding bytes_of
get_or-bytes_of zero value k h = absurd (omega (arith, h))
get_or-bytes_of (suc n) value zero h = omega arith
get_or-bytes_of (suc n) value (suc k) h =
    get_or-bytes_of n (value / 256) k (omega (arith, h))
    ∙ ap (λ (m : ℕ). m % 256) (div-div-eq-div-mul value 256 (256 ^ k) ∙ ap (λ (p : ℕ). value / p) (mul_comm 256 (256 ^ k) ∙ sym
    (pow-suc 256 k)))

-- and k behind an address, where the number was stored there
pub store-byte : (n : ℕ) (byte : ℕ → ℕ) (at value k : ℕ) → k < n → store n byte at value (at + k) ≡ byte_of value k
store-byte n byte at value k h =
    store_bytes_inside byte at (bytes_of n value) k (omega (arith, h, length-bytes_of n value)) ∙ get_or-bytes_of n value k h

-- where each byte of a number is there, the number is loaded
pub load-bytes : (n : ℕ) (byte : ℕ → ℕ) (at value : ℕ) → ((k : ℕ) → k < n → byte (at + k) ≡ byte_of value k) →
    load n byte at ≡ value % 256 ^ n
load-bytes n byte at value each =
    load_same n byte (store n byte at value) at (λ k h. each k h ∙ sym (store-byte n byte at value k h)) ∙ load-store_same n byte at value

-- so fewer bytes of a number that was stored are its low bytes
pub load-store_low : (m n : ℕ) (byte : ℕ → ℕ) (at value : ℕ) → m ≤ n → load m (store n byte at value) at ≡ value % 256 ^ m
load-store_low m n byte at value fewer =
    load-bytes m (store n byte at value) at value (λ k h. store-byte n byte at value k (omega (arith, h, fewer)))

-- ---- the parts of a pointer

-- the highest of its eight bytes is its tag, where nothing stands above the tag, and the seven below are its address
pub pointer-tag_byte : (at tag : ℕ) → at < 2 ^ 56 → tag < 16 → byte_of (at + tag * 2 ^ 56) 7 ≡ tag
pointer-tag_byte at tag below small = omega (arith, below, small)

pub pointer-load_address : (byte : ℕ → ℕ) (place at tag : ℕ) → at < 2 ^ 56 → ((k : ℕ) → k < 7 → byte (place + k) ≡ byte_of
    (at + tag * 2 ^ 56) k) → load 7 byte place ≡ at
pointer-load_address byte place at tag below each = load-bytes 7 byte place (at + tag * 2 ^ 56) each ∙ omega (arith, below)
