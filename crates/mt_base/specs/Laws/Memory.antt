-- What is loaded from memory after a store, and what holds of each byte of an access.
use Rattle.std.specs.Prelude.{◌≡◌, ◌≢◌, ℕ, zero, suc, ◌+◌, ◌-◌, ◌*◌, ◌/◌, ◌%◌, ◌^◌, ◌<◌, ◌≤◌, Bool, true, false, List, [], ◌++◌, length}
use Rattle.std.specs.Prelude.{refl}
use Rattle.std.proofs.Common.{true≢false, sym, ◌∙◌, ap, ap₂, arith, get_or, inl, inr, add-zero, mod-lt, mod-eq_of_lt, pow-suc}
use Rattle.std.proofs.Common.{length-append}
use Rattle.std.proofs.Math.Nat.{mod-one, one-le-pow, div-add-mod'}
use Rattle.std.proofs.Math.Path.{fun_ext}
use Rattle.std.proofs.lemmas.Bool.{cases_lt, cases_Bool, and_parts, or_right}
use Rattle.std.proofs.lemmas.Bool.Decides.{nat_tests}
use Rattle.std.proofs.lemmas.List.{ext_get_or, get_or_append_left, get_or-append_right}
use Rattle.mt_base.specs.Laws.Wrapping.{same_remainder}
use Rattle.mt_base.specs.Granules.{granule_of}
use Rattle.mt_base.specs.Memory.{every_byte, some_byte, bytes_at, load, bytes_of, store_bytes, store, store_tag}

-- ---- each byte of an access

moved : (at k : ℕ) → at + 1 + k ≡ at + suc k
moved at k = omega arith

pub every_byte_from : (test : ℕ → Bool) (at n : ℕ) → ((k : ℕ) → k < n → test (at + k) ≡ true) → every_byte test at n ≡ true
unfolding every_byte
every_byte_from test at zero each = refl
every_byte_from test at (suc n) each =
    rw (rw (add-zero at) at (each 0 (omega arith))) (every_byte_from test (at + 1) n
    (λ k h. ap test (moved at k) ∙ each (suc k) (omega (arith, h))))

pub every_byte_at : (test : ℕ → Bool) (at n : ℕ) → every_byte test at n ≡ true → (k : ℕ) → k < n → test (at + k) ≡ true
unfolding every_byte
every_byte_at test at zero all k h = absurd (omega (arith, h))
every_byte_at test at (suc n) all zero h = ap test (add-zero at) ∙ (and_parts (test at) (every_byte test (at + 1) n) all).0
every_byte_at test at (suc n) all (suc k) h =
    ap test (sym (moved at k)) ∙ every_byte_at test (at + 1) n (and_parts (test at) (every_byte test (at + 1) n) all).1 k
    (omega (arith, h))

-- one byte fails the test
pub every_byte_not : (test : ℕ → Bool) (at n k : ℕ) → k < n → test (at + k) ≡ false → every_byte test at n ≡ false
every_byte_not test at n k h fails = elim (cases_Bool (every_byte test at n)) [
  | inl all ↦ absurd (true≢false (sym (every_byte_at test at n all k h) ∙ fails))
  | inr not_all ↦ not_all
]

pub some_byte_from : (test : ℕ → Bool) (at n k : ℕ) → k < n → test (at + k) ≡ true → some_byte test at n ≡ true
unfolding some_byte
some_byte_from test at zero k h passes = absurd (omega (arith, h))
some_byte_from test at (suc n) zero h passes = rw (rw (add-zero at) at passes) refl
some_byte_from test at (suc n) (suc k) h passes = or_right (test at) (some_byte test (at + 1) n)
    (some_byte_from test (at + 1) n k (omega (arith, h)) (ap test (moved at k) ∙ passes))

pub some_byte_none : (test : ℕ → Bool) (at n : ℕ) → ((k : ℕ) → k < n → test (at + k) ≡ false) → some_byte test at n ≡ false
unfolding some_byte
some_byte_none test at zero none = refl
some_byte_none test at (suc n) none =
    rw (rw (add-zero at) at (none 0 (omega arith))) (some_byte_none test (at + 1) n
    (λ k h. ap test (moved at k) ∙ none (suc k) (omega (arith, h))))

-- ---- the bytes of an access

pub length-bytes_at : (n : ℕ) (byte : ℕ → ℕ) (at : ℕ) → length (bytes_at n byte at) ≡ n
unfolding bytes_at
length-bytes_at zero byte at = refl
length-bytes_at (suc n) byte at = ap suc (length-bytes_at n byte (at + 1))

pub get_or-bytes_at : (n : ℕ) (byte : ℕ → ℕ) (at k : ℕ) → k < n → get_or (bytes_at n byte at) k 0 ≡ byte (at + k)
unfolding bytes_at
get_or-bytes_at zero byte at k h = absurd (omega (arith, h))
get_or-bytes_at (suc n) byte at zero h = ap byte (sym (add-zero at))
get_or-bytes_at (suc n) byte at (suc k) h = get_or-bytes_at n byte (at + 1) k (omega (arith, h)) ∙ ap byte (moved at k)

-- a list that has them one by one has them
pub bytes_at_is : (n : ℕ) (byte : ℕ → ℕ) (at : ℕ) (xs : List ℕ) → length xs ≡ n → ((k : ℕ) → k < n → get_or xs k 0 ≡ byte (at + k))
    → xs ≡ bytes_at n byte at
bytes_at_is n byte at xs long each =
    ext_get_or 0 xs (bytes_at n byte at) (long ∙ sym (length-bytes_at n byte at))
    (λ k h. each k (omega (arith, h, long)) ∙ sym (get_or-bytes_at n byte at k (omega (arith, h, long))))

-- where the bytes are the same, the number is
pub load_same : (n : ℕ) (byte other : ℕ → ℕ) (at : ℕ) → ((k : ℕ) → k < n → byte (at + k) ≡ other (at + k))
    → load n byte at ≡ load n other at
unfolding load
load_same zero byte other at same = refl
load_same (suc n) byte other at same =
    ap₂ (λ b rest. b + 256 * rest)
    (ap byte (sym (add-zero at)) ∙ same 0 (omega arith) ∙ ap other (add-zero at))
    (load_same n byte other (at + 1) (λ k h. ap byte (moved at k) ∙ same (suc k) (omega (arith, h)) ∙ ap other (sym (moved at k))))

pub load-lt : (n : ℕ) (byte : ℕ → ℕ) (at : ℕ) → ((a : ℕ) → byte a < 256) → load n byte at < 256 ^ n
unfolding load
load-lt zero byte at small = omega arith
load-lt (suc n) byte at small = rw (pow-suc 256 n) (omega (arith, small at, load-lt n byte (at + 1) small))

pub length-bytes_of : (n value : ℕ) → length (bytes_of n value) ≡ n
unfolding bytes_of
length-bytes_of zero value = refl
length-bytes_of (suc n) value = ap suc (length-bytes_of n (value / 256))

-- ---- after a store

pub store_bytes_inside : (byte : ℕ → ℕ) (at : ℕ) (bytes : List ℕ) (k : ℕ) → k < length bytes
    → store_bytes byte at bytes (at + k) ≡ get_or bytes k 0
unfolding store_bytes
store_bytes_inside byte at bytes k h = grind (arith, nat_tests)

pub store_bytes_below : (byte : ℕ → ℕ) (at : ℕ) (bytes : List ℕ) (a : ℕ) → a < at → store_bytes byte at bytes a ≡ byte a
unfolding store_bytes
store_bytes_below byte at bytes a h = grind (arith, nat_tests)

pub store_bytes_above : (byte : ℕ → ℕ) (at : ℕ) (bytes : List ℕ) (a : ℕ) → at + length bytes ≤ a → store_bytes byte at bytes a ≡ byte a
unfolding store_bytes
store_bytes_above byte at bytes a h = grind (arith, nat_tests)

-- the same at an address
inside : (byte : ℕ → ℕ) (at : ℕ) (bytes : List ℕ) (a : ℕ) → at ≤ a → a < at + length bytes
    → store_bytes byte at bytes a ≡ get_or bytes (a - at) 0
inside byte at bytes a from below =
    ap (store_bytes byte at bytes) (let e : a ≡ at + (a - at) = omega (arith, from) in e)
    ∙ store_bytes_inside byte at bytes (a - at) (omega (arith, from, below))

-- no byte, and two stores of which the second goes on where the first ends
pub store_bytes-nil : (byte : ℕ → ℕ) (at : ℕ) → store_bytes byte at [] ≡ byte
store_bytes-nil byte at = fun_ext (λ a. elim (cases_lt a at) [
  | inl below ↦ store_bytes_below byte at [] a below
  | inr above ↦ store_bytes_above byte at [] a (omega (arith, above))
])

pub store_bytes-append : (byte : ℕ → ℕ) (at : ℕ) (xs ys : List ℕ)
    → store_bytes (store_bytes byte at xs) (at + length xs) ys ≡ store_bytes byte at (xs ++ ys)
unfolding store_bytes
store_bytes-append byte at xs ys = fun_ext (λ a. elim (cases_lt a (at + length xs)) [
  | inl front ↦ elim (cases_lt a at) [
    | inl below ↦
        store_bytes_below (store_bytes byte at xs) (at + length xs) ys a front
        ∙ store_bytes_below byte at xs a below
        ∙ sym (store_bytes_below byte at (xs ++ ys) a below)
    | inr above ↦
        store_bytes_below (store_bytes byte at xs) (at + length xs) ys a front
        ∙ inside byte at xs a above front
        ∙ sym (get_or_append_left xs ys 0 (a - at) (omega arith))
        ∙ sym (inside byte at (xs ++ ys) a above (omega (arith, front, length-append xs ys)))
  ]
  | inr back ↦ elim (cases_lt a (at + length xs + length ys)) [
    | inl within ↦
        inside (store_bytes byte at xs) (at + length xs) ys a back within
        ∙ ap (λ k. get_or ys k 0) (let e : a - (at + length xs) ≡ a - at - length xs = omega arith in e)
        ∙ sym (get_or-append_right xs ys (length xs) (a - at) 0 refl (omega (arith, back)))
        ∙ sym (inside byte at (xs ++ ys) a (omega (arith, back)) (omega (arith, within, length-append xs ys)))
    | inr past ↦
        store_bytes_above (store_bytes byte at xs) (at + length xs) ys a past
        ∙ store_bytes_above byte at xs a back
        ∙ sym (store_bytes_above byte at (xs ++ ys) a (omega (arith, past, length-append xs ys)))
  ]
])

-- the low byte and the others of the low bytes
parts : (value m : ℕ) → 0 < m → value % 256 + 256 * (value / 256 % m) ≡ value % (m * 256)
parts value m h =
    sym (mod-eq_of_lt (omega (arith, mod-lt (value / 256) h)))
    ∙ same_remainder (m * 256) (value % 256 + 256 * (value / 256 % m)) value (value / 256 / m) 0
    (omega (arith, div-add-mod' (value / 256) m))

-- a number that was stored is loaded, in as many bytes
load-list : (n : ℕ) (byte : ℕ → ℕ) (at value : ℕ) → ((k : ℕ) → k < n → byte (at + k) ≡ get_or (bytes_of n value) k 0)
    → load n byte at ≡ value % 256 ^ n
unfolding load bytes_of
load-list zero byte at value each = sym (mod-one value)
load-list (suc n) byte at value each =
    ap₂ (λ b rest. b + 256 * rest)
    (ap byte (sym (add-zero at)) ∙ each 0 (omega arith))
    (load-list n byte (at + 1) (value / 256) (λ k h. ap byte (moved at k) ∙ each (suc k) (omega (arith, h))))
    ∙ parts value (256 ^ n) (one-le-pow n 256 (omega arith))
    ∙ ap (λ m. value % m) (sym (pow-suc 256 n))

pub load-store_same : (n : ℕ) (byte : ℕ → ℕ) (at value : ℕ) → load n (store n byte at value) at ≡ value % 256 ^ n
load-store_same n byte at value =
    load-list n (store n byte at value) at value
    (λ k h. store_bytes_inside byte at (bytes_of n value) k (omega (arith, h, length-bytes_of n value)))

-- a number elsewhere stays
pub load-store_below : (m n : ℕ) (byte : ℕ → ℕ) (from at value : ℕ) → from + m ≤ at
    → load m (store n byte at value) from ≡ load m byte from
load-store_below m n byte from at value apart =
    load_same m (store n byte at value) byte from
    (λ k h. store_bytes_below byte at (bytes_of n value) (from + k) (omega (arith, h, apart)))

pub load-store_above : (m n : ℕ) (byte : ℕ → ℕ) (from at value : ℕ) → at + n ≤ from
    → load m (store n byte at value) from ≡ load m byte from
load-store_above m n byte from at value apart =
    load_same m (store n byte at value) byte from
    (λ k h. store_bytes_above byte at (bytes_of n value) (from + k) (omega (arith, h, apart, length-bytes_of n value)))

-- ---- tags

pub store_tag_same : (tags : ℕ → ℕ) (at tag granule : ℕ) → granule ≡ granule_of at → store_tag tags at tag granule ≡ tag
unfolding store_tag
store_tag_same tags at tag granule same = grind (arith, nat_tests)

pub store_tag_other : (tags : ℕ → ℕ) (at tag granule : ℕ) → granule ≢ granule_of at → store_tag tags at tag granule ≡ tags granule
unfolding store_tag
store_tag_other tags at tag granule other = grind (arith, nat_tests)
