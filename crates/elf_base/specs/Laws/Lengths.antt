-- Numbers as bytes, and records by their fields: what the crates above may cite.
use Rattle.std.proofs.Common.{◌≡◌, ℕ, ℤ, zero, suc, ◌+◌, ◌*◌, ◌/◌, ◌%◌, ◌^◌, ◌<◌, ◌≤◌, List, [], ◌∷◌, length, take, drop, get_or, refl}
use Rattle.std.proofs.Common.{sym, ap, ◌∙◌, arith, length-append, drop-cons}
use Rattle.std.proofs.Math.Nat.{div-div-eq-div-mul, pow-succ'}
use Rattle.std.specs.Int.{w64, byte_at, bytes_low_first, cast_unsigned}
use Rattle.std.specs.List.{flat_map}
use Rattle.byteorder.specs.Endian.{little_bytes, little_from, little_number}
use Rattle.byteorder.specs.Numbers.{length-bytes_low_first}
use Rattle.elf_base.specs.declared.header.Ehdr.{Ehdr}
use Rattle.elf_base.specs.declared.segment.Phdr.{Phdr}
use Rattle.elf_base.specs.declared.dynamic.Dyn.{Dyn}
use Rattle.elf_base.specs.Records.{ehdr_fields, phdr_fields, dyn_fields}
use Rattle.elf_base.specs.Field.{Field, number, signed, raw, width_of, field_bytes, bytes_of, total_width, FieldFits, FieldsFit}
use Rattle.elf_base.specs.Layout.{word_bytes}

-- each number of a list is a byte
abbrev pub IsBytes : List ℕ → Type 0
IsBytes xs = (i : ℕ) → get_or xs i 0 < 256

-- a byte above the lowest is a byte of the rest
byte_at-above : (j a m : ℕ) → a < 256 → byte_at (suc j) (a + 256 * m) ≡ byte_at j m
byte_at-above zero a m h = omega arith
byte_at-above (suc j) a m h =
    let shift : (a + 256 * m) / 256 ^ suc (suc j) ≡ (a + 256 * m) / 256 / 256 ^ suc j =
    ap (λ (p : ℕ). (a + 256 * m) / p) (pow-succ' 256 (suc j)) ∙ sym (div-div-eq-div-mul (a + 256 * m) 256 (256 ^ suc j)) in
    let low : (a + 256 * m) / 256 ≡ m = omega arith in
    ap (λ (q : ℕ). q % 256) (shift ∙ ap (λ (q : ℕ). q / 256 ^ suc j) low)

-- the bytes above the lowest are the bytes of the rest
bytes_low_first-above : (k j a m : ℕ) → a < 256 → bytes_low_first (suc j) k (a + 256 * m) ≡ bytes_low_first j k m
bytes_low_first-above zero j a m h = refl
bytes_low_first-above (suc k) j a m h = rw (byte_at-above j a m h, bytes_low_first-above k (suc j) a m h) refl

bytes-little_from : (k i : ℕ) (xs : List ℕ) → IsBytes xs → i + k ≤ length xs → bytes_low_first 0 k (little_from i k xs) ≡ take k (drop i xs)
bytes-little_from zero i xs fits h = refl
bytes-little_from (suc k) i xs fits h =
    let byte : get_or xs i 0 < 256 = fits i in
    let low : byte_at 0 (get_or xs i 0 + 256 * little_from (suc i) k xs) ≡ get_or xs i 0 = omega arith in
    let within : i < length xs = omega arith in
    let rest = bytes_low_first-above k 0 (get_or xs i 0) (little_from (suc i) k xs) byte in
    let ih = bytes-little_from k (suc i) xs fits (omega arith) in
    rw (low, rest, ih, drop-cons xs i 0) refl

-- the bytes of the number read from some bytes are these bytes
pub little_bytes-little_number : (width : ℕ) (xs : List ℕ) → IsBytes xs → width ≤ length xs
    → little_bytes width (little_number width xs) ≡ take width xs
little_bytes-little_number width xs fits h = bytes-little_from width 0 xs fits (omega arith)

-- a field has as many bytes as its width
pub length-number : (width n : ℕ) → length (field_bytes (number width n)) ≡ width
unfolding field_bytes
length-number width n = length-bytes_low_first 0 width n

pub length-signed : (z : ℤ) → length (field_bytes (signed z)) ≡ 8
unfolding field_bytes
length-signed z = length-bytes_low_first 0 8 (cast_unsigned w64 z)

pub length-raw : (width : ℕ) (bytes : List ℕ) → length bytes ≡ width → length (field_bytes (raw width bytes)) ≡ width
unfolding field_bytes
length-raw width bytes h = h

pub length-field_bytes : (f : Field) → FieldFits f → length (field_bytes f) ≡ width_of f
length-field_bytes (number width n) h = length-number width n
length-field_bytes (signed z) h = length-signed z
length-field_bytes (raw width bytes) h = length-raw width bytes h

-- a signed number stands as the unsigned number of the same bits
pub field_bytes-signed : (z : ℤ) → field_bytes (signed z) ≡ field_bytes (number 8 (cast_unsigned w64 z))
unfolding field_bytes
field_bytes-signed z = refl

-- a record has as many bytes as its fields
pub length-bytes_of : (fs : List Field) → FieldsFit fs → length (bytes_of fs) ≡ total_width fs
length-bytes_of [] h = refl
length-bytes_of (f ∷ fs) h =
    omega (arith, length-append (field_bytes f) (bytes_of fs), length-field_bytes f h.0, length-bytes_of fs h.1)

-- the lengths of the records
pub length-ehdr : (h : Ehdr) → length h.ident ≡ 16 → length (bytes_of (ehdr_fields h)) ≡ 64
length-ehdr h ident =
    let raw_length = length-raw 16 h.ident ident in
    simp (length-append, length-number, raw_length)

pub length-phdr : (p : Phdr) → length (bytes_of (phdr_fields p)) ≡ 56
length-phdr p = simp (length-append, length-number)

pub length-dyn : (d : Dyn) → length (bytes_of (dyn_fields d)) ≡ 16
length-dyn d = simp (length-append, length-signed, length-number)

-- words, one after the other
pub length-word_bytes : (w : ℕ) → length (word_bytes w) ≡ 4
length-word_bytes w = simp (length-append, length-number)

pub length-words : (ws : List ℕ) → length (flat_map word_bytes ws) ≡ 4 * length ws
length-words [] = refl
length-words (w ∷ ws) = omega (arith, length-append (word_bytes w) (flat_map word_bytes ws), length-word_bytes w, length-words ws)
