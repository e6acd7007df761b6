-- What holds of the image of a constant: it is valid, its code begins the page at 0x1000, and its numbers are within their ranges.
use Rattle.std.proofs.Common.{◌≡◌, ℕ, ◌/◌, ◌%◌, ◌^◌, ◌≤◌, ◌<◌, List, [], ◌∷◌, length, refl, arith, Bool, true, false, cond, ltb}
use Rattle.std.specs.List.{AllByRecursion}
use Rattle.elf_image.specs.Constant.{movz_word, movk_word, svc_word, constant_code, int_max, constant_image}
use Rattle.elf_image.specs.ImageFile.{ImageFile}
use Rattle.elf_image.specs.Places.{IsValid, descriptors_place, rodata_place, rodata_end, code_place, code_end}
use Rattle.elf_image.specs.Places.{dynamic_place, dynamic_end, filled_place, file_end, memory_end}
use Rattle.elf_image.specs.Ranges.{HasRanges, IsFileOf}

code_length : (b : Bool) (xs ys : List ℕ) → length xs ≤ 3 → length ys ≤ 3 → length (cond b xs ys) ≤ 3
code_length true xs ys hx hy = hx
code_length false xs ys hx hy = hy

length-constant_code : (n : ℕ) → length (constant_code n) ≤ 3
length-constant_code n = code_length (ltb 65535 n) _ _ (omega arith) (omega arith)

constant_memory : (n : ℕ) → memory_end (constant_image n) ≤ 268435456
unfolding descriptors_place rodata_place rodata_end code_place code_end dynamic_place dynamic_end filled_place file_end memory_end
constant_memory n = omega (arith, length-constant_code n)

-- it has a file
pub constant_valid : (n : ℕ) → IsValid (constant_image n)
constant_valid n = record { filled = refl; zero_bytes = refl; memory = constant_memory n }

-- its code begins the first page after the tables
pub constant_place : (n : ℕ) → code_place (constant_image n) ≡ 4096
unfolding descriptors_place rodata_place rodata_end code_place
constant_place n = refl

code_ranges : (b : Bool) (xs ys : List ℕ) → AllByRecursion (λ w. w < 2 ^ 32) xs → AllByRecursion (λ w. w < 2 ^ 32) ys
    → AllByRecursion (λ w. w < 2 ^ 32) (cond b xs ys)
code_ranges true xs ys hx hy = hx
code_ranges false xs ys hx hy = hy

constant_ranges : (n : ℕ) → n ≤ int_max → HasRanges (constant_image n)
constant_ranges n within = record {
  entry = omega arith;
  relocs = tt;
  words = code_ranges (ltb 65535 n) (movz_word (n % 65536) ∷ movk_word (n / 65536) ∷ svc_word ∷ [])
      (movz_word (n % 65536) ∷ svc_word ∷ []) (omega arith, (omega arith, (omega arith, tt))) (omega arith, (omega arith, tt));
}

-- its file is that of no other image
pub constant_is_file : (n : ℕ) (file : List ℕ) → n ≤ int_max → ImageFile (constant_image n) file → IsFileOf (constant_image n) file
constant_is_file n file within is = record { is_file = is; ranges = constant_ranges n within }
