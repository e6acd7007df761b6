-- Where contents and names end is behind each of them, so the parts of a valid object may be counted.
use Rattle.std.proofs.Common.{◌≡◌, ℕ, zero, suc, ◌+◌, ◌<◌, ◌≤◌, ◌^◌, List, [], ◌∷◌, length, refl, ap, arith, Some}
use Rattle.std.specs.Prelude.{slice_get}
use Rattle.mt_base.specs.Granules.{round16}
use Rattle.elf_obj.specs.declared.parts.Symbol.{Symbol}
use Rattle.elf_obj.specs.declared.section.Section.{Section}
use Rattle.elf_obj.specs.Object.{Object}
use Rattle.elf_obj.specs.Sections.{sections, sizes_of, names_end, contents_end, headers_place, file_size}
use Rattle.elf_obj.specs.ObjectFile.{IsValid}
use Rattle.elf_obj.specs.Small.{IsSmall}

pub names_grow : (place : ℕ) (ss : List Symbol) → place ≤ names_end place ss
names_grow place [] = omega arith
names_grow place (s ∷ ss) = omega (arith, names_grow (place + length s.name + 1) ss)

pub contents_grow : (at : ℕ) (ss : List Section) → at ≤ contents_end at ss
contents_grow at [] = omega arith
contents_grow at (s ∷ ss) = omega (arith, contents_grow (round16 at + s.bytes) ss)

-- each content is below where all ends
contents_reach : (at : ℕ) (ss : List Section) (i : ℕ) (s : Section) → slice_get ss i ≡ Some s → s.bytes ≤ contents_end at ss
contents_reach at [] i s h = cc
contents_reach at (x ∷ xs) zero s h =
    let same : x ≡ s = cc in
    omega (arith, ap (λ (t : Section). t.bytes) same, contents_grow (round16 at + x.bytes) xs)
contents_reach at (x ∷ xs) (suc i) s h = contents_reach (round16 at + x.bytes) xs i s h

part_low : (ss : List Section) (i : ℕ) (s : Section) → slice_get ss i ≡ Some s → round16 (contents_end 64 ss) + 768 < 2 ^ 63
    → s.bytes < 2 ^ 63
part_low ss i s h low = omega (arith, contents_reach 64 ss i s h, low)

-- ---- valid objects

pub valid_headers : (p : Object) → IsValid p → headers_place (sizes_of p) < 2 ^ 63
unfolding file_size
valid_headers p valid = omega (arith, valid.small)

pub valid_end : (p : Object) → IsValid p → round16 (contents_end 64 (sections (sizes_of p))) + 768 < 2 ^ 63
unfolding file_size headers_place
valid_end p valid = valid.small

double : (n : ℕ) → n < 2 ^ 63 → n < 2 ^ 64
double n h = omega arith

pub valid_small : (p : Object) → IsValid p → IsSmall p
valid_small p valid =
    let ss = sections (sizes_of p) in
    let low = valid_end p valid in
    record {
      words = double _ (part_low ss 0 _ refl low);
      symbols = double _ (part_low ss 4 _ refl low);
      names = double _ (part_low ss 5 _ refl low);
      text_relocs = double _ (part_low ss 7 _ refl low);
      init_relocs = double _ (part_low ss 8 _ refl low);
      tagged = double _ (part_low ss 10 _ refl low);
    }

-- the bytes that are read alone and those that are filled
pub valid_rodata : (p : Object) → IsValid p → length p.rodata < 2 ^ 64
valid_rodata p valid = double _ (part_low (sections (sizes_of p)) 1 _ refl (valid_end p valid))

pub valid_init : (p : Object) → IsValid p → length p.init_bytes < 2 ^ 64
valid_init p valid = double _ (part_low (sections (sizes_of p)) 2 _ refl (valid_end p valid))
