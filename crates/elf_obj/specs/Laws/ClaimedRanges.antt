-- What bytes claim has numbers within their ranges.
use Rattle.std.proofs.Common.{ℕ, zero, suc, ◌+◌, ◌-◌, ◌/◌, ◌<◌, ◌^◌, Bool, true, false, List, [], ◌∷◌, drop, arith, Fits}
use Rattle.std.specs.Prelude.{◌==◌, if◌then◌else◌, FitsSigned}
use Rattle.std.specs.List.{AllByRecursion}
use Rattle.std.specs.Int.{w64, cast_signed}
use Rattle.std.proofs.Math.Facts.{sfits_to_z}
use Rattle.elf_base.specs.Place.{number_at}
use Rattle.elf_base.specs.Laws.Lengths.{IsBytes}
use Rattle.elf_base.specs.Laws.Reads.{IsBytes-take, IsBytes-drop}
use Rattle.elf_base.specs.Laws.Standing.{number_fits}
use Rattle.elf_obj.specs.ObjectFile.{SymbolFits, RelocFits, HasRanges}
use Rattle.elf_obj.specs.Claimed.{offset_of, size_of, content_of, name_first, after_name, names_in, names_of, symbols_at, relocs_at}
use Rattle.elf_obj.specs.Claimed.{tags_at, words_at, claimed}

words_fit : (n at : ℕ) (file : List ℕ) → IsBytes file → AllByRecursion (λ w. w < 2 ^ 32) (words_at n at file)
words_fit zero at file fits = tt
words_fit (suc n) at file fits =
    let low : number_at 4 at file < 256 ^ 4 = number_fits 4 at file fits in
    (omega (arith, low), words_fit n (at + 4) file fits)

tags_fit : (n at : ℕ) (file : List ℕ) → IsBytes file → AllByRecursion (λ t. t < 2 ^ 32) (tags_at n at file)
tags_fit zero at file fits = tt
tags_fit (suc n) at file fits =
    let low : number_at 8 (at + 8) file < 256 ^ 8 = number_fits 8 (at + 8) file fits in
    (omega (arith, low), tags_fit n (at + 24) file fits)

signed_fits : (n : ℕ) → n < 256 ^ 8 → FitsSigned w64 (cast_signed w64 n)
signed_fits n low =
    let whole : Fits w64 n = record { fits = omega (arith, low) } in
    sfits_to_z whole

relocs_fit : (n at : ℕ) (file : List ℕ) → IsBytes file → AllByRecursion RelocFits (relocs_at n at file)
relocs_fit zero at file fits = tt
relocs_fit (suc n) at file fits =
    let offset : number_at 8 at file < 256 ^ 8 = number_fits 8 at file fits in
    let info : number_at 8 (at + 8) file < 256 ^ 8 = number_fits 8 (at + 8) file fits in
    let addend : number_at 8 (at + 16) file < 256 ^ 8 = number_fits 8 (at + 16) file fits in (
      record {
        offset = omega (arith, offset);
        kind = omega (arith, info);
        symbol = omega (arith, info);
        addend = signed_fits (number_at 8 (at + 16) file) addend;
      },
      relocs_fit n (at + 24) file fits,
    )

-- ---- names

abbrev Low : List ℕ → Type 0
Low bs = AllByRecursion (λ b. b < 2 ^ 8) bs

all_low : (bs : List ℕ) → IsBytes bs → Low bs
all_low [] fits = tt
all_low (b ∷ bs) fits =
    let low : b < 256 = fits 0 in
    (omega (arith, low), all_low bs (λ i. fits (suc i)))

first_low : (bs : List ℕ) → Low bs → Low (name_first bs)
first_low [] h = tt
first_low (b ∷ bs) h = chosen (b == 0) (first_low bs h.1)
  where
    chosen : (is : Bool) → Low (name_first bs) → Low (if is then [] else b ∷ name_first bs)
    chosen true g = tt
    chosen false g = (h.0, g)

after_low : (bs : List ℕ) → Low bs → Low (after_name bs)
after_low [] h = tt
after_low (b ∷ bs) h = chosen (b == 0) (after_low bs h.1)
  where
    chosen : (is : Bool) → Low (after_name bs) → Low (if is then bs else after_name bs)
    chosen true g = h.1
    chosen false g = g

symbols_fit : (n at : ℕ) (bs file : List ℕ) → IsBytes file → Low bs → AllByRecursion SymbolFits (symbols_at (names_in n bs) at file)
symbols_fit zero at bs file fits low = tt
symbols_fit (suc n) at bs file fits low =
    let value : number_at 8 (at + 8) file < 256 ^ 8 = number_fits 8 (at + 8) file fits in
    let size : number_at 8 (at + 16) file < 256 ^ 8 = number_fits 8 (at + 16) file fits in (
      record { name = first_low bs low; value = omega (arith, value); size = omega (arith, size) },
      symbols_fit n (at + 24) (after_name bs) file fits (after_low bs low),
    )

pub size_fits : (file : List ℕ) (k : ℕ) → IsBytes file → size_of file k < 2 ^ 64
unfolding size_of
size_fits file k fits = number_fits 8 _ file fits

content_bytes : (file : List ℕ) (k : ℕ) → IsBytes file → IsBytes (content_of file k)
unfolding content_of
content_bytes file k fits = IsBytes-take (size_of file k) (drop (offset_of file k) file) (IsBytes-drop (offset_of file k) file fits)

pub claimed_ranges : (file : List ℕ) → IsBytes file → HasRanges (claimed file)
unfolding names_of
claimed_ranges file fits =
    let strings : List ℕ = drop 1 (content_of file 6) in
    record {
      words = words_fit (size_of file 1 / 4) (offset_of file 1) file fits;
      zero_bytes = size_fits file 4 fits;
      symbols = symbols_fit (size_of file 5 / 24 - 1) (offset_of file 5 + 24) strings file fits
          (all_low strings (IsBytes-drop 1 (content_of file 6) (content_bytes file 6 fits)));
      text_relocs = relocs_fit (size_of file 8 / 24) (offset_of file 8) file fits;
      init_relocs = relocs_fit (size_of file 9 / 24) (offset_of file 9) file fits;
      tagged = tags_fit (size_of file 11 / 24) (offset_of file 11) file fits;
    }
