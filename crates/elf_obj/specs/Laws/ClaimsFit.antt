-- What bytes claim may be counted: it is no longer than they are.
use Rattle.std.proofs.Common.{◌≡◌, ℕ, zero, suc, ◌+◌, ◌-◌, ◌*◌, ◌/◌, ◌<◌, ◌≤◌, ◌^◌, Bool, true, false, List, [], ◌∷◌, length, drop, refl}
use Rattle.std.proofs.Common.{◌∙◌, arith, length-take, length-drop}
use Rattle.std.specs.Prelude.{if◌then◌else◌, ◌==◌}
use Rattle.elf_base.specs.Place.{number_at}
use Rattle.elf_base.specs.Laws.Lengths.{IsBytes}
use Rattle.elf_base.specs.Laws.Standing.{number_fits}
use Rattle.elf_obj.specs.Sections.{names_end}
use Rattle.elf_obj.specs.Small.{IsSmall}
use Rattle.elf_obj.specs.ObjectFile.{AllCounted, AllNumbered}
use Rattle.elf_obj.specs.Claimed.{offset_of, size_of, content_of, each_from, name_first, after_name, names_in, names_of, symbols_at}
use Rattle.elf_obj.specs.Claimed.{reloc_at, relocs_at, tag_at, tags_at, claimed}
use Rattle.elf_obj.specs.Laws.Held.{AreHeld}

pub length-each : {A : Type 0} (read : ℕ → A) (width count at : ℕ) → length (each_from read width count at) ≡ count
length-each read width zero at = refl
length-each read width (suc count) at = omega (arith, length-each read width count (at + width))

pub length-names_in : (count : ℕ) (bs : List ℕ) → length (names_in count bs) ≡ count
length-names_in zero bs = refl
length-names_in (suc count) bs = omega (arith, length-names_in count (after_name bs))

pub length-symbols_at : (names : List (List ℕ)) (at : ℕ) (file : List ℕ) → length (symbols_at names at file) ≡ length names
length-symbols_at [] at file = refl
length-symbols_at (n ∷ ns) at file = omega (arith, length-symbols_at ns (at + 24) file)

-- a name and what is behind it are no longer than the bytes
name-shorter : (bs : List ℕ) → length (name_first bs) + length (after_name bs) ≤ length bs
name-shorter [] = omega arith
name-shorter (b ∷ bs) = shorter (b == 0) b bs (name-shorter bs)
  where
    shorter : (is : Bool) (b : ℕ) (bs : List ℕ) → length (name_first bs) + length (after_name bs) ≤ length bs
        → length (if is then [] else b ∷ name_first bs) + length (if is then bs else after_name bs) ≤ length (b ∷ bs)
    shorter true b bs h = omega arith
    shorter false b bs h = omega arith

names-low : (count place at : ℕ) (bs file : List ℕ) → names_end place (symbols_at (names_in count bs) at file) ≤ place + length bs + count
names-low zero place at bs file = omega arith
names-low (suc count) place at bs file =
    omega (arith, names-low count (place + length (name_first bs) + 1) (at + 24) (after_name bs) file, name-shorter bs)

counted : (count at : ℕ) (file : List ℕ) → IsBytes file → AllCounted (relocs_at count at file)
counted zero at file fits = tt
counted (suc count) at file fits =
    let low : number_at 8 (at + 8) file < 256 ^ 8 = number_fits 8 (at + 8) file fits in
    (omega (arith, low), counted count (at + 24) file fits)

numbered : (count at : ℕ) (file : List ℕ) → IsBytes file → AllNumbered (tags_at count at file)
numbered zero at file fits = tt
numbered (suc count) at file fits =
    let low : number_at 8 (at + 8) file < 256 ^ 8 = number_fits 8 (at + 8) file fits in
    (omega (arith, low), numbered count (at + 24) file fits)

-- what the judges ask of the parts that are claimed
pub record ClaimsFit (file : List ℕ) : Type 0 where
  pub small : IsSmall (claimed file)
  pub symbols : 1 ≤ length (claimed file).symbols → offset_of file 5 + 24 + 24 * length (claimed file).symbols ≤ length file
  pub text_relocs : offset_of file 8 + 24 * length (claimed file).text_relocs ≤ length file
  pub init_relocs : offset_of file 9 + 24 * length (claimed file).init_relocs ≤ length file
  pub tagged : offset_of file 11 + 24 * length (claimed file).tagged ≤ length file
  pub text_counted : AllCounted (claimed file).text_relocs
  pub init_counted : AllCounted (claimed file).init_relocs
  pub numbered : AllNumbered (claimed file).tagged

pub claims_fit : (file : List ℕ) → IsBytes file → length file < 2 ^ 63 → AreHeld file → ClaimsFit file
unfolding names_of content_of
claims_fit file fits short h =
    let n = size_of file 5 / 24 - 1 in
    let strings = drop 1 (content_of file 6) in
    let symbols : length (claimed file).symbols ≡ n =
    length-symbols_at (names_of file) (offset_of file 5 + 24) file ∙ length-names_in n strings in
    let words = length-each (λ (place : ℕ). number_at 4 place file) 4 (size_of file 1 / 4) (offset_of file 1) in
    let text = length-each (λ (place : ℕ). reloc_at place file) 24 (size_of file 8 / 24) (offset_of file 8) in
    let init = length-each (λ (place : ℕ). reloc_at place file) 24 (size_of file 9 / 24) (offset_of file 9) in
    let tags = length-each (λ (place : ℕ). tag_at place file) 24 (size_of file 11 / 24) (offset_of file 11) in
    let long : length strings ≤ length file = omega (
      arith,
      length-drop 1 (content_of file 6),
      length-take (size_of file 6) (drop (offset_of file 6) file),
      length-drop (offset_of file 6) file,
    ) in
    let names = names-low n 1 (offset_of file 5 + 24) strings file in
    record {
      small = record {
        words = omega (arith, words, h.text, short);
        symbols = omega (arith, symbols, h.symbols, short);
        names = omega (arith, names, long, h.symbols, short);
        text_relocs = omega (arith, text, h.text_relocs, short);
        init_relocs = omega (arith, init, h.init_relocs, short);
        tagged = omega (arith, tags, h.tagged, short);
      };
      symbols = λ some. omega (arith, some, symbols, h.symbols);
      text_relocs = omega (arith, text, h.text_relocs);
      init_relocs = omega (arith, init, h.init_relocs);
      tagged = omega (arith, tags, h.tagged);
      text_counted = counted (size_of file 8 / 24) (offset_of file 8) file fits;
      init_counted = counted (size_of file 9 / 24) (offset_of file 9) file fits;
      numbered = numbered (size_of file 11 / 24) (offset_of file 11) file fits;
    }
