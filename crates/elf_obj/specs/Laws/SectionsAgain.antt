-- In the file of an object each section is as it should be.
use Rattle.std.proofs.Common.{◌≡◌, ℕ, ◌+◌, ◌*◌, ◌<◌, ◌≤◌, ◌^◌, Bool, true, List, [], ◌∷◌, ◌++◌, length, ap, subst, arith}
use Rattle.std.specs.List.{flat_map}
use Rattle.mt_base.specs.Granules.{round16}
use Rattle.elf_base.specs.Field.{StandsAt}
use Rattle.elf_base.specs.Layout.{Piece}
use Rattle.elf_base.specs.Records.{shdr_fields}
use Rattle.elf_base.specs.Laws.Tests.{both_hold, lt_is}
use Rattle.elf_base.specs.Laws.Conditions.{EachHolds}
use Rattle.elf_base.specs.Zeros.{is_zero_between}
use Rattle.elf_obj.specs.declared.section.Section.{Section}
use Rattle.elf_obj.specs.Sections.{contents_end, header_of, headers_of}
use Rattle.elf_obj.specs.Contents.{content_pieces, header_bytes}
use Rattle.elf_obj.specs.Claimed.{headers_at, offset_of, size_of}
use Rattle.elf_obj.specs.ObjectFault.{is_section, section_conditions}
use Rattle.elf_obj.specs.Laws.Lengths.{AreAsLong, length-header}
use Rattle.elf_obj.specs.Laws.Fields.{is-stands}
use Rattle.elf_obj.specs.Laws.SectionsHold.{SectionsHold, AllTrue, section_holds}
use Rattle.elf_obj.specs.Laws.ZerosBetween.{ZerosBetween}
use Rattle.elf_obj.specs.Laws.ReadAgain.{apart}
use Rattle.elf_obj.specs.Laws.Ends.{contents_grow}

-- the sizes of sections fit their fields
abbrev pub SectionsFit : List Section → Type 0
SectionsFit [] = Unit {0}
SectionsFit (s ∷ ss) = ((s.size < 2 ^ 64) × (s.info < 2 ^ 32)) × SectionsFit ss

-- each section is as it should be
abbrev pub AreGood : List ℕ → ℕ → ℕ → List Section → Type 0
AreGood file at k [] = Unit {0}
AreGood file at k (s ∷ ss) = (is_section file at k s ≡ true) × AreGood file (round16 at + s.bytes) (k + 1) ss

is_good : (file : List ℕ) (at k : ℕ) (s : Section) → s.info < 2 ^ 32
    → StandsAt file (headers_at file + 64 * k) (header_bytes (header_of s (round16 at)))
    → is_zero_between file at (round16 at) ≡ true → is_section file at k s ≡ true
unfolding is_section
is_good file at k s low stand gap =
    both_hold _ _ (both_hold _ _ (lt_is s.info 4294967296 (omega (arith, low)))
    (is-stands (shdr_fields (header_of s (round16 at))) (headers_at file + 64 * k) file stand)) gap

pub are_good : (file : List ℕ) (at k : ℕ) (ss : List Section) (cs : List (List ℕ)) (last : Piece) → SectionsFit ss → AreAsLong ss cs
    → StandsAt file (headers_at file + 64 * k) (flat_map header_bytes (headers_of at ss))
    → ZerosBetween file at (content_pieces at ss cs ++ last ∷ [])
    → AreGood file at k ss
are_good file at k [] cs last fit long stand gaps = tt
are_good file at k (s ∷ ss) [] last fit long stand gaps = absurd long
are_good file at k (s ∷ ss) (c ∷ cs) last fit long stand gaps =
    let next : ℕ = round16 at + s.bytes in
    let first : List ℕ = header_bytes (header_of s (round16 at)) in
    let others : List ℕ = flat_map header_bytes (headers_of next ss) in
    let parts = apart file (headers_at file + 64 * k) 64 first others (length-header (header_of s (round16 at))) stand in
    let place : headers_at file + 64 * k + 64 ≡ headers_at file + 64 * (k + 1) = omega arith in
    let end : round16 at + length c ≡ next = ap (λ (n : ℕ). round16 at + n) long.0 in (
      is_good file at k s fit.0.1 parts.0 gaps.0,
      are_good file next (k + 1) ss cs last fit.1 long.1 (subst (λ (n : ℕ). StandsAt file n others) place parts.1)
          (subst (λ (n : ℕ). ZerosBetween file n (content_pieces next ss cs ++ last ∷ [])) end gaps.1),
    )

-- zeros stand behind the last of them
pub last_gap : (file : List ℕ) (at : ℕ) (ss : List Section) (cs : List (List ℕ)) (last : Piece) → AreAsLong ss cs
    → ZerosBetween file at (content_pieces at ss cs ++ last ∷ []) → is_zero_between file (contents_end at ss) last.place ≡ true
last_gap file at [] cs last long gaps = gaps.0
last_gap file at (s ∷ ss) [] last long gaps = absurd long
last_gap file at (s ∷ ss) (c ∷ cs) last long gaps =
    let next : ℕ = round16 at + s.bytes in
    let end : round16 at + length c ≡ next = ap (λ (n : ℕ). round16 at + n) long.0 in
    last_gap file next ss cs last long.1 (subst (λ (n : ℕ). ZerosBetween file n (content_pieces next ss cs ++ last ∷ [])) end gaps.1)

pub good_hold : (file : List ℕ) (at k : ℕ) (ss : List Section) → SectionsFit ss → contents_end at ss ≤ 2 ^ 63 → AreGood file at k ss
    → SectionsHold file at k ss
good_hold file at k [] fit low good = tt
good_hold file at k (s ∷ ss) fit low good =
    let start : at ≤ 2 ^ 63 = omega (arith, contents_grow at (s ∷ ss), low) in
    (section_holds file at k s good.0 start fit.0.0, good_hold file (round16 at + s.bytes) (k + 1) ss fit.1 low good.1)

pub sections_good : (file : List ℕ) (at k : ℕ) (ss : List Section) (fs : List Bool) → AreGood file at k ss → AllTrue fs
    → EachHolds (section_conditions file at k ss fs)
sections_good file at k [] fs good fixed = tt
sections_good file at k (s ∷ ss) [] good fixed = tt
sections_good file at k (s ∷ ss) (f ∷ fs) good fixed =
    (both_hold (is_section file at k s) f good.0 fixed.0, sections_good file (round16 at + s.bytes) (k + 1) ss fs good.1 fixed.1)

-- the contents that have bytes do not go past the end
abbrev pub AreWithin : List ℕ → ℕ → List Section → Type 0
AreWithin file k [] = Unit {0}
AreWithin file k (s ∷ ss) = (s.bytes ≡ s.size → offset_of file k + size_of file k ≤ length file) × AreWithin file (k + 1) ss

pub are_within : (file : List ℕ) (at k : ℕ) (ss : List Section) → contents_end at ss ≤ length file → SectionsHold file at k ss
    → AreWithin file k ss
are_within file at k [] low hold = tt
are_within file at k (s ∷ ss) low hold = (
  λ same. omega (arith, hold.0.offset, hold.0.size, same, contents_grow (round16 at + s.bytes) ss, low),
  are_within file (round16 at + s.bytes) (k + 1) ss low hold.1,
)
