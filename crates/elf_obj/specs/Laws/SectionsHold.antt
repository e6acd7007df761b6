-- Where no condition on sections fails, each header names its section, and the contents follow one another with zeros between.
use Rattle.std.proofs.Common.{◌≡◌, ℕ, ◌+◌, ◌*◌, ◌<◌, ◌≤◌, ◌^◌, Bool, true, List, [], ◌∷◌, ◌++◌, length, get_or, refl, subst, arith, inl}
use Rattle.std.proofs.Common.{inr, None}
use Rattle.std.specs.Prelude.{◌&&◌}
use Rattle.std.specs.List.{flat_map}
use Rattle.mt_base.specs.Granules.{round16}
use Rattle.elf_base.specs.Field.{StandsAt}
use Rattle.elf_base.specs.Layout.{Piece, AllStand, IsGap}
use Rattle.elf_base.specs.Records.{shdr_fields}
use Rattle.elf_base.specs.Laws.Tests.{both, is_lt}
use Rattle.elf_base.specs.Laws.Conditions.{head_holds}
use Rattle.elf_base.specs.Laws.Zeros.{zero_there}
use Rattle.elf_base.specs.Zeros.{is_zero_between}
use Rattle.elf_base.specs.Conditions.{first_fault}
use Rattle.elf_obj.specs.declared.refusal.ObjectRefusal.TheVariants.{BadSection}
use Rattle.elf_obj.specs.declared.section.Section.{Section}
use Rattle.elf_obj.specs.Sections.{contents_end, header_of, headers_of}
use Rattle.elf_obj.specs.Contents.{content_pieces, header_bytes}
use Rattle.elf_obj.specs.Claimed.{headers_at, offset_of, size_of}
use Rattle.elf_obj.specs.ObjectFault.{is_section, section_conditions}
use Rattle.elf_obj.specs.Laws.Lengths.{AreAsLong, length-header}
use Rattle.elf_obj.specs.Laws.Fields.{stands-is}
use Rattle.elf_obj.specs.Laws.Held.{Reaches, Named, named, section_ends}
use Rattle.elf_obj.specs.Laws.Together.{stands-both}

-- what the conditions on a section say
pub record SectionHolds (file : List ℕ) (at k : ℕ) (s : Section) : Type 0 where
  pub offset : offset_of file k ≡ round16 at
  pub size : size_of file k ≡ s.size
  pub info : s.info < 2 ^ 32
  pub header : StandsAt file (headers_at file + 64 * k) (header_bytes (header_of s (round16 at)))
  pub gap : is_zero_between file at (round16 at) ≡ true

pub section_holds : (file : List ℕ) (at k : ℕ) (s : Section) → is_section file at k s ≡ true → at ≤ 2 ^ 63 → s.size < 2 ^ 64
    → SectionHolds file at k s
unfolding is_section
section_holds file at k s h low small =
    let n : Named file k s (round16 at) = named file at k s h (omega (arith, low)) small in
    let first = both _ _ h in
    let header = both _ _ first.0 in
    record {
      offset = n.offset;
      size = n.size;
      info = is_lt s.info 4294967296 header.0;
      header = stands-is (shdr_fields (header_of s (round16 at))) (headers_at file + 64 * k) file header.1;
      gap = first.1;
    }

-- each section, of which the first follows what ends at a place
abbrev pub SectionsHold : List ℕ → ℕ → ℕ → List Section → Type 0
SectionsHold file at k [] = Unit {0}
SectionsHold file at k (s ∷ ss) = SectionHolds file at k s × SectionsHold file (round16 at + s.bytes) (k + 1) ss

-- each section has no bytes in the file, or they do not pass the end
abbrev pub AllReach : List ℕ → ℕ → List Section → Type 0
AllReach file i [] = Unit {0}
AllReach file i (s ∷ ss) = (Reaches file i s × (s.size < 2 ^ 64)) × AllReach file (i + 1) ss

-- what is fixed in the contents stands there
abbrev pub AllTrue : List Bool → Type 0
AllTrue [] = Unit {0}
AllTrue (b ∷ bs) = (b ≡ true) × AllTrue bs

pub sections_hold : (file : List ℕ) (at i : ℕ) (ss : List Section) (fs : List Bool) → AllReach file i ss → length file < 2 ^ 63
    → at ≤ 2 ^ 63 → length ss ≡ length fs
    → first_fault (section_conditions file at (i + 1) ss fs) ≡ None → SectionsHold file at (i + 1) ss
sections_hold file at i [] fs reach short low same h = tt
sections_hold file at i (s ∷ ss) [] reach short low same h = absurd (omega (arith, same))
sections_hold file at i (s ∷ ss) (f ∷ fs) reach short low same h =
    let first = head_holds (is_section file at (i + 1) s && f) (BadSection (i + 1))
    (first_fault (section_conditions file (round16 at + s.bytes) (i + 1 + 1) ss fs)) h in
    let good = both (is_section file at (i + 1) s) f first.0 in
    let next : round16 at + s.bytes ≤ 2 ^ 63 = section_ends file at i s reach.0.0 good.0 low reach.0.1 short in (
      section_holds file at (i + 1) s good.0 low reach.0.1,
      sections_hold file (round16 at + s.bytes) (i + 1) ss fs reach.1 short next (omega (arith, same)) first.1,
    )

pub fixed_hold : (file : List ℕ) (at k : ℕ) (ss : List Section) (fs : List Bool) → length ss ≡ length fs
    → first_fault (section_conditions file at k ss fs) ≡ None → AllTrue fs
fixed_hold file at k [] [] same h = tt
fixed_hold file at k [] (f ∷ fs) same h = absurd (omega (arith, same))
fixed_hold file at k (s ∷ ss) [] same h = absurd (omega (arith, same))
fixed_hold file at k (s ∷ ss) (f ∷ fs) same h =
    let first = head_holds (is_section file at k s && f) (BadSection k)
    (first_fault (section_conditions file (round16 at + s.bytes) (k + 1) ss fs)) h in
    ((both (is_section file at k s) f first.0).1, fixed_hold file (round16 at + s.bytes) (k + 1) ss fs (omega (arith, same)) first.1)

-- ---- contents

-- each content stands where its header says
abbrev pub AllHere : List ℕ → ℕ → List (List ℕ) → Type 0
AllHere file k [] = Unit {0}
AllHere file k (c ∷ cs) = StandsAt file (offset_of file k) c × AllHere file (k + 1) cs

-- where these stand, and a last piece
pub contents_stand : (file : List ℕ) (at k : ℕ) (ss : List Section) (cs : List (List ℕ)) (last : Piece) → SectionsHold file at k ss
    → AllHere file k cs
    → StandsAt file last.place last.bytes → AllStand file (content_pieces at ss cs ++ last ∷ [])
contents_stand file at k [] cs last h here end = (end, tt)
contents_stand file at k (s ∷ ss) [] last h here end = (end, tt)
contents_stand file at k (s ∷ ss) (c ∷ cs) last h here end =
    (subst (λ (n : ℕ). StandsAt file n c) h.0.offset here.0, contents_stand file (round16 at + s.bytes) (k + 1) ss cs last h.1 here.1 end)

pub headers_stand : (file : List ℕ) (at k : ℕ) (ss : List Section) → SectionsHold file at k ss
    → StandsAt file (headers_at file + 64 * k) (flat_map header_bytes (headers_of at ss))
headers_stand file at k [] h = refl
headers_stand file at k (s ∷ ss) h =
    let others : List ℕ = flat_map header_bytes (headers_of (round16 at + s.bytes) ss) in
    let place : headers_at file + 64 * (k + 1) ≡ headers_at file + 64 * k + 64 = omega arith in
    let rest : StandsAt file (headers_at file + 64 * k + 64) others =
    subst (λ (n : ℕ). StandsAt file n others) place (headers_stand file (round16 at + s.bytes) (k + 1) ss h.1) in
    stands-both file (headers_at file + 64 * k) 64 (header_bytes (header_of s (round16 at))) others
    (length-header (header_of s (round16 at))) h.0.header rest

-- ---- gaps

-- a gap before the end of the contents has zeros, or it is none of theirs and one of the last piece
pub gap_zero : (file : List ℕ) (at k : ℕ) (ss : List Section) (cs : List (List ℕ)) (last : Piece) (i : ℕ) → SectionsHold file at k ss
    → AreAsLong ss cs → at ≤ i
    → i < contents_end at ss → i < length file → IsGap i (content_pieces at ss cs ++ last ∷ []) → get_or file i 0 ≡ 0
gap_zero file at k [] cs last i h long low high within gap = absurd (omega (arith, low, high))
gap_zero file at k (s ∷ ss) [] last i h long low high within gap = absurd long
gap_zero file at k (s ∷ ss) (c ∷ cs) last i h long low high within gap =
    elim gap.0 [
      | inl before ↦ zero_there file at (round16 at) h.0.gap i low before
      | inr after ↦ gap_zero file (round16 at + s.bytes) (k + 1) ss cs last i h.1 long.1 (omega (arith, after, long.0)) high within gap.1
    ]

-- a gap is one of the last piece
pub gap_last : (at : ℕ) (ss : List Section) (cs : List (List ℕ)) (last : Piece) (i : ℕ) → IsGap i (content_pieces at ss cs ++ last ∷ [])
    → IsGap i (last ∷ [])
gap_last at [] cs last i gap = gap
gap_last at (s ∷ ss) [] last i gap = gap
gap_last at (s ∷ ss) (c ∷ cs) last i gap = gap_last (round16 at + s.bytes) ss cs last i gap.1
