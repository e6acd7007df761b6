-- In the file of an object stand its contents and headers, and the file claims that object.
use Rattle.std.proofs.Common.{◌≡◌, ℕ, ◌+◌, ◌-◌, ◌*◌, ◌/◌, ◌<◌, ◌≤◌, ◌^◌, true, List, [], ◌∷◌, ◌++◌, length, take, drop, replicate, refl}
use Rattle.std.proofs.Common.{sym, ap, subst, ◌∙◌, arith}
use Rattle.std.specs.List.{AllByRecursion, flat_map}
use Rattle.std.proofs.lemmas.List.{length-replicate}
use Rattle.mt_base.specs.Granules.{round16}
use Rattle.elf_base.specs.declared.header.Ehdr.{Ehdr}
use Rattle.elf_base.specs.Field.{bytes_of, FieldsFit, StandsAt}
use Rattle.elf_base.specs.Layout.{Piece, piece, AllStand, word_bytes}
use Rattle.elf_base.specs.Records.{ehdr_fields}
use Rattle.elf_base.specs.Standing.{ehdr_at}
use Rattle.elf_base.specs.Laws.Lengths.{length-ehdr}
use Rattle.elf_base.specs.Laws.RecordsStand.{ehdr_again}
use Rattle.elf_base.specs.Zeros.{is_zero_between}
use Rattle.elf_obj.specs.declared.parts.Reloc.{Reloc}
use Rattle.elf_obj.specs.declared.section.Section.{Section}
use Rattle.elf_obj.specs.declared.sizes.Sizes.{Sizes}
use Rattle.elf_obj.specs.Object.{Object}
use Rattle.elf_obj.specs.Sections.{sections, sizes_of, names_end, contents_end, headers_place, file_size, headers_of}
use Rattle.elf_obj.specs.Records.{header, symbols_bytes, reloc_bytes, tag_bytes, name_bytes}
use Rattle.elf_obj.specs.Contents.{contents, content_pieces, header_bytes, pieces}
use Rattle.elf_obj.specs.ObjectFile.{AllCounted, AllNumbered, RelocFits, IsFileOf}
use Rattle.elf_obj.specs.Claimed.{headers_at, offset_of, size_of, content_of, names_in, names_of, symbols_at, relocs_at, tags_at}
use Rattle.elf_obj.specs.Claimed.{words_at, claimed}
use Rattle.elf_obj.specs.Laws.Lengths.{AreAsLong, contents_are_as_long, length-names}
use Rattle.elf_obj.specs.Laws.Whole.{first_bytes, last_bytes, pieces_in_order}
use Rattle.elf_obj.specs.Laws.SectionsHold.{SectionsHold, AllHere}
use Rattle.elf_obj.specs.Laws.ZerosBetween.{ZerosBetween, all_between, zeros_between}
use Rattle.elf_obj.specs.Laws.ReadAgain.{apart, words_again, relocs_again, tags_again, each_name, names_again, symbols_again}
use Rattle.elf_obj.specs.Laws.SectionsAgain.{SectionsFit, AreGood, AreWithin, are_good, last_gap, good_hold, are_within}
use Rattle.elf_obj.specs.Laws.Ends.{valid_end, valid_small, valid_rodata, valid_init}

-- ---- the header and the sections

header_fits : (place : ℕ) → place < 2 ^ 64 → FieldsFit (ehdr_fields (header place))
header_fits place low = (
  refl,
  (
    omega arith,
    (
      omega arith,
      (
        omega arith,
        (
          omega arith,
          (
            omega arith,
            (
              omega (arith, low),
              (
                omega arith,
                (omega arith, (omega arith, (omega arith, (omega arith, (omega arith, (omega arith, tt)))))),
              ),
            ),
          ),
        ),
      ),
    ),
  ),
)

sections_fit : (p : Object) (file : List ℕ) → IsFileOf p file → SectionsFit (sections (sizes_of p))
sections_fit p file f =
    let valid = f.is_file.valid in
    let small = valid_small p valid in
    let globals = valid.numbers.globals in (
      (small.words, omega arith),
      (
        (valid_rodata p valid, omega arith),
        (
          (valid_init p valid, omega arith),
          (
            (f.ranges.zero_bytes, omega arith),
            (
              (small.symbols, globals),
              (
                (small.names, omega arith),
                (
                  (omega arith, omega arith),
                  (
                    (small.text_relocs, omega arith),
                    (
                      (small.init_relocs, omega arith),
                      ((omega arith, omega arith), ((small.tagged, omega arith), tt)),
                    ),
                  ),
                ),
              ),
            ),
          ),
        ),
      ),
    )

last_stands : (file : List ℕ) (at : ℕ) (ss : List Section) (cs : List (List ℕ)) (last : Piece)
    → AllStand file (content_pieces at ss cs ++ last ∷ [])
    → StandsAt file last.place last.bytes
last_stands file at [] cs last h = h.0
last_stands file at (s ∷ ss) [] last h = h.0
last_stands file at (s ∷ ss) (c ∷ cs) last h = last_stands file (round16 at + s.bytes) ss cs last h.1

here_again : (file : List ℕ) (at k : ℕ) (ss : List Section) (cs : List (List ℕ)) (last : Piece) → SectionsHold file at k ss
    → AreAsLong ss cs
    → AllStand file (content_pieces at ss cs ++ last ∷ []) → AllHere file k cs
here_again file at k [] [] last hold long h = tt
here_again file at k [] (c ∷ cs) last hold long h = absurd long
here_again file at k (s ∷ ss) [] last hold long h = absurd long
here_again file at k (s ∷ ss) (c ∷ cs) last hold long h = (
  subst (λ (n : ℕ). StandsAt file n c) (sym hold.0.offset) h.0,
  here_again file (round16 at + s.bytes) (k + 1) ss cs last hold.1 long.1 h.1,
)

-- what the frame of a file says: its header, the section headers and the places between
pub record Frame (z : Sizes) (file : List ℕ) : Type 0 where
  pub head : ehdr_at 0 file ≡ header (headers_place z)
  pub stand : StandsAt file 0 (bytes_of (ehdr_fields (header (headers_place z))))
  pub there : headers_at file ≡ headers_place z
  pub len : length file ≡ headers_place z + 768
  pub low : headers_place z + 768 < 2 ^ 63
  pub empty : is_zero_between file (headers_place z) (headers_place z + 64) ≡ true
  pub gap : is_zero_between file (contents_end 64 (sections z)) (headers_place z) ≡ true
  pub good : AreGood file 64 1 (sections z)

shoff_is : (file : List ℕ) (place : ℕ) → ehdr_at 0 file ≡ header place → headers_at file ≡ place
unfolding headers_at
shoff_is file place head = ap (λ (h : Ehdr). h.shoff) head

pub frame : (p : Object) (file : List ℕ) → IsFileOf p file → Frame (sizes_of p) file
unfolding file_size
frame p file f =
    let z : Sizes = sizes_of p in
    let laid = f.is_file.laid_out in
    let place : ℕ = headers_place z in
    let low = f.is_file.valid.small in
    let head : ehdr_at 0 file ≡ header place = ehdr_again file 0 (header place) (header_fits place (omega (arith, low))) laid.stand.0 in
    let there : headers_at file ≡ place = shoff_is file place head in
    let last : Piece = piece place (last_bytes p) in
    let end : StandsAt file place (last_bytes p) = last_stands file 64 (sections z) (contents p) last laid.stand.1 in
    let others : List ℕ = flat_map header_bytes (headers_of 64 (sections z)) in
    let parts = apart file place 64 (replicate 64 0) others (length-replicate {A = ℕ} 64 0) end in
    let headers_begin : place + 64 ≡ headers_at file + 64 * 1 = omega (arith, there) in
    let headers : StandsAt file (headers_at file + 64 * 1) others = subst (λ (n : ℕ). StandsAt file n others) headers_begin parts.1 in
    let first : length (first_bytes p) ≡ 64 = length-ehdr (header place) refl in
    let wide : 0 + length (first_bytes p) ≡ 64 = omega (arith, first) in
    let all : ZerosBetween file 0 (pieces p) = all_between file 0 (pieces p) (pieces_in_order p) (λ i from gap. laid.gaps i gap) in
    let gaps : ZerosBetween file 64 (content_pieces 64 (sections z) (contents p) ++ last ∷ []) =
    subst (λ (n : ℕ). ZerosBetween file n (content_pieces 64 (sections z) (contents p) ++ last ∷ [])) wide all.1 in
    record {
      head = head;
      stand = laid.stand.0;
      there = there;
      len = laid.len;
      low = low;
      empty = zeros_between file place 64 parts.0;
      gap = last_gap file 64 (sections z) (contents p) last (contents_are_as_long p) gaps;
      good = are_good file 64 1 (sections z) (contents p) last (sections_fit p file f) (contents_are_as_long p) headers gaps;
    }

ends_low : (n : ℕ) → round16 n + 768 < 2 ^ 63 → n ≤ 2 ^ 63
ends_low n h = omega (arith, h)

pub hold_again : (p : Object) (file : List ℕ) → IsFileOf p file → SectionsHold file 64 1 (sections (sizes_of p))
hold_again p file f =
    let q : Frame (sizes_of p) file = frame p file f in
    good_hold file 64 1 (sections (sizes_of p)) (sections_fit p file f)
    (ends_low (contents_end 64 (sections (sizes_of p))) (valid_end p f.is_file.valid)) q.good

ends_within : (z : Sizes) (file : List ℕ) → Frame z file → contents_end 64 (sections z) ≤ length file
unfolding headers_place
ends_within z file q =
    let len = q.len in
    let behind : contents_end 64 (sections z) ≤ round16 (contents_end 64 (sections z)) + 768 = omega arith in
    subst (λ (n : ℕ). contents_end 64 (sections z) ≤ n) (sym len) behind

pub within_again : (p : Object) (file : List ℕ) → IsFileOf p file → AreWithin file 1 (sections (sizes_of p))
within_again p file f =
    are_within file 64 1 (sections (sizes_of p)) (ends_within (sizes_of p) file (frame p file f)) (hold_again p file f)

pub all_again : (p : Object) (file : List ℕ) → IsFileOf p file → AllHere file 1 (contents p)
all_again p file f =
    here_again file 64 1 (sections (sizes_of p)) (contents p) (piece (headers_place (sizes_of p)) (last_bytes p)) (hold_again p file f)
    (contents_are_as_long p)
    f.is_file.laid_out.stand.1

-- ---- the parts

pub content_again : (file : List ℕ) (k : ℕ) (bytes : List ℕ) → size_of file k ≡ length bytes → StandsAt file (offset_of file k) bytes
    → content_of file k ≡ bytes
unfolding content_of
content_again file k bytes size h = ap (λ (n : ℕ). take n (drop (offset_of file k) file)) size ∙ h

counted_words : (n : ℕ) (ws : List ℕ) (at : ℕ) (file : List ℕ) → n ≡ 4 * length ws → AllByRecursion (λ w. w < 2 ^ 32) ws
    → StandsAt file at (flat_map word_bytes ws) → words_at (n / 4) at file ≡ ws
counted_words n ws at file size fit h =
    let count : n / 4 ≡ length ws = omega (arith, size) in
    ap (λ (k : ℕ). words_at k at file) count ∙ words_again ws at file fit h

counted_relocs : (n : ℕ) (rs : List Reloc) (at : ℕ) (file : List ℕ) → n ≡ 24 * length rs → AllByRecursion RelocFits rs → AllCounted rs
    → StandsAt file at (flat_map reloc_bytes rs) → relocs_at (n / 24) at file ≡ rs
counted_relocs n rs at file size fit counted h =
    let count : n / 24 ≡ length rs = omega (arith, size) in
    ap (λ (k : ℕ). relocs_at k at file) count ∙ relocs_again rs at file fit counted h

counted_tags : (n : ℕ) (ts : List ℕ) (at : ℕ) (file : List ℕ) → n ≡ 24 * length ts → AllNumbered ts
    → StandsAt file at (flat_map tag_bytes ts)
    → tags_at (n / 24) at file ≡ ts
counted_tags n ts at file size low h =
    let count : n / 24 ≡ length ts = omega (arith, size) in
    ap (λ (k : ℕ). tags_at k at file) count ∙ tags_again ts at file low h

names_are : (p : Object) (file : List ℕ) → IsFileOf p file → names_of file ≡ each_name p.symbols
unfolding names_of
names_are p file f =
    let hold = hold_again p file f in
    let here = all_again p file f in
    let size : size_of file 5 ≡ 24 * (length p.symbols + 1) = hold.1.1.1.1.0.size in
    let count : size_of file 5 / 24 - 1 ≡ length p.symbols = omega (arith, size) in
    let names : List ℕ = flat_map name_bytes p.symbols in
    let ends : size_of file 6 ≡ names_end 1 p.symbols = hold.1.1.1.1.1.0.size in
    let long : size_of file 6 ≡ length (0 ∷ names) = omega (arith, ends, length-names 1 p.symbols) in
    let stand : StandsAt file (offset_of file 6) (0 ∷ names) = here.1.1.1.1.1.0 in
    let content : content_of file 6 ≡ 0 ∷ names = content_again file 6 (0 ∷ names) long stand in
    ap (λ (l : List ℕ). names_in (size_of file 5 / 24 - 1) (drop 1 l)) content
    ∙ ap (λ (n : ℕ). names_in n names) count
    ∙ names_again (sizes_of p) [] p.symbols f.is_file.valid.symbols

symbols_are : (p : Object) (file : List ℕ) → IsFileOf p file → symbols_at (names_of file) (offset_of file 5 + 24) file ≡ p.symbols
symbols_are p file f =
    let here = all_again p file f in
    let records : List ℕ = symbols_bytes 1 p.symbols in
    let parts = apart file (offset_of file 5) 24 (replicate 24 0) records (length-replicate {A = ℕ} 24 0) here.1.1.1.1.0 in
    ap (λ (ns : List (List ℕ)). symbols_at ns (offset_of file 5 + 24) file) (names_are p file f)
    ∙ symbols_again (sizes_of p) [] p.symbols 1 (offset_of file 5 + 24) file f.is_file.valid.symbols f.ranges.symbols
    f.is_file.valid.numbers.names parts.1

-- a file claims its object
pub claims : (p : Object) (file : List ℕ) → IsFileOf p file → claimed file ≡ p
claims p file f =
    let hold = hold_again p file f in
    let here = all_again p file f in
    let numbers = f.is_file.valid.numbers in
    let words : (claimed file).words ≡ p.words =
    counted_words (size_of file 1) p.words (offset_of file 1) file hold.0.size f.ranges.words here.0 in
    let rodata : content_of file 2 ≡ p.rodata = content_again file 2 p.rodata hold.1.0.size here.1.0 in
    let init_bytes : content_of file 3 ≡ p.init_bytes = content_again file 3 p.init_bytes hold.1.1.0.size here.1.1.0 in
    let zero_bytes : size_of file 4 ≡ p.zero_bytes = hold.1.1.1.0.size in
    let symbols : (claimed file).symbols ≡ p.symbols = symbols_are p file f in
    let text_relocs : (claimed file).text_relocs ≡ p.text_relocs =
    counted_relocs (size_of file 8) p.text_relocs
    (offset_of file 8) file hold.1.1.1.1.1.1.1.0.size f.ranges.text_relocs numbers.text_relocs here.1.1.1.1.1.1.1.0 in
    let init_relocs : (claimed file).init_relocs ≡ p.init_relocs =
    counted_relocs (size_of file 9) p.init_relocs
    (offset_of file 9) file hold.1.1.1.1.1.1.1.1.0.size f.ranges.init_relocs numbers.init_relocs here.1.1.1.1.1.1.1.1.0 in
    let tagged : (claimed file).tagged ≡ p.tagged =
    counted_tags (size_of file 11) p.tagged (offset_of file 11) file hold.1.1.1.1.1.1.1.1.1.1.0.size numbers.tagged
    here.1.1.1.1.1.1.1.1.1.1.0 in
    λ i. record {
      words = words i;
      rodata = rodata i;
      init_bytes = init_bytes i;
      zero_bytes = zero_bytes i;
      symbols = symbols i;
      text_relocs = text_relocs i;
      init_relocs = init_relocs i;
      tagged = tagged i;
    }
