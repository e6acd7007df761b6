-- Walks over the program headers and over the dynamic entries of a file: what was looked for is among those that are left.
use Rattle.std.proofs.Common.{◌≡◌, ◌≢◌, ℕ, ℤ, zero, suc, ◌+◌, ◌*◌, ◌-◌, ◌/◌, ◌<◌, ◌≤◌, List, [], ◌∷◌, Some, None, refl, sym, ap, ◌∙◌, arith}
use Rattle.std.specs.Prelude.{pos, Bool, true, false, find}
use Rattle.std.specs.Ordering.{int_eq}
use Rattle.std.proofs.lemmas.Bool.Decides.{Decides-int_eq}
use Rattle.elf_base.specs.declared.segment.Phdr.{Phdr}
use Rattle.elf_base.specs.declared.dynamic.Dyn.{Dyn}
use Rattle.elf_base.specs.Standing.{phdr_at, phdrs_at, dyn_at, dyns_at}
use Rattle.elf_image.specs.declared.memtag.Found.{Found}
use Rattle.elf_image.specs.declared.memtag.Headers.{Headers}
use Rattle.elf_image.specs.MemtagFile.{header_of, segments_of, has_tag, before_null, entries_of, first_from, first_of}
use Rattle.elf_image.specs.Laws.ReadMemtag.{AreHeaders}

-- ---- program headers

phdrs_at-more : (count at : ℕ) (file : List ℕ) → 0 < count → phdrs_at count at file ≡ phdr_at at file ∷ phdrs_at (count - 1) (at + 56) file
phdrs_at-more zero at file some = absurd (omega arith)
phdrs_at-more (suc n) at file some =
    let less : n ≡ suc n - 1 = omega arith in
    ap (λ (m : ℕ). phdr_at at file ∷ phdrs_at m (at + 56) file) less

segments_more : (place count k : ℕ) (file : List ℕ) → k < count
    → phdrs_at (count - k) (place + 56 * k) file
    ≡ phdr_at (place + 56 * k) file ∷ phdrs_at (count - (k + 1)) (place + 56 * (k + 1)) file
segments_more place count k file lt =
    let fewer : count - k - 1 ≡ count - (k + 1) = omega arith in
    let next : place + 56 * k + 56 ≡ place + 56 * (k + 1) = omega arith in
    phdrs_at-more (count - k) (place + 56 * k) file (omega arith)
    ∙ ap (λ (m : ℕ). phdr_at (place + 56 * k) file ∷ phdrs_at m (place + 56 * k + 56) file) fewer
    ∙ ap (λ (at : ℕ). phdr_at (place + 56 * k) file ∷ phdrs_at (count - (k + 1)) at file) next

-- the first header of a test is the first one of those from the k-th on
pub record IsBehind (test : Phdr → Bool) (file : List ℕ) (place count k : ℕ) : Type 0 where
  pub is : find test (segments_of file) ≡ find test (phdrs_at (count - k) (place + 56 * k) file)

passed : (test : Phdr → Bool) (p : Phdr) (ps all : List Phdr) → all ≡ p ∷ ps → test p ≡ false → find test all ≡ find test ps
passed test p ps all is other = ap (find test) is ∙ rw other refl

taken : (test : Phdr → Bool) (p : Phdr) (ps all : List Phdr) → all ≡ p ∷ ps → test p ≡ true → find test all ≡ Some p
taken test p ps all is this = ap (find test) is ∙ rw this refl

pub segments_begin : (test : Phdr → Bool) (file : List ℕ) (headers : Headers) → AreHeaders file headers
    → IsBehind test file headers.place headers.count 0
segments_begin test file headers are =
    let count : (header_of file).phnum ≡ headers.count - 0 = let same = are.count in omega arith in
    let place : (header_of file).phoff ≡ headers.place + 56 * 0 = let same = are.place in omega arith in
    record {
      is = ap (λ (n : ℕ). find test (phdrs_at n (header_of file).phoff file)) count
          ∙ ap (λ (at : ℕ). find test (phdrs_at (headers.count - 0) at file)) place;
    }

pub segments_go_on : (test : Phdr → Bool) (file : List ℕ) (place count k : ℕ) (p : Phdr) → IsBehind test file place count k → k < count
    → p ≡ phdr_at (place + 56 * k) file → test p ≡ false → IsBehind test file place count (k + 1)
segments_go_on test file place count k p h lt same other = record {
  is = h.is ∙ passed test (phdr_at (place + 56 * k) file) _ _ (segments_more place count k file lt) (ap test (sym same) ∙ other);
}

pub segment_found : (test : Phdr → Bool) (file : List ℕ) (place count k : ℕ) (p : Phdr) → IsBehind test file place count k → k < count
    → p ≡ phdr_at (place + 56 * k) file → test p ≡ true → Some p ≡ find test (segments_of file)
segment_found test file place count k p h lt same this =
    ap Some same
    ∙ sym (h.is ∙ taken test (phdr_at (place + 56 * k) file) _ _ (segments_more place count k file lt) (ap test (sym same) ∙ this))

pub no_segment : (test : Phdr → Bool) (file : List ℕ) (place count k : ℕ) → IsBehind test file place count k → count ≤ k
    → None ≡ find test (segments_of file)
no_segment test file place count k h le =
    let none : count - k ≡ 0 = omega arith in
    sym (h.is ∙ ap (λ (n : ℕ). find test (phdrs_at n (place + 56 * k) file)) none)

-- ---- dynamic entries

dyns_at-more : (count at : ℕ) (file : List ℕ) → 0 < count → dyns_at count at file ≡ dyn_at at file ∷ dyns_at (count - 1) (at + 16) file
dyns_at-more zero at file some = absurd (omega arith)
dyns_at-more (suc n) at file some =
    let less : n ≡ suc n - 1 = omega arith in
    ap (λ (m : ℕ). dyn_at at file ∷ dyns_at m (at + 16) file) less

entries_more : (place count k : ℕ) (file : List ℕ) → k < count
    → dyns_at (count - k) (place + 16 * k) file
    ≡ dyn_at (place + 16 * k) file ∷ dyns_at (count - (k + 1)) (place + 16 * (k + 1)) file
entries_more place count k file lt =
    let fewer : count - k - 1 ≡ count - (k + 1) = omega arith in
    let next : place + 16 * k + 16 ≡ place + 16 * (k + 1) = omega arith in
    dyns_at-more (count - k) (place + 16 * k) file (omega arith)
    ∙ ap (λ (m : ℕ). dyn_at (place + 16 * k) file ∷ dyns_at m (place + 16 * k + 16) file) fewer
    ∙ ap (λ (at : ℕ). dyn_at (place + 16 * k) file ∷ dyns_at (count - (k + 1)) at file) next

-- the first entry of a tag is the first one of those from the k-th on
pub record IsLater (tag : ℕ) (file : List ℕ) (segment : Phdr) (k : ℕ) : Type 0 where
  pub is : first_of tag (entries_of file segment)
      ≡ first_from k tag (before_null (dyns_at (segment.filesz / 16 - k) (segment.offset + 16 * k) file))

-- what a test of a tag says
tag_is : (tag : ℕ) (e : Dyn) → e.tag ≡ pos tag → has_tag tag e ≡ true
tag_is tag e same = (Decides-int_eq e.tag (pos tag)).1 same

is_false : (b : Bool) → ¬ (b ≡ true) → b ≡ false
is_false true never = absurd (never refl)
is_false false never = refl

tag_is_not : (tag : ℕ) (e : Dyn) → e.tag ≢ pos tag → has_tag tag e ≡ false
tag_is_not tag e other = is_false (has_tag tag e) (λ same. other ((Decides-int_eq e.tag (pos tag)).0 same))

skipped : (k tag : ℕ) (e : Dyn) (es all : List Dyn) → all ≡ e ∷ es → has_tag 0 e ≡ false → has_tag tag e ≡ false
    → first_from k tag (before_null all) ≡ first_from (k + 1) tag (before_null es)
skipped k tag e es all is some other =
    let next : suc k ≡ k + 1 = omega arith in
    ap (λ (l : List Dyn). first_from k tag (before_null l)) is ∙ rw (some, other) (ap (λ (n : ℕ). first_from n tag (before_null es)) next)

ended : (k tag : ℕ) (e : Dyn) (es all : List Dyn) → all ≡ e ∷ es → has_tag 0 e ≡ true → first_from k tag (before_null all) ≡ None
ended k tag e es all is null = ap (λ (l : List Dyn). first_from k tag (before_null l)) is ∙ rw null refl

met : (k tag : ℕ) (e : Dyn) (es all : List Dyn) → all ≡ e ∷ es → has_tag 0 e ≡ false → has_tag tag e ≡ true
    → first_from k tag (before_null all) ≡ Some (record { index = k; value = e.value })
met k tag e es all is some same = ap (λ (l : List Dyn). first_from k tag (before_null l)) is ∙ rw (some, same) refl

pub entries_begin : (tag : ℕ) (file : List ℕ) (segment : Phdr) → IsLater tag file segment 0
entries_begin tag file segment =
    let count : segment.filesz / 16 ≡ segment.filesz / 16 - 0 = omega arith in
    let place : segment.offset ≡ segment.offset + 16 * 0 = omega arith in
    record {
      is = ap (λ (n : ℕ). first_from 0 tag (before_null (dyns_at n segment.offset file))) count
          ∙ ap (λ (at : ℕ). first_from 0 tag (before_null (dyns_at (segment.filesz / 16 - 0) at file))) place;
    }

pub entries_go_on : (tag : ℕ) (file : List ℕ) (segment : Phdr) (k : ℕ) (e : Dyn) → IsLater tag file segment k → k < segment.filesz / 16
    → e ≡ dyn_at (segment.offset + 16 * k) file → e.tag ≢ pos 0 → e.tag ≢ pos tag → IsLater tag file segment (k + 1)
entries_go_on tag file segment k e h lt same some other = record {
  is = h.is ∙ skipped k tag (dyn_at (segment.offset + 16 * k) file) _ _ (entries_more segment.offset (segment.filesz / 16) k file lt)
      (ap (has_tag 0) (sym same) ∙ tag_is_not 0 e some) (ap (has_tag tag) (sym same) ∙ tag_is_not tag e other);
}

pub entries_end : (tag : ℕ) (file : List ℕ) (segment : Phdr) (k : ℕ) (e : Dyn) → IsLater tag file segment k → k < segment.filesz / 16
    → e ≡ dyn_at (segment.offset + 16 * k) file → e.tag ≡ pos 0 → None ≡ first_of tag (entries_of file segment)
entries_end tag file segment k e h lt same null =
    sym (h.is ∙ ended k tag (dyn_at (segment.offset + 16 * k) file) _ _ (entries_more segment.offset (segment.filesz / 16) k file lt)
    (ap (has_tag 0) (sym same) ∙ tag_is 0 e null))

pub entry_found : (tag : ℕ) (file : List ℕ) (segment : Phdr) (k : ℕ) (e : Dyn) → IsLater tag file segment k → k < segment.filesz / 16
    → e ≡ dyn_at (segment.offset + 16 * k) file → e.tag ≢ pos 0 → e.tag ≡ pos tag
    → Some (record { index = k; value = e.value }) ≡ first_of tag (entries_of file segment)
entry_found tag file segment k e h lt same some is =
    let found : Found = record { index = k; value = (dyn_at (segment.offset + 16 * k) file).value } in
    let like : e.value ≡ (dyn_at (segment.offset + 16 * k) file).value = ap (λ (d : Dyn). d.value) same in
    let as_read : Some (record { index = k; value = e.value }) ≡ Some found = ap (λ (v : ℕ). Some (record { index = k; value = v })) like in
    as_read ∙ sym (h.is ∙ met k tag (dyn_at (segment.offset + 16 * k) file) _ _
    (entries_more segment.offset (segment.filesz / 16) k file lt)
    (ap (has_tag 0) (sym same) ∙ tag_is_not 0 e some) (ap (has_tag tag) (sym same) ∙ tag_is tag e is))

pub no_entry : (tag : ℕ) (file : List ℕ) (segment : Phdr) (k : ℕ) → IsLater tag file segment k → segment.filesz / 16 ≤ k
    → None ≡ first_of tag (entries_of file segment)
no_entry tag file segment k h le =
    let none : segment.filesz / 16 - k ≡ 0 = omega arith in
    sym (h.is ∙ ap (λ (n : ℕ). first_from k tag (before_null (dyns_at n (segment.offset + 16 * k) file))) none)
