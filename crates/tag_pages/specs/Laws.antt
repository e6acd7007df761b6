-- The bytes and tags of memory in pages are in range.
use Rattle.std.specs.Prelude.{◌≡◌, ℕ, ◌*◌, ◌/◌, ◌%◌, ◌==◌, ◌<◌, Bool, true, false, List, [], ◌∷◌}
use Rattle.std.proofs.Common.{arith, inl, inr}
use Rattle.std.proofs.lemmas.Bool.{cases_Bool}
use Rattle.mt_base.specs.Memory.{Extent, is_mapped}
use Rattle.tag_pages.specs.declared.page.Page.{Page}
use Rattle.tag_pages.specs.Pages.{half_of, page_byte, page_tag, in_pages, byte_in_pages, tag_in_pages}

in_pages-lt : (limit : ℕ) (held : Page → ℕ) (numbers : List ℕ) (pages : List Page) (number : ℕ) → 0 < limit →
    ((p : Page) → held p < limit) → in_pages held numbers pages number < limit
in_pages-lt limit held [] pages number some each = some
in_pages-lt limit held (n ∷ ns) [] number some each = some
in_pages-lt limit held (n ∷ ns) (p ∷ ps) number some each = elim (cases_Bool (n == number)) [
  | inl same ↦ rw same (each p)
  | inr other ↦ rw other (in_pages-lt limit held ns ps number some each)
]

half_of-lt : (byte : ℕ) (lower : Bool) → half_of byte lower < 16
half_of-lt byte true = omega arith
half_of-lt byte false = omega arith

pub byte_in_pages-lt : (regions : List Extent) (numbers : List ℕ) (pages : List Page) (at : ℕ) →
    byte_in_pages regions numbers pages at < 256
byte_in_pages-lt regions numbers pages at = elim (cases_Bool (is_mapped regions at)) [
  | inl mapped ↦ rw mapped (in_pages-lt 256 (λ p. page_byte p at) numbers pages (at / 4096) (omega arith) (λ p. omega arith))
  | inr unmapped ↦ rw unmapped (omega arith)
]

pub tag_in_pages-lt : (regions : List Extent) (numbers : List ℕ) (pages : List Page) (granule : ℕ) →
    tag_in_pages regions numbers pages granule < 16
tag_in_pages-lt regions numbers pages granule = elim (cases_Bool (is_mapped regions (granule * 16))) [
  | inl mapped ↦
      rw mapped (in_pages-lt 16 (λ p. page_tag p (granule % 256)) numbers pages (granule / 256) (omega arith) (λ p. half_of-lt _ _))
  | inr unmapped ↦ rw unmapped (omega arith)
]
