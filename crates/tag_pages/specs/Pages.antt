-- Pages, and what memory in pages holds.
use Rattle.std.specs.Prelude.{ℕ, ◌*◌, ◌/◌, ◌%◌, ◌==◌, Bool, if◌then◌else◌, List, [], ◌∷◌, slice_index}
use Rattle.mt_base.specs.Memory.{Extent, is_mapped}
use Rattle.tag_pages.specs.declared.page.Page.{Page}

-- ---- one page

-- the byte at an address, in its page
abbrev pub page_byte : Page → ℕ → ℕ
page_byte p at = slice_index p.bytes (at % 4096) % 256

-- the lower or the upper half of a byte
abbrev pub half_of : ℕ → Bool → ℕ
half_of byte lower = if lower then byte % 16 else byte / 16 % 16

-- the tag of granule k of a page: the lower half of byte k / 2 where k is even, else the upper one
abbrev pub page_tag : Page → ℕ → ℕ
page_tag p k = half_of (slice_index p.tags (k / 2)) (k % 2 == 0)

-- ---- pages with their numbers

-- what the page with a number holds, where the k-th number is that of the k-th page; 0 where no page has it
abbrev pub in_pages : (Page → ℕ) → List ℕ → List Page → ℕ → ℕ
in_pages held [] pages number = 0
in_pages held (n ∷ ns) [] number = 0
in_pages held (n ∷ ns) (p ∷ ps) number = if n == number then held p else in_pages held ns ps number

-- the byte at an address of a region is byte at % 4096 of the page with the number at / 4096; elsewhere it is 0
abbrev pub byte_in_pages : List Extent → List ℕ → List Page → ℕ → ℕ
byte_in_pages regions numbers pages at =
    if is_mapped regions at then in_pages (λ p. page_byte p at) numbers pages (at / 4096) else 0

-- the tag of a granule of a region is that of granule granule % 256 of the page with the number granule / 256; elsewhere it is 0
abbrev pub tag_in_pages : List Extent → List ℕ → List Page → ℕ → ℕ
tag_in_pages regions numbers pages granule =
    if is_mapped regions (granule * 16) then in_pages (λ p. page_tag p (granule % 256)) numbers pages (granule / 256) else 0
