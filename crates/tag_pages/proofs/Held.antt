-- What pages hold, by the place of a page among them.
use Rattle.std.proofs.Common.{◌≡◌, ◌≢◌, ℕ, zero, suc, ◌*◌, ◌/◌, ◌%◌, ◌<◌, ◌==◌, true, false, cond, List, [], ◌∷◌, length, get_or, set}
use Rattle.std.proofs.Common.{refl, sym, ◌∙◌, ap, subst, arith, inl, inr, replicate, Bool}
use Rattle.std.proofs.lemmas.List.Elements.{All-replicate}
use Rattle.std.specs.List.{All, AllPairs}
use Rattle.std.proofs.Math.Path.{fun_ext}
use Rattle.std.proofs.lemmas.Bool.{cases_Bool, eq-eqb}
use Rattle.std.proofs.lemmas.List.{length-set, get_or-set_same}
use Rattle.mt_base.specs.Memory.{Extent, is_mapped}
use Rattle.tag_pages.specs.declared.page.Page.{Page}
use Rattle.tag_pages.specs.Pages.{half_of, page_byte, page_tag, in_pages, byte_in_pages, tag_in_pages}
use Rattle.tag_pages.proofs.Places.{differs, ordered_tail}

-- the page at that place
pub record IsPageAt (numbers : List ℕ) (pages : List Page) (k number : ℕ) (p : Page) : Type 0 where
  pub up : AllPairs (λ x y. x < y) numbers
  pub count : length pages ≡ length numbers
  pub in_range : k < length numbers
  pub number_is : get_or numbers k 0 ≡ number
  pub is : get_or pages k p ≡ p

tail : (n : ℕ) (ns : List ℕ) (q : Page) (ps : List Page) (k number : ℕ) (p : Page) →
    IsPageAt (n ∷ ns) (q ∷ ps) (suc k) number p → IsPageAt ns ps k number p
tail n ns q ps k number p here = record {
  up = ordered_tail n ns here.up;
  count = omega (arith, here.count);
  in_range = omega (arith, here.in_range);
  number_is = here.number_is;
  is = here.is;
}

first_differs : (n : ℕ) (ns : List ℕ) (k number : ℕ) → AllPairs (λ x y. x < y) (n ∷ ns) → k < length ns → get_or ns k 0 ≡ number →
    (n == number) ≡ false
first_differs n ns k number up below is =
    let larger = up 0 (suc k) 0 (omega arith) (omega (arith, below)) in differs n number (λ same. omega (arith, larger, is, same))

pub in_pages_there : (held : Page → ℕ) (numbers : List ℕ) (pages : List Page) (k number : ℕ) (p : Page) →
    IsPageAt numbers pages k number p → in_pages held numbers pages number ≡ held p
in_pages_there held [] pages k number p here = absurd (omega (arith, here.in_range))
in_pages_there held (n ∷ ns) [] k number p here = absurd (omega (arith, here.count))
in_pages_there held (n ∷ ns) (q ∷ ps) zero number p here = rw (eq-eqb n number here.number_is) (ap held here.is)
in_pages_there held (n ∷ ns) (q ∷ ps) (suc k) number p here =
    rw (first_differs n ns k number here.up (omega (arith, here.in_range)) here.number_is)
    (in_pages_there held ns ps k number p (tail n ns q ps k number p here))

-- the page that was put there
pub page_set : (numbers : List ℕ) (pages : List Page) (k number : ℕ) (p q : Page) → IsPageAt numbers pages k number p →
    IsPageAt numbers (set pages k q) k number q
page_set numbers pages k number p q here = record {
  up = here.up;
  count = length-set pages k q ∙ here.count;
  in_range = here.in_range;
  number_is = here.number_is;
  is = get_or-set_same pages k q q (omega (arith, here.in_range, here.count));
}

-- other pages stay
pub in_pages_elsewhere : (held : Page → ℕ) (numbers : List ℕ) (pages : List Page) (k number : ℕ) (q : Page) →
    get_or numbers k 0 ≢ number → in_pages held numbers (set pages k q) number ≡ in_pages held numbers pages number
in_pages_elsewhere held [] pages k number q other = refl
in_pages_elsewhere held (n ∷ ns) [] k number q other = refl
in_pages_elsewhere held (n ∷ ns) (p ∷ ps) zero number q other = rw (differs n number other) refl
in_pages_elsewhere held (n ∷ ns) (p ∷ ps) (suc k) number q other =
    ap (λ h. cond (n == number) (held p) h) (in_pages_elsewhere held ns ps k number q other)

-- so does what the new page holds as the old one did
pub in_pages_same : (held : Page → ℕ) (numbers : List ℕ) (pages : List Page) (k number : ℕ) (p q : Page) → get_or pages k p ≡ p →
    held q ≡ held p → in_pages held numbers (set pages k q) number ≡ in_pages held numbers pages number
in_pages_same held [] pages k number p q is same = refl
in_pages_same held (n ∷ ns) [] k number p q is same = refl
in_pages_same held (n ∷ ns) (x ∷ ps) zero number p q is same =
    ap (λ h. cond (n == number) h (in_pages held ns ps number)) (same ∙ ap held (sym is))
in_pages_same held (n ∷ ns) (x ∷ ps) (suc k) number p q is same =
    ap (λ h. cond (n == number) (held x) h) (in_pages_same held ns ps k number p q is same)

-- pages of zeros
pub in_pages_zero : (held : Page → ℕ) (numbers : List ℕ) (pages : List Page) (number : ℕ) → All (λ p. held p ≡ 0) pages →
    in_pages held numbers pages number ≡ 0
in_pages_zero held [] pages number zeros = refl
in_pages_zero held (n ∷ ns) [] number zeros = refl
in_pages_zero held (n ∷ ns) (p ∷ ps) number zeros = elim (cases_Bool (n == number)) [
  | inl same ↦ rw same (zeros 0 p (omega arith))
  | inr other ↦ rw other (in_pages_zero held ns ps number (λ k d below. zeros (suc k) d (omega (arith, below))))
]

-- ---- bytes and tags

pub byte_at_page : (regions : List Extent) (numbers : List ℕ) (pages : List Page) (k at : ℕ) (p : Page) → is_mapped regions at ≡ true →
    IsPageAt numbers pages k (at / 4096) p → byte_in_pages regions numbers pages at ≡ page_byte p at
byte_at_page regions numbers pages k at p mapped here =
    rw mapped (in_pages_there (λ q. page_byte q at) numbers pages k (at / 4096) p here)

pub byte_unmapped : (regions : List Extent) (numbers : List ℕ) (pages : List Page) (at : ℕ) → is_mapped regions at ≡ false →
    byte_in_pages regions numbers pages at ≡ 0
byte_unmapped regions numbers pages at unmapped = rw unmapped refl

pub byte_elsewhere : (regions : List Extent) (numbers : List ℕ) (pages : List Page) (k at : ℕ) (q : Page) →
    get_or numbers k 0 ≢ at / 4096 → byte_in_pages regions numbers (set pages k q) at ≡ byte_in_pages regions numbers pages at
byte_elsewhere regions numbers pages k at q other =
    ap (λ h. cond (is_mapped regions at) h 0) (in_pages_elsewhere (λ p. page_byte p at) numbers pages k (at / 4096) q other)

pub byte_same : (regions : List Extent) (numbers : List ℕ) (pages : List Page) (k at : ℕ) (p q : Page) → get_or pages k p ≡ p →
    q.bytes ≡ p.bytes → byte_in_pages regions numbers (set pages k q) at ≡ byte_in_pages regions numbers pages at
byte_same regions numbers pages k at p q is same =
    ap (λ h. cond (is_mapped regions at) h 0)
    (in_pages_same (λ x. page_byte x at) numbers pages k (at / 4096) p q is (ap (λ xs. get_or xs (at % 4096) 0 % 256) same))

pub tag_at_page : (regions : List Extent) (numbers : List ℕ) (pages : List Page) (k granule : ℕ) (p : Page) →
    is_mapped regions (granule * 16) ≡ true → IsPageAt numbers pages k (granule / 256) p →
    tag_in_pages regions numbers pages granule ≡ page_tag p (granule % 256)
tag_at_page regions numbers pages k granule p mapped here =
    rw mapped (in_pages_there (λ q. page_tag q (granule % 256)) numbers pages k (granule / 256) p here)

pub tag_elsewhere : (regions : List Extent) (numbers : List ℕ) (pages : List Page) (k granule : ℕ) (q : Page) →
    get_or numbers k 0 ≢ granule / 256 → tag_in_pages regions numbers (set pages k q) granule ≡ tag_in_pages regions numbers pages granule
tag_elsewhere regions numbers pages k granule q other =
    ap (λ h. cond (is_mapped regions (granule * 16)) h 0)
    (in_pages_elsewhere (λ p. page_tag p (granule % 256)) numbers pages k (granule / 256) q other)

pub tag_same : (regions : List Extent) (numbers : List ℕ) (pages : List Page) (k granule : ℕ) (p q : Page) → get_or pages k p ≡ p →
    page_tag q (granule % 256) ≡ page_tag p (granule % 256) →
    tag_in_pages regions numbers (set pages k q) granule ≡ tag_in_pages regions numbers pages granule
tag_same regions numbers pages k granule p q is same =
    ap (λ h. cond (is_mapped regions (granule * 16)) h 0)
    (in_pages_same (λ x. page_tag x (granule % 256)) numbers pages k (granule / 256) p q is same)

-- a page with the same tags, and one with the same bytes
pub tag_same_page : (regions : List Extent) (numbers : List ℕ) (pages : List Page) (k : ℕ) (p q : Page) → get_or pages k p ≡ p →
    q.tags ≡ p.tags → tag_in_pages regions numbers (set pages k q) ≡ tag_in_pages regions numbers pages
tag_same_page regions numbers pages k p q is same =
    fun_ext (λ granule. tag_same regions numbers pages k granule p q is
    (ap (λ xs. half_of (get_or xs (granule % 256 / 2) 0) (granule % 256 % 2 == 0)) same))

pub byte_same_page : (regions : List Extent) (numbers : List ℕ) (pages : List Page) (k : ℕ) (p q : Page) → get_or pages k p ≡ p →
    q.bytes ≡ p.bytes → byte_in_pages regions numbers (set pages k q) ≡ byte_in_pages regions numbers pages
byte_same_page regions numbers pages k p q is same = fun_ext (λ at. byte_same regions numbers pages k at p q is same)

-- ---- pages of zeros

pub zero_bytes : (regions : List Extent) (numbers : List ℕ) (pages : List Page) (n : ℕ) (p : Page) → pages ≡ replicate n p →
    ((k : ℕ) → get_or p.bytes k 0 ≡ 0) → byte_in_pages regions numbers pages ≡ (λ _. 0)
zero_bytes regions numbers pages n p is zeros = fun_ext (λ at. elim (cases_Bool (is_mapped regions at)) [
  | inl mapped ↦
      rw mapped
      (in_pages_zero (λ q. page_byte q at) numbers pages (at / 4096)
      (subst (All (λ q. page_byte q at ≡ 0)) (sym is)
      (All-replicate (λ q. page_byte q at ≡ 0) n p (ap (λ b. b % 256) (zeros (at % 4096))))))
  | inr unmapped ↦ byte_unmapped regions numbers pages at unmapped
])

zero_half : (lower : Bool) → half_of 0 lower ≡ 0
zero_half true = refl
zero_half false = refl

pub zero_tags : (regions : List Extent) (numbers : List ℕ) (pages : List Page) (n : ℕ) (p : Page) (granule : ℕ) → pages ≡ replicate n p →
    ((k : ℕ) → get_or p.tags k 0 ≡ 0) → tag_in_pages regions numbers pages granule ≡ 0
zero_tags regions numbers pages n p granule is zeros = elim (cases_Bool (is_mapped regions (granule * 16))) [
  | inl mapped ↦
      rw mapped
      (in_pages_zero (λ q. page_tag q (granule % 256)) numbers pages (granule / 256)
      (subst (All (λ q. page_tag q (granule % 256) ≡ 0)) (sym is)
      (All-replicate (λ q. page_tag q (granule % 256) ≡ 0) n p
      (ap (λ b. half_of b (granule % 256 % 2 == 0)) (zeros (granule % 256 / 2)) ∙ zero_half (granule % 256 % 2 == 0)))))
  | inr unmapped ↦ rw unmapped refl
]
