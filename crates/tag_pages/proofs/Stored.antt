-- What pages hold in a part, and after bytes or a tag of it were replaced.
use Rattle.std.proofs.Common.{◌≡◌, ◌≢◌, ℕ, ◌+◌, ◌-◌, ◌*◌, ◌/◌, ◌%◌, ◌<◌, ◌≤◌, true, false, List, length, get_or, set, take, drop, refl, sym}
use Rattle.std.proofs.Common.{◌∙◌, ap, ap₂, arith, inl, inr, mod-eq_of_lt, true≢false}
use Rattle.std.proofs.Math.Path.{fun_ext}
use Rattle.std.proofs.lemmas.Bool.{cases_lt, cases_eq, cases_Bool}
use Rattle.std.proofs.lemmas.List.{get_or-take, get_or-drop, get_or_default}
use Rattle.mt_base.specs.Granules.{granule_of}
use Rattle.mt_base.specs.Memory.{Extent, is_mapped, bytes_at, load, store_bytes, store_tag}
use Rattle.mt_base.specs.Laws.Memory.{
  bytes_at_is,
  store_bytes_inside,
  store_bytes_below,
  store_bytes_above,
  store_tag_same,
  store_tag_other,
}
use Rattle.tag_mem.specs.Regions.{put_list}
use Rattle.tag_pages.specs.declared.page.Page.{Page}
use Rattle.tag_pages.specs.declared.part.Part.{Part}
use Rattle.tag_pages.specs.Pages.{page_byte, page_tag, byte_in_pages, tag_in_pages}
use Rattle.tag_pages.specs.Parts.{IsLaidOut, IsPart, IsPartAt}
use Rattle.tag_pages.proofs.Bytes.{put_list_below, put_list_inside, put_list_above}
use Rattle.tag_pages.proofs.Words.{load_moved}
use Rattle.tag_pages.proofs.Held.{IsPageAt, page_set, byte_at_page, byte_unmapped, byte_elsewhere, tag_at_page, tag_elsewhere, tag_same}
use Rattle.tag_pages.proofs.Parts.{number_of_part, page_of_part, further, granule_of_part, four_within}

-- pages and one of them, in which the address has a part
pub record IsStored (regions : List Extent) (numbers : List ℕ) (pages : List Page) (at : ℕ) (part : Part) (p : Page) : Type 0 where
  pub laid : IsLaidOut regions numbers
  pub count : length pages ≡ length numbers
  pub here : IsPartAt regions numbers at part
  pub is : get_or pages part.page p ≡ p

-- whatever stands in for a page past the last
pub stored_at : (regions : List Extent) (numbers : List ℕ) (pages : List Page) (at : ℕ) (part : Part) (d : Page) →
    IsLaidOut regions numbers → length pages ≡ length numbers → IsPartAt regions numbers at part →
    IsStored regions numbers pages at part (get_or pages part.page d)
stored_at regions numbers pages at part d laid count here = record {
  laid = laid;
  count = count;
  here = here;
  is = get_or_default pages part.page (get_or pages part.page d) d
      (omega (arith, count, here.is_part.in_range (omega (arith, here.from, here.to))));
}

stored_page : (regions : List Extent) (numbers : List ℕ) (pages : List Page) (at : ℕ) (part : Part) (p : Page) →
    IsStored regions numbers pages at part p → IsPageAt numbers pages part.page (at / 4096) p
stored_page regions numbers pages at part p s = page_of_part regions numbers pages at part p s.laid s.count s.here s.is

stored_byte : (regions : List Extent) (numbers : List ℕ) (pages : List Page) (at : ℕ) (part : Part) (p : Page) →
    IsStored regions numbers pages at part p → byte_in_pages regions numbers pages at ≡ page_byte p at
stored_byte regions numbers pages at part p s =
    byte_at_page regions numbers pages part.page at p (s.here.is_part.mapped at s.here.from s.here.to)
    (stored_page regions numbers pages at part p s)

-- the byte of an address further on, by its place in the page
byte_further : (regions : List Extent) (numbers : List ℕ) (pages : List Page) (at : ℕ) (part : Part) (p : Page) (k : ℕ) →
    IsStored regions numbers pages at part p → at + k ≤ part.last →
    get_or p.bytes (at % 4096 + k) 0 % 256 ≡ byte_in_pages regions numbers pages (at + k)
byte_further regions numbers pages at part p k s within =
    let up : part.first ≤ part.last = omega (arith, s.here.from, s.here.to) in
    ap (λ i. get_or p.bytes i 0 % 256)
    (let e : at % 4096 + k ≡ (at + k) % 4096 = omega (arith, s.here.is_part.one_page up, s.here.from, within) in e)
    ∙ sym
    (stored_byte regions numbers pages (at + k) part p
    (record { laid = s.laid; count = s.count; here = further regions numbers at k part s.here within; is = s.is }))

-- what is read of a part
pub stored_bytes : (regions : List Extent) (numbers : List ℕ) (pages : List Page) (at : ℕ) (part : Part) (p : Page) (n : ℕ) →
    IsStored regions numbers pages at part p → at + n ≤ part.last + 1 → length (take n (drop (at % 4096) p.bytes)) ≡ n →
    ((k : ℕ) → get_or p.bytes k 0 < 256) → take n (drop (at % 4096) p.bytes) ≡ bytes_at n (byte_in_pages regions numbers pages) at
stored_bytes regions numbers pages at part p n s within long small =
    bytes_at_is n (byte_in_pages regions numbers pages) at (take n (drop (at % 4096) p.bytes)) long
    (λ k h. get_or-take n (drop (at % 4096) p.bytes) k 0 h
    ∙ get_or-drop (at % 4096) p.bytes k 0
    ∙ sym (mod-eq_of_lt (small (at % 4096 + k)))
    ∙ byte_further regions numbers pages at part p k s (omega (arith, within, h)))

-- the word there
pub stored_word : (regions : List Extent) (numbers : List ℕ) (pages : List Page) (at : ℕ) (part : Part) (p : Page) →
    IsStored regions numbers pages at part p → at % 4 ≡ 0 → ((k : ℕ) → get_or p.bytes k 0 < 256) →
    load 4 (λ k. get_or p.bytes k 0) (at % 4096) ≡ load 4 (byte_in_pages regions numbers pages) at
stored_word regions numbers pages at part p s aligned small =
    load_moved 4 (λ k. get_or p.bytes k 0) (byte_in_pages regions numbers pages) (at % 4096) at
    (λ k h. sym (mod-eq_of_lt (small (at % 4096 + k)))
    ∙ byte_further regions numbers pages at part p k s (omega (arith, h, four_within regions numbers at part s.here aligned)))

-- ---- bytes that were put

-- an element of a list with a part that was put, and the byte of a store there
put_reads : (xs : List ℕ) (f : ℕ → ℕ) (start offset : ℕ) (bytes : List ℕ) (j : ℕ) → offset + length bytes ≤ length xs →
    ((k : ℕ) → get_or bytes k 0 < 256) → get_or xs j 0 % 256 ≡ f (start + j) →
    get_or (put_list xs offset bytes) j 0 % 256 ≡ store_bytes f (start + offset) bytes (start + j)
put_reads xs f start offset bytes j room small was = elim (cases_lt j offset) [
  | inl below ↦
      ap (λ n. n % 256) (put_list_below xs offset bytes j room below)
      ∙ was
      ∙ sym (store_bytes_below f (start + offset) bytes (start + j) (omega (arith, below)))
  | inr from ↦ elim (cases_lt j (offset + length bytes)) [
    | inl inside ↦
        ap (λ n. get_or (put_list xs offset bytes) n 0 % 256) (let e : j ≡ offset + (j - offset) = omega (arith, from) in e)
        ∙ ap (λ n. n % 256) (put_list_inside xs offset bytes (j - offset) room (omega (arith, from, inside)))
        ∙ mod-eq_of_lt (small (j - offset))
        ∙ sym (store_bytes_inside f (start + offset) bytes (j - offset) (omega (arith, from, inside)))
        ∙ ap (store_bytes f (start + offset) bytes) (let e : start + offset + (j - offset) ≡ start + j = omega (arith, from) in e)
    | inr above ↦
        ap (λ n. n % 256) (put_list_above xs offset bytes j room above)
        ∙ was
        ∙ sym (store_bytes_above f (start + offset) bytes (start + j) (omega (arith, above)))
  ]
]

-- a store does not reach addresses of other pages, nor those of no region
store_elsewhere : (regions : List Extent) (numbers : List ℕ) (f : ℕ → ℕ) (at : ℕ) (part : Part) (bytes : List ℕ) (a : ℕ) →
    IsPartAt regions numbers at part → at + length bytes ≤ part.last + 1 → (part.first ≤ a → a ≤ part.last → ⊥) →
    store_bytes f at bytes a ≡ f a
store_elsewhere regions numbers f at part bytes a here within other = elim (cases_lt a at) [
  | inl below ↦ store_bytes_below f at bytes a below
  | inr from ↦ elim (cases_lt a (at + length bytes)) [
    | inl inside ↦ absurd (other (omega (arith, here.from, from)) (omega (arith, inside, within)))
    | inr above ↦ store_bytes_above f at bytes a above
  ]
]

pub byte_put : (regions : List Extent) (numbers : List ℕ) (pages : List Page) (at : ℕ) (part : Part) (p q : Page) (bytes : List ℕ) →
    IsStored regions numbers pages at part p → at + length bytes ≤ part.last + 1 → length p.bytes ≡ 4096 →
    q.bytes ≡ put_list p.bytes (at % 4096) bytes → ((k : ℕ) → get_or bytes k 0 < 256) →
    byte_in_pages regions numbers (set pages part.page q) ≡ store_bytes (byte_in_pages regions numbers pages) at bytes
byte_put regions numbers pages at part p q bytes s within size put small = fun_ext (λ a. elim (cases_Bool (is_mapped regions a)) [
  | inl mapped ↦ elim (cases_eq (at / 4096) (a / 4096)) [
    | inl same ↦ there a mapped same
    | inr other ↦
        byte_elsewhere regions numbers pages part.page a q (λ is. other (sym number ∙ is))
        ∙ sym (store_elsewhere regions numbers (byte_in_pages regions numbers pages) at part bytes a s.here within
        (λ from to. other (omega (arith, one_page, s.here.from, s.here.to, from, to))))
  ]
  | inr unmapped ↦
      byte_unmapped regions numbers (set pages part.page q) a unmapped
      ∙ sym (byte_unmapped regions numbers pages a unmapped)
      ∙ sym (store_elsewhere regions numbers (byte_in_pages regions numbers pages) at part bytes a s.here within
      (λ from to. true≢false (sym (s.here.is_part.mapped a from to) ∙ unmapped)))
])
  where
    number : get_or numbers part.page 0 ≡ at / 4096
    number = number_of_part regions numbers at part s.here

    one_page : part.last / 4096 ≡ part.first / 4096
    one_page = s.here.is_part.one_page (omega (arith, s.here.from, s.here.to))

    moved : (a : ℕ) → at / 4096 ≡ a / 4096 → (x : Page) (ps : List Page) → IsPageAt numbers ps part.page (at / 4096) x →
        IsPageAt numbers ps part.page (a / 4096) x
    moved a same x ps here =
        record { up = here.up; count = here.count; in_range = here.in_range; number_is = here.number_is ∙ same; is = here.is }

    there : (a : ℕ) → is_mapped regions a ≡ true → at / 4096 ≡ a / 4096 →
        byte_in_pages regions numbers (set pages part.page q) a ≡ store_bytes (byte_in_pages regions numbers pages) at bytes a
    there a mapped same =
        let page = stored_page regions numbers pages at part p s in
        byte_at_page regions numbers (set pages part.page q) part.page a q mapped
        (moved a same q (set pages part.page q) (page_set numbers pages part.page (at / 4096) p q page))
        ∙ ap (λ xs. get_or xs (a % 4096) 0 % 256) put
        ∙ put_reads p.bytes (byte_in_pages regions numbers pages) (at / 4096 * 4096) (at % 4096) bytes (a % 4096)
        (omega (arith, size, within, one_page, s.here.from, s.here.to)) small
        (sym (byte_at_page regions numbers pages part.page a p mapped (moved a same p pages page))
        ∙ ap (byte_in_pages regions numbers pages) (let e : a ≡ at / 4096 * 4096 + a % 4096 = omega (arith, same) in e))
        ∙ ap₂ (λ x y. store_bytes (byte_in_pages regions numbers pages) x bytes y)
        (let e : at / 4096 * 4096 + at % 4096 ≡ at = omega arith in e)
        (let e : at / 4096 * 4096 + a % 4096 ≡ a = omega (arith, same) in e)

-- ---- tags

granule_mapped : (regions : List Extent) (numbers : List ℕ) (at : ℕ) (part : Part) → IsPartAt regions numbers at part →
    is_mapped regions (granule_of at * 16) ≡ true
granule_mapped regions numbers at part here =
    let first = granule_of_part regions numbers at 0 part here (omega arith) in
    here.is_part.mapped (granule_of at * 16) (omega (arith, first.from)) (omega (arith, first.to))

granule_page : (numbers : List ℕ) (pages : List Page) (at : ℕ) (part : Part) (p : Page) → IsPageAt numbers pages part.page (at / 4096) p →
    IsPageAt numbers pages part.page (granule_of at / 256) p
granule_page numbers pages at part p here = record {
  up = here.up;
  count = here.count;
  in_range = here.in_range;
  number_is = here.number_is ∙ (let e : at / 4096 ≡ granule_of at / 256 = omega arith in e);
  is = here.is;
}

pub stored_tag : (regions : List Extent) (numbers : List ℕ) (pages : List Page) (at : ℕ) (part : Part) (p : Page) →
    IsStored regions numbers pages at part p → tag_in_pages regions numbers pages (granule_of at) ≡ page_tag p (at % 4096 / 16)
stored_tag regions numbers pages at part p s =
    tag_at_page regions numbers pages part.page (granule_of at) p (granule_mapped regions numbers at part s.here)
    (granule_page numbers pages at part p (stored_page regions numbers pages at part p s))
    ∙ ap (page_tag p) (let e : granule_of at % 256 ≡ at % 4096 / 16 = omega arith in e)

pub tag_put : (regions : List Extent) (numbers : List ℕ) (pages : List Page) (at : ℕ) (part : Part) (p q : Page) (tag : ℕ) →
    IsStored regions numbers pages at part p → page_tag q (at % 4096 / 16) ≡ tag →
    ((k : ℕ) → k ≢ at % 4096 / 16 → page_tag q k ≡ page_tag p k) →
    tag_in_pages regions numbers (set pages part.page q) ≡ store_tag (tag_in_pages regions numbers pages) at tag
tag_put regions numbers pages at part p q tag s put others = fun_ext (λ granule. elim (cases_eq granule (granule_of at)) [
  | inl same ↦
      ap (tag_in_pages regions numbers (set pages part.page q)) same
      ∙ tag_at_page regions numbers (set pages part.page q) part.page (granule_of at) q (granule_mapped regions numbers at part s.here)
      (granule_page numbers (set pages part.page q) at part q
      (page_set numbers pages part.page (at / 4096) p q (stored_page regions numbers pages at part p s)))
      ∙ ap (page_tag q) (let e : granule_of at % 256 ≡ at % 4096 / 16 = omega arith in e)
      ∙ put
      ∙ sym (store_tag_same (tag_in_pages regions numbers pages) at tag granule same)
  | inr other ↦ other_granule granule other ∙ sym (store_tag_other (tag_in_pages regions numbers pages) at tag granule other)
])
  where
    other_granule : (granule : ℕ) → granule ≢ granule_of at →
        tag_in_pages regions numbers (set pages part.page q) granule ≡ tag_in_pages regions numbers pages granule
    other_granule granule other = elim (cases_eq (at / 4096) (granule / 256)) [
      | inl same ↦
          tag_same regions numbers pages part.page granule p q s.is
          (others (granule % 256) (λ is. other (let e : granule ≡ granule_of at = omega (arith, same, is) in e)))
      | inr elsewhere ↦
          tag_elsewhere regions numbers pages part.page granule q
          (λ is. elsewhere (sym (number_of_part regions numbers at part s.here) ∙ is))
    ]
