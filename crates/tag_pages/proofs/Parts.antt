-- What holds of the addresses of a part.
use Rattle.std.proofs.Common.{
  ◌≡◌,
  ℕ,
  ◌+◌,
  ◌*◌,
  ◌/◌,
  ◌%◌,
  ◌<◌,
  ◌≤◌,
  Bool,
  true,
  false,
  not,
  cond,
  List,
  length,
  get_or,
  refl,
  sym,
  ◌∙◌,
  ap,
  arith,
}
use Rattle.std.proofs.Common.{true≢false, inl, inr, add-zero, ◌&&◌, ◌↔◌, Option, None, IsSome, IsTrue, [], ◌∷◌}
use Rattle.std.proofs.lemmas.Bool.{cases_Bool, and_from, and_left, and_right, or_parts, or_from, eq-eqb}
use Rattle.mt_base.specs.Memory.{Span, Extent, is_in_span, is_in_extent, is_mapped, is_protected, is_executable, every_byte, some_byte}
use Rattle.mt_base.specs.Laws.Memory.{every_byte_from, every_byte_at, every_byte_not, some_byte_from, some_byte_none}
use Rattle.tag_mem.specs.declared.access.Access.TheVariants.{Done, Unmapped, Guard, Protected}
use Rattle.tag_mem.specs.Answers.{read_answer, write_answer, set_tag_answer, is_fetchable}
use Rattle.tag_mem.specs.Regions.{IsWhole, IsWellPlaced}
use Rattle.tag_mem.specs.Laws.Regions.{guard_unmapped}
use Rattle.tag_pages.specs.declared.page.Page.{Page}
use Rattle.tag_pages.specs.declared.part.Part.{Part}
use Rattle.tag_pages.specs.Parts.{IsLaidOut, IsPart, IsPartAt}
use Rattle.tag_pages.proofs.Mapped.{IsAt, between_from, between_parts, any_at_region, mapped_at_region}
use Rattle.tag_pages.proofs.Places.{ordered}
use Rattle.tag_pages.proofs.Held.{IsPageAt}

-- ---- its page

pub number_of_part : (regions : List Extent) (numbers : List ℕ) (at : ℕ) (part : Part) → IsPartAt regions numbers at part →
    get_or numbers part.page 0 ≡ at / 4096
number_of_part regions numbers at part here =
    let up : part.first ≤ part.last = omega (arith, here.from, here.to) in
    omega (arith, here.is_part.number up, here.is_part.one_page up, here.from, here.to)

pub page_of_part : (regions : List Extent) (numbers : List ℕ) (pages : List Page) (at : ℕ) (part : Part) (p : Page) →
    IsLaidOut regions numbers → length pages ≡ length numbers → IsPartAt regions numbers at part → get_or pages part.page p ≡ p →
    IsPageAt numbers pages part.page (at / 4096) p
page_of_part regions numbers pages at part p laid count here is = record {
  up = ordered numbers laid.increasing;
  count = count;
  in_range = here.is_part.in_range (omega (arith, here.from, here.to));
  number_is = number_of_part regions numbers at part here;
  is = is;
}

pub near : (regions : List Extent) (numbers : List ℕ) (at : ℕ) (part : Part) → IsPartAt regions numbers at part → part.last ≤ at + 4095
near regions numbers at part here =
    let up : part.first ≤ part.last = omega (arith, here.from, here.to) in omega (arith, here.is_part.one_page up, here.from, here.to)

-- the addresses from one on are in its page
pub offset_within : (regions : List Extent) (numbers : List ℕ) (at n : ℕ) (part : Part) → IsPartAt regions numbers at part →
    at + n ≤ part.last + 1 → at % 4096 + n ≤ 4096
offset_within regions numbers at n part here within =
    let up : part.first ≤ part.last = omega (arith, here.from, here.to) in
    omega (arith, here.is_part.one_page up, here.from, here.to, within)

pub further : (regions : List Extent) (numbers : List ℕ) (at k : ℕ) (part : Part) → IsPartAt regions numbers at part →
    at + k ≤ part.last → IsPartAt regions numbers (at + k) part
further regions numbers at k part here within = record { is_part = here.is_part; from = omega (arith, here.from); to = within }

-- the granule of one of them is in it
pub granule_of_part : (regions : List Extent) (numbers : List ℕ) (at k : ℕ) (part : Part) → IsPartAt regions numbers at part → k < 16 →
    IsPartAt regions numbers (at / 16 * 16 + k) part
granule_of_part regions numbers at k part here below =
    let up : part.first ≤ part.last = omega (arith, here.from, here.to) in record {
      is_part = here.is_part;
      from = omega (arith, here.is_part.first_whole up, here.from);
      to = omega (arith, here.is_part.last_whole up, here.to, below);
    }

-- ---- accesses to it

pub run_mapped : (regions : List Extent) (numbers : List ℕ) (at n : ℕ) (part : Part) → IsPartAt regions numbers at part →
    at + n ≤ part.last + 1 → every_byte (is_mapped regions) at n ≡ true
run_mapped regions numbers at n part here within =
    every_byte_from (is_mapped regions) at n
    (λ k h. here.is_part.mapped (at + k) (omega (arith, here.from)) (omega (arith, within, h)))

pub run_protected : (regions : List Extent) (numbers : List ℕ) (at n : ℕ) (part : Part) → IsPartAt regions numbers at part →
    at + n ≤ part.last + 1 → 0 < n → some_byte (is_protected regions) at n ≡ not part.writable
run_protected regions numbers at n part here within some =
    elim part.writable as (λ b. part.writable ≡ b → some_byte (is_protected regions) at n ≡ not b) [
      | true ↦ λ is. some_byte_none (is_protected regions) at n (λ k h. each k h ∙ ap not is)
      | false ↦ λ is. some_byte_from (is_protected regions) at n 0 some (each 0 some ∙ ap not is)
    ] refl
  where
    each : (k : ℕ) → k < n → is_protected regions (at + k) ≡ not part.writable
    each k h = here.is_part.protected (at + k) (omega (arith, here.from)) (omega (arith, within, h))

run_writable : (regions : List Extent) (numbers : List ℕ) (at n : ℕ) (part : Part) → IsPartAt regions numbers at part →
    at + n ≤ part.last + 1 → part.writable ≡ true → some_byte (is_protected regions) at n ≡ false
run_writable regions numbers at n part here within writable =
    some_byte_none (is_protected regions) at n
    (λ k h. here.is_part.protected (at + k) (omega (arith, here.from)) (omega (arith, within, h)) ∙ ap not writable)

run_unguarded : (regions : List Extent) (numbers : List ℕ) (guard : Span) (at n : ℕ) (part : Part) → IsWellPlaced regions guard →
    IsPartAt regions numbers at part → at + n ≤ part.last + 1 → some_byte (is_in_span guard) at n ≡ false
run_unguarded regions numbers guard at n part placed here within = some_byte_none (is_in_span guard) at n each
  where
    each : (k : ℕ) → k < n → is_in_span guard (at + k) ≡ false
    each k h = elim (cases_Bool (is_in_span guard (at + k))) [
      | inl inside ↦
          absurd (true≢false (sym (here.is_part.mapped (at + k) (omega (arith, here.from)) (omega (arith, within, h)))
          ∙ guard_unmapped regions guard (at + k) placed inside))
      | inr other ↦ other
    ]

pub part_read : (regions : List Extent) (numbers : List ℕ) (guard : Span) (at n : ℕ) (part : Part) → IsWellPlaced regions guard →
    IsPartAt regions numbers at part → at + n ≤ part.last + 1 → read_answer regions guard at n ≡ Done
part_read regions numbers guard at n part placed here within =
    rw (run_unguarded regions numbers guard at n part placed here within, run_mapped regions numbers at n part here within) refl

pub part_written : (regions : List Extent) (numbers : List ℕ) (guard : Span) (at n : ℕ) (part : Part) → IsWellPlaced regions guard →
    IsPartAt regions numbers at part → at + n ≤ part.last + 1 → part.writable ≡ true → write_answer regions guard at n ≡ Done
part_written regions numbers guard at n part placed here within writable =
    rw (
      run_unguarded regions numbers guard at n part placed here within,
      run_mapped regions numbers at n part here within,
      run_writable regions numbers at n part here within writable,
    )
    refl

pub part_tagged : (regions : List Extent) (numbers : List ℕ) (guard : Span) (at : ℕ) (part : Part) → IsWellPlaced regions guard →
    IsPartAt regions numbers at part → part.writable ≡ true → set_tag_answer regions guard at ≡ Done
part_tagged regions numbers guard at part placed here writable =
    let first : IsPartAt regions numbers (at / 16 * 16 + 0) part = granule_of_part regions numbers at 0 part here (omega arith) in
    let last : IsPartAt regions numbers (at / 16 * 16 + 15) part = granule_of_part regions numbers at 15 part here (omega arith) in
    part_written regions numbers guard (at / 16 * 16) 16 part placed
    (record { is_part = here.is_part; from = omega (arith, first.from); to = omega (arith, first.to) }) (omega (arith, last.to)) writable

-- where writing is done, each byte is in a region
pub written_mapped : (g m p : Bool) → Done ≡ cond g Guard (cond (not m) Unmapped (cond p Protected Done)) → m ≡ true
written_mapped true m p is = cc
written_mapped false true p is = refl
written_mapped false false p is = cc

-- where a tag may be set, the address is in a region, and in none that is not writable
pub record IsFree (regions : List Extent) (at : ℕ) : Type 0 where
  pub mapped : is_mapped regions at ≡ true
  pub unprotected : is_protected regions at ≡ false

written_free : (g m p : Bool) → Done ≡ cond g Guard (cond (not m) Unmapped (cond p Protected Done)) → p ≡ false
written_free true m p is = cc
written_free false true true is = cc
written_free false true false is = refl
written_free false false p is = cc

pub tagged_free : (regions : List Extent) (guard : Span) (at : ℕ) → Done ≡ write_answer regions guard (at / 16 * 16) 16 → IsFree regions at
tagged_free regions guard at is = record {
  mapped =
      ap (is_mapped regions) address
      ∙ every_byte_at (is_mapped regions) (at / 16 * 16) 16
      (written_mapped (some_byte (is_in_span guard) (at / 16 * 16) 16) (every_byte (is_mapped regions) (at / 16 * 16) 16)
      (some_byte (is_protected regions) (at / 16 * 16) 16) is)
      (at % 16) (omega arith);
  unprotected = elim (cases_Bool (is_protected regions at)) [
    | inl both ↦
        absurd (true≢false (sym (some_byte_from (is_protected regions) (at / 16 * 16) 16 (at % 16) (omega arith)
        (ap (is_protected regions) (sym address) ∙ both))
        ∙ written_free (some_byte (is_in_span guard) (at / 16 * 16) 16) (every_byte (is_mapped regions) (at / 16 * 16) 16)
        (some_byte (is_protected regions) (at / 16 * 16) 16) is))
    | inr free ↦ free
  ];
}
  where
    address : at ≡ at / 16 * 16 + at % 16
    address = omega arith

-- ---- fetches

-- what is in no region is in no executable one
pub unmapped : (regions : List Extent) (at : ℕ) → is_mapped regions at ≡ false → is_executable regions at ≡ false
unmapped [] at none = refl
unmapped (e ∷ es) at none =
    let parts = or_parts (is_in_extent e at) (is_mapped es at) none in
    or_from (is_in_extent e at && e.executable) (is_executable es at) (and_left (is_in_extent e at) e.executable parts.0)
    (unmapped es at parts.1)

-- the answer is there exactly where the test passes
pub none_iff : (o : Option ℕ) (b : Bool) → o ≡ None → b ≡ false → IsSome o ↔ IsTrue b
none_iff o b none fails = rw (none, fails) (λ some. some, λ passes. passes)

pub some_iff : (b : Bool) → b ≡ true → (true ≡ true) ↔ IsTrue b
some_iff b passes = (λ _. passes, λ _. refl)

pub false_iff : (b : Bool) → b ≡ false → (false ≡ true) ↔ IsTrue b
false_iff b fails = rw fails (λ same. same, λ passes. passes)

-- a multiple of 4, with the three bytes behind it
pub four_within : (regions : List Extent) (numbers : List ℕ) (at : ℕ) (part : Part) → IsPartAt regions numbers at part → at % 4 ≡ 0 →
    at + 4 ≤ part.last + 1
four_within regions numbers at part here aligned =
    let up : part.first ≤ part.last = omega (arith, here.from, here.to) in omega (arith, here.is_part.last_whole up, here.to, aligned)

pub part_fetched : (regions : List Extent) (numbers : List ℕ) (at : ℕ) (part : Part) → IsPartAt regions numbers at part →
    at % 4 ≡ 0 → part.executable ≡ true → is_fetchable regions at ≡ true
part_fetched regions numbers at part here aligned executable =
    and_from _ (every_byte (is_executable regions) at 4) (eq-eqb (at % 4) 0 aligned)
    (every_byte_from (is_executable regions) at 4
    (λ k h. here.is_part.executable (at + k) (omega (arith, here.from))
    (omega (arith, h, four_within regions numbers at part here aligned)) ∙ executable))

pub not_fetched : (regions : List Extent) (at : ℕ) → is_executable regions at ≡ false → is_fetchable regions at ≡ false
not_fetched regions at none =
    and_right _ (every_byte (is_executable regions) at 4)
    (every_byte_not (is_executable regions) at 4 0 (omega arith) (ap (is_executable regions) (add-zero at) ∙ none))

-- ---- the part of one page that a region has

-- first and last address of it
pub record Spans (e : Extent) (at : ℕ) (part : Part) : Type 0 where
  pub first_from : e.start ≤ part.first
  pub first_page : at / 4096 * 4096 ≤ part.first
  pub first_at : part.first ≤ at
  pub last_at : at ≤ part.last
  pub last_below : part.last < e.start + e.bytes
  pub last_page : part.last < at / 4096 * 4096 + 4096
  pub first_whole : part.first % 16 ≡ 0
  pub last_whole : (part.last + 1) % 16 ≡ 0

pub is_part_at : (regions : List Extent) (numbers : List ℕ) (i : ℕ) (e : Extent) (at : ℕ) (part : Part) → IsLaidOut regions numbers →
    IsAt regions i e → Spans e at part → part.page < length numbers → get_or numbers part.page 0 ≡ at / 4096 →
    part.writable ≡ e.writable → part.executable ≡ e.executable → IsPartAt regions numbers at part
is_part_at regions numbers i e at part laid here spans in_range number writable executable = record {
  is_part = record {
    in_range = λ _. in_range;
    number = λ _. omega (arith, number, spans.first_page, spans.first_at);
    one_page = λ _. omega (arith, spans.first_page, spans.first_at, spans.last_at, spans.last_page);
    first_whole = λ _. spans.first_whole;
    last_whole = λ _. spans.last_whole;
    mapped = λ a from to. mapped_at_region regions i e a here (inside a from to);
    protected = λ a from to. any_at_region regions i e a (λ x. not x.writable) laid.apart here (inside a from to) ∙ ap not (sym writable);
    executable = λ a from to. any_at_region regions i e a (λ x. x.executable) laid.apart here (inside a from to) ∙ sym executable;
  };
  from = spans.first_at;
  to = spans.last_at;
}
  where
    inside : (a : ℕ) → part.first ≤ a → a ≤ part.last → is_in_extent e a ≡ true
    inside a from to = between_from e.start e.bytes a (omega (arith, from, spans.first_from)) (omega (arith, to, spans.last_below))
