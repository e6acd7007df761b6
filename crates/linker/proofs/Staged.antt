-- What the stages of a link know of each other.
use Rattle.std.proofs.Common.{◌≡◌, ℕ, ◌+◌, ◌<◌, ◌≤◌, ◌^◌, List, [], ◌∷◌, map, length, None, Some, sym, ap, ◌∙◌, arith}
use Rattle.std.proofs.Common.{inr}
use Rattle.std.proofs.lemmas.List.{length-map}
use Rattle.elf_obj.specs.declared.parts.ObjectParts.{ObjectParts}
use Rattle.elf_obj.specs.Object.{Object, object_of}
use Rattle.linker.specs.declared.names.Numbers.{Numbers}
use Rattle.linker.specs.declared.lengths.Lengths.{Lengths}
use Rattle.linker.specs.declared.layout.Starts.{Starts}
use Rattle.linker.specs.declared.layout.Layout.{Layout}
use Rattle.linker.specs.declared.plan.Plan.{Plan}
use Rattle.linker.specs.declared.spans.Span.{Span}
use Rattle.linker.specs.declared.totals.Totals.{Totals}
use Rattle.linker.specs.declared.refusal.LinkRefusal.TheVariants.{ImageTooLarge}
use Rattle.linker.specs.Sections.{starts}
use Rattle.linker.specs.Got.{got, got_bytes}
use Rattle.linker.specs.Data.{filled_size, zero_size}
use Rattle.linker.specs.Tagged.{sized}
use Rattle.linker.specs.LinkFault.{too_large, AreBound, excess}
use Rattle.linker.specs.Known.{objects_of, numbers_of, Refuses, AreStarts, AreNear}
use Rattle.linker.specs.Totals.{AreLengths, totals_of, memory_by}
use Rattle.linker.specs.Spans.{AreApart}
use Rattle.linker.specs.Planned.{AreStartsOf, bases_by, excess_by, IsPlan, IsAccepted}
use Rattle.linker.specs.Laws.Places.{memory_is}
use Rattle.linker.specs.Laws.Valid.{no_excess}
use Rattle.linker.specs.Laws.PlanLaws.{within, sizes, excess_is, near, few_words}

-- ---- lengths and starts

-- there are as many lengths of each kind as objects
pub record AreFew (l : Lengths) : Type 0 where
  pub words : length l.words.items ≤ 16
  pub rodata : length l.rodata.items ≤ 16
  pub init : length l.init.items ≤ 16
  pub zero : length l.zero.items ≤ 16

pub few_lengths : (objects : List Object) (l : Lengths) → AreLengths objects l → length objects ≤ 16 → AreFew l
few_lengths objects l h few = record {
  words = omega (arith, ap length h.words, length-map objects (λ (o : Object). length o.words));
  rodata = omega (arith, ap length h.rodata, length-map objects (λ (o : Object). length o.rodata));
  init = omega (arith, ap length h.init, length-map objects (λ (o : Object). length o.init_bytes));
  zero = omega (arith, ap length h.zero, length-map objects (λ (o : Object). o.zero_bytes));
}

pub starts_are : (objects : List Object) (l : Lengths) (table : ℕ) (s : Starts) → AreLengths objects l → table ≡ got_bytes objects
    → AreStartsOf l table s → AreStarts objects s
starts_are objects l table s h bytes at = record {
  text = at.text ∙ ap (starts 4 2) h.words;
  rodata = at.rodata ∙ ap (starts 16 0) h.rodata;
  init = at.init ∙ (λ i. starts 16 (bytes i) (h.init i));
  zero = at.zero ∙ ap (starts 16 0) h.zero;
}

pub few_parts : (ps : List ObjectParts) → AreBound (objects_of ps) → length ps ≤ 16
few_parts ps h = let few = h.few in omega (arith, few, length-map ps object_of)

pub as_many_words : (objects : List Object) (keys : List Numbers) → keys ≡ map numbers_of (got objects) → length keys ≡ length (got objects)
as_many_words objects keys is = ap length is ∙ length-map (got objects) numbers_of

-- ---- the size of the image

told_is : (objects : List Object) (p : Plan) → IsPlan objects p → excess (sized objects p.count) ≡ excess_by p.totals p.count
told_is objects p plan = excess_is objects p.count ∙ sym (ap (λ (t : Totals). excess_by t p.count) plan.totals)

pub too_large_refused : (objects : List Object) (p : Plan) (bytes : ℕ) → AreBound objects → IsPlan objects p
    → excess_by p.totals p.count ≡ Some bytes → Refuses objects (ImageTooLarge bytes)
too_large_refused objects p bytes bound plan is =
    inr (too_large p.count bytes bound plan.fewest (told_is objects p plan ∙ is))

pub accept : (objects : List Object) (p : Plan) → AreBound objects → IsPlan objects p → excess_by p.totals p.count ≡ None
    → IsAccepted objects p
accept objects p bound plan is = record { plan = plan; bound = bound; fits = told_is objects p plan ∙ is }

-- the memory of the image is within its limit
pub memory_low : (objects : List Object) (p : Plan) → IsAccepted objects p → memory_by p.totals p.count ≤ 268435456
memory_low objects p h =
    let le = no_excess (sized objects p.count) h.fits in
    let is = memory_is objects p.count in
    let same = ap (λ (t : Totals). memory_by t p.count) h.plan.totals in omega arith

-- ---- the layout

pub same_bases_by : (objects : List Object) (p : Plan) → IsPlan objects p → bases_by p.totals p.count ≡ bases_by (totals_of objects) p.count
same_bases_by objects p plan = ap (λ (t : Totals). bases_by t p.count) plan.totals

pub layout_near : (objects : List Object) (p : Plan) (l : Layout) → IsAccepted objects p → l.bases ≡ bases_by p.totals p.count
    → AreStarts objects l.starts → AreNear l
layout_near objects p l h bases at =
    let low = memory_low objects p h in
    let same = ap (λ (t : Totals). memory_by t p.count) h.plan.totals in
    near objects l p.count (bases ∙ same_bases_by objects p h.plan) at (omega arith)

pub few_keys : (objects : List Object) (p : Plan) (keys : List Numbers) → IsAccepted objects p → keys ≡ map numbers_of (got objects)
    → length keys < 2 ^ 50
few_keys objects p keys h is =
    let low = memory_low objects p h in
    let same = ap (λ (t : Totals). memory_by t p.count) h.plan.totals in
    let few = few_words objects p.count (omega arith) in
    omega (arith, as_many_words objects keys is)

-- ---- the parts

further : (from end more : ℕ) (ss : List Span) → end ≤ more → AreApart from end ss → AreApart from more ss
further from end more [] le h = tt
further from end more (s ∷ ss) le h =
    let reach = h.4 in (h.0, h.1, h.2, h.3, omega arith, further (s.start + s.bytes) end more ss le h.5)

pub spans_near : (objects : List Object) (p : Plan) → IsAccepted objects p → AreApart 0 (2 ^ 32) p.spans.items
spans_near objects p h =
    let low = memory_low objects p h in
    let w = (within p.totals p.count).filled in
    let filled = ap (λ (t : Totals). t.filled) h.plan.totals ∙ (sizes objects).filled in
    let zeros = ap (λ (t : Totals). t.zeros) h.plan.totals ∙ (sizes objects).zeros in
    further 0 (filled_size objects + zero_size objects) (2 ^ 32) p.spans.items (omega arith) h.plan.spans.apart

-- the filled data and the zero bytes are small, and as many as the definition says
pub record AreSized (objects : List Object) (p : Plan) : Type 0 where
  pub filled : p.totals.filled ≡ filled_size objects
  pub filled_low : p.totals.filled < 2 ^ 32
  pub zeros : p.totals.zeros ≡ zero_size objects
  pub zeros_low : p.totals.zeros < 2 ^ 32

pub sized_parts : (objects : List Object) (p : Plan) → IsAccepted objects p → AreSized objects p
sized_parts objects p h =
    let low = memory_low objects p h in
    let w = (within p.totals p.count).filled in
    record {
      filled = ap (λ (t : Totals). t.filled) h.plan.totals ∙ (sizes objects).filled;
      filled_low = omega arith;
      zeros = ap (λ (t : Totals). t.zeros) h.plan.totals ∙ (sizes objects).zeros;
      zeros_low = omega arith;
    }
