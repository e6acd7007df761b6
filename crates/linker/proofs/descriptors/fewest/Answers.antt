use Rattle.std.proofs.Common.{◌≡◌, ℕ, ◌%◌, ◌≤◌, List, map, sym, subst, ap, ◌∙◌, arith}
use Rattle.linker.specs.declared.spans.Span.{Span}
use Rattle.linker.specs.declared.totals.Totals.{Totals}
use Rattle.linker.specs.Tagged.{SpellsFrom}
use Rattle.linker.specs.Totals.{filled_by}
use Rattle.linker.specs.Spans.{at_place, HasLength}
use Rattle.linker.specs.Laws.Spelled.{longer}
use Rattle.linker.specs.Laws.FewestLaws.{filled_grows, filled_whole, agrees, agreed}
use Rattle.linker.proofs.descriptors.fewest.Goals as goal

pub spelled_len-next-requires-clause-whole : goal.spelled_len-next-requires-clause-whole
spelled_len-next-requires-clause-whole c = ap (λ (m : ℕ). m % 16) c.filled_place.ensures.place ∙ filled_whole c.args.totals.now 0

-- the bytes of the spans where the filled data begins at a place
abbrev Spelled : List Span → ℕ → ℕ → Type 0
Spelled ss n place = HasLength (SpellsFrom 0 (map (at_place place) ss)) n

pub loop-next-init : goal.loop-next-init
loop-next-init c = record {
  next_is = subst (Spelled c.args.spans.now c.spelled_len-next.result) c.filled_place.ensures.place c.spelled_len-next.ensures.len;
  rises = omega arith;
  few = c.spelled_len-next.ensures.small;
  least = λ objects other spans totals agree. omega arith;
}

pub spelled_len-next-requires-in-loop-next-clause-whole : goal.spelled_len-next-requires-in-loop-next-clause-whole
spelled_len-next-requires-in-loop-next-clause-whole c =
    ap (λ (m : ℕ). m % 16) c.filled_place-in-loop-next.ensures.place ∙ filled_whole c.args.totals.now c.loop-next.next

pub loop-next-preserved : goal.loop-next-preserved
loop-next-preserved c =
    let t : Totals = c.args.totals.now in
    let ss : List Span = c.args.spans.now in
    let count : ℕ = c.loop-next.count in
    let next : ℕ = c.loop-next.next in
    let after : ℕ = c.spelled_len-next-in-loop-next.result in
    let new : Spelled ss after (filled_by t next) =
    subst (Spelled ss after) c.filled_place-in-loop-next.ensures.place c.spelled_len-next-in-loop-next.ensures.len in
    record {
      next_is = new;
      rises = longer (filled_by t count) (filled_by t next) ss next after (filled_grows t count next c.loop-next.invariant.rises)
          c.loop-next.invariant.next_is new;
      few = c.spelled_len-next-in-loop-next.ensures.small;
      least = λ objects other spans totals agree.
          let low : count ≤ other = c.loop-next.invariant.least objects other spans totals agree in
          let here : Spelled ss other (filled_by t other) =
          subst (λ (x : Totals). Spelled ss other (filled_by x other)) (sym totals) (agreed objects ss other spans agree) in
          longer (filled_by t count) (filled_by t other) ss next other (filled_grows t count other low) c.loop-next.invariant.next_is here;
    }

pub returns-clause-fewest : goal.returns-clause-fewest
returns-clause-fewest c = λ objects spans totals.
    let ss : List Span = c.args.spans.now in
    let count : ℕ = c.loop-next.count in
    let same : c.loop-next.next ≡ count = c.loop-next-test.false in
    let here : Spelled ss count (filled_by c.args.totals.now count) =
    subst (λ (n : ℕ). Spelled ss n (filled_by c.args.totals.now count)) same c.loop-next.invariant.next_is in
    record {
      agrees = agrees objects ss count spans (subst (λ (x : Totals). Spelled ss count (filled_by x count)) totals here);
      least = λ other agree. c.loop-next.invariant.least objects other spans totals agree;
    }
