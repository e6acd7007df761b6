use Rattle.std.proofs.Common.{◌≡◌, ℕ, ◌+◌, ◌-◌, List, [], ◌∷◌, map, drop, get_or}
use Rattle.std.proofs.Common.{refl, sym, subst, arith}
use Rattle.std.proofs.lemmas.List.{drop_more, drop_all}
use Rattle.memtag_desc.specs.declared.interval.Interval.{Interval}
use Rattle.linker.specs.declared.spans.Span.{Span}
use Rattle.linker.specs.Tagged.{SpellsFrom, nothing}
use Rattle.linker.specs.Spans.{at_place, AreApart, HasLength}
use Rattle.linker.specs.Laws.Spelled.{spells_more}
use Rattle.linker.proofs.descriptors.spelled_len.Goals as goal

pub loop-span-preserved : goal.loop-span-preserved
loop-span-preserved c =
    let place : ℕ = c.args.place in
    let from : ℕ = c.loop-span.from in
    let i : ℕ = c.loop-span.span-index in
    let ss : List Span = c.args.spans.now in
    let none : Span = record { start = 0; bytes = 0 } in
    let s : Span = get_or ss i none in
    let left : drop i ss ≡ s ∷ drop (i + 1) ss = drop_more ss i none c.loop-span-test.true in
    let apart : AreApart (from - place) c.args.end (s ∷ drop (i + 1) ss) =
    subst (AreApart (from - place) c.args.end) left c.loop-span.invariant.apart in
    let at = apart.0 in
    let bytes = apart.1 in
    let after = apart.3 in
    let reach = apart.4 in
    let whole_place = c.requires.whole in
    let whole = c.loop-span.invariant.whole in
    let few = c.loop-span.invariant.few in
    let n : ℕ = c.descriptor_len-total.result in
    let low = c.descriptor_len-total.ensures.small in
    let ahead : s.start + s.bytes ≡ place + s.start + s.bytes - place = omega arith in
    let total : ℕ = c.loop-span.total in
    record {
      apart = subst (λ (m : ℕ). AreApart m c.args.end (drop (i + 1) ss)) ahead apart.5;
      whole = omega arith;
      far = omega arith;
      rest = λ m h.
          let rest : List Interval = map (at_place place) (drop (i + 1) ss) in
          let more : HasLength (SpellsFrom from (at_place place s ∷ rest)) (n + m) =
          spells_more place from s rest n m (omega arith) (omega arith) whole bytes c.descriptor_len-total.ensures.len h in
          let here : HasLength (SpellsFrom from (map (at_place place) (drop i ss))) (n + m) =
          subst (λ (l : List Span). HasLength (SpellsFrom from (map (at_place place) l)) (n + m)) (sym left) more in
          let e : total + (n + m) ≡ total + n + m = omega arith in
          subst (HasLength (SpellsFrom 0 (map (at_place place) ss))) e (c.loop-span.invariant.rest (n + m) here);
      few = omega arith;
    }

pub returns-clause-len : goal.returns-clause-len
returns-clause-len c =
    let place : ℕ = c.args.place in
    let from : ℕ = c.loop-span.from in
    let ss : List Span = c.args.spans.now in
    let end : HasLength (SpellsFrom from []) 0 = record { bytes = []; is = nothing from; len = refl } in
    let here : HasLength (SpellsFrom from (map (at_place place) (drop c.loop-span.span-index ss))) 0 =
    subst (λ (l : List Span). HasLength (SpellsFrom from (map (at_place place) l)) 0)
    (sym (drop_all c.loop-span.span-index ss c.loop-span-test.false)) end in
    let e : c.loop-span.total + 0 ≡ c.loop-span.total = omega arith in
    subst (HasLength (SpellsFrom 0 (map (at_place place) ss))) e (c.loop-span.invariant.rest 0 here)
