use Rattle.std.proofs.Common.{◌≡◌, ℕ, ◌+◌, ◌<◌, Bool, false, true, List, ◌∷◌, ◌++◌, [], length, take, drop, sym, ap, ◌∙◌, arith}
use Rattle.std.specs.Str.{bytes_eq}
use Rattle.std.specs.HashSet.{contains_by}
use Rattle.std.proofs.lemmas.List.{take_more}
use Rattle.elf_obj.specs.declared.parts.Symbol.{Symbol}
use Rattle.elf_obj.specs.Rules.{is_new}
use Rattle.elf_obj.proofs.Steps.{left}
use Rattle.elf_obj.proofs.Names.{new-step, old-step, seen-more, seen-same, new-as, new-local}
use Rattle.elf_obj.proofs.repeats.first_repeat.Goals as goal
use Rattle.elf_obj.proofs.repeats.first_repeat.Goals.{then-not-symbol+in_ok-added+else-not-added, else-not-symbol}

pub returns-then-not-added : goal.returns-then-not-added
returns-then-not-added c =
    let ss : List Symbol = c.args.symbols.now in
    let i : ℕ = c.loop-index.index in
    let s : Symbol = c.index-symbols-index.result in
    let within : i < length ss = omega arith in
    let front : drop i ss ≡ s ∷ drop (i + 1) ss = left ss i s s within c.index-symbols-index.is in
    let has : Bool = contains_by (λ k. bytes_eq c.as_slice.result.now k.now) c.loop-index.names in
    let seen = ap (λ (n : List ℕ). contains_by (λ k. bytes_eq n k.now) c.loop-index.names) c.as_slice.ensures
    ∙ c.loop-index.invariant.seen s.name in
    let old : is_new (take i ss) s ≡ false =
    new-as (take i ss) s has c.in_ok-added.added c.if-not-symbol.true seen c.in_ok-added.ensures.added ∙ c.if-not-added.true in
    sym (old-step ss i s front old) ∙ c.loop-index.invariant.rest

pub loop-index-preserved : goal.loop-index-preserved
loop-index-preserved c =
    let ss : List Symbol = c.args.symbols.now in
    let i : ℕ = c.loop-index.index in
    let s : Symbol = c.index-symbols-index.result in
    let within : i < length ss = omega arith in
    let front : drop i ss ≡ s ∷ drop (i + 1) ss = left ss i s s within c.index-symbols-index.is in
    let more : take (i + 1) ss ≡ take i ss ++ s ∷ [] =
    take_more ss i s within ∙ ap (λ (t : Symbol). take i ss ++ t ∷ []) (sym c.index-symbols-index.is) in
    elim c.if-not-symbol.branch [
      | then-not-symbol+in_ok-added+else-not-added w ↦
          let has : Bool = contains_by (λ k. bytes_eq w.as_slice.result.now k.now) c.loop-index.names in
          let seen = ap (λ (n : List ℕ). contains_by (λ k. bytes_eq n k.now) c.loop-index.names) w.as_slice.ensures
          ∙ c.loop-index.invariant.seen s.name in
          let new : is_new (take i ss) s ≡ true =
          new-as (take i ss) s has w.in_ok-added.added w.if-not-symbol.true seen w.in_ok-added.ensures.added ∙ w.if-not-added.false in
          record {
            seen = λ name. rw w.names-is (seen-more ss i s name w.as_slice.result.now _ _ more w.if-not-symbol.true w.as_slice.ensures
                (c.loop-index.invariant.seen name)
                (w.in_ok-added.ensures.updates.0 (record { ref_ptr = w.as_slice.result.ref_ptr; now = name })));
            rest = sym (new-step ss i s front more new) ∙ c.loop-index.invariant.rest;
          }
      | else-not-symbol w ↦ record {
        seen = λ name. rw w.names-is (seen-same ss i s name _ more w.if-not-symbol.false (c.loop-index.invariant.seen name));
        rest = sym (new-step ss i s front more (new-local (take i ss) s w.if-not-symbol.false)) ∙ c.loop-index.invariant.rest;
      }
    ]
