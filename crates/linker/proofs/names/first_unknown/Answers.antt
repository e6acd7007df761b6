use Rattle.std.proofs.Common.{◌≡◌, ℕ, List, not, ◌&&◌, true, sym, ap, ◌∙◌}
use Rattle.std.proofs.lemmas.Bool.{and_left, and_right}
use Rattle.elf_obj.specs.declared.parts.Symbol.{Symbol}
use Rattle.linker.specs.Known.{is_unknown}
use Rattle.linker.proofs.Knowing.{unknown_is, first_here, first_later}
use Rattle.linker.proofs.names.first_unknown.Goals as goal
use Rattle.linker.proofs.names.first_unknown.Goals.{else-not-is_defined-via-then-not-is_defined+else-not-contains_key}
use Rattle.linker.proofs.names.first_unknown.Goals.{else-not-is_defined-via-else-not-is_defined}

pub returns-then-not-contains_key : goal.returns-then-not-contains_key
returns-then-not-contains_key c = λ seen knows.
    let ss : List Symbol = c.args.symbols.now in
    let i : ℕ = c.loop-symbol.symbol-index in
    let s : Symbol = c.symbol-item.result in
    let is = unknown_is c.args.names.now seen s c.as_slice.result.now c.is_defined.result c.contains_key.result knows
    c.as_slice.ensures c.is_defined.ensures
    c.contains_key.ensures in
    let there : is_unknown seen s ≡ true =
    sym is ∙ (λ j. not (c.if-not-is_defined.true j) && not (c.if-not-contains_key.true j)) in
    sym (first_here (is_unknown seen) ss i s c.loop-symbol-test.true c.symbol-item.is there) ∙ c.loop-symbol.invariant seen knows

pub loop-symbol-preserved : goal.loop-symbol-preserved
loop-symbol-preserved c = λ seen knows.
    let ss : List Symbol = c.args.symbols.now in
    let i : ℕ = c.loop-symbol.symbol-index in
    let s : Symbol = c.symbol-item.result in
    elim c.else-not-is_defined.branch [
      | else-not-is_defined-via-then-not-is_defined+else-not-contains_key w ↦
          let is = unknown_is c.args.names.now seen s w.as_slice.result.now c.is_defined.result w.contains_key.result knows
          w.as_slice.ensures c.is_defined.ensures
          w.contains_key.ensures in
          first_later (is_unknown seen) ss i s c.loop-symbol-test.true c.symbol-item.is
          (sym is ∙ and_right (not c.is_defined.result) (not w.contains_key.result) (ap not w.if-not-contains_key.false))
          ∙ c.loop-symbol.invariant seen knows
      | else-not-is_defined-via-else-not-is_defined w ↦
          first_later (is_unknown seen) ss i s c.loop-symbol-test.true c.symbol-item.is
          (and_left _ _ (ap not (sym c.is_defined.ensures ∙ w.if-not-is_defined.false))) ∙ c.loop-symbol.invariant seen knows
    ]
