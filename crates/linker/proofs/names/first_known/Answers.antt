use Rattle.std.proofs.Common.{◌≡◌, ℕ, List, sym, ap, ◌∙◌, ◌&&◌, true}
use Rattle.std.proofs.lemmas.Bool.{and_left, and_right}
use Rattle.elf_obj.specs.declared.parts.Symbol.{Symbol}
use Rattle.linker.specs.Known.{is_known}
use Rattle.linker.proofs.Knowing.{known_is, first_here, first_later}
use Rattle.linker.proofs.names.first_known.Goals as goal
use Rattle.linker.proofs.names.first_known.Goals.{else-is_global-via-then-is_global+else-contains_key, else-is_global-via-else-is_global}

pub returns-then-contains_key : goal.returns-then-contains_key
returns-then-contains_key c = λ seen knows.
    let ss : List Symbol = c.args.symbols.now in
    let i : ℕ = c.loop-symbol.symbol-index in
    let s : Symbol = c.symbol-item.result in
    let is = known_is c.args.names.now seen s c.as_slice.result.now c.is_global.result c.contains_key.result knows c.as_slice.ensures
    c.is_global.ensures
    c.contains_key.ensures in
    let there : is_known seen s ≡ true = sym is ∙ ap (λ b. b && c.contains_key.result) c.if-is_global.true ∙ c.if-contains_key.true in
    sym (first_here (is_known seen) ss i s c.loop-symbol-test.true c.symbol-item.is there) ∙ c.loop-symbol.invariant seen knows

pub loop-symbol-preserved : goal.loop-symbol-preserved
loop-symbol-preserved c = λ seen knows.
    let ss : List Symbol = c.args.symbols.now in
    let i : ℕ = c.loop-symbol.symbol-index in
    let s : Symbol = c.symbol-item.result in
    elim c.else-is_global.branch [
      | else-is_global-via-then-is_global+else-contains_key w ↦
          let is = known_is c.args.names.now seen s w.as_slice.result.now c.is_global.result w.contains_key.result knows
          w.as_slice.ensures c.is_global.ensures
          w.contains_key.ensures in
          first_later (is_known seen) ss i s c.loop-symbol-test.true c.symbol-item.is
          (sym is ∙ and_right c.is_global.result w.contains_key.result w.if-contains_key.false) ∙ c.loop-symbol.invariant seen knows
      | else-is_global-via-else-is_global w ↦
          first_later (is_known seen) ss i s c.loop-symbol-test.true c.symbol-item.is
          (and_left _ _ (sym c.is_global.ensures ∙ w.if-is_global.false)) ∙ c.loop-symbol.invariant seen knows
    ]
