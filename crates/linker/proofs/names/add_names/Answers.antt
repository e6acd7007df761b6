use Rattle.std.proofs.Common.{◌≡◌, ℕ, ◌+◌, List, [], ◌∷◌, ◌++◌, take, cond, Some, is_some, sym, ap, ◌∙◌}
use Rattle.std.specs.Str.{bytes_eq}
use Rattle.indexmap.specs.IndexMap.{get_by}
use Rattle.elf_obj.specs.declared.parts.Symbol.{Symbol}
use Rattle.linker.specs.Names.{NumberedSymbol, numbered, numbered_from}
use Rattle.linker.specs.Known.{numbers_of}
use Rattle.linker.proofs.Knowing.{numbered-more, knows_other, knows_again, knows_new, knows_behind}
use Rattle.linker.proofs.names.add_names.Goals as goal
use Rattle.linker.proofs.names.add_names.Goals.{then-is_global+then-not-contains_key+in_ok-insert, else-is_global}
use Rattle.linker.proofs.names.add_names.Goals.{else-is_global-via-then-is_global+else-not-contains_key, else-is_global-via-else-is_global}

pub loop-number-preserved : goal.loop-number-preserved
loop-number-preserved c = λ seen known.
    let ss : List Symbol = c.args.symbols.now in
    let i : ℕ = c.loop-number.number in
    let s : Symbol = c.index-symbols-number.result in
    let e : NumberedSymbol = numbered c.args.object i s in
    let xs : List NumberedSymbol = numbered_from c.args.object 0 (take i ss) in
    let ys : List NumberedSymbol = numbered_from c.args.object 0 (take (i + 1) ss) in
    let more : ys ≡ xs ++ e ∷ [] =
    numbered-more c.args.object i ss s c.loop-number-test.true
    ∙ ap (λ (t : Symbol). xs ++ numbered c.args.object i t ∷ []) (sym c.index-symbols-number.is) in
    let so_far = c.loop-number.invariant seen known in
    elim c.if-is_global.branch [
      | then-is_global+then-not-contains_key+in_ok-insert w ↦
          let new = ap (λ (n : List ℕ). is_some (get_by (λ k. bytes_eq n k.now) c.loop-number.names)) (sym w.as_slice.ensures)
          ∙ sym w.contains_key.ensures ∙ w.if-not-contains_key.true in
          knows_behind c.if-is_global.names seen xs ys e more
          (knows_new c.loop-number.names c.if-is_global.names (seen ++ xs) e (sym c.is_global.ensures ∙ w.if-is_global.true) new
          (λ name. rw w.names-is (w.in_ok-insert.ensures.updates.0
          (record { ref_ptr = w.as_slice-then-not-contains_key.result.ref_ptr; now = name })
          ∙ ap (λ (n : List ℕ). cond (bytes_eq n name) (Some (numbers_of e)) (get_by (λ k. bytes_eq name k.now) c.loop-number.names))
          w.as_slice-then-not-contains_key.ensures)) so_far)
      | else-is_global w ↦ rw w.names-is (elim w.else-is_global.branch [
        | else-is_global-via-then-is_global+else-not-contains_key v ↦
            let there = ap (λ (n : List ℕ). is_some (get_by (λ k. bytes_eq n k.now) c.loop-number.names)) (sym v.as_slice.ensures)
            ∙ sym v.contains_key.ensures ∙ v.if-not-contains_key.false in
            knows_behind c.loop-number.names seen xs ys e more (knows_again c.loop-number.names (seen ++ xs) e there so_far)
        | else-is_global-via-else-is_global v ↦
            knows_behind c.loop-number.names seen xs ys e more
            (knows_other c.loop-number.names (seen ++ xs) e (sym c.is_global.ensures ∙ v.if-is_global.false) so_far)
      ])
    ]
