use Rattle.std.proofs.Common.{◌≡◌, ℕ, ◌<◌, ◌++◌, List, take, map, filter_map, length, sym, ap, ◌∙◌, arith}
use Rattle.std.proofs.lemmas.List.{length-map}
use Rattle.elf_obj.specs.declared.parts.ObjectParts.{ObjectParts}
use Rattle.elf_obj.specs.Object.{Object, object_of}
use Rattle.linker.specs.Names.{NumberedSymbol}
use Rattle.linker.specs.Got.{used_by, uses_from, firsts, got}
use Rattle.linker.specs.Known.{objects_of, numbers_of}
use Rattle.linker.proofs.Binding.{objects_at, all_taken}
use Rattle.linker.proofs.Firsts.{uses_more}
use Rattle.linker.proofs.table.table_of.Goals as goal

pub loop-object-preserved : goal.loop-object-preserved
loop-object-preserved c =
    let ps : List ObjectParts = c.args.objects.now in
    let os : List Object = objects_of ps in
    let i : ℕ = c.loop-object.object in
    let p : ObjectParts = c.index-objects-object.result in
    let within : i < length os = omega (arith, c.loop-object-test.true, length-map ps object_of) in
    let at = objects_at ps i p c.loop-object-test.true c.index-objects-object.is in
    let seen : List NumberedSymbol = uses_from os 0 (take i os) in
    let symbols : c.deref.result.now ≡ p.symbols.items = c.deref.ensures.value in
    let relocs : c.deref-in-loop-object.result.now ≡ p.text_relocs.items = c.deref-in-loop-object.ensures.value in
    c.in_ok-add_uses.ensures.uses os seen c.requires c.loop-object.invariant
    ∙ (λ j. map numbers_of (firsts (seen ++ filter_map (used_by os i (symbols j)) (relocs j))))
    ∙ ap (λ (l : List NumberedSymbol). map numbers_of (firsts l)) (sym (uses_more os os i (object_of p) within at))

pub returns-clause-words : goal.returns-clause-words
unfolding got
returns-clause-words c =
    let ps : List ObjectParts = c.args.objects.now in
    c.loop-object.invariant
    ∙ ap (λ (l : List Object). map numbers_of (firsts (uses_from (objects_of ps) 0 l)))
    (all_taken ps c.loop-object.object c.loop-object-test.false)
