use Rattle.std.proofs.Common.{◌≡◌, ℕ, ◌+◌, List, true, false, drop, sym, ap, ◌∙◌}
use Rattle.std.specs.List.{list_any}
use Rattle.elf_obj.specs.declared.parts.ObjectParts.{ObjectParts}
use Rattle.elf_obj.specs.Object.{Object, object_of}
use Rattle.linker.specs.Known.{objects_of, is_main}
use Rattle.linker.proofs.Binding.{any_objects, objects_left, none_left, any_here, any_later}
use Rattle.linker.proofs.names.main_is_there.Goals as goal

pub returns-then-has_main : goal.returns-then-has_main
returns-then-has_main c =
    let ps : List ObjectParts = c.args.objects.now in
    let i : ℕ = c.loop-object.object-index in
    let p : ObjectParts = c.object-item.result in
    let left = objects_left ps i p c.loop-object-test.true c.object-item.is in
    let here : list_any is_main p.symbols.items ≡ true =
    ap (list_any is_main) (sym c.deref.ensures.value) ∙ sym c.has_main.ensures ∙ c.if-has_main.true in
    sym (any_objects is_main 0 (objects_of ps) ∙ sym c.loop-object.invariant
    ∙ any_here (λ o. list_any is_main o.symbols) (drop i (objects_of ps)) (drop (i + 1) (objects_of ps)) (object_of p) left here)

pub loop-object-preserved : goal.loop-object-preserved
loop-object-preserved c =
    let ps : List ObjectParts = c.args.objects.now in
    let i : ℕ = c.loop-object.object-index in
    let p : ObjectParts = c.object-item.result in
    let left = objects_left ps i p c.loop-object-test.true c.object-item.is in
    let here : list_any is_main p.symbols.items ≡ false =
    ap (list_any is_main) (sym c.deref.ensures.value) ∙ sym c.has_main.ensures ∙ c.if-has_main.false in
    any_later (λ o. list_any is_main o.symbols) (drop i (objects_of ps)) (drop (i + 1) (objects_of ps)) (object_of p) left here
    ∙ c.loop-object.invariant

pub returns : goal.returns
returns c =
    let ps : List ObjectParts = c.args.objects.now in
    sym (any_objects is_main 0 (objects_of ps) ∙ sym c.loop-object.invariant
    ∙ ap (list_any (λ (o : Object). list_any is_main o.symbols)) (none_left ps c.loop-object.object-index c.loop-object-test.false))
