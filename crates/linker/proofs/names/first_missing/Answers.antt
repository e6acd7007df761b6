use Rattle.std.proofs.Common.{◌≡◌, ℕ, ◌+◌, List, Some, None, drop, find, sym, ap, ◌∙◌}
use Rattle.std.specs.Option.{option_copied}
use Rattle.elf_obj.specs.declared.parts.ObjectParts.{ObjectParts}
use Rattle.elf_obj.specs.Object.{object_of}
use Rattle.linker.specs.Names.{NumberedSymbol, all_numbered}
use Rattle.linker.specs.Known.{objects_of, is_unknown}
use Rattle.linker.proofs.Binding.{find_in, find_objects, objects_left, none_left, in_here, in_later}
use Rattle.linker.proofs.names.first_missing.Goals as goal

pub returns-in-Some : goal.returns-in-Some
returns-in-Some c =
    let ps : List ObjectParts = c.args.objects.now in
    let i : ℕ = c.loop-object.object-index in
    let p : ObjectParts = c.object-item.result in
    let all : List NumberedSymbol = all_numbered (objects_of ps) in
    let left = objects_left ps i p c.loop-object-test.true c.object-item.is in
    let here : find (is_unknown all) p.symbols.items ≡ Some c.in-Some.symbol.now =
    ap (find (is_unknown all)) (sym c.deref.ensures.value) ∙ sym (c.first_unknown.ensures all c.requires)
    ∙ ap option_copied c.in-Some.is in
    sym (find_objects (is_unknown all) 0 (objects_of ps) ∙ sym c.loop-object.invariant
    ∙ in_here (is_unknown all) (drop i (objects_of ps)) (drop (i + 1) (objects_of ps)) (object_of p) c.in-Some.symbol.now left here)

pub loop-object-preserved : goal.loop-object-preserved
loop-object-preserved c =
    let ps : List ObjectParts = c.args.objects.now in
    let i : ℕ = c.loop-object.object-index in
    let p : ObjectParts = c.object-item.result in
    let all : List NumberedSymbol = all_numbered (objects_of ps) in
    let left = objects_left ps i p c.loop-object-test.true c.object-item.is in
    let here : find (is_unknown all) p.symbols.items ≡ None =
    ap (find (is_unknown all)) (sym c.deref.ensures.value) ∙ sym (c.first_unknown.ensures all c.requires)
    ∙ ap option_copied c.in_default.is in
    in_later (is_unknown all) (drop i (objects_of ps)) (drop (i + 1) (objects_of ps)) (object_of p) left here ∙ c.loop-object.invariant

pub returns : goal.returns
returns c =
    let ps : List ObjectParts = c.args.objects.now in
    let all : List NumberedSymbol = all_numbered (objects_of ps) in
    sym (find_objects (is_unknown all) 0 (objects_of ps) ∙ sym c.loop-object.invariant
    ∙ ap (find_in (is_unknown all)) (none_left ps c.loop-object.object-index c.loop-object-test.false))
