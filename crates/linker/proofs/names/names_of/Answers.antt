use Rattle.std.proofs.Common.{◌≡◌, ℕ, ◌+◌, ◌<◌, ◌++◌, List, Some, None, take, find, length, sym, ap, subst, ◌∙◌, inr, arith}
use Rattle.std.specs.Option.{option_copied}
use Rattle.std.proofs.lemmas.List.{length-map}
use Rattle.elf_obj.specs.declared.parts.ObjectParts.{ObjectParts}
use Rattle.elf_obj.specs.declared.parts.Symbol.{Symbol}
use Rattle.elf_obj.specs.Object.{Object, object_of}
use Rattle.linker.specs.declared.refusal.LinkRefusal.TheVariants.{Duplicate}
use Rattle.linker.specs.Names.{NumberedSymbol, numbered_from, all_numbered}
use Rattle.linker.specs.LinkFault.{LinkFault, repeated, first_repeated}
use Rattle.linker.specs.Known.{objects_of, is_known}
use Rattle.linker.proofs.Binding.{objects_at, all_numbered_more, none_repeated, some_repeated, FindsSymbol}
use Rattle.linker.proofs.names.names_of.Goals as goal

pub returns-in-Some-clause-refused : goal.returns-in-Some-clause-refused
returns-in-Some-clause-refused c =
    let ps : List ObjectParts = c.args.objects.now in
    let os : List Object = objects_of ps in
    let i : ℕ = c.loop-object.object in
    let p : ObjectParts = c.index-objects-object.result in
    let s : Symbol = c.in-Some.symbol.now in
    let seen : List NumberedSymbol = all_numbered (take i os) in
    let within : i < length os = omega (arith, c.loop-object-test.true, length-map ps object_of) in
    let items : p.symbols.items ≡ c.as_slice-symbols.result.now =
    ap (λ (q : ObjectParts). q.symbols.items) c.index-objects-object.is ∙ sym c.as_slice-symbols.ensures.value in
    let here : find (is_known seen) p.symbols.items ≡ Some s =
    ap (find (is_known seen)) items ∙ sym (c.first_known.ensures seen c.loop-object.invariant.known)
    ∙ ap option_copied c.in-Some.is in
    let found : FindsSymbol (first_repeated os) s =
    some_repeated os i (object_of p) s within (objects_at ps i p c.loop-object-test.true c.index-objects-object.is) here
    c.loop-object.invariant.once in
    let fault : LinkFault os (Duplicate found.entry.symbol.name) =
    repeated found.entry (omega (arith, c.requires.few, length-map ps object_of)) found.is in
    let name : found.entry.symbol.name ≡ c.in_ok-name.name = ap (λ (x : Symbol). x.name) found.symbol ∙ sym c.in_ok-name.ensures.same in
    inr (subst (λ (n : List ℕ). LinkFault os (Duplicate n)) name fault)

pub loop-object-preserved : goal.loop-object-preserved
loop-object-preserved c =
    let ps : List ObjectParts = c.args.objects.now in
    let os : List Object = objects_of ps in
    let i : ℕ = c.loop-object.object in
    let p : ObjectParts = c.index-objects-object.result in
    let seen : List NumberedSymbol = all_numbered (take i os) in
    let within : i < length os = omega (arith, c.loop-object-test.true, length-map ps object_of) in
    let at = objects_at ps i p c.loop-object-test.true c.index-objects-object.is in
    let items : p.symbols.items ≡ c.as_slice-symbols.result.now =
    ap (λ (q : ObjectParts). q.symbols.items) c.index-objects-object.is ∙ sym c.as_slice-symbols.ensures.value in
    let here : find (is_known seen) p.symbols.items ≡ None =
    ap (find (is_known seen)) items ∙ sym (c.first_known.ensures seen c.loop-object.invariant.known)
    ∙ ap option_copied c.in_default.is in
    let all : all_numbered (take (i + 1) os) ≡ seen ++ numbered_from i 0 c.as_slice-symbols.result.now =
    all_numbered_more os i (object_of p) within at ∙ ap (λ (l : List Symbol). seen ++ numbered_from i 0 l) items in
    record {
      known = λ name. rw all (c.in_ok-add_names.ensures.known seen c.loop-object.invariant.known name);
      once = none_repeated os i (object_of p) within at here c.loop-object.invariant.once;
    }
