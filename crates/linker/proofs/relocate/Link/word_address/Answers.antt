use Rattle.std.proofs.Common.{◌≡◌, ℕ, ◌+◌, ◌*◌, List, Some, None, sym, ap, ◌∙◌, arith}
use Rattle.std.specs.Option.{option_map}
use Rattle.elf_obj.specs.declared.parts.ObjectParts.{ObjectParts}
use Rattle.elf_obj.specs.declared.parts.Symbol.{Symbol}
use Rattle.elf_obj.specs.Object.{Object}
use Rattle.linker.specs.Names.{target}
use Rattle.linker.specs.Addresses.{got_address}
use Rattle.linker.specs.Known.{objects_of, numbers_of}
use Rattle.linker.proofs.Listed.{Told, told, told_none, object_is}
use Rattle.linker.proofs.relocate.Link.word_address.Goals as goal

pub overflow_mul-result : goal.overflow_mul-result
overflow_mul-result c =
    let few = c.requires.ready.few in
    let small = c.word_number-words.ensures.small in omega arith

pub overflow_add-result : goal.overflow_add-result
overflow_add-result c =
    let few = c.requires.ready.few in
    let small = c.word_number-words.ensures.small in
    let near = c.requires.ready.near.filled in omega arith

pub returns-in-None : goal.returns-in-None
returns-in-None c = λ o there.
    let ps : List ObjectParts = c.args.self.now.objects.now in
    let os : List Object = objects_of ps in
    let symbols : c.as_slice-symbols.result.now ≡ o.symbols =
    c.as_slice-symbols.ensures.value ∙ ap (λ (x : Object). x.symbols)
    (object_is ps c.args.object o c.index-self-object.result c.requires.within there) in
    let none : option_map numbers_of (target os c.args.object o.symbols c.args.number) ≡ None =
    ap (λ (l : List Symbol). option_map numbers_of (target os c.args.object l c.args.number)) (sym symbols)
    ∙ sym (c.target.ensures os c.requires.ready.names) ∙ c.in-None.is in
    sym (ap (got_address os c.args.self.now.layout.bases) (told_none os c.args.object c.args.number o none))

pub returns-in-Some : goal.returns-in-Some
returns-in-Some c = λ o there.
    let ps : List ObjectParts = c.args.self.now.objects.now in
    let os : List Object = objects_of ps in
    let symbols : c.as_slice-symbols.result.now ≡ o.symbols =
    c.as_slice-symbols.ensures.value ∙ ap (λ (x : Object). x.symbols)
    (object_is ps c.args.object o c.index-self-object.result c.requires.within there) in
    let numbers : option_map numbers_of (target os c.args.object o.symbols c.args.number) ≡ Some c.in-Some.numbers =
    ap (λ (l : List Symbol). option_map numbers_of (target os c.args.object l c.args.number)) (sym symbols)
    ∙ sym (c.target.ensures os c.requires.ready.names) ∙ c.in-Some.is in
    let t : Told os c.args.object c.args.number o c.in-Some.numbers = told os c.args.object c.args.number o c.in-Some.numbers numbers in
    ap (λ (m : ℕ). c.args.self.now.layout.bases.filled + 8 * m)
    (c.word_number-words.ensures.number os t.entry c.requires.ready.words t.numbers)
    ∙ sym (ap (got_address os c.args.self.now.layout.bases) t.is)
