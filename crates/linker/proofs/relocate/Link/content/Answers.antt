use Rattle.std.proofs.Common.{◌≡◌, ℕ, List, None, Some, sym, ap, ◌∙◌}
use Rattle.std.specs.Option.{option_map}
use Rattle.elf_obj.specs.declared.parts.ObjectParts.{ObjectParts}
use Rattle.elf_obj.specs.declared.parts.Symbol.{Symbol}
use Rattle.elf_obj.specs.Object.{Object}
use Rattle.linker.specs.Names.{target}
use Rattle.linker.specs.Data.{place_content, target_size}
use Rattle.linker.specs.Known.{objects_of, numbers_of}
use Rattle.linker.proofs.Listed.{told_none, told_size, object_is}
use Rattle.linker.proofs.relocate.Link.content.Goals as goal

pub returns-in-None : goal.returns-in-None
returns-in-None c = λ o there.
    let ps : List ObjectParts = c.args.self.now.objects.now in
    let os : List Object = objects_of ps in
    let symbols : c.as_slice-symbols.result.now ≡ o.symbols =
    c.as_slice-symbols.ensures.value ∙ ap (λ (x : Object). x.symbols)
    (object_is ps c.args.object o c.index-self-object.result c.requires.within there) in
    let none : option_map numbers_of (target os c.args.object o.symbols c.args.reloc.now.symbol) ≡ None =
    ap (λ (l : List Symbol). option_map numbers_of (target os c.args.object l c.args.reloc.now.symbol)) (sym symbols)
    ∙ sym (c.target.ensures os c.requires.ready.names) ∙ c.in-None.is in
    c.place_content.ensures
    ∙ sym (ap (λ x. place_content (target_size x) c.args.reloc.now.addend) (told_none os c.args.object c.args.reloc.now.symbol o none))

pub returns-in-Some : goal.returns-in-Some
returns-in-Some c = λ o there.
    let ps : List ObjectParts = c.args.self.now.objects.now in
    let os : List Object = objects_of ps in
    let symbols : c.as_slice-symbols.result.now ≡ o.symbols =
    c.as_slice-symbols.ensures.value ∙ ap (λ (x : Object). x.symbols)
    (object_is ps c.args.object o c.index-self-object.result c.requires.within there) in
    let numbers : option_map numbers_of (target os c.args.object o.symbols c.args.reloc.now.symbol) ≡ Some c.in-Some.numbers =
    ap (λ (l : List Symbol). option_map numbers_of (target os c.args.object l c.args.reloc.now.symbol)) (sym symbols)
    ∙ sym (c.target.ensures os c.requires.ready.names) ∙ c.in-Some.is in
    c.place_content-in-Some.ensures
    ∙ ap (λ (n : ℕ). place_content n c.args.reloc.now.addend)
    (c.symbol_size.ensures ∙ told_size os c.args.object c.args.reloc.now.symbol o c.in-Some.numbers there numbers)
