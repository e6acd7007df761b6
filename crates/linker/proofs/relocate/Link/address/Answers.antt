use Rattle.std.proofs.Common.{◌≡◌, List, Some, sym, ap, ◌∙◌}
use Rattle.std.specs.Option.{option_map}
use Rattle.mt_base.specs.Wrapping.{wrap}
use Rattle.elf_obj.specs.declared.parts.ObjectParts.{ObjectParts}
use Rattle.elf_obj.specs.declared.parts.Symbol.{Symbol}
use Rattle.elf_obj.specs.Object.{Object}
use Rattle.linker.specs.Names.{target}
use Rattle.linker.specs.Known.{objects_of, numbers_of}
use Rattle.linker.proofs.Listed.{told_address, object_is}
use Rattle.linker.proofs.relocate.Link.address.Goals as goal

pub returns-in-Some : goal.returns-in-Some
returns-in-Some c = λ o there.
    let ps : List ObjectParts = c.args.self.now.objects.now in
    let os : List Object = objects_of ps in
    let symbols : c.as_slice-symbols.result.now ≡ o.symbols =
    c.as_slice-symbols.ensures.value ∙ ap (λ (x : Object). x.symbols)
    (object_is ps c.args.object o c.index-self-object.result c.requires.within there) in
    let numbers : option_map numbers_of (target os c.args.object o.symbols c.args.number) ≡ Some c.in-Some.numbers =
    ap (λ (l : List Symbol). option_map numbers_of (target os c.args.object l c.args.number)) (sym symbols)
    ∙ sym (c.target.ensures os c.requires.ready.names) ∙ c.in-Some.is in
    c.symbol_address.ensures
    ∙ ap (wrap 64) (told_address os c.args.self.now.layout.bases c.args.object c.args.number o c.in-Some.numbers there numbers)
