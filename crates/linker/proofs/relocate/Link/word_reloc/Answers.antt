use Rattle.std.proofs.Common.{List, ap, sym, ◌∙◌, arith, refl}
use Rattle.std.specs.Option.{option_copied}
use Rattle.elf_obj.specs.Object.{Object}
use Rattle.linker.specs.Known.{objects_of}
use Rattle.linker.proofs.Recorded.{word_record, no_word}
use Rattle.linker.proofs.relocate.Link.word_reloc.Goals as goal

pub overflow_mul-place : goal.overflow_mul-place
overflow_mul-place c = let few = c.requires.ready.few in let lt = c.requires.within in omega arith

pub overflow_add-place : goal.overflow_add-place
overflow_add-place c =
    let few = c.requires.ready.few in
    let lt = c.requires.within in
    let near = c.requires.ready.near.filled in omega arith

pub returns-in-None : goal.returns-in-None
returns-in-None c =
    absurd (no_word c.args.self.now.table.keys c.args.index c.requires.within
    (sym (ap option_copied c.in-None.is) ∙ c.get_index.ensures.key))

pub returns-in-Some : goal.returns-in-Some
returns-in-Some c =
    let os : List Object = objects_of c.args.self.now.objects.now in
    c.relative-in-Some.ensures
    ∙ word_record os c.args.self.now.layout.bases c.args.self.now.table.keys c.args.index _ _ _ c.requires.within c.requires.ready.words
    (sym c.get_index.ensures.key ∙ ap option_copied c.in-Some.is) c.symbol_address.ensures refl
