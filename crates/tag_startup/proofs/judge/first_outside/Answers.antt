use Rattle.std.proofs.Common.{◌∙◌, ap, Some, None}
use Rattle.std.specs.List.{position}
use Rattle.elf_image.specs.Image.{image_of}
use Rattle.tag_startup.specs.Starts.{is_misplaced}
use Rattle.tag_startup.proofs.Judged.{found_first}
use Rattle.tag_startup.proofs.judge.first_outside.Goals as goal

pub returns-in-Some : goal.returns-in-Some
returns-in-Some c =
    let start = c.dynamic_place-start.result in
    let end = c.memory_end-end.result in
    found_first (image_of c.args.image.now) c.args.objects.now start end (Some c.in-Some.index) c.first_reloc-reloc.result
    c.dynamic_place-start.ensures c.memory_end-end.ensures c.in-Some.ensures
    (c.first_reloc-reloc.ensures.is ∙ ap (position (is_misplaced start end)) c.deref.ensures.value)

pub returns-in-None : goal.returns-in-None
returns-in-None c =
    let start = c.dynamic_place-start.result in
    let end = c.memory_end-end.result in
    c.counted_on.ensures
    ∙ found_first (image_of c.args.image.now) c.args.objects.now start end None c.first_reloc-reloc.result
    c.dynamic_place-start.ensures c.memory_end-end.ensures c.in-None.ensures
    (c.first_reloc-reloc.ensures.is ∙ ap (position (is_misplaced start end)) c.deref.ensures.value)
