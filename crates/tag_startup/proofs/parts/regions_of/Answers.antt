use Rattle.std.proofs.Common.{ap, ◌∙◌, arith, true, false}
use Rattle.elf_image.specs.Image.{image_of}
use Rattle.elf_image.specs.Places.{code_place, dynamic_place}
use Rattle.tag_pages.specs.Parts.{extents}
use Rattle.tag_startup.proofs.Loads.{four_places}
use Rattle.tag_startup.specs.Laws.Placed.{AreInOrder, in_order}
use Rattle.tag_startup.specs.Parts.{part}
use Rattle.tag_startup.proofs.parts.regions_of.Goals as goal

pub part_of-read_only-requires-clause-within : goal.part_of-read_only-requires-clause-within
part_of-read_only-requires-clause-within c =
    let order : AreInOrder (image_of c.args.image.now) = in_order (image_of c.args.image.now) c.requires.valid in
    omega (arith, c.rodata_end.ensures, order.code_from, order.code_within, order.dynamic_from, order.end)

pub part_of-code-requires-clause-order : goal.part_of-code-requires-clause-order
part_of-code-requires-clause-order c =
    let order : AreInOrder (image_of c.args.image.now) = in_order (image_of c.args.image.now) c.requires.valid in
    omega (arith, c.code_place.ensures, c.code_end.ensures, order.code_within)

pub part_of-code-requires-clause-within : goal.part_of-code-requires-clause-within
part_of-code-requires-clause-within c =
    let order : AreInOrder (image_of c.args.image.now) = in_order (image_of c.args.image.now) c.requires.valid in
    omega (arith, c.code_end.ensures, order.code_within, order.dynamic_from, order.end)

pub part_of-data-requires-clause-order : goal.part_of-data-requires-clause-order
part_of-data-requires-clause-order c =
    let order : AreInOrder (image_of c.args.image.now) = in_order (image_of c.args.image.now) c.requires.valid in
    omega (arith, c.dynamic_place.ensures, c.memory_end.ensures, order.dynamic_within)

pub returns : goal.returns
returns c =
    ap extents c.in_ok-vec.ensures.items
    ∙ four_places (image_of c.args.image.now) c.args.stack c.part_of-read_only.result c.part_of-code.result c.part_of-data.result
    c.stack_of.result
    (c.part_of-read_only.ensures ∙ ap (λ end. part 0 end false false) c.rodata_end.ensures)
    (c.part_of-code.ensures
    ∙ ap (λ start. part start c.code_end.result false true) c.code_place.ensures
    ∙ ap (λ end. part (code_place (image_of c.args.image.now)) end false true) c.code_end.ensures)
    (c.part_of-data.ensures
    ∙ ap (λ start. part start c.memory_end.result true false) c.dynamic_place.ensures
    ∙ ap (λ end. part (dynamic_place (image_of c.args.image.now)) end true false) c.memory_end.ensures)
    c.stack_of.ensures
