use Rattle.std.proofs.Common.{◌∙◌, refl}
use Rattle.elf_image.specs.Image.{image_of}
use Rattle.tag_startup.proofs.Fitting.{tags_fit, places_fit}
use Rattle.tag_startup.proofs.Judged.{refused_by}
use Rattle.tag_startup.proofs.Started.{is_started}
use Rattle.tag_startup.proofs.startup.machine_of.Goals as goal

pub returns-in_err-objects-clause-refused : goal.returns-in_err-objects-clause-refused
returns-in_err-objects-clause-refused c =
    refused_by (image_of c.args.image.now) c.from_residual.result c.in_err-objects.field-0.0 c.from_residual.ensures.1
    c.in_err-objects.ensures.refused

pub tag_objects-requires : goal.tag_objects-requires
tag_objects-requires c =
    tags_fit (image_of c.args.image.now) c.args.stack c.in_ok-objects.objects.items c.deref.result.now _ _ c.requires.valid
    c.requires.stack c.in_ok-objects.ensures.found c.deref.ensures.value c.in_ok-memory.ensures.regions c.in_ok-memory.ensures.guard

pub relocate-requires : goal.relocate-requires
relocate-requires c =
    places_fit (image_of c.args.image.now) c.args.stack c.in_ok-objects.objects.items c.deref-2.result.now _ _ c.requires.valid
    c.requires.stack c.in_ok-objects.ensures.found c.deref-2.ensures.value
    (c.tag_objects.ensures.regions ∙ c.in_ok-memory.ensures.regions) (c.tag_objects.ensures.guard ∙ c.in_ok-memory.ensures.guard)

pub returns-clause-started : goal.returns-clause-started
returns-clause-started c =
    is_started _ c.new.result c.in_ok-memory.memory c.tag_objects.new.memory c.relocate.new.memory (image_of c.args.image.now)
    c.in_ok-objects.objects.items c.deref.result.now c.deref-3.result.now c.deref-2.result.now c.args.choices.now
    c.in_ok-choices.choices.items c.args.stack c.first_tag.result _ c.choices_drawn-drawn.result c.in_ok-objects.ensures.found
    c.deref.ensures.value c.deref-3.ensures.value c.deref-2.ensures.value c.in_ok-choices.ensures.items c.first_tag.ensures
    c.in_ok-memory.ensures c.tag_objects.ensures c.in_ok-relocate.ensures refl c.choices_drawn-drawn.ensures c.new.ensures.state
