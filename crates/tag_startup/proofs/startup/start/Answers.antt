use Rattle.elf_image.specs.Image.{image_of}
use Rattle.tag_startup.proofs.Fitting.{starts_all, refuses_all}
use Rattle.tag_startup.proofs.startup.start.Goals as goal

pub returns-clause-starts : goal.returns-clause-starts
returns-clause-starts c = starts_all (image_of c.args.image.now) c.machine_of.result c.machine_of.ensures.refused

pub returns-clause-refuses : goal.returns-clause-refuses
returns-clause-refuses c =
    refuses_all _ (image_of c.args.image.now) c.args.choices.now c.args.stack c.machine_of.result c.machine_of.ensures.started
    c.machine_of.ensures.refused
