use Rattle.elf_image.specs.Image.{image_of}
use Rattle.mt_pipeline.specs.Built.{texts_of}
use Rattle.mt_pipeline.proofs.BuiltRuns.{whole}
use Rattle.mt_pipeline.proofs.builder.image_bytes.Goals as goal

pub write_image-requires : goal.write_image-requires
write_image-requires c = (whole (texts_of c.args.texts.now) (image_of c.in-Ok.parts) c.in-Ok.ensures.parts).valid

pub returns-in_ok-write_image-in-Ok-clause-built : goal.returns-in_ok-write_image-in-Ok-clause-built
returns-in_ok-write_image-in-Ok-clause-built c =
    record { image = image_of c.in-Ok.parts; builds = c.in-Ok.ensures.parts; file_is = c.in_ok-write_image-in-Ok.ensures }
