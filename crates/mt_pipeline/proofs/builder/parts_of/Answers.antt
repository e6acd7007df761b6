use Rattle.std.proofs.Common.{sym, subst}
use Rattle.std.specs.Prelude.{map}
use Rattle.elf_image.specs.Image.{image_of}
use Rattle.mt_pipeline.specs.Built.{texts_of}
use Rattle.mt_pipeline.specs.Unbuilt.{IsCause}
use Rattle.mt_pipeline.proofs.BuildRefused.{link_cause}
use Rattle.mt_pipeline.proofs.BuiltRuns.{linked_builds}
use Rattle.mt_pipeline.proofs.builder.parts_of.Goals as goal

-- the code is linked
pub returns-in-Ok-link-clause-parts : goal.returns-in-Ok-link-clause-parts
returns-in-Ok-link-clause-parts c =
    linked_builds (texts_of c.args.texts.now) (map (λ words. words.items) c.in-Ok.objects.items)
    (image_of c.in-Ok-link.parts) c.in-Ok.ensures.compiled c.in-Ok-link.ensures.linked

-- or not
pub returns-in-Err-link-clause-refused : goal.returns-in-Err-link-clause-refused
returns-in-Err-link-clause-refused c =
    subst (λ u. IsCause (texts_of c.args.texts.now) u) (sym c.of_link.ensures)
    (link_cause (texts_of c.args.texts.now)
    (map (λ words. words.items) c.in-Ok.objects.items) c.in-Err-link.refusal c.in-Ok.ensures.compiled c.in-Err-link.ensures.refused)
