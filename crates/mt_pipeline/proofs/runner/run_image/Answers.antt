use Rattle.std.proofs.Common.{sym, subst}
use Rattle.elf_image.specs.Image.{Image, image_of}
use Rattle.elf_image.specs.Laws.OneImage.{one_image}
use Rattle.mte_machine.specs.Objects.{objects}
use Rattle.tag_startup.specs.Machine.{RunsImage, launch}
use Rattle.mt_pipeline.specs.Laws.OneRun.{no_refusal, refused_once}
use Rattle.mt_answers.specs.declared.refusal.RunRefusal.{RunRefusal}
use Rattle.mt_pipeline.proofs.RunRefused.{IsRefusal, image_cause, start_cause}
use Rattle.mt_pipeline.proofs.runner.run_image.Goals as goal

-- the bytes are no image
pub returns-in-Err-clause-refused : goal.returns-in-Err-clause-refused
returns-in-Err-clause-refused g c =
    subst (λ (r : RunRefusal). IsRefusal c.args.bytes.now r) (sym c.of_image.ensures)
    (image_cause c.args.bytes.now c.in-Err.refusal c.in-Err.ensures.refused)

pub returns-in-Err-clause-refuses : goal.returns-in-Err-clause-refuses
returns-in-Err-clause-refuses g c = λ cause has.
    refused_once c.args.bytes.now c.of_image.result cause
    (subst (λ (r : RunRefusal). IsRefusal c.args.bytes.now r) (sym c.of_image.ensures)
    (image_cause c.args.bytes.now c.in-Err.refusal c.in-Err.ensures.refused)) has

-- the bytes are the file of one image alone
pub returns-in-Ok-run_parts-clause-runs : goal.returns-in-Ok-run_parts-clause-runs
returns-in-Ok-run_parts-clause-runs g c image is =
    let before = objects g.S.Source g.K.Sink c.args.source.now c.args.sink.now in
    let after = objects g.S.Source g.K.Sink c.run_parts.new.source c.run_parts.new.sink in
    subst (λ (i : Image). RunsImage (launch i c.args.choices.now c.args.stack c.args.n) before after c.in-Ok-run_parts.end)
    (one_image (image_of c.in-Ok.parts) image c.args.bytes.now c.in-Ok.ensures.found is) c.in-Ok-run_parts.ensures.runs

-- which runs, and so is not refused
pub returns-in-Ok-run_parts-clause-refuses : goal.returns-in-Ok-run_parts-clause-refuses
returns-in-Ok-run_parts-clause-refuses g c cause has =
    no_refusal c.args.bytes.now (image_of c.in-Ok.parts) cause c.in-Ok.ensures.found c.in-Ok-run_parts.ensures.runs.machine.starts has

-- or it did not start
pub returns-clause-refused : goal.returns-clause-refused
returns-clause-refused g c =
    subst (λ (r : RunRefusal). IsRefusal c.args.bytes.now r) (sym c.of_start.ensures)
    (start_cause c.args.bytes.now (image_of c.in-Ok.parts) c.in-Err-run_parts.refusal c.in-Ok.ensures.found
    c.in-Err-run_parts.ensures.refused)

pub returns-clause-refuses : goal.returns-clause-refuses
returns-clause-refuses g c = λ cause has.
    refused_once c.args.bytes.now c.of_start.result cause
    (subst (λ (r : RunRefusal). IsRefusal c.args.bytes.now r) (sym c.of_start.ensures)
    (start_cause c.args.bytes.now (image_of c.in-Ok.parts) c.in-Err-run_parts.refusal c.in-Ok.ensures.found
    c.in-Err-run_parts.ensures.refused)) has
