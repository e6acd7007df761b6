use Rattle.std.proofs.Common.{map, sym, subst}
use Rattle.elf_image.specs.Image.{image_of}
use Rattle.mt_answers.specs.Answer.{IsAnswerTo}
use Rattle.mt_answers.specs.Each.{names_of}
use Rattle.mt_answers.specs.Laws.EachLaws.{seen_made, seen_stop}
use Rattle.mt_answers.specs.Seen.{files_seen}
use Rattle.mt_answers.specs.declared.answer.Answer.{Answer}
use Rattle.mt_pipeline.specs.Sources.{NotBuilt, compiled, no_code}
use Rattle.mt_answers.specs.Laws.Answering.{because}
use Rattle.mt_pipeline.proofs.SourceCauses.{linked_of, link_answer}
use Rattle.mt_pipeline.proofs.sources.build_files.Goals as goal

-- one of them has no code
pub returns-in-Err-clause-unbuilt : goal.returns-in-Err-clause-unbuilt
returns-in-Err-clause-unbuilt g c =
    let before = files_seen g.F.Files c.args.files.now in
    let after = files_seen g.F.Files c.make_each.new.files in
    because {answer = c.in-Err.answer}
    (λ why stops. no_code (seen_stop (λ words. words.items) compiled before after 0 (names_of c.args.names.now) why stops))
    c.in-Err.ensures.stops

-- their code is linked
pub returns-in-Ok-link-clause-built : goal.returns-in-Ok-link-clause-built
returns-in-Ok-link-clause-built g c =
    let before = files_seen g.F.Files c.args.files.now in
    let after = files_seen g.F.Files c.make_each.new.files in
    linked_of before (names_of c.args.names.now) (map (λ words. words.items) c.in-Ok.objects.items) (image_of c.in-Ok-link.parts)
    (seen_made (λ words. words.items) compiled before after (names_of c.args.names.now) c.in-Ok.objects.items c.in-Ok.ensures.made)
    c.in-Ok-link.ensures.linked

-- or not
pub returns-in-Err-link-clause-unbuilt : goal.returns-in-Err-link-clause-unbuilt
returns-in-Err-link-clause-unbuilt g c =
    let before = files_seen g.F.Files c.args.files.now in
    let after = files_seen g.F.Files c.make_each.new.files in
    subst (λ (a : Answer). IsAnswerTo (NotBuilt (names_of c.args.names.now) before after) a) (sym c.of_link.ensures)
    (link_answer (names_of c.args.names.now) (map (λ words. words.items) c.in-Ok.objects.items) before after c.in-Err-link.refusal
    (seen_made (λ words. words.items) compiled before after (names_of c.args.names.now) c.in-Ok.objects.items c.in-Ok.ensures.made)
    c.in-Err-link.ensures.refused)
