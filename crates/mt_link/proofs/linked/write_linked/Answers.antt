use Rattle.std.proofs.Common.{ℕ, refl, subst}
use Rattle.mt_outside.specs.Told.{Rose}
use Rattle.elf_image.specs.Image.{image_of}
use Rattle.mt_answers.specs.Answer.{ended_of}
use Rattle.mt_answers.specs.Each.{names_of}
use Rattle.mt_answers.specs.Laws.Counts.{both_stay, then_written, unwritten}
use Rattle.mt_answers.specs.Laws.Written.{left_open, same_files, unchanged, written as holds_written}
use Rattle.mt_answers.specs.Seen.{files_seen}
use Rattle.mt_link.specs.Link.{CauseOfLink, written, write_failed, unlinked, no_memory, NotLinked}
use Rattle.mt_link.specs.Laws.LinkLaws.{link_answers}
use Rattle.mt_answers.specs.Laws.Answering.{answered}
use Rattle.mt_link.proofs.linked.write_linked.Goals as goal

-- nothing was linked
pub returns-in-Err : goal.returns-in-Err
returns-in-Err g c =
    let before = files_seen g.F.Files c.args.files.now in
    let after = files_seen g.F.Files c.link_files.new.files in
    let names = names_of c.args.names.now in
    let same = same_files _ _ c.link_files.ensures.kept in
    link_answers names c.args.out.now before after (ended_of c.in-Err.answer)
    (answered (CauseOfLink names c.args.out.now before after) (NotLinked names before after) c.in-Err.answer c.in-Err.ensures.unlinked
    (no_memory same) (λ why not. unlinked not same))
    (unwritten _ _ (record { reads = c.in-Err.ensures.uncounted_err; writes = c.link_files.ensures.writes }))

-- the image found no memory
pub returns-in-Err-write_image : goal.returns-in-Err-write_image
returns-in-Err-write_image g c =
    let before = files_seen g.F.Files c.args.files.now in
    let after = files_seen g.F.Files c.link_files.new.files in
    link_answers (names_of c.args.names.now) c.args.out.now before after _
    (no_memory (same_files _ _ c.link_files.ensures.kept))
    (unwritten _ _ (both_stay _ _ c.in-Ok.ensures.uncounted_ok c.link_files.ensures.writes))

-- it is written
pub returns-in-Done : goal.returns-in-Done
returns-in-Done g c =
    let before = files_seen g.F.Files c.args.files.now in
    let after = files_seen g.F.Files c.write.new.self in
    link_answers (names_of c.args.names.now) c.args.out.now before after _
    (written (image_of c.in-Ok.parts) c.in-Ok-write_image.image.items c.in-Ok.ensures.linked c.in-Ok-write_image.ensures
    (holds_written _ _ _ _ _ _ c.link_files.ensures.kept c.deref.ensures.value c.in-Done.ensures.content))
    (then_written before (files_seen g.F.Files c.link_files.new.files) after c.in-Ok.ensures.uncounted_ok c.link_files.ensures.writes
    c.write.ensures.reads (λ no_fault. c.in-Done.ensures.uncounted (λ e. cc)))

-- the write failed
pub returns-in-Failed : goal.returns-in-Failed
returns-in-Failed g c =
    let before = files_seen g.F.Files c.args.files.now in
    let after = files_seen g.F.Files c.write.new.self in
    let rose = subst (λ (faults : ℕ). Rose faults (g.F.Files.write_faults c.write.new.self)) c.link_files.ensures.writes
    (c.in-Failed.ensures.failed refl) in
    link_answers (names_of c.args.names.now) c.args.out.now before after _
    (write_failed (image_of c.in-Ok.parts) c.in-Ok.ensures.linked rose
    (left_open _ _ _ c.args.out.now c.deref.result.now c.link_files.ensures.kept c.in-Failed.ensures.content))
    (then_written before (files_seen g.F.Files c.link_files.new.files) after c.in-Ok.ensures.uncounted_ok c.link_files.ensures.writes
    c.write.ensures.reads (λ no_fault. absurd (no_fault tt)))

-- memory was wanting for it
pub returns : goal.returns
returns g c =
    let before = files_seen g.F.Files c.args.files.now in
    let after = files_seen g.F.Files c.write.new.self in
    link_answers (names_of c.args.names.now) c.args.out.now before after _
    (no_memory (unchanged _ _ _ c.args.out.now c.deref.result.now c.link_files.ensures.kept c.in-NoMemory.ensures.content))
    (then_written before (files_seen g.F.Files c.link_files.new.files) after c.in-Ok.ensures.uncounted_ok c.link_files.ensures.writes
    c.write.ensures.reads (λ no_fault. c.in-NoMemory.ensures.uncounted (λ e. cc)))
