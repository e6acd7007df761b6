use Rattle.std.proofs.Common.{◌≡◌, ◌⊎◌, ◌∙◌, List, ℕ, refl, sym, subst}
use Rattle.memtag_dump.specs.Lines.{HasText}
use Rattle.memtag_dump.specs.Refusal.{HasNoText}
use Rattle.memtag_dump.specs.declared.refusal.DumpRefusal.TheVariants.{NoMemory}
use Rattle.mt_answers.specs.declared.answer.Answer.{Answer}
use Rattle.mt_answers.specs.Answer.{ended_of}
use Rattle.mt_pipeline.specs.Dump.{Dumps}
use Rattle.mt_answers.specs.Put.{output_seen, with_output}
use Rattle.mt_answers.specs.Seen.{files_seen}
use Rattle.mt_pipeline.specs.Undumped.{answer_to_dump}
use Rattle.mt_answers.specs.Laws.Counts.{both_stay}
use Rattle.mt_pipeline.proofs.DumpCauses.{dump_answers, dump_unread, dump_put, dump_refused}
use Rattle.mt_answers.specs.Laws.Written.{same_files}
use Rattle.mt_pipeline.proofs.dump.dump_file.Goals as goal

-- there were no bytes
pub returns-in-Err : goal.returns-in-Err
returns-in-Err g c =
    let before = files_seen g.F.Files c.args.files.now in
    let after = files_seen g.F.Files c.read_file.new.files in
    let out = output_seen g.K.Sink c.args.out.now in
    dump_answers c.args.file.now before after out out (ended_of c.in-Err.answer)
    (dump_unread c.args.file.now before after out out c.in-Err.answer c.in-Err.ensures.cause refl)
    (same_files _ _ c.read_file.ensures.kept)
    (record { reads = c.in-Err.ensures.uncounted_err; writes = c.read_file.ensures.writes })

-- the text was put, or a part of it
pub returns-in-Ok-dump : goal.returns-in-Ok-dump
returns-in-Ok-dump g c =
    let before = files_seen g.F.Files c.args.files.now in
    let after = files_seen g.F.Files c.read_file.new.files in
    let out = output_seen g.K.Sink c.args.out.now in
    let now = output_seen g.K.Sink c.put_bytes.new.out in
    let has : HasText c.in-Ok.bytes.items c.as_bytes.result.now =
    subst (λ (b : List ℕ). HasText b c.as_bytes.result.now) c.deref.ensures.value
    (subst (λ (t : List ℕ). HasText c.deref.result.now t) (sym (c.as_bytes.ensures.value ∙ c.as_str.ensures.value))
    c.in-Ok-dump.ensures.found) in
    dump_answers c.args.file.now before after out now (ended_of c.put_bytes.result)
    (dump_put c.args.file.now before after out now c.in-Ok.bytes.items c.as_bytes.result.now c.put_bytes.result c.in-Ok.ensures.bytes has
    c.put_bytes.ensures)
    (same_files _ _ c.read_file.ensures.kept)
    (both_stay before after c.in-Ok.ensures.uncounted_ok c.read_file.ensures.writes)

-- or there is none
pub returns : goal.returns
returns g c =
    let before = files_seen g.F.Files c.args.files.now in
    let after = files_seen g.F.Files c.read_file.new.files in
    let out = output_seen g.K.Sink c.args.out.now in
    let cause = subst (λ (b : List ℕ). (c.in-Err-dump.refusal ≡ NoMemory) ⊎ HasNoText b c.in-Err-dump.refusal) c.deref.ensures.value
    c.in-Err-dump.ensures.refused in
    subst (λ (a : Answer). Dumps c.args.file.now (with_output before out) (with_output after out) (ended_of a))
    (sym c.answer_to_dump.ensures)
    (dump_answers c.args.file.now before after out out (ended_of (answer_to_dump c.in-Err-dump.refusal))
    (dump_refused c.args.file.now before after out out c.in-Ok.bytes.items c.in-Err-dump.refusal c.in-Ok.ensures.bytes refl cause)
    (same_files _ _ c.read_file.ensures.kept)
    (both_stay before after c.in-Ok.ensures.uncounted_ok c.read_file.ensures.writes))
