use Rattle.std.proofs.Common.{◌+◌, ◌∙◌, sym, ap, ap₂, length, add-zero}
use Rattle.mt_base.specs.Memory.{bytes_at}
use Rattle.tag_mem.specs.Answers.{read_answer}
use Rattle.tag_mem.specs.Regions.{extents_of, byte_in, span_of}
use Rattle.tag_mem.proofs.Judged.{chunk_done}
use Rattle.tag_mem.proofs.copy.read_bytes.Goals as goal

-- one region holds all the bytes
pub returns-clause-answer : goal.returns-clause-answer
returns-clause-answer c =
    sym (ap (λ a. read_answer (extents_of c.args.regions.now) (span_of c.args.guard) a (length c.args.out.now)) (sym (add-zero c.args.at))
    ∙ chunk_done c.args.regions.now (span_of c.args.guard) (c.args.at + 0)
    (length c.args.out.now) c.in-Some.chunk c.requires c.in-Some.ensures.found c.if-chunk-out.true)

pub returns-clause-done : goal.returns-clause-done
returns-clause-done c _ =
    c.copy_from_slice.ensures.after
    ∙ c.chunk_bytes.ensures.value (c.args.at + 0) _ c.in-Some.ensures.found
    ∙ ap₂ (λ n a. bytes_at n (byte_in c.args.regions.now) a) c.if-chunk-out.true (add-zero c.args.at)
