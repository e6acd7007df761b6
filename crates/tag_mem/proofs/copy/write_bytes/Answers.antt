use Rattle.std.proofs.Common.{◌≡◌, ◌+◌, ◌∙◌, ◌++◌, ℕ, List, sym, ap, ap₂, subst, length, take, drop, add-zero, take_at}
use Rattle.mt_base.specs.Memory.{store_bytes}
use Rattle.tag_mem.specs.declared.region.Region.{Region}
use Rattle.tag_mem.specs.Answers.{write_answer}
use Rattle.tag_mem.specs.Regions.{extents_of, byte_in, span_of, IsChunk}
use Rattle.tag_mem.proofs.Judged.{chunk_written}
use Rattle.tag_mem.proofs.copy.write_bytes.Goals as goal

-- a part that is written back whole
whole_part : (old new : List Region) (n : ℕ) → length new ≡ length old → n ≡ length old → take n (new ++ drop (length new) old) ≡ new
whole_part old new n same is = take_at new (drop (length new) old) n (same ∙ sym is)

-- one region, which is writable, holds all the bytes
pub returns-clause-answer : goal.returns-clause-answer
returns-clause-answer c =
    sym (ap (λ a. write_answer (extents_of c.args.regions.now.items) (span_of c.args.guard) a (length c.args.bytes.now))
    (sym (add-zero c.args.at))
    ∙ chunk_written c.args.regions.now.items (span_of c.args.guard) (c.args.at + 0)
    (length c.args.bytes.now) c.in-Some.chunk c.index.result.now c.requires
    (subst (λ (rs : List Region). IsChunk rs (c.args.at + 0) (length c.args.bytes.now) c.in-Some.chunk) c.deref.ensures.value
    c.in-Some.ensures.found)
    c.if-chunk-bytes.true c.index.ensures c.if-index.true)

pub returns-clause-done : goal.returns-clause-done
returns-clause-done c _ =
    ap byte_in
    (whole_part c.args.regions.now.items c.put_chunk.new.regions c.args.regions.now.len
    (c.put_chunk.auto.regions ∙ ap length c.deref_mut.ensures.value) c.args.regions.now.ok.0)
    ∙ c.put_chunk.ensures.bytes (c.args.at + 0) (length c.args.bytes.now)
    (subst (λ (rs : List Region). IsChunk rs (c.args.at + 0) (length c.args.bytes.now) c.in-Some.chunk)
    (c.deref.ensures.value ∙ sym c.deref_mut.ensures.value) c.in-Some.ensures.found)
    ∙ ap₂ (λ rs a. store_bytes (byte_in rs) a c.args.bytes.now) c.deref_mut.ensures.value (add-zero c.args.at)
