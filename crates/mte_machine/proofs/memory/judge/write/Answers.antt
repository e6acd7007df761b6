use Rattle.a64_code.specs.State.{with_bytes}
use Rattle.std.proofs.Common.{length, refl}
use Rattle.mt_base.specs.Memory.{store_bytes}
use Rattle.mt_base.specs.Pointers.{address_of}
use Rattle.tag_mem.specs.Answers.{write_answer}
use Rattle.mte_machine.specs.Accesses.{with_memory}
use Rattle.mte_machine.proofs.WriteLaws.{Wrote, write_misaligned, written, not_written}
use Rattle.mte_machine.proofs.memory.judge.write.Goals as goal

pub returns-then-at-unit-ne0 : goal.returns-then-at-unit-ne0
returns-then-at-unit-ne0 g c s =
    let old = with_memory g.M.TagMemory c.args.memory.now s in
    write_misaligned old c.args.pointer c.args.unit (length c.args.bytes.now) c.address_of-at.result c.args.checked
    (with_bytes (store_bytes (g.M.TagMemory.byte c.args.memory.now) (address_of c.args.pointer) c.args.bytes.now) old)
    c.address_of-at.ensures c.if-at-unit-ne0.true

-- the tags match, where they count
pub returns-in-Ok : goal.returns-in-Ok
returns-in-Ok g c s =
    let wrote : Wrote g.M.TagMemory c.args.memory.now c.write-answer.new.self c.address_of-at.result c.args.bytes.now
    c.write-answer.result = record {
      is = c.write-answer.ensures.answer;
      done = c.write-answer.ensures.done;
      refused = c.write-answer.ensures.refused;
      same_tags = c.write-answer.ensures.same_tags;
      same_regions = c.write-answer.ensures.same_regions;
      same_guard = c.write-answer.ensures.same_guard;
    } in
    written g.M.TagMemory c.args.memory.now c.write-answer.new.self s c.args.pointer c.args.unit c.address_of-at.result c.args.bytes.now
    c.args.checked c.write-answer.result c.end_at.result
    c.address_of-at.ensures c.if-at-unit-ne0.false wrote (c.in-Ok.ensures s) c.end_at.ensures

-- they do not
pub returns-in-Err : goal.returns-in-Err
returns-in-Err g c s =
    let old = with_memory g.M.TagMemory c.args.memory.now s in
    not_written old (with_memory g.M.TagMemory c.refuse.new.memory s)
    (with_bytes (store_bytes (g.M.TagMemory.byte c.args.memory.now) (address_of c.args.pointer) c.args.bytes.now) old)
    c.args.pointer c.args.unit (length c.args.bytes.now) c.address_of-at.result c.args.checked
    (write_answer old.regions old.guard c.address_of-at.result (length c.args.bytes.now)) c.in-Err.fault c.refuse.result
    c.address_of-at.ensures c.if-at-unit-ne0.false refl (c.in-Err.ensures s) c.refuse.ensures.ends (c.refuse.ensures.same s)
