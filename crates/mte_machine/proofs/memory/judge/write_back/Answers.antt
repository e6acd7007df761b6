use Rattle.std.proofs.Common.{length, refl}
use Rattle.mte_machine.proofs.WriteLaws.{Wrote, written_back}
use Rattle.mte_machine.proofs.memory.judge.write_back.Goals as goal

pub returns-in-Done-clause-same : goal.returns-in-Done-clause-same
returns-in-Done-clause-same g c s =
    let wrote : Wrote g.M.TagMemory c.args.memory.now c.write.new.self c.args.at c.read.new.out c.write.result = record {
      is = c.write.ensures.answer;
      done = c.write.ensures.done;
      refused = c.write.ensures.refused;
      same_tags = c.write.ensures.same_tags;
      same_regions = c.write.ensures.same_regions;
      same_guard = c.write.ensures.same_guard;
    } in
    written_back g.M.TagMemory c.args.memory.now c.write.new.self s c.args.at
    (length c.args.bytes.now) c.read.new.out c.write.result wrote (c.in-Done.ensures.done refl)
