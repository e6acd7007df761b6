use Rattle.std.proofs.Common.{refl, subst, arith, ◌-◌, ◌<◌, length}
use Rattle.std.proofs.lemmas.Option.{slice_get_within}
use Rattle.block_meaning.specs.Blocks.{ended, with_block}
use Rattle.mean_memory.specs.Laws.Ending.{holds_taken, ended_before, no_null_of_call, taken_fewer}
use Rattle.mean_memory.specs.Shown.{IsLatestOf}
use Rattle.mean_memory.proofs.memory.Memory.pop_of.Goals as goal

pub returns-then-is_latest_of : goal.returns-then-is_latest_of
returns-then-is_latest_of c =
    let slots = c.args.self.now.slots.items in
    let latest : IsLatestOf slots c.args.call =
    subst (λ l. IsLatestOf l c.args.call) c.deref.ensures.value (c.is_latest_of.ensures c.if-is_latest_of.true) in
    let within : length slots - 1 < length slots = slice_get_within slots (length slots - 1) latest.slot latest.is in
    record {
      ends = λ blocks holds. record {
        now = with_block latest.slot.number ended blocks;
        holds = holds_taken c.pop.new.self.items c.pop.result latest.slot holds c.pop.ensures.items (c.pop.ensures.variant.1 (omega arith))
            latest.is (no_null_of_call latest.slot.kind c.args.call latest.of_call);
        same = ended_before c.args.call (length slots - 1) latest.slot holds latest.is latest.of_call;
      };
      fewer = λ taken. taken_fewer slots c.pop.new.self.items c.pop.result c.pop.ensures.items (c.pop.ensures.variant.1 (omega arith));
    }

pub returns-else-is_latest_of : goal.returns-else-is_latest_of
returns-else-is_latest_of c = record {
  ends = λ blocks holds. record { now = blocks; holds = holds; same = refl };
  fewer = λ none. absurd (cc);
}
