use Rattle.std.proofs.Common.{subst, arith, ◌-◌, ◌<◌, length}
use Rattle.std.proofs.lemmas.Option.{slice_get_within}
use Rattle.block_meaning.specs.Blocks.{ended, with_block}
use Rattle.mean_memory.specs.Laws.Ending.{holds_taken}
use Rattle.mean_memory.specs.Shown.{Holds, IsLatestLocal}
use Rattle.mean_memory.proofs.memory.Memory.pop_local.Goals as goal

pub returns-then-is_latest : goal.returns-then-is_latest
returns-then-is_latest c = λ blocks holds.
    let slots = c.args.self.now.slots.items in
    let latest : IsLatestLocal slots c.args.number =
    subst (λ l. IsLatestLocal l c.args.number) c.deref.ensures.value (c.is_latest.ensures c.if-is_latest.true) in
    let within : length slots - 1 < length slots = slice_get_within slots (length slots - 1) latest.slot latest.is in
    subst (λ n. Holds c.pop.new.self.items c.args.self.now.next (with_block n ended blocks)) latest.named
    (holds_taken c.pop.new.self.items c.pop.result latest.slot holds c.pop.ensures.items (c.pop.ensures.variant.1 (omega arith)) latest.is
    latest.no_null)
