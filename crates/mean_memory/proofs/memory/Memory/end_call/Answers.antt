use Rattle.std.proofs.Common.{subst, sym, ◌∙◌}
use Rattle.mean_memory.specs.Laws.Ending.{end_call_none}
use Rattle.mean_memory.specs.Owners.{InOrder, UpTo}
use Rattle.mean_memory.specs.Standing.{IsMemory, IsEnding}
use Rattle.mean_memory.proofs.memory.Memory.end_call.Goals as goal

pub returns : goal.returns
returns c = λ done blocks holds.
    let call = c.args.call in
    let first : IsEnding c.loop.self call blocks = c.loop.invariant blocks holds in
    let last : IsEnding c.pop_of.new.self call first.now = c.pop_of.ensures.ends first.now first.holds in
    let slots = c.pop_of.new.self.slots.items in
    let most : UpTo call slots =
    subst (UpTo call) c.deref.ensures.value (c.all_before.ensures done (subst InOrder (sym c.deref.ensures.value) last.holds.in_order)) in
    subst (IsMemory c.pop_of.new.self) (sym (end_call_none call last.holds most) ∙ last.same ∙ first.same) last.holds
