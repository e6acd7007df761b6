use Rattle.std.proofs.Common.{◌≡◌, refl, rules, sym, subst, true}
use Rattle.mean_memory.specs.declared.slot.Slot.{Slot}
use Rattle.mean_memory.specs.Laws.Holding.{holds_push, holds_as}
use Rattle.mean_memory.specs.Owners.{owner, InOrder, UpTo}
use Rattle.mean_memory.proofs.memory.Memory.push.Goals as goal

pub returns : goal.returns
returns c = λ blocks holds.
    let s : Slot = record { number = c.args.self.now.next; kind = c.args.kind; cells = c.args.cells } in
    let follows : c.may_push.result ≡ true = search rules in
    let most : UpTo (owner c.args.kind) c.args.self.now.slots.items =
    subst (UpTo (owner c.args.kind)) c.deref.ensures.value
    (c.may_push.ensures follows (subst InOrder (sym c.deref.ensures.value) holds.in_order)) in
    (holds.count, holds_as c.in_ok-push.ensures.items (search rules) (holds_push holds s refl most))
