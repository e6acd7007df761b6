use Rattle.std.proofs.Common.{◌≡◌, refl, subst, sym, ap, ◌∙◌, length}
use Rattle.std.proofs.lemmas.List.{length-set}
use Rattle.mean_memory.specs.Copied.{IsCopied}
use Rattle.mean_memory.specs.declared.copying.Part.{Part}
use Rattle.mean_memory.specs.Laws.Holding.{holds_as}
use Rattle.mean_memory.specs.Laws.Copying.{came_back, holds_copied}
use Rattle.mean_memory.specs.Laws.Slots.{found_there, read_there}
use Rattle.mean_memory.specs.Shown.{StandsAt}
use Rattle.mean_memory.proofs.memory.Memory.copy.Goals as goal

pub returns-then-from-to : goal.returns-then-from-to
returns-then-from-to c = λ done blocks holds.
    let source = c.args.source in
    let target = c.args.target in
    let i = c.in-Some-located.to in
    let s = c.index_mut.result.now in
    let from = read_there source.block i s c.deref.ensures.value
    (subst (StandsAt c.deref.result.now source.block) c.if-from-to.true c.in-Some.ensures) c.index_mut.ensures.value in
    let to = read_there target.block i s c.deref-2.ensures.value c.in-Some-located.ensures c.index_mut.ensures.value in
    holds_copied holds source target c.args.bytes i i s s c.copy_slot.new.slot from.0 from.1 to.0 to.1 c.copy_slot.ensures.number
    (c.copy_slot.ensures.block done)

pub returns-else-from-to : goal.returns-else-from-to
returns-else-from-to c = λ done blocks holds.
    let source = c.args.source in
    let target = c.args.target in
    let slots = c.args.self.now.slots.items in
    let i = c.in-Some.from in
    let j = c.in-Some-located.to in
    let part : Part = record { source = source.offset; target = target.offset; bytes = c.args.bytes } in
    let new = c.copy_between.new.slots in
    let it : IsCopied slots new i j part =
    subst (λ l. IsCopied l new i j part) c.deref_mut-else-from-to.ensures.value (c.copy_between.ensures done) in
    let from : it.from.number ≡ source.block = found_there c.deref.ensures.value c.in-Some.ensures it.from_is in
    let to : it.to.number ≡ target.block = found_there c.deref-2.ensures.value c.in-Some-located.ensures it.to_is in
    let same : length new ≡ length slots = ap length it.is ∙ length-set slots j it.after in
    let whole : length slots ≡ c.args.self.now.slots.len =
    ap length (sym c.deref_mut-else-from-to.ensures.value) ∙ c.deref_mut-else-from-to.ensures.len in
    holds_as (came_back slots new c.args.self.now.slots.len whole same ∙ it.is) refl
    (holds_copied holds source target c.args.bytes i j it.from it.to it.after it.from_is from it.to_is to it.number it.block)
