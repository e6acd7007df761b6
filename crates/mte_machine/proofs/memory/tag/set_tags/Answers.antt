use Rattle.std.proofs.Common.{◌≡◌, ℕ, ◌+◌, ◌*◌, ◌≤◌, Bool, true, false, ◌∙◌, ap, arith}
use Rattle.mt_base.specs.Memory.{store_tag}
use Rattle.a64_code.specs.State.{State, with_tags}
use Rattle.mte_machine.specs.Accesses.{with_memory, granules}
use Rattle.mte_machine.proofs.TagLaws.{write_within, some_state, still_writable}
use Rattle.mte_machine.proofs.memory.tag.set_tags.Goals as goal

one_within : (two : Bool) (at : ℕ) → at + 16 ≤ at + 16 * granules two
one_within true at = omega arith
one_within false at = omega arith

two_within : (two : Bool) (at : ℕ) → two ≡ true → at + 16 + 16 ≤ at + 16 * granules two
two_within true at is = omega arith
two_within false at is = absurd (cc)

pub set_a_tag-requires-clause-writable : goal.set_a_tag-requires-clause-writable
set_a_tag-requires-clause-writable g c =
    write_within (g.M.TagMemory.regions c.args.memory.now)
    (g.M.TagMemory.guard c.args.memory.now) c.args.at (16 * granules c.args.two) c.args.at 16 c.requires.writable (omega arith)
    (one_within c.args.two c.args.at)

pub set_a_tag-requires-then-two-clause-writable : goal.set_a_tag-requires-then-two-clause-writable
set_a_tag-requires-then-two-clause-writable g c =
    let old = with_memory g.M.TagMemory c.args.memory.now some_state in
    let new = with_memory g.M.TagMemory c.set_a_tag.new.memory some_state in
    still_writable old new (c.args.at + 16) 16 (ap (λ (t : State). t.regions) (c.set_a_tag.ensures some_state))
    (ap (λ (t : State). t.guard) (c.set_a_tag.ensures some_state))
    (write_within old.regions old.guard c.args.at (16 * granules c.args.two) (c.args.at + 16) 16 c.requires.writable (omega arith)
    (two_within c.args.two c.args.at c.if-two.true))

pub returns-then-two : goal.returns-then-two
returns-then-two g c s =
    rw c.if-two.true (c.set_a_tag-then-two.ensures s ∙ ap (λ (t : State). with_tags (store_tag t.tag (c.args.at + 16) c.args.tag) t)
    (c.set_a_tag.ensures s))

pub returns-else-two : goal.returns-else-two
returns-else-two g c s = rw c.if-two.false (c.set_a_tag.ensures s)
