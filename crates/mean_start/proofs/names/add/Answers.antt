use Rattle.std.proofs.Common.{sym, ◌∙◌}
use Rattle.mean_start.proofs.Naming.{knows_new}
use Rattle.mean_start.proofs.names.add.Goals as goal

pub returns-in_ok-insert : goal.returns-in_ok-insert
returns-in_ok-insert c = λ units found d is knows.
    knows_new c.args.names.now c.insert.new.self units found c.args.name.now d c.args.meant is
    (sym c.contains_key.ensures ∙ c.if-not-contains_key.true)
    (λ n. c.in_ok-insert.ensures.updates.0 (record { ref_ptr = c.args.name.ref_ptr; now = n })) knows
