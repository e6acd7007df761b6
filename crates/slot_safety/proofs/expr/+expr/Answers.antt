use Rattle.std.proofs.Common.{◌++◌, arith, ap, sym, ◌∙◌}
use Rattle.slot_safety.specs.Kinds.{marked}
use Rattle.slot_safety.specs.Occurrences.{uses, all, touched, harmed_in}
use Rattle.slot_safety.specs.Paths.{misused, ended, element, member, decayed}
use Rattle.slot_safety.specs.Laws.MarkedLaws.{marked_two, marked_turn}
use Rattle.slot_safety.specs.Laws.OccurrenceLaws.{said-type, said-binary, said-assign, said-cond, said-index, said-member, said-decay}
use Rattle.slot_safety.proofs.expr.+expr.Goals as goal

pub spread_all-loop-argument-preserved : goal.spread_all-loop-argument-preserved
spread_all-loop-argument-preserved t c =
    marked_turn all (uses c.args.structs.now) c.args.arguments.now c.loop-argument.argument-index c.argument-item.result
    c.args.kinds.now c.loop-argument.kinds c.spread.new.kinds
    (omega arith) c.argument-item.is c.loop-argument.invariant c.spread.ensures.kinds

pub touch-returns-clause-kinds : goal.touch-returns-clause-kinds
touch-returns-clause-kinds t c =
    let e = c.args.expr.now in
    let u = uses c.args.structs.now e in
    marked_two c.args.kinds.now c.look-seen.new.kinds c.mark_misused.new.kinds u.harmed (misused e.ty u.seen.path)
    c.look-seen.ensures.kinds (rw c.look-seen.ensures.seen at c.mark_misused.ensures)
    ∙ ap (λ t. marked c.args.kinds.now (u.harmed ++ misused t u.seen.path)) (sym (said-type c.args.structs.now e))

pub look_at-returns-in-Binary-clause-kinds : goal.look_at-returns-in-Binary-clause-kinds
look_at-returns-in-Binary-clause-kinds t c =
    let s = c.args.structs.now in
    rw (c.in-Binary.is, said-binary)
    (marked_two c.args.kinds.now c.spread-first.new.kinds c.spread-second.new.kinds
    (harmed_in s c.in-Binary.left) (harmed_in s c.in-Binary.right)
    c.spread-first.ensures.kinds c.spread-second.ensures.kinds)

pub look_at-returns-in-Assign-clause-kinds : goal.look_at-returns-in-Assign-clause-kinds
look_at-returns-in-Assign-clause-kinds t c =
    let s = c.args.structs.now in
    rw (c.in-Assign.is, said-assign)
    (marked_two c.args.kinds.now c.touch.new.kinds c.spread.new.kinds
    (touched (uses s c.in-Assign.left)) (harmed_in s c.in-Assign.right) c.touch.ensures.kinds c.spread.ensures.kinds)

pub look_at-returns-in-Cond-clause-kinds : goal.look_at-returns-in-Cond-clause-kinds
look_at-returns-in-Cond-clause-kinds t c =
    let condition = harmed_in c.args.structs.now c.in-Cond.condition in
    let then = harmed_in c.args.structs.now c.in-Cond.then in
    let other = harmed_in c.args.structs.now c.in-Cond.other in
    rw (c.in-Cond.is, said-cond)
    (marked_two c.args.kinds.now c.spread-condition.new.kinds c.spread-other.new.kinds condition (then ++ other)
    c.spread-condition.ensures.kinds
    (marked_two c.spread-condition.new.kinds c.spread-then.new.kinds c.spread-other.new.kinds then other
    c.spread-then.ensures.kinds c.spread-other.ensures.kinds))

pub look_at-returns-in-Index-clause-kinds : goal.look_at-returns-in-Index-clause-kinds
look_at-returns-in-Index-clause-kinds t c =
    let a = uses c.args.structs.now c.in-Index.array in
    let i = uses c.args.structs.now c.in-Index.at in
    let left = ended a.seen.path (element a.seen.path i.seen.constant) in
    rw (c.in-Index.is, said-index)
    (marked_two c.args.kinds.now c.look-before.new.kinds c.go_on.new.kinds a.harmed (all i ++ left)
    c.look-before.ensures.kinds
    (marked_two c.look-before.new.kinds c.spread-constant-in-Index.new.kinds c.go_on.new.kinds (all i) left
    c.spread-constant-in-Index.ensures.kinds
    (rw (c.element.ensures, c.look-before.ensures.seen, c.spread-constant-in-Index.ensures.constant) at c.go_on.ensures.kinds)))

pub look_at-returns-in-Member-clause-kinds : goal.look_at-returns-in-Member-clause-kinds
look_at-returns-in-Member-clause-kinds t c =
    let u = uses c.args.structs.now c.in-Member.object in
    rw (c.in-Member.is, said-member)
    (marked_two c.args.kinds.now c.look-before-in-Member.new.kinds c.go_on-in-Member.new.kinds
    u.harmed (ended u.seen.path (member u.seen.path)) c.look-before-in-Member.ensures.kinds
    (rw (c.member.ensures, c.look-before-in-Member.ensures.seen) at c.go_on-in-Member.ensures.kinds))

pub look_at-returns-in-Decay-clause-kinds : goal.look_at-returns-in-Decay-clause-kinds
look_at-returns-in-Decay-clause-kinds t c =
    let e = c.in-Decay.array in
    let u = uses c.args.structs.now e in
    rw (c.in-Decay.is, said-decay)
    (marked_two c.args.kinds.now c.look-before-in-Decay.new.kinds c.go_on-in-Decay.new.kinds
    u.harmed (ended u.seen.path (decayed e.ty u.seen.path)) c.look-before-in-Decay.ensures.kinds
    (rw (c.decayed.ensures, c.look-before-in-Decay.ensures.seen) at c.go_on-in-Decay.ensures.kinds)
    ∙ ap (λ t. marked c.args.kinds.now (u.harmed ++ ended u.seen.path (decayed t u.seen.path)))
    (sym (said-type c.args.structs.now e)))
