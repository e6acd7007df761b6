use Rattle.std.proofs.Common.{refl, sym, subst, ◌∷◌}
use Rattle.mean_memory.specs.Shown.{ended_if}
use Rattle.mean_memory.specs.Standing.{IsMemory}
use Rattle.mean_effects.specs.declared.now.Now.{Now}
use Rattle.mean_run.specs.Entering.{Closed}
use Rattle.mean_run.specs.Laws.Entering.{closed-more}
use Rattle.mean_run.proofs.locals.close_local.Goals as goal

pub returns-then-pop_local : goal.returns-then-pop_local
returns-then-pop_local c = λ o ks closed.
    let n : Now = record { memory = c.pop_local.new.self; work = c.args.n.now.work; calls = c.args.n.now.calls } in
    let b = c.in_ok-number.number in
    subst (Closed c.args.h o (c.args.k ∷ ks) n) (sym c.in_ok-number.ensures.is)
    (closed-more n c.args.k b closed c.in_ok-number.ensures.was
    (λ blocks holds. subst (λ e. IsMemory n.memory (ended_if e b blocks)) c.if-pop_local.true (c.pop_local.ensures blocks holds)) refl refl)
