use Rattle.std.proofs.Common.{refl, sym, subst, ◌∷◌, ◌++◌, []}
use Rattle.mean_effects.specs.declared.now.Now.{Now}
use Rattle.mean_run.specs.Entering.{Made}
use Rattle.mean_run.specs.Laws.Entering.{made-more}
use Rattle.mean_run.proofs.locals.new_local.Goals as goal

pub returns : goal.returns
returns c = λ o ks made.
    let n : Now = record { memory = c.push_fresh.new.self; work = c.args.n.now.work; calls = c.args.n.now.calls } in
    subst (Made c.args.h o (ks ++ c.args.k ∷ []) n) (sym c.in_ok-keep.ensures.is)
    (made-more n c.args.k c.in_ok-number.number c.in-Some-exact_size.bytes c.in-Some.info.now made (sym c.in-Some.ensures)
    c.in-Some-exact_size.ensures c.in_ok-keep.ensures.was c.in_ok-number.ensures refl refl)
