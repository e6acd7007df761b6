use Rattle.std.proofs.Common.{refl, sym, ◌∙◌, subst, ◌∷◌, ◌++◌, []}
use Rattle.block_meaning.specs.Meaning.{with_arguments}
use Rattle.mean_effects.specs.declared.now.Now.{Now}
use Rattle.mean_run.specs.Entering.{Passed}
use Rattle.mean_run.specs.Laws.Arguments.{passed-more}
use Rattle.mean_run.proofs.arguments.put_block.Goals as goal

pub returns : goal.returns
returns c = λ o ls vs l v first second filled passed.
    let n : Now = record { memory = c.push.new.self; work = c.args.n.now.work; calls = c.args.n.now.calls } in
    subst (Passed c.args.h o (with_arguments o.here 0 (ls ++ l ∷ []) (vs ++ v ∷ []) o.start) n) (sym c.in_ok-keep.ensures.is)
    (passed-more n c.in_ok-k.k c.in_ok-block.block c.args.cells.items ls vs l v (first ∙ sym c.in_ok-k.ensures)
    (second ∙ sym c.in_ok-k.ensures) filled passed c.in_ok-keep.ensures.was c.in_ok-block.ensures refl refl)
