use Rattle.std.proofs.Common.{subst, sym, ap, ◌∙◌, arith, ◌+◌, ◌<◌, ◌∷◌, ◌++◌, [], take, length}
use Rattle.std.proofs.lemmas.List.{with_items_is}
use Rattle.std.proofs.lemmas.Option.{slice_get_within}
use Rattle.block_meaning.specs.Meaning.{with_arguments}
use Rattle.block_meaning.specs.Values.{cells_of}
use Rattle.mean_run.specs.Entering.{Passed}
use Rattle.mean_run.proofs.CallTurns.{one_more, one_there, so_many}
use Rattle.mean_run.proofs.arguments.pass.Goals as goal

pub loop-k-preserved : goal.loop-k-preserved
loop-k-preserved c = λ o passed.
    let i = c.loop-k.k in
    let ps = c.args.parameters.now in
    let vs = c.args.values.now in
    let p = c.index-parameters-k.result in
    let v = c.in-Some.v.now in
    let there = sym c.in-Some.ensures in
    let test = c.loop-k-test.true in
    let below : i < length ps = omega arith in
    subst (Passed c.args.h o (with_arguments o.here 0 (take (i + 1) ps) (take (i + 1) vs) o.start) c.put_block.new.n)
    (sym (with_items_is c.loop-k.locals c.put_block.new.locals (c.put_block.auto.locals ∙ c.deref_mut.ensures.len)))
    (subst (λ xs. Passed c.args.h o (with_arguments o.here 0 xs (take (i + 1) vs) o.start) c.put_block.new.n c.put_block.new.locals)
    (one_more ps i p below c.index-parameters-k.is)
    (subst (λ ys. Passed c.args.h o (with_arguments o.here 0 (take i ps ++ p ∷ []) ys o.start) c.put_block.new.n c.put_block.new.locals)
    (one_there vs i v there)
    (c.in_ok-put_block.ensures o (take i ps) (take i vs) p v (so_many ps i below) (so_many vs i (slice_get_within vs i v there))
    (c.in_ok-cells.ensures ∙ ap (λ x. cells_of x.ty v) (sym c.index-parameters-k.is))
    (subst (Passed c.args.h o (with_arguments o.here 0 (take i ps) (take i vs) o.start) c.loop-k.n) (sym c.deref_mut.ensures.value)
    (c.loop-k.invariant o passed)))))
