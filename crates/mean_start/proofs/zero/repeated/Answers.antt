use Rattle.std.proofs.Common.{sym, ap, ◌∙◌, ◌++◌, arith, ◌≡◌}
use Rattle.std.proofs.lemmas.Bool.{eqb-true}
use Rattle.block_meaning.specs.Opening.{repeated}
use Rattle.mean_start.proofs.Steps.{repeated_empty, repeated_more}
use Rattle.mean_start.proofs.zero.repeated.Goals as goal

pub returns-then-is_empty : goal.returns-then-is_empty
returns-then-is_empty c = c.new-made.ensures.items ∙ repeated_empty c.args.count c.args.cells.now (eqb-true _ 0
    (sym c.if-is_empty.ensures))

pub loop-preserved : goal.loop-preserved
loop-preserved c =
    c.in_ok-extend_from_slice.ensures.items ∙ ap (λ l. l ++ c.args.cells.now) c.loop.invariant
    ∙ repeated_more c.loop.counter c.args.cells.now

pub returns : goal.returns
returns c =
    let far = c.loop.auto.counter-end in
    let test = c.loop-test.false in
    let all : c.loop.counter ≡ c.args.count = omega arith in
    c.loop.invariant ∙ ap (λ n. repeated n c.args.cells.now) all
