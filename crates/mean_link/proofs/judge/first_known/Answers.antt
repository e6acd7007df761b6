use Rattle.std.proofs.Common.{◌≡◌, ◌∙◌, sym, ap, true, false}
use Rattle.mean_link.specs.Names.{is_among}
use Rattle.mean_link.proofs.Tables.{first_here, first_later}
use Rattle.mean_link.proofs.judge.first_known.Goals as goal

pub returns-then-has : goal.returns-then-has
returns-then-has c =
    let p = is_among c.args.known.now in
    let there : p c.name-item.result ≡ true = sym (c.has.ensures ∙ ap p c.as_slice.ensures) ∙ c.if-has.true in
    sym (first_here p c.args.names.now c.loop-name.name-index c.name-item.result c.loop-name-test.true c.name-item.is there)
    ∙ c.loop-name.invariant

pub loop-name-preserved : goal.loop-name-preserved
loop-name-preserved c =
    let p = is_among c.args.known.now in
    let absent : p c.name-item.result ≡ false = sym (c.has.ensures ∙ ap p c.as_slice.ensures) ∙ c.if-has.false in
    first_later p c.args.names.now c.loop-name.name-index c.name-item.result c.loop-name-test.true c.name-item.is absent
    ∙ c.loop-name.invariant
