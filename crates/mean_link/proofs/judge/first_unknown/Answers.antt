use Rattle.std.proofs.Common.{◌≡◌, ◌∙◌, sym, ap, not, true, false}
use Rattle.mean_link.specs.Names.{is_among}
use Rattle.mean_link.specs.Laws.NameLaws.{is_unknown}
use Rattle.mean_link.proofs.Tables.{first_here, first_later}
use Rattle.mean_link.proofs.judge.first_unknown.Goals as goal

pub returns-then-not-has : goal.returns-then-not-has
returns-then-not-has c =
    let p = is_unknown c.args.known.now in
    let there : p c.name-item.result ≡ true =
    ap not (sym (c.has.ensures ∙ ap (is_among c.args.known.now) c.as_slice.ensures) ∙ c.if-not-has.true) in
    sym (first_here p c.args.names.now c.loop-name.name-index c.name-item.result c.loop-name-test.true c.name-item.is there)
    ∙ c.loop-name.invariant

pub loop-name-preserved : goal.loop-name-preserved
loop-name-preserved c =
    let p = is_unknown c.args.known.now in
    let absent : p c.name-item.result ≡ false =
    ap not (sym (c.has.ensures ∙ ap (is_among c.args.known.now) c.as_slice.ensures) ∙ c.if-not-has.false) in
    first_later p c.args.names.now c.loop-name.name-index c.name-item.result c.loop-name-test.true c.name-item.is absent
    ∙ c.loop-name.invariant
