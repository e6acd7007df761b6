use Rattle.std.proofs.Common.{◌≡◌, ◌∙◌, sym, ap, find, Some, None}
use Rattle.std.specs.Option.{option_copied}
use Rattle.mean_link.specs.Laws.NameLaws.{is_unknown}
use Rattle.mean_link.proofs.Turns.{missing_here, missing_later, none_missing}
use Rattle.mean_link.proofs.judge.first_missing.Goals as goal

pub returns-in-Some : goal.returns-in-Some
returns-in-Some c =
    let fs = c.args.files.now in
    let known = c.args.known.now in
    let found : find (is_unknown known) c.file-item.result.undefined ≡ Some c.in-Some.missing.now =
    ap (find (is_unknown known)) (sym c.as_slice.ensures) ∙ sym c.first_unknown.ensures ∙ ap option_copied c.in-Some.is in
    missing_here fs c.loop-file.file-index c.file-item.result c.loop-file-test.true c.file-item.is known c.in-Some.missing.now
    c.requires found c.loop-file.invariant

pub loop-file-preserved : goal.loop-file-preserved
loop-file-preserved c =
    let fs = c.args.files.now in
    let known = c.args.known.now in
    let found : find (is_unknown known) c.file-item.result.undefined ≡ None =
    ap (find (is_unknown known)) (sym c.as_slice.ensures) ∙ sym c.first_unknown.ensures ∙ ap option_copied c.in_default.is in
    missing_later fs c.loop-file.file-index c.file-item.result c.loop-file-test.true c.file-item.is known c.requires found
    c.loop-file.invariant

pub returns : goal.returns
returns c = none_missing c.args.files.now c.loop-file.file-index c.loop-file-test.false c.loop-file.invariant
