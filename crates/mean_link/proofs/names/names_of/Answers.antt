use Rattle.std.proofs.Common.{ap, ◌∙◌, sym, flat_map, length}
use Rattle.std.specs.List.{filter, list_any}
use Rattle.slot_safety.specs.Laws.NumberLaws.{length-by_number}
use Rattle.mean_link.specs.Laws.NameLaws.{used_by}
use Rattle.mean_link.specs.Laws.UseLaws.{as_told}
use Rattle.mean_link.specs.Names.{is_among, declared_by, is_main}
use Rattle.mean_link.specs.Uses.{file_uses}
use Rattle.mean_link.proofs.Turns.{made}
use Rattle.mean_link.proofs.names.names_of.Goals as goal

pub used_names-requires : goal.used_names-requires
used_names-requires c =
    let u = c.args.typed.now in
    ap length (c.as_slice-marks.ensures.value ∙ c.in_ok-used.ensures) ∙ length-by_number as_told (file_uses u) 0 u.externs
    ∙ ap length (sym c.as_slice-externs.ensures)

pub returns : goal.returns
returns c =
    let u = c.args.typed.now in
    let known = c.in_ok-known.known in
    let marks = c.as_slice-marks.result.now in
    made c.args.program.now u known c.in_ok-defined.defined c.in_ok-undefined.undefined c.has_main.result marks c.in_ok-known.ensures
    (c.in_ok-defined.ensures ∙ ap (λ l. filter (is_among known) (flat_map declared_by l)) c.as_slice-parts.ensures)
    (c.has_main.ensures ∙ ap (list_any is_main) c.as_slice-functions.ensures)
    (c.in_ok-undefined.ensures ∙ ap (used_by marks) c.as_slice-externs.ensures)
    (c.as_slice-marks.ensures.value ∙ c.in_ok-used.ensures)
