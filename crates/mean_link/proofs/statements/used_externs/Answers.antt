use Rattle.std.proofs.Common.{ap, ◌∙◌, drop, length, false}
use Rattle.std.proofs.Math.ListN.{replicate}
use Rattle.slot_safety.specs.Laws.NumberLaws.{written_back}
use Rattle.mean_link.specs.Uses.{file_uses}
use Rattle.mean_link.specs.Laws.UseLaws.{as_told}
use Rattle.mean_link.proofs.statements.used_externs.Goals as goal

pub returns : goal.returns
returns c =
    let vec = c.in_ok-used.ensures in
    let flags = c.use_file.new.used in
    written_back as_told c.args.typed.now.externs (file_uses c.args.typed.now) c.in_ok-used.used.len
    c.as_mut_slice.result.now flags (drop (length flags) c.in_ok-used.used.items)
    (vec.len ∙ ap length c.as_slice.ensures)
    (c.as_mut_slice.ensures.value ∙ vec.items_if_clones_equal (λ y is. is) ∙ ap (λ ls. replicate (length ls) false) c.as_slice.ensures)
    c.use_file.ensures
