use Rattle.std.proofs.Common.{◌∙◌, ap}
use Rattle.std.specs.Prelude.{if◌then◌else◌}
use Rattle.c_types.specs.Tables.{with_name}
use Rattle.std.specs.List.{list_any}
use Rattle.std.specs.Str.{bytes_eq}
use Rattle.c_types.proofs.NameLaws.{chosen_more}
use Rattle.c_types.proofs.names.among.Goals as goal

pub loop-mention-preserved : goal.loop-mention-preserved
loop-mention-preserved c =
    chosen_more (λ n. list_any (bytes_eq n) c.args.chosen.now) c.args.mentions.now c.loop-mention.mention-index c.mention-item.result _ _ _
    c.loop-mention-test.true c.mention-item.is (c.has-there.ensures ∙ ap (λ n. list_any (bytes_eq n) c.args.chosen.now) c.as_slice.ensures)
    c.loop-mention.invariant (c.in_ok-add_where.ensures
    ∙ ap (λ n. if c.has-there.result then with_name c.loop-mention.names n else c.loop-mention.names) c.as_slice-in-loop-mention.ensures)
