use Rattle.std.proofs.Common.{◌∙◌, ap}
use Rattle.std.specs.Prelude.{if◌then◌else◌}
use Rattle.c_types.specs.Tables.{with_name, is_elsewhere}
use Rattle.c_types.proofs.NameLaws.{chosen_more}
use Rattle.c_types.proofs.names.elsewhere.Goals as goal

pub loop-mention-preserved : goal.loop-mention-preserved
loop-mention-preserved c =
    chosen_more (is_elsewhere c.args.objects.now c.args.functions.now c.args.includes) c.args.mentions.now c.loop-mention.mention-index
    c.mention-item.result _ _ _ c.loop-mention-test.true c.mention-item.is
    (c.is_elsewhere-away.ensures ∙ ap (is_elsewhere c.args.objects.now c.args.functions.now c.args.includes) c.as_slice.ensures)
    c.loop-mention.invariant (c.in_ok-add_where.ensures
    ∙ ap (λ n. if c.is_elsewhere-away.result then with_name c.loop-mention.names n else c.loop-mention.names)
    c.as_slice-in-loop-mention.ensures)
