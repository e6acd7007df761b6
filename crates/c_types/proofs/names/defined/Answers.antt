use Rattle.std.proofs.Common.{◌∙◌, ap}
use Rattle.std.specs.Prelude.{if◌then◌else◌}
use Rattle.c_types.specs.Tables.{with_name}
use Rattle.c_types.proofs.NameLaws.{defined_more}
use Rattle.c_types.proofs.names.defined.Goals as goal

pub loop-mention-preserved : goal.loop-mention-preserved
loop-mention-preserved c = λ name.
    defined_more c.args.function c.args.mentions.now c.loop-mention.mention-index c.mention-item.result _ _ _ name c.loop-mention-test.true
    c.mention-item.is c.defines_as-defines.ensures (c.loop-mention.invariant name)
    (c.in_ok-add_where.ensures
    ∙ ap (λ n. if c.defines_as-defines.result then with_name c.loop-mention.names n else c.loop-mention.names) c.as_slice.ensures)
