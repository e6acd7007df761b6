use Rattle.std.proofs.Common.{rules, arith}
use Rattle.c_types.proofs.BodyLaws.{placing_start, placing_turn, placing_all}
use Rattle.c_types.proofs.body.struct_with.Goals as goal

pub loop-member-init : goal.loop-member-init
loop-member-init c = record {
  placing = placing_start c.args.structs.now c.args.members.items c.into_iter-member-iterator.result.rest.items c.new-placed.result
      c.into_iter-member-iterator.ensures.into_iter_gives.0 c.new-placed.ensures;
  count = search rules;
}

pub loop-member-preserved : goal.loop-member-preserved
loop-member-preserved c = record {
  placing = placing_turn c.args.structs.now c.args.members.items c.loop-member.member-iterator.rest.items c.next.new.self.rest.items
      c.in-Some.member c.loop-member.placed c.push.new.self c.loop-member.end c.loop-member.align c.rounded-offset.result
      c.saturating_add-end.result c.align_of-unit.result c.capped_size.result c.max-align.result c.loop-member.invariant.placing
      c.in-Some.ensures.steps.0
      c.align_of-unit.ensures c.rounded-offset.ensures c.capped_size.ensures c.saturating_add-end.ensures c.max-align.ensures
      c.in_ok-push.ensures.ok;
  count = search rules;
}

pub returns : goal.returns
returns c =
    placing_all c.args.structs.now c.args.name c.args.members.items c.loop-member.member-iterator.rest.items c.loop-member.placed
    c.loop-member.end c.loop-member.align c.rounded.result c.loop-member.invariant.placing (search rules) c.rounded.ensures
