use Rattle.std.proofs.Common.{rules}
use Rattle.c_types.proofs.TagLaws.{tag_pushed, tag_within}
use Rattle.c_types.proofs.structs.declare_tag.Goals as goal

pub returns-in-Some-clause-within : goal.returns-in-Some-clause-within
returns-in-Some-clause-within c = tag_within c.args.walk.now.structs c.args.tag.now c.in-Some.number (search rules)

pub returns-clause-is : goal.returns-clause-is
returns-clause-is c =
    tag_pushed c.args.walk.now.structs c.push.new.self c.args.tag.now c.in_ok-name.name c.new.result c.len-number.result (search rules)
    c.in_ok-push.ensures.ok c.in_ok-name.ensures c.new.ensures c.len-number.ensures
