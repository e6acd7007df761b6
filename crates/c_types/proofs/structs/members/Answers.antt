use Rattle.std.proofs.Common.{rules, sym, ap, List, Some, [], ◌++◌, ◌+◌, take}
use Rattle.c_type_expr.specs.Laws.EachLaws.{as_known}
use Rattle.c_types.specs.Structs.{Member, found_member, members}
use Rattle.c_types.proofs.MemberLaws.{members_next}
use Rattle.c_types.proofs.structs.members.Goals as goal

pub loop-i-preserved : goal.loop-i-preserved
loop-i-preserved c =
    let d = c.index-decls-i.result in
    as_known (members [] (take (c.loop-i.i + 1) c.args.decls.now)) c.args.walk.now c.member.new.walk
    (Some (c.loop-i.found.items ++ found_member d.name c.in_ok-known.known)) (Some c.in_ok-found.found.items)
    (ap (λ (l : List Member). Some l) (sym c.in_ok-found.ensures))
    (members_next c.args.decls.now c.loop-i.i d d c.args.walk.now c.loop-i.walk c.member.new.walk c.is_new_member-new.result c.loop-i.found.items
    c.in_ok-known.known c.loop-i-test.true c.index-decls-i.is (search rules) c.loop-i.invariant c.in_ok-known.ensures)
