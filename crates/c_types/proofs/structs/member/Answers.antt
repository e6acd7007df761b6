use Rattle.c_types.proofs.MemberLaws.{member_walked}
use Rattle.c_types.proofs.structs.member.Goals as goal

pub returns : goal.returns
returns c =
    member_walked c.args.new c.args.d.now _ _ _ c.in_ok-t.t c.in_ok-t.ensures (rw c.as_ref.ensures.value at c.ask_object.ensures.blames)
