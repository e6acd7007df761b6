use Rattle.std.proofs.Common.{◌≡◌, length}
use Rattle.c_types.proofs.BodyLaws.{Placing}
use Rattle.c_types.proofs.body.struct_with.Given as goal

-- the members so far have their places
abbrev pub invariant-loop-member : goal.invariant-loop-member
invariant-loop-member l = record {
  placing : Placing l.structs l.fn.members.items l.member-iterator.rest.items l.placed l.end l.align;
  count : length l.member-iterator.rest.items ≡ l.member-iterator.rest.len;
}
