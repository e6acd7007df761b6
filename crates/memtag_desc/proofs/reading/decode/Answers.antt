use Rattle.std.proofs.Common.{length, sym, subst, arith, inr, drop}
use Rattle.memtag_desc.specs.Descriptors.{Describes}
use Rattle.memtag_desc.specs.Faults.{HasFault}
use Rattle.memtag_desc.specs.Laws.ReadDescriptor.{IsBegun}
use Rattle.memtag_desc.specs.Laws.OneAnswer.{one_list, no_fault}
use Rattle.memtag_desc.proofs.Cases.{passed_on, rest_is}
use Rattle.memtag_desc.proofs.Loop.{reads_nothing, reads_more, reads_all, found_at, fault_at, Found, Refused, only, refuses}
use Rattle.memtag_desc.proofs.reading.decode.Goals as goal

pub loop-place-init : goal.loop-place-init
loop-place-init c = rw c.new-intervals.ensures.items (reads_nothing c.args.bytes.now)

-- a refusal of the descriptor at the place
refused : (c : goal.After-drop-intervals) → Refused c.args.bytes.now c.from_residual.result
refused c =
    let fault : HasFault c.args.bytes.now c.in_err-found.field-0.0
    = fault_at c.args.bytes.now c.loop-place.intervals.items c.loop-place.end c.loop-place.place _ c.in_err-found.field-0.0
    (λ i. omega (arith, c.type_inv.bytes i)) c.loop-place.invariant
    c.loop-place-test.true (rest_is c.loop-place.place c.args.bytes.now) c.in_err-found.ensures.is in
    subst (Refused c.args.bytes.now) (sym (passed_on c.from_residual.result c.in_err-found.field-0.0 c.from_residual.ensures.1))
    (inr fault)

found : (c : goal.After-drop-intervals) → Found c.args.bytes.now c.from_residual.result
found c = subst (Found c.args.bytes.now) (sym (passed_on c.from_residual.result c.in_err-found.field-0.0 c.from_residual.ensures.1)) tt

pub returns-in_err-found-clause-only : goal.returns-in_err-found-clause-only
returns-in_err-found-clause-only c = only c.args.bytes.now c.from_residual.result (found c) (refused c)

pub returns-in_err-found-clause-refused : goal.returns-in_err-found-clause-refused
returns-in_err-found-clause-refused c = refused c

pub returns-in_err-found-clause-refuses : goal.returns-in_err-found-clause-refuses
returns-in_err-found-clause-refuses c = refuses c.args.bytes.now c.from_residual.result (found c) (refused c)

-- the descriptor that was read
begun : (c : goal.After-struct_known-in-loop-place-1) → IsBegun c.loop-place.end
    (drop c.loop-place.place c.args.bytes.now) c.in_ok-found.found.interval c.in_ok-found.found.bytes
begun c = found_at c.args.bytes.now c.loop-place.end c.loop-place.place (length c.args.bytes.now) _ c.in_ok-found.found
    (λ i. omega (arith, c.type_inv.bytes i)) (rest_is c.loop-place.place c.args.bytes.now) c.in_ok-found.ensures.is

pub loop-place-smaller : goal.loop-place-smaller
loop-place-smaller c = let some = (begun c).some in let lt = c.loop-place-test.true in omega arith

pub loop-place-preserved : goal.loop-place-preserved
loop-place-preserved c =
    rw c.in_ok-push.ensures.items (reads_more c.args.bytes.now c.loop-place.intervals.items c.loop-place.end c.loop-place.place
    c.in_ok-found.found.interval c.in_ok-found.found.bytes c.loop-place.invariant (begun c))

all_read : (c : goal.After-loop-place) → Describes c.loop-place.intervals.items c.args.bytes.now
all_read c = reads_all c.args.bytes.now c.loop-place.intervals.items c.loop-place.end c.loop-place.place c.loop-place.invariant
    c.loop-place-test.false

pub returns-clause-only : goal.returns-clause-only
returns-clause-only c = λ intervals h. one_list c.loop-place.intervals.items intervals c.args.bytes.now (all_read c) h

pub returns-clause-refuses : goal.returns-clause-refuses
returns-clause-refuses c = λ fault h. no_fault c.loop-place.intervals.items c.args.bytes.now fault (all_read c) h
