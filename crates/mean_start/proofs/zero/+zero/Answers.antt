use Rattle.std.proofs.Common.{sym, ap, ◌∙◌}
use Rattle.block_meaning.specs.Blocks.{with_cells}
use Rattle.block_meaning.specs.Opening.{zero_by, zero_in_struct}
use Rattle.mean_start.proofs.Steps.{struct_made, zero_more}
use Rattle.mean_start.proofs.zero.+zero.Goals as goal

pub zero_struct-returns-in-Some : goal.zero_struct-returns-in-Some
zero_struct-returns-in-Some t c =
    struct_made c.args.inside.structs.now c.args.inside.deeper c.args.number c.in-Some.info.now c.zero_with_members.result
    c.if-inside-eq0.false (sym c.in-Some.ensures) c.zero_with_members.ensures

pub zero_with_members-loop-m-preserved : goal.zero_with_members-loop-m-preserved
zero_with_members-loop-m-preserved t c =
    let zeros = zero_by (zero_in_struct c.args.inside.deeper c.args.inside.structs.now) in
    let m = c.m-item.result in
    c.in_ok-put_cells.ensures
    ∙ ap (λ l. with_cells m.offset l c.loop-m.made.items) (c.deref.ensures.value ∙ c.in_ok-zero.ensures)
    ∙ ap (with_cells m.offset (zeros m.ty)) c.loop-m.invariant
    ∙ zero_more zeros c.as_slice-m-items.result.now c.loop-m.m-index m _ c.loop-m-test.true c.m-item.is
