use Rattle.std.proofs.Common.{◌+◌, ◌∙◌, sym, ap, ap₂, arith, not, ◌&&◌, ◌||◌, is_some}
use Rattle.mt_base.specs.Memory.{is_mapped, is_protected}
use Rattle.mt_base.specs.Laws.Memory.{every_byte_not}
use Rattle.tag_pages.specs.Parts.{extents}
use Rattle.tag_pages.proofs.Pieces.{every_byte-add, some_byte-add, every_byte-zero, some_byte-zero, not-and}
use Rattle.tag_pages.proofs.Parts.{near, run_mapped, run_protected}
use Rattle.tag_pages.proofs.judge.survey.Goals as goal

pub loop-done-init : goal.loop-done-init
loop-done-init c = record {
  in_range = omega arith;
  mapped = every_byte-zero (is_mapped (extents c.args.regions.now)) c.args.at;
  writable = sym (some_byte-zero (is_protected (extents c.args.regions.now)) c.args.at);
}

-- the byte that comes next is in no region
pub returns-in_err-part-clause-mapped : goal.returns-in_err-part-clause-mapped
returns-in_err-part-clause-mapped c =
    ap is_some c.from_residual.ensures
    ∙ sym
    (every_byte_not (is_mapped (extents c.args.regions.now)) c.args.at c.args.count c.loop-done.done
    (omega arith) c.in_err-part.ensures.none)

-- the part has the byte that comes next
pub room-done-requires-clause-held : goal.room-done-requires-clause-held
room-done-requires-clause-held c = c.in_ok-part.ensures.found.to

pub room-done-requires-clause-near : goal.room-done-requires-clause-near
room-done-requires-clause-near c =
    near (extents c.args.regions.now) c.args.numbers.now (c.args.at + c.loop-done.done) c.in_ok-part.part c.in_ok-part.ensures.found

pub loop-done-preserved : goal.loop-done-preserved
loop-done-preserved c =
    let part = c.in_ok-part.part in
    let found = c.in_ok-part.ensures.found in
    let n = c.room-done.result in
    record {
      in_range = omega (arith, c.room-done.ensures.at_most);
      mapped =
          every_byte-add (is_mapped (extents c.args.regions.now)) c.args.at c.loop-done.done n
          ∙ ap₂ (λ x y. x && y) c.loop-done.invariant.mapped
          (run_mapped (extents c.args.regions.now) c.args.numbers.now (c.args.at + c.loop-done.done) n part found
          c.room-done.ensures.within);
      writable =
          not-and c.loop-done.writable part.writable
          ∙ ap₂ (λ x y. x || y) c.loop-done.invariant.writable
          (sym
          (run_protected (extents c.args.regions.now) c.args.numbers.now (c.args.at + c.loop-done.done) n part found
          c.room-done.ensures.within (c.room-done.ensures.some (omega arith))))
          ∙ sym (some_byte-add (is_protected (extents c.args.regions.now)) c.args.at c.loop-done.done n);
    }
