use Rattle.std.proofs.Common.{◌+◌, ◌∙◌, sym, ap, ap₂, arith, not, ◌&&◌, ◌||◌, is_some}
use Rattle.mt_base.specs.Memory.{is_mapped, is_protected}
use Rattle.mt_base.specs.Laws.Memory.{every_byte_not}
use Rattle.tag_mem.specs.declared.region.Region.{Region}
use Rattle.tag_mem.specs.Regions.{extents_of}
use Rattle.tag_mem.proofs.Pieces.{every_byte-add, some_byte-add, every_byte-zero, some_byte-zero, not-and}
use Rattle.tag_mem.proofs.Runs.{run_of, run_mapped, run_protected}
use Rattle.tag_mem.proofs.judge.survey.Goals as goal

pub loop-done-init : goal.loop-done-init
loop-done-init c = record {
  in_range = omega arith;
  mapped = every_byte-zero (is_mapped (extents_of c.args.regions.now)) c.args.at;
  writable = sym (some_byte-zero (is_protected (extents_of c.args.regions.now)) c.args.at);
}

-- the byte that comes next is in no region
pub returns-in_err-chunk-clause-mapped : goal.returns-in_err-chunk-clause-mapped
returns-in_err-chunk-clause-mapped c =
    ap is_some c.from_residual.ensures
    ∙ sym
    (every_byte_not (is_mapped (extents_of c.args.regions.now)) c.args.at c.args.count c.loop-done.done
    (omega arith) c.in_err-chunk.ensures.none)

-- the bytes of the chunk are in its region
pub loop-done-preserved : goal.loop-done-preserved
loop-done-preserved c =
    let chunk = c.in_ok-chunk.chunk in
    let found = c.in_ok-chunk.ensures.found in
    let r = c.index-regions-chunk.result in
    let run = run_of c.args.regions.now (c.args.at + c.loop-done.done) _ chunk r found c.index-regions-chunk.is in
    record {
      in_range = omega (arith, found.at_most);
      mapped =
          every_byte-add (is_mapped (extents_of c.args.regions.now)) c.args.at c.loop-done.done chunk.count
          ∙ ap₂ (λ x y. x && y) c.loop-done.invariant.mapped (run_mapped c.args.regions.now (c.args.at + c.loop-done.done) chunk r run);
      writable =
          not-and c.loop-done.writable _
          ∙ ap₂ (λ x y. x || y) c.loop-done.invariant.writable
          (ap (λ (x : Region). not x.writable) (sym c.index-regions-chunk.is)
          ∙ sym (run_protected c.args.regions.now (c.args.at + c.loop-done.done) chunk r c.requires.apart run (found.some (omega arith))))
          ∙ sym (some_byte-add (is_protected (extents_of c.args.regions.now)) c.args.at c.loop-done.done chunk.count);
    }
