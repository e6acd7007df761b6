use Rattle.std.proofs.Common.{ℕ, ◌≡◌, ◌+◌, ◌<◌, ◌∙◌, ap, length, arith}
use Rattle.std.proofs.lemmas.List.{length_push}
use Rattle.mean_start.specs.Files.{IsFile}
use Rattle.mean_start.proofs.Filing.{program_by, start_read, frames_at, frames_count}
use Rattle.mean_start.proofs.Starting.{each_pushed}
use Rattle.mean_start.proofs.program.files.Goals as goal

pub file_at-requires-clause-starts : goal.file_at-requires-clause-starts
file_at-requires-clause-starts c =
    start_read c.in_ok-starts.starts.items c.args.units.now c.in_ok-starts.ensures c.loop-unit.unit c.index.result.now
    c.loop-unit-test.true c.index.ensures

pub loop-unit-preserved : goal.loop-unit-preserved
loop-unit-preserved c =
    let i : ℕ = c.loop-unit.unit in
    let sizes = c.args.frames.now.bytes.items in
    let test = c.loop-unit-test.true in
    let fits = c.requires in
    let within : i < length sizes = omega arith in
    record {
      count = ap length c.in_ok-push.ensures.items ∙ length_push c.loop-unit.made.items c.in_ok-file.file
          ∙ ap (λ n. n + 1) c.loop-unit.invariant.count;
      each = λ program same frames. each_pushed (λ n f. IsFile f program n) c.loop-unit.made.items c.push.new.self.items i
          c.in_ok-file.file c.in_ok-push.ensures.items c.loop-unit.invariant.count (c.loop-unit.invariant.each program same frames)
          (c.in_ok-file.ensures program same (frames_at sizes program.frames i c.index-in-loop-unit.result.now c.as_slice.result.now within
          c.index-in-loop-unit.ensures c.as_slice.ensures.value frames));
    }

pub returns : goal.returns
returns c = λ program same frames.
    let count = c.loop-unit.invariant.count in
    let test = c.loop-unit-test.false in
    let end = c.loop-unit.auto.unit-end in
    let all : length program.units ≡ length c.args.units.now = ap length same in
    let sizes = frames_count c.args.frames.now.bytes.items program.frames frames in
    let fits = c.requires in
    program_by c.loop-unit.made.items program (omega arith) (omega arith) (c.loop-unit.invariant.each program same frames)
