use Rattle.std.proofs.Common.{sym, ap, ◌∙◌, arith}
use Rattle.mt_answers.specs.Seen.{FilesSeen, files_seen}
use Rattle.mt_answers.proofs.InTurn.{made_now, pushed, same_seen, stops_now}
use Rattle.mt_answers.proofs.each.make_each.Goals as goal

-- something was made of the file that comes now
pub loop-place-preserved : goal.loop-place-preserved
loop-place-preserved g c =
    let here = files_seen g.F.Files c.loop-place.files in
    let after = files_seen g.F.Files c.make_one.new.files in (
      made_now g.T.Stage.step (files_seen g.F.Files c.args.files.now) here c.loop-place.invariant.1 c.args.names.now c.loop-place.place _
          c.loop-place.all.items c.push.new.self.items c.in-Ok.made (omega arith)
          (pushed c.push.result _ _ c.push.new.self.items c.push.ensures.items (sym c.is_err.ensures.value ∙ c.if-is_err.false))
          c.loop-place.invariant.0 c.in-Ok.ensures.made,
      same_seen here after c.make_one.ensures.kept c.in-Ok.ensures.uncounted_ok c.make_one.ensures.writes ∙ c.loop-place.invariant.1,
    )

-- nothing was made of it
pub returns-in-Err-clause-stops : goal.returns-in-Err-clause-stops
returns-in-Err-clause-stops g c =
    let before = files_seen g.F.Files c.args.files.now in
    let here = files_seen g.F.Files c.loop-place.files in
    let after = files_seen g.F.Files c.make_one.new.files in
    stops_now g.T.Stage.step before here after c.loop-place.invariant.1 c.args.names.now c.loop-place.place _ c.number_of.result
    c.number_of.ensures c.loop-place.all.items c.in-Err.answer (omega arith) c.loop-place.invariant.0 c.in-Err.ensures.stops

pub returns-in-Err-clause-uncounted_err : goal.returns-in-Err-clause-uncounted_err
returns-in-Err-clause-uncounted_err g c =
    λ no_fault. c.in-Err.ensures.uncounted_err no_fault ∙ ap (λ (s : FilesSeen). s.read_faults) c.loop-place.invariant.1

pub returns-in-Err-clause-kept : goal.returns-in-Err-clause-kept
returns-in-Err-clause-kept g c = c.make_one.ensures.kept ∙ ap (λ (s : FilesSeen). s.told) c.loop-place.invariant.1

pub returns-in-Err-clause-writes : goal.returns-in-Err-clause-writes
returns-in-Err-clause-writes g c = c.make_one.ensures.writes ∙ ap (λ (s : FilesSeen). s.write_faults) c.loop-place.invariant.1

-- it found no memory
pub returns-then-is_err-clause-uncounted_err : goal.returns-then-is_err-clause-uncounted_err
returns-then-is_err-clause-uncounted_err g c =
    λ no_fault. c.in-Ok.ensures.uncounted_ok ∙ ap (λ (s : FilesSeen). s.read_faults) c.loop-place.invariant.1

pub returns-then-is_err-clause-kept : goal.returns-then-is_err-clause-kept
returns-then-is_err-clause-kept g c = c.make_one.ensures.kept ∙ ap (λ (s : FilesSeen). s.told) c.loop-place.invariant.1

pub returns-then-is_err-clause-writes : goal.returns-then-is_err-clause-writes
returns-then-is_err-clause-writes g c = c.make_one.ensures.writes ∙ ap (λ (s : FilesSeen). s.write_faults) c.loop-place.invariant.1

-- all were read
pub returns-clause-uncounted_ok : goal.returns-clause-uncounted_ok
returns-clause-uncounted_ok g c = ap (λ (s : FilesSeen). s.read_faults) c.loop-place.invariant.1

pub returns-clause-kept : goal.returns-clause-kept
returns-clause-kept g c = ap (λ (s : FilesSeen). s.told) c.loop-place.invariant.1

pub returns-clause-writes : goal.returns-clause-writes
returns-clause-writes g c = ap (λ (s : FilesSeen). s.write_faults) c.loop-place.invariant.1
