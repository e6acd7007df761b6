use Rattle.std.proofs.Common.{rules, ◌≡◌, ℕ, List, [], ◌++◌, ◌-◌, take, drop, length, sym, ap, ◌∙◌, subst, append-nil, drop_of_length-le}
use Rattle.std.specs.Io.KnownBytes.{Appends}
use Rattle.std.proofs.KnownBytes.{Appends-trans, Appends-kept}
use Rattle.mt_outside.proofs.Written.{moves_front, AppendsPart-from_split}
use Rattle.mt_outside.proofs.std_sink.write_whole.Goals as goal
use Rattle.mt_outside.proofs.std_sink.write_whole.Goals.{in-Ok, in-Err}

pub returns-then-is_empty-clause-ok : goal.returns-then-is_empty-clause-ok
returns-then-is_empty-clause-ok g c =
    let (done, split, appended) = c.loop.invariant in
    let empty : c.loop.rest.now ≡ [] = drop_of_length-le c.loop.rest.now {i = 0} (search rules) in
    subst (Appends _ _) (sym (split ∙ ap (λ (l : List ℕ). done ++ l) empty ∙ append-nil done)) appended

pub returns-in-Ok-eq0-clause-err : goal.returns-in-Ok-eq0-clause-err
returns-in-Ok-eq0-clause-err g c =
    let (done, split, appended) = c.loop.invariant in
    let rest = c.loop.rest.now in
    let n = c.in-Ok-eq0.field-0 in
    AppendsPart-from_split _ _ _ (done ++ take n rest) (take (length rest - n) (drop n rest)) (moves_front _ done rest n split)
    (Appends-trans _ _ _ _ _ appended (rw c.in-Ok-eq0.is at c.write.ensures.bytes))

pub returns-in-Err-2-clause-err : goal.returns-in-Err-2-clause-err
returns-in-Err-2-clause-err g c =
    let (done, split, appended) = c.loop.invariant in
    AppendsPart-from_split _ _ _ done c.loop.rest.now split (Appends-kept _ _ _ _ appended c.in-Err-2.ensures.bytes)

pub loop-preserved : goal.loop-preserved
loop-preserved g c =
    let (done, split, appended) = c.loop.invariant in
    let rest = c.loop.rest.now in
    elim c.match-write.branch [
      | in-Ok w ↦
          let n = w.in-Ok.count in
          rw w.rest-is (done ++ take n rest, moves_front _ done rest n split, Appends-trans _ _ _ _ _ appended w.in-Ok.ensures.bytes)
      | in-Err w ↦ rw w.rest-is (done, split, Appends-kept _ _ _ _ appended w.in-Err.ensures.bytes)
    ]

pub returns-clause-err : goal.returns-clause-err
returns-clause-err g c =
    let (done, split, appended) = c.loop.invariant in
    AppendsPart-from_split _ _ _ done c.loop.rest.now split appended
