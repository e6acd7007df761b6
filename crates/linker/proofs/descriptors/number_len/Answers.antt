use Rattle.std.proofs.Common.{◌≡◌, ℕ, ◌+◌, ◌-◌, ◌/◌, ◌<◌, subst, arith}
use Rattle.memtag_desc.specs.Numbers.{IsShortest}
use Rattle.linker.specs.Spans.{HasLength}
use Rattle.linker.specs.Laws.Spelled.{digits_hold, number_last, number_more, fewer_digits}
use Rattle.linker.proofs.descriptors.number_len.Goals as goal

pub loop-rest-preserved : goal.loop-rest-preserved
loop-rest-preserved c =
    let n : ℕ = c.loop-rest.rest in
    let len : ℕ = c.loop-rest.len in
    let many = c.loop-rest-test.true in
    let some = c.loop-rest.invariant.some in
    let few = c.loop-rest.invariant.few in
    let less = fewer_digits (20 - len) n (omega arith) c.loop-rest.invariant.low in
    let left = less.0 in
    let same : (20 - len) - 1 ≡ 20 - (len + 1) = omega arith in
    record {
      rest = λ m h.
          let e : len + (1 + m) ≡ len + 1 + m = omega arith in
          subst (HasLength (IsShortest c.args.n)) e (c.loop-rest.invariant.rest (1 + m) (number_more n (1 + m) (omega arith) h));
      some = omega arith;
      few = omega arith;
      low = subst (λ (k : ℕ). n / 128 < digits_hold k) same less.1;
    }

pub returns-clause-len : goal.returns-clause-len
returns-clause-len c =
    let low = c.loop-rest-test.false in
    let e : c.loop-rest.len + 0 ≡ c.loop-rest.len = omega arith in
    subst (HasLength (IsShortest c.args.n)) e (c.loop-rest.invariant.rest 0 (number_last c.loop-rest.rest (omega arith)))
