use Rattle.std.proofs.Common.{◌≡◌, ℕ, subst, ◌<◌, ◌≤◌, length, get_or, refl, sym, arith, inl, inr}
use Rattle.std.proofs.lemmas.Bool.{ltb-true, ltb-false}
use Rattle.memtag_desc.proofs.Numbers.{starts, ends_cut, ends_far, ends_long, ends_here, goes_on, scale-more, below_more, byte_read}
use Rattle.memtag_desc.proofs.Numbers.{Resumes}
use Rattle.memtag_desc.proofs.number.number_at.Goals as goal

pub loop-k-init : goal.loop-k-init
loop-k-init c = record { resumes = starts c.args.place c.args.total c.args.rest.now; below = omega arith; scale = refl }

pub returns-in_default-clause-is : goal.returns-in_default-clause-is
returns-in_default-clause-is c =
    let past : length c.args.rest.now ≤ c.loop-k.k = ltb-false c.loop-k.k (length c.args.rest.now) (sym c.in_default.ensures.lookup.0) in
    ends_cut c.loop-k.value c.loop-k.scale c.loop-k.k c.args.place c.args.total c.args.rest.now c.loop-k-test.true past
    c.loop-k.invariant.resumes

pub returns-then-k-gt0-clause-is : goal.returns-then-k-gt0-clause-is
returns-then-k-gt0-clause-is c =
    let within : c.loop-k.k < length c.args.rest.now = ltb-true c.loop-k.k (length c.args.rest.now) (sym c.in-Some.ensures.lookup.0) in
    let byte : get_or c.args.rest.now c.loop-k.k 0 ≡ c.from-byte.result =
    byte_read c.args.rest.now c.loop-k.k c.in-Some.byte.now c.from-byte.result within c.in-Some.ensures.lookup.1
    c.from-byte.ensures in
    ends_long c.loop-k.value c.loop-k.scale c.loop-k.k c.args.place c.args.total c.from-byte.result c.args.rest.now c.loop-k-test.true
    within byte c.if-byte-eq0.true c.if-k-gt0.true c.loop-k.invariant.resumes

pub returns-then-byte-lt128-clause-is : goal.returns-then-byte-lt128-clause-is
returns-then-byte-lt128-clause-is c =
    let within : c.loop-k.k < length c.args.rest.now = ltb-true c.loop-k.k (length c.args.rest.now) (sym c.in-Some.ensures.lookup.0) in
    let byte : get_or c.args.rest.now c.loop-k.k 0 ≡ c.from-byte.result =
    byte_read c.args.rest.now c.loop-k.k c.in-Some.byte.now c.from-byte.result within c.in-Some.ensures.lookup.1
    c.from-byte.ensures in
    let first : c.from-byte.result ≡ 0 → c.loop-k.k ≡ 0 = λ none. elim c.else-byte-eq0.either
    [ inl h ↦ omega arith | inr h ↦ absurd (h none) ] in
    ends_here c.loop-k.value c.loop-k.scale c.loop-k.k c.args.place c.args.total c.from-byte.result c.args.rest.now c.loop-k-test.true
    within byte c.if-byte-lt128.true first c.loop-k.invariant.resumes

pub loop-k-preserved : goal.loop-k-preserved
loop-k-preserved c =
    let within : c.loop-k.k < length c.args.rest.now = ltb-true c.loop-k.k (length c.args.rest.now) (sym c.in-Some.ensures.lookup.0) in
    let byte : get_or c.args.rest.now c.loop-k.k 0 ≡ c.from-byte.result =
    byte_read c.args.rest.now c.loop-k.k c.in-Some.byte.now c.from-byte.result within c.in-Some.ensures.lookup.1
    c.from-byte.ensures in
    record {
      resumes = goes_on c.loop-k.value c.loop-k.scale c.loop-k.k c.args.place c.args.total c.from-byte.result c.args.rest.now
          c.loop-k-test.true within byte c.if-byte-lt128.false c.loop-k.invariant.resumes;
      below = below_more c.loop-k.value c.loop-k.scale c.from-byte.result c.loop-k.invariant.below
          (omega (arith, byte, c.type_inv.rest c.loop-k.k));
      scale = scale-more c.loop-k.scale c.loop-k.k c.loop-k.invariant.scale;
    }

pub returns-clause-is : goal.returns-clause-is
returns-clause-is c = ends_far c.loop-k.value c.loop-k.scale c.args.place c.args.total c.args.rest.now
    (let last : c.loop-k.k ≡ 8 = omega arith in subst (λ (k : ℕ). Resumes c.loop-k.value c.loop-k.scale k c.args.place c.args.total
    c.args.rest.now) last c.loop-k.invariant.resumes)
