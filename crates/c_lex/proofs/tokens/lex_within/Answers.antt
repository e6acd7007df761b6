use Rattle.std.proofs.Common.{arith, sym, ◌∙◌, length-take-le, length-drop, drop}
use Rattle.std.proofs.lemmas.List.{take_rest, map_push}
use Rattle.c_lex.proofs.LexLaws.{refusal-cause}
use Rattle.c_lex.proofs.LoopLaws.{arrives-start, gap-goes, gap-reached, token-goes, token-reached, fault-within, fault-first}
use Rattle.c_lex.proofs.tokens.lex_within.Goals as goal

pub loop-place-init : goal.loop-place-init
loop-place-init c = record { reached = rw c.new-tokens.ensures.items (arrives-start c.args.text.now); within = omega arith }

pub overflow_add-place : goal.overflow_add-place
overflow_add-place c =
    let is = sym (rw take_rest at c.in-Ok.ensures) ∙ c.in-Gap.is in
    omega (
      arith,
      (gap-goes c.args.text.now c.loop-place.place c.loop-place.line c.loop-place-test.true c.in-Gap.bytes is).within,
      c.requires,
    )

pub loop-place-smaller-in-Gap : goal.loop-place-smaller-in-Gap
loop-place-smaller-in-Gap c =
    let is = sym (rw take_rest at c.in-Ok.ensures) ∙ c.in-Gap.is in
    let goes = gap-goes c.args.text.now c.loop-place.place c.loop-place.line c.loop-place-test.true c.in-Gap.bytes is in
    omega (arith, goes.some, goes.within)

pub loop-place-preserved-in-Gap : goal.loop-place-preserved-in-Gap
loop-place-preserved-in-Gap c =
    let is = sym (rw take_rest at c.in-Ok.ensures) ∙ c.in-Gap.is in
    let text = c.args.text.now in
    record {
      reached = rw (c.behind-line.ensures, take_rest)
          (gap-reached text c.loop-place.place c.loop-place.line c.loop-place-test.true _ c.in-Gap.bytes c.loop-place.invariant.reached is);
      within = (gap-goes text c.loop-place.place c.loop-place.line c.loop-place-test.true c.in-Gap.bytes is).within;
    }

pub slice_bounds-token-end : goal.slice_bounds-token-end
slice_bounds-token-end c =
    let is = sym (rw take_rest at c.in-Ok.ensures) ∙ c.in-Token.is in
    let text = c.args.text.now in
    let goes = token-goes text c.loop-place.place c.loop-place.line c.loop-place-test.true c.in-Token.kind c.in-Token.bytes is in
    rw take_rest (sym (length-take-le c.in-Token.bytes (drop c.loop-place.place text)
    (omega (arith, goes.within, length-drop c.loop-place.place text))))

pub overflow_add-place-in-Token : goal.overflow_add-place-in-Token
overflow_add-place-in-Token c =
    let is = sym (rw take_rest at c.in-Ok.ensures) ∙ c.in-Token.is in
    omega (
      arith,
      (token-goes c.args.text.now c.loop-place.place c.loop-place.line c.loop-place-test.true c.in-Token.kind c.in-Token.bytes is).within,
      c.requires,
    )

pub loop-place-smaller : goal.loop-place-smaller
loop-place-smaller c =
    let is = sym (rw take_rest at c.in-Ok.ensures) ∙ c.in-Token.is in
    let goes = token-goes c.args.text.now c.loop-place.place c.loop-place.line c.loop-place-test.true c.in-Token.kind c.in-Token.bytes is in
    omega (arith, goes.some, goes.within)

pub loop-place-preserved : goal.loop-place-preserved
loop-place-preserved c =
    let is = sym (rw take_rest at c.in-Ok.ensures) ∙ c.in-Token.is in
    let text = c.args.text.now in
    record {
      reached = rw (c.in-Ok-push.ensures.items, map_push, take_rest)
          (token-reached text c.loop-place.place c.loop-place.line c.loop-place-test.true _ c.in-Token.kind c.in-Token.bytes
          c.loop-place.invariant.reached is);
      within = (token-goes text c.loop-place.place c.loop-place.line c.loop-place-test.true c.in-Token.kind c.in-Token.bytes is).within;
    }

pub overflow_add-place-in-Fault : goal.overflow_add-place-in-Fault
overflow_add-place-in-Fault c =
    let is = sym (rw take_rest at c.in-Ok.ensures) ∙ c.in-Fault.is in
    omega (
      arith,
      fault-within c.args.text.now c.loop-place.place c.loop-place.line c.loop-place-test.true c.in-Fault.fault c.in-Fault.offset is,
      c.requires,
    )

pub overflow_cast-place : goal.overflow_cast-place
overflow_cast-place c =
    let is = sym (rw take_rest at c.in-Ok.ensures) ∙ c.in-Fault.is in
    omega (
      arith,
      fault-within c.args.text.now c.loop-place.place c.loop-place.line c.loop-place-test.true c.in-Fault.fault c.in-Fault.offset is,
      c.requires,
    )

pub returns-in-Fault-clause-refused : goal.returns-in-Fault-clause-refused
returns-in-Fault-clause-refused c =
    let is = sym (rw take_rest at c.in-Ok.ensures) ∙ c.in-Fault.is in
    let text = c.args.text.now in
    rw c.refusal.ensures
    (refusal-cause text c.in-Fault.fault _
    (fault-first text c.loop-place.place c.loop-place.line c.loop-place-test.true _ c.in-Fault.fault c.in-Fault.offset
    c.loop-place.invariant.reached is))
