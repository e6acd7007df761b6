use Rattle.std.proofs.Common.{◌≡◌, sym, subst, arith}
use Rattle.c_type_base.specs.declared.expr.Callee.TheVariants as callee
use Rattle.mean_expressions.specs.declared.frames.Control.TheVariants as control
use Rattle.mean_program.specs.Held.{Holds, TurnGives}
use Rattle.mean_program.specs.Laws.Goes.{turn-called, turn-stepped}
use Rattle.mean_program.proofs.turn.take_turn.Goals as goal

pub returns-in-Call-default-Putchar-default-clause-gives : goal.returns-in-Call-default-Putchar-default-clause-gives
returns-in-Call-default-Putchar-default-clause-gives g c = λ aim holds.
    let call = c.in-Call-default-Putchar-default in
    let whole = call.is in
    let part = call.field-1-is in
    let same : c.args.control ≡ control.Call call.field-0 callee.Putchar call.values = cc in
    c.put.ensures.gives aim c.args.p.now call.field-0 call.values (g.S.Source.told c.args.source.now) (sym c.as_slice.ensures.value)
    (subst (λ x. Holds aim c.args.p.now x (g.S.Source.told c.args.source.now) (g.K.Sink.told c.args.sink.now)) same holds)

pub returns-in-Call-default-Getchar-default-clause-gives : goal.returns-in-Call-default-Getchar-default-clause-gives
returns-in-Call-default-Getchar-default-clause-gives g c = λ aim holds.
    let call = c.in-Call-default-Getchar-default in
    let whole = call.is in
    let part = call.field-1-is in
    let same : c.args.control ≡ control.Call call.field-0 callee.Getchar call.field-2 = cc in
    c.take.ensures.gives aim c.args.p.now call.field-0 call.field-2 (g.K.Sink.told c.args.sink.now)
    (subst (λ x. Holds aim c.args.p.now x (g.S.Source.told c.args.source.now) (g.K.Sink.told c.args.sink.now)) same holds)

pub returns-in-Call-clause-gives : goal.returns-in-Call-clause-gives
returns-in-Call-clause-gives g c = λ aim holds.
    let call = c.in-Call in
    let whole = call.is in
    let same : c.args.control ≡ control.Call call.span call.callee call.values = cc in
    let input = (g.S.Source.told c.args.source.now) in
    let output = (g.K.Sink.told c.args.sink.now) in
    subst (λ t. TurnGives aim c.call.new.p t input output) (sym c.after.ensures.is)
    (turn-called aim c.args.p.now c.call.new.p (control.Call call.span call.callee call.values) c.call.result input output
    (subst (λ x. Holds aim c.args.p.now x input output) same holds) c.call.ensures)

pub returns : goal.returns
returns g c =
    let input = (g.S.Source.told c.args.source.now) in
    let output = (g.K.Sink.told c.args.sink.now) in
    record {
      gives = λ aim holds. subst (λ t. TurnGives aim c.step.new.p t input output) (sym c.after-in_default.ensures.is)
          (turn-stepped aim c.args.p.now c.step.new.p c.args.control c.step.result input output holds c.step.ensures);
      input_fault = λ same. absurd (c.after-in_default.ensures.no_input_fault same);
      output_fault = λ same. absurd (c.after-in_default.ensures.no_output_fault same);
      input_never_falls = omega arith;
      output_never_falls = omega arith;
    }
