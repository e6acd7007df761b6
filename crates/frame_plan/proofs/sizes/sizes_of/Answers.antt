use Rattle.frame_plan.proofs.Turns.{fit_turn, size_turn, first_refused}
use Rattle.frame_plan.proofs.sizes.sizes_of.Goals as goal

pub returns-in-Err-clause-refused : goal.returns-in-Err-clause-refused
returns-in-Err-clause-refused c =
    first_refused c.args.structs.now c.args.functions.now c.loop-function.function-index c.function-item.result
    c.loop-function-test.true c.function-item.is c.in-Err.refusal c.loop-function.invariant.fit c.in-Err.ensures.refused

pub loop-function-preserved : goal.loop-function-preserved
loop-function-preserved c =
    let s = c.args.structs.now in
    let fs = c.args.functions.now in
    let i = c.loop-function.function-index in
    let f = c.function-item.result in
    record {
      fit = fit_turn s fs i f c.loop-function-test.true c.function-item.is c.in-Ok.frame c.in-Ok.ensures.found
          c.loop-function.invariant.fit;
      is = size_turn s fs i f c.loop-function-test.true c.function-item.is c.in-Ok.frame c.loop-function.sizes.items
          c.push.new.self.items c.in-Ok.ensures.found c.loop-function.invariant.is c.in_ok-push.ensures.items;
    }
