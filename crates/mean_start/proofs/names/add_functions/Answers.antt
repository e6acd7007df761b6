use Rattle.std.proofs.Common.{take, ◌+◌, ℕ, List, Option}
use Rattle.std.specs.List.{position_from}
use Rattle.block_meaning.specs.Linkage.{Definition, or_definition, function_at, function_of, is_function_named, AFunction}
use Rattle.mean_start.specs.Known.{where_true}
use Rattle.mean_start.proofs.Naming.{knows_as, function_more}
use Rattle.mean_start.proofs.names.add_functions.Goals as goal

pub loop-number-preserved : goal.loop-number-preserved
loop-number-preserved c = λ units found first knows.
    let unit = c.args.unit in
    let fs = c.args.functions.now in
    let i = c.loop-number.number in
    let f = c.index-functions-number.result in
    let before : List ℕ → Option Definition = λ n. or_definition (found n) (function_at unit (position_from
    (is_function_named n) 0 (take i fs))) in
    knows_as c.add_function.new.names units (λ n. or_definition (before n) (where_true (is_function_named n f) (AFunction
    (function_of unit i))))
    (λ n. or_definition (found n) (function_at unit (position_from (is_function_named n) 0 (take (i + 1) fs))))
    (λ n. function_more unit (is_function_named n) fs i f (found n) c.loop-number-test.true c.index-functions-number.is)
    (c.in_ok-add_function.ensures units before first (c.loop-number.invariant units found first knows))
