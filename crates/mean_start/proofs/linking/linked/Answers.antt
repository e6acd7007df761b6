use Rattle.std.proofs.Common.{ap, ◌∙◌, ℕ, List}
use Rattle.std.specs.Option.{option_map}
use Rattle.block_meaning.specs.Linkage.{defined}
use Rattle.mean_start.specs.Known.{meant_by}
use Rattle.mean_start.proofs.Meaning.{object_linked, function_linked}
use Rattle.mean_start.proofs.linking.linked.Goals as goal

pub returns-in-None-function : goal.returns-in-None-function
returns-in-None-function c = λ unit these knows.
    let units = c.args.units.now in
    object_linked units unit c.args.e.now c.in-Some.meant.now (c.in-Some.ensures.value ∙ knows c.as_slice.result.now
    ∙ ap (λ (n : List ℕ). option_map (meant_by units) (defined units n)) c.as_slice.ensures) c.in-None-function.is

pub returns-in-Some-function : goal.returns-in-Some-function
returns-in-Some-function c = λ unit these knows.
    let units = c.args.units.now in
    function_linked units unit c.args.e.now c.in-Some.meant.now c.in-Some-function.f c.function_called.result
    (c.in-Some.ensures.value ∙ knows c.as_slice.result.now
    ∙ ap (λ (n : List ℕ). option_map (meant_by units) (defined units n)) c.as_slice.ensures) c.in-Some-function.is
    (c.function_called.ensures unit these)
