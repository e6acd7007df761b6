use Rattle.std.proofs.Common.{refl, ap, ◌∙◌, ℕ, List}
use Rattle.std.specs.Option.{option_map}
use Rattle.std.specs.Prelude.{codes}
use Rattle.block_meaning.specs.Linkage.{defined}
use Rattle.mean_start.specs.Known.{meant_by}
use Rattle.mean_start.proofs.Entering.{function_known}
use Rattle.mean_start.proofs.entry.main_of.Goals as goal

pub returns : goal.returns
returns c =
    let units = c.args.units.now in
    let m = c.in-Some.meant.now in
    function_known units m (defined units (codes "main")) m.function
    (c.in-Some.ensures.value ∙ c.in_ok-names.ensures c.as_slice.result.now
    ∙ ap (λ (n : List ℕ). option_map (meant_by units) (defined units n)) c.as_slice.ensures) refl
