use Rattle.std.proofs.Common.{ap, map}
use Rattle.std.proofs.lemmas.Result.{IfOk-weaker}
use Rattle.c_type_base.specs.Types.{is_there}
use Rattle.c_type_expr.specs.Outcomes.{each}
use Rattle.c_types.specs.Functions.{parameter}
use Rattle.c_types.proofs.InsideLaws.{entered}
use Rattle.c_types.proofs.functions.enter.Goals as goal

pub returns : goal.returns
returns c =
    let f = c.args.f.now in
    let w = c.args.walk.now in
    IfOk-weaker c.parameters.result _ _
    (λ ts walked. entered (each (map (parameter (is_there f.body)) f.params)) w (record w { scopes = c.open.new.self })
    c.parameters.new.walk ts
    (ap (λ s. record w { scopes = s }) c.in_ok-open.ensures) walked)
    (rw (c.defines.ensures, c.as_slice.ensures) at c.parameters.ensures)
