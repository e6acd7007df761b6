use Rattle.std.proofs.Common.{◌∙◌, ap, replicate, None}
use Rattle.std.proofs.lemmas.Result.{IfOk-weaker}
use Rattle.c_types.specs.Placed.{placed}
use Rattle.c_types.proofs.OrderLaws.{ordered_is}
use Rattle.c_types.proofs.ordered.ordered.Goals as goal

pub returns : goal.returns
returns g c =
    IfOk-weaker c.all_there.result _ _
    (λ made is. ordered_is g.T.Named.name_of c.args.names.now c.args.gathered c.at_numbers.result.items made c.len.ensures.distinct
    (c.at_numbers.ensures ∙ ap (λ l. placed g.T.Named.name_of c.args.names.now l c.args.gathered)
    (c.in_ok-places.ensures ∙ ap (λ n. replicate n None) c.len.ensures.count)) is)
    c.all_there.ensures
