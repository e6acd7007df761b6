use Rattle.std.proofs.Common.{◌∙◌, ap}
use Rattle.std.proofs.lemmas.Result.{IfOk-weaker}
use Rattle.unit_object.specs.Named.{named_by}
use Rattle.unit_object.specs.Order as order
use Rattle.unit_object.specs.Parts.{parts_by}
use Rattle.unit_object.proofs.object.object_parts.Goals as goal

pub returns : goal.returns
returns c =
    IfOk-weaker c.object.result _ _
    (λ parts is. is
    ∙ ap (λ l. parts_by c.args.typed.now c.args.code l (order.chosen c.args.typed.now.globals c.in_ok-order.order.unfilled.items)
    c.in_ok-named.named.items) c.in_ok-order.ensures.filled
    ∙ ap (λ l. parts_by c.args.typed.now c.args.code (order.filled c.args.program.now c.args.typed.now) l c.in_ok-named.named.items)
    c.in_ok-order.ensures.unfilled
    ∙ ap (parts_by c.args.typed.now c.args.code (order.filled c.args.program.now c.args.typed.now)
    (order.unfilled c.args.program.now c.args.typed.now))
    (c.in_ok-named.ensures
    ∙ ap (λ fs. named_by c.args.program.now c.args.typed.now fs
    (order.chosen c.args.typed.now.globals c.in_ok-order.order.filled.items)
    (order.chosen c.args.typed.now.globals c.in_ok-order.order.unfilled.items)) c.deref.ensures.value
    ∙ ap (λ l. named_by c.args.program.now c.args.typed.now c.args.code.functions.items l
    (order.chosen c.args.typed.now.globals c.in_ok-order.order.unfilled.items)) c.in_ok-order.ensures.filled
    ∙ ap (named_by c.args.program.now c.args.typed.now c.args.code.functions.items
    (order.filled c.args.program.now c.args.typed.now)) c.in_ok-order.ensures.unfilled))
    c.object.ensures
