use Rattle.std.proofs.Common.{◌∙◌, sym}
use Rattle.std.proofs.lemmas.Result.{on_ok_weaker}
use Rattle.unit_object.proofs.OrderLaws.{none_defined, some_defined}
use Rattle.unit_object.proofs.order.push_part.Goals as goal

pub returns-then-is_extern : goal.returns-then-is_extern
returns-then-is_extern c =
    none_defined c.args.filled c.args.globals.now c.args.names.now c.args.numbers.now.items c.args.part.now c.in-Objects.storage
    c.in-Objects.decls c.in-Objects.is (sym c.is_extern.ensures ∙ c.if-is_extern.true)

pub returns-else-is_extern : goal.returns-else-is_extern
returns-else-is_extern c =
    on_ok_weaker c.push_decls.result
    (some_defined c.args.filled c.args.globals.now c.args.names.now c.args.numbers.now.items c.push_decls.new.numbers.items
    c.args.part.now c.in-Objects.storage c.in-Objects.decls c.as_slice.result.now c.in-Objects.is
    (sym c.is_extern.ensures ∙ c.if-is_extern.false) c.as_slice.ensures) c.push_decls.ensures
