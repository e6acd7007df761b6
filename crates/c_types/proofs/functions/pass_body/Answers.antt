use Rattle.std.proofs.Common.{sym, ◌∙◌, ap}
use Rattle.c_type_expr.specs.declared.walk.Walk.{Walk}
use Rattle.c_types.specs.declared.functions.Body.{Body}
use Rattle.c_types.proofs.InsideLaws.{bodied}
use Rattle.c_types.proofs.functions.pass_body.Goals as goal

pub returns-clause-bodied : goal.returns-clause-bodied
returns-clause-bodied c =
    let w = c.args.walk.now in
    let inner = record w { result = c.replace-outer.new.dest } in
    let after = c.statement_body.new.walk in
    let b : Body = record { result = c.replace-result.result; locals = c.replace-locals.result; tree = c.in_ok-tree.tree } in
    bodied c.args.s.now w inner after
    (record after { scopes = c.close.new.self; locals = c.replace-locals.new.dest; result = c.replace-result.new.dest }) b
    (ap (λ r. record w { result = r }) (sym (c.replace-result.ensures.value ∙ ap (λ (x : Walk). x.result) c.in_ok-tree.ensures.after_is)))
    c.in_ok-tree.ensures c.replace-locals.ensures.value
    (λ i. record after {
      scopes = c.close.ensures i;
      locals = (c.replace-locals.ensures.after ∙ c.new.ensures) i;
      result = (c.replace-result.ensures.after ∙ c.replace-outer.ensures.value) i;
    })
