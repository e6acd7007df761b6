use Rattle.std.proofs.Common.{◌∙◌}
use Rattle.c_type_expr.proofs.PlaceLaws.{one_more}
use Rattle.c_type_expr.proofs.scopes.Scope.add.Goals as goal

pub invariant_of-self-in-Ok : goal.invariant_of-self-in-Ok
invariant_of-self-in-Ok c =
    one_more c.in_ok-key.key (λ k. k.items) c.self.inside.places c.insert.new.self c.self.inside.bindings c.push.new.self c.args.binding
    c.len-place.result (c.in_ok-key.ensures.items ∙ c.as_slice.ensures) c.len-place.ensures c.in_ok-push.ensures.ok c.self.invariant
    c.in-Ok.ensures.updates
