use Rattle.std.proofs.Common.{rules, sym, ◌∙◌, ap, ◌∷◌}
use Rattle.c_type_expr.specs.Names.{Names}
use Rattle.c_type_expr.specs.Environment.{in_scopes}
use Rattle.c_type_expr.proofs.ScopeLaws.{found_there, not_there, one_there}
use Rattle.c_type_expr.proofs.scopes.Scopes.find.Goals as goal

pub returns-in-Some-find : goal.returns-in-Some-find
returns-in-Some-find c =
    found_there c.args.name.now _ c.self.inside.outer c.loop-left.left c.in-Some-at.scope.now c.in-Some-find.found.now
    (search rules) (ap (λ (n : Names). in_scopes c.args.name.now (n.inner ∷ n.outer)) (sym c.self.view_is) ∙ c.loop-left.invariant.passed)
    (search rules) (search rules)

pub loop-left-preserved-in_default-find : goal.loop-left-preserved-in_default-find
loop-left-preserved-in_default-find c = record {
  within = search rules;
  passed = not_there c.args.name.now _ c.self.inside.outer c.loop-left.left c.in-Some-at.scope.now
      (search rules) c.loop-left.invariant.passed (search rules) (search rules);
}

pub loop-left-preserved : goal.loop-left-preserved
loop-left-preserved c = one_there c.self.inside.outer c.loop-left.left (search rules) c.loop-left.invariant.within (search rules)
