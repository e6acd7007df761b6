use Rattle.std.proofs.Common.{◌∙◌, ap}
use Rattle.c_types.specs.Recalled.{or_nothing, grown}
use Rattle.c_types.proofs.RecallLaws.{added}
use Rattle.c_types.proofs.redeclared.Redeclared.add.Goals as goal

pub returns : goal.returns
returns c = λ ds recalls. record {
  all = added c.in_ok-key.key (λ k. k.items) c.args.self.now.by_name c.remove.new.self c.insert.new.self c.args.d ds c.grown.result
      (c.in_ok-key.ensures.items ∙ c.as_slice.ensures)
      (c.grown.ensures ∙ ap (λ e. grown e c.args.d.kind c.args.d.local c.args.d.defined)
      (c.or_nothing-earlier.ensures ∙ ap or_nothing c.remove.ensures.value))
      c.remove.ensures.updates c.in_ok-insert.ensures.updates recalls.all;
}
