use Rattle.std.proofs.Common.{◌+◌, ◌∙◌}
use Rattle.mean_effects.proofs.Modulo.{wrap_of}
use Rattle.mean_effects.proofs.stepping.wrapped_sum.Goals as goal

pub returns : goal.returns
returns c = c.wrap.ensures ∙ wrap_of c.args.t (c.args.n + c.args.k)
