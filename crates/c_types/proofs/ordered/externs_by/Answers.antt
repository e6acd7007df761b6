use Rattle.std.proofs.Common.{◌∙◌}
use Rattle.std.proofs.lemmas.Result.{IfOk-weaker}
use Rattle.c_types.proofs.RecallLaws.{externs_are}
use Rattle.c_types.proofs.ordered.externs_by.Goals as goal

pub returns : goal.returns
returns c = λ ds recalls.
    IfOk-weaker c.told.result _ _ (λ made is. is ∙ externs_are c.args.declared.now ds recalls c.args.names.now) c.told.ensures
