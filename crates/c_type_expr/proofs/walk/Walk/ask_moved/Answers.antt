use Rattle.std.proofs.Common.{◌∙◌, ap, ◌∷◌, []}
use Rattle.c_type_expr.specs.declared.walk.Walk.{Walk}
use Rattle.c_type_expr.specs.Faults.{rule, broken}
use Rattle.c_type_expr.specs.Operators.{complete_target}
use Rattle.c_type_expr.specs.Walked.{blamed}
use Rattle.c_type_expr.specs.Laws.WalkedLaws.{blamed_twice}
use Rattle.c_type_expr.proofs.walk.Walk.ask_moved.Goals as goal

pub returns : goal.returns
returns c =
    let t = c.args.target.now in
    c.ask_then_target.ensures
    ∙ ap (λ (w : Walk). blamed w (broken c.args.span (rule 12 c.args.moves ∷ complete_target w.structs t ∷ []))) c.ask.ensures
    ∙ blamed_twice c.args.self.now c.args.span 11 c.args.changeable
    (rule 12 c.args.moves ∷ complete_target c.args.self.now.structs t ∷ [])
