use Rattle.std.proofs.Common.{rules, ◌∙◌, ap}
use Rattle.std.specs.Prelude.{leb}
use Rattle.c_type_base.specs.Sizes.{size, largest}
use Rattle.c_type_stmt.proofs.DeclarationLaws.{typed_asked}
use Rattle.c_type_stmt.proofs.declaration.ask_typed.Goals as goal

pub returns-else-complete-clause-blames : goal.returns-else-complete-clause-blames
returns-else-complete-clause-blames c =
    typed_asked c.args.walk.now c.ask.new.self c.ask_both.new.self c.args.span c.args.new
    c.is_complete-complete.result c.is_small-small.result
    c.args.t.now c.ask.ensures c.ask_both.ensures (search rules)
    (c.is_small-small.ensures ∙ ap (λ s. leb (size s c.args.t.now) largest) c.as_slice-2.ensures)
