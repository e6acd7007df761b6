-- What follows in `++` and `--`, and in assignments, once an operand was read.
use Rattle.std.specs.Prelude.{if◌then◌else◌}
use Rattle.c_ast.specs.declared.operator.Step.{Step}
use Rattle.c_type_base.specs.declared.expr.TExpr.{TExpr}
use Rattle.block_meaning.specs.declared.value.Pointer.{Pointer}
use Rattle.block_meaning.specs.declared.value.Value.{Value}
use Rattle.block_meaning.specs.Expressions.{Site, written}
use Rattle.block_meaning.specs.Memory.{object, write}
use Rattle.block_meaning.specs.Operators.{gives_old, values_combined}
use Rattle.block_meaning.specs.Running.{Context, Run, gives, and_then}
use Rattle.mean_machine.specs.Evaluation.{bare_site}
use Rattle.mean_effects.specs.declared.assigning.Assignment.{Assignment}
use Rattle.mean_effects.specs.declared.operators.Operation.{Operation}

-- `++` or `--` of a value at a place writes another
abbrev pub step_written : Context → Step → TExpr → Pointer → Value → Value → Run Value
step_written here s e p v w = and_then (write here e.span (object e.ty p) w) (λ _. gives (if gives_old s then v else w))

abbrev pub site_of : Context → Assignment → Site
site_of here a = bare_site here a.span a.left.now.ty

-- a value is written to the left side
abbrev pub left_written : Context → Assignment → Value → Run Value
left_written here a v = written (site_of here a) a.left.now.span (object a.left.now.ty a.at) v

abbrev pub operation_gives : Context → Operation → Run Value
operation_gives here o = values_combined here o.span o.operator o.first_type.now o.second_type.now o.first o.second

-- the left side's value with the right side's is written to it
abbrev pub combined_written : Context → Assignment → Operation → Run Value
combined_written here a o = and_then (operation_gives here o) (λ r. left_written here a r)
