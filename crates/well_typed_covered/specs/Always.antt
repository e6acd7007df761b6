-- What is known of a construct, wherever it stands, has a property (this project's own).
use Rattle.std.specs.Prelude.{Option, Some, None}
use Rattle.c_type_expr.specs.Environment.{Env}
use Rattle.c_type_expr.specs.Outcomes.{Judged}

-- if there is one, it has the property
abbrev pub IfThere : {A : Type 0} → (A → Type 0) → Option A → Type 0
IfThere P None = Unit {0}
IfThere P (Some a) = P a

pub record Always {A : Type 0} (P : A → Type 0) (p : Judged A) : Type 0 where
  pub known : (env : Env) → IfThere P (p env).known
