-- A walk over a program: it keeps what was found so far, and each of its steps does what is said of the construct that it passes.
use Rattle.std.specs.Prelude.{◌≡◌, List, ◌∷◌, ◌++◌, length, Option, Some, None}
use Rattle.c_type_expr.specs.declared.fault.Fault.{Fault}
use Rattle.c_type_expr.specs.declared.walk.Walk.{Walk}
use Rattle.c_type_expr.specs.Environment.{Env}
use Rattle.c_type_expr.specs.Outcomes.{Outcome, Judged}
use Rattle.c_type_expr.specs.Least.{first_with}

-- where the walk stands
abbrev pub env_of : Walk → Env
env_of w = record {
  structs = w.structs;
  scopes = w.scopes.inner ∷ w.scopes.outer;
  texts = length w.texts;
  locals = length w.locals;
  result = w.result;
  stdio = w.stdio;
}

-- the walk with some more faults
abbrev pub blamed : Walk → List Fault → Walk
blamed w faults = record w { first = first_with w.first faults }

-- the walk behind a construct: with its faults, its texts, its locals and its names
abbrev pub passed_by : {A : Type 0} → Walk → Outcome A → Walk
passed_by w o = record w {
  scopes = record w.scopes { inner = o.names ++ w.scopes.inner };
  texts = w.texts ++ o.texts;
  locals = w.locals ++ o.locals;
  first = first_with w.first o.faults;
}

-- from one state to another the walk passes a construct, which is known as said
pub record Walked {A : Type 0} (p : Judged A) (before after : Walk) (known : Option A) : Type 0 where
  pub after_is : after ≡ passed_by before (p (env_of before))
  pub known_is : known ≡ (p (env_of before)).known

-- what follows a part: nothing where the part is not known
abbrev pub Followed : {A B : Type 0} → (A → Judged B) → Option A → Walk → Walk → Option B → Type 0
Followed f None before after known = (after ≡ before) × (known ≡ None)
Followed f (Some v) before after known = Walked (f v) before after known

-- what stands behind a part: the one where the part is not known, and else the other
abbrev pub Met : {A B : Type 0} → Judged B → (A → Judged B) → Option A → Walk → Walk → Option B → Type 0
Met q f None before after known = Walked q before after known
Met q f (Some v) before after known = Walked (f v) before after known
