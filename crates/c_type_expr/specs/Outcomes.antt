-- What is said of a construct where it stands: the rules that are broken in it, what it adds, and what it is in the typed program.
-- A construct that breaks a rule is known all the same where its type can be told: a call with too many arguments has the type of
-- its function's result, and a struct whose tag is not declared is one without a body. So the rules around it are asked. A construct
-- whose type cannot be told is not known: an undeclared name, a member that a struct lacks, and what has a part that is not known. Of
-- what stands around it those rules alone are asked that need no type: `either` says which.
use Rattle.std.specs.Prelude.{ℕ, ◌+◌, List, [], ◌∷◌, ◌++◌, length, Option, Some, None, if◌then◌else◌}
use Rattle.c_ast.specs.declared.token.Span.{Span}
use Rattle.c_type_base.specs.declared.typed.LocalInfo.{LocalInfo}
use Rattle.c_type_expr.specs.declared.fault.Fault.{Fault}
use Rattle.c_type_expr.specs.Faults.{Rule, broken, all_kept}
use Rattle.c_type_expr.specs.declared.scopes.Binding.{Binding}
use Rattle.c_type_expr.specs.Environment.{Env, with_innermost}

pub record Outcome (A : Type 0) : Type 0 where
  pub faults : List Fault
  -- the texts in it, in order of their first tokens
  pub texts : List (List ℕ)
  -- the locals that it declares, in order
  pub locals : List LocalInfo
  -- the names that it adds to the innermost scope, the latest first
  pub names : List Binding
  pub known : Option A

-- by where it stands
abbrev pub Judged : Type 0 → Type 0
Judged A = Env → Outcome A

-- behind what was said of something that stands before it
abbrev pub behind : {A : Type 0} → Outcome A → Env → Env
behind before env =
    record env {
      scopes = with_innermost before.names env.scopes;
      texts = env.texts + length before.texts;
      locals = env.locals + length before.locals;
    }

-- what the one adds, and then the other, which is known so far
abbrev pub joined : {A B C : Type 0} → Outcome A → Outcome B → Option C → Outcome C
joined a b known = record {
  faults = a.faults ++ b.faults;
  texts = a.texts ++ b.texts;
  locals = a.locals ++ b.locals;
  names = b.names ++ a.names;
  known = known;
}

abbrev pub sure : {A : Type 0} → A → Judged A
sure a env = record { faults = []; texts = []; locals = []; names = []; known = Some a }

abbrev pub not_known : {A : Type 0} → Judged A
not_known env = record { faults = []; texts = []; locals = []; names = []; known = None }

abbrev pub pair : {A B : Type 0} → Option A → Option B → Option (A × B)
pair None b = None
pair (Some a) None = None
pair (Some a) (Some b) = Some (a, b)

-- two parts, the one behind the other
abbrev pub both : {A B : Type 0} → Judged A → Judged B → Judged (A × B)
both p q env = let a = p env in let b = q (behind a env) in joined a b (pair a.known b.known)

abbrev pub listed : {A : Type 0} → Option A → Option (List A) → Option (List A)
listed None as' = None
listed (Some a) None = None
listed (Some a) (Some more) = Some (a ∷ more)

-- several parts in a row
abbrev pub each : {A : Type 0} → List (Judged A) → Judged (List A)
each [] = sure []
each (p ∷ ps) = λ env. let a = p env in let b = each ps (behind a env) in joined a b (listed a.known b.known)

-- the same, but for what it is
abbrev pub known_as : {A B : Type 0} → Outcome A → Option B → Outcome B
known_as a known = record { faults = a.faults; texts = a.texts; locals = a.locals; names = a.names; known = known }

abbrev pub present : {A : Type 0} → Option A → Option (Option A)
present None = None
present (Some v) = Some (Some v)

-- a part that may be left out
abbrev pub perhaps : {A : Type 0} → Option (Judged A) → Judged (Option A)
perhaps None = sure None
perhaps (Some p) = λ env. let a = p env in known_as a (present a.known)

abbrev pub continued : {A B : Type 0} → Outcome A → Option A → (A → Judged B) → Env → Outcome B
continued a None f env = known_as a None
continued a (Some v) f env = let b = f v (behind a env) in joined a b b.known

-- a part, and then what is said of it where it is known
abbrev pub on : {A B : Type 0} → Judged A → (A → Judged B) → Judged B
on p f env = let a = p env in continued a a.known f env

abbrev pub met : {A B : Type 0} → Outcome A → Option A → Judged B → (A → Judged B) → Env → Outcome B
met a None q f env = let b = q (behind a env) in joined a b b.known
met a (Some v) q f env = let b = f v (behind a env) in joined a b b.known

-- a part, and then what is said of it: where it is not known, and where it is
abbrev pub either : {A B : Type 0} → Judged A → Judged B → (A → Judged B) → Judged B
either p q f env = let a = p env in met a a.known q f env

abbrev pub option_map : {A B : Type 0} → (A → B) → Option A → Option B
option_map f None = None
option_map f (Some x) = Some (f x)

-- rules of a construct, of which no more is known
abbrev pub asked : {A : Type 0} → Span → List Rule → Judged A
asked span rules env = record { faults = broken span rules; texts = []; locals = []; names = []; known = None }

-- the rules of a construct that is known, whether it keeps them or not
abbrev pub ruled : {A : Type 0} → Span → List Rule → A → Judged A
ruled span rules a env = record { faults = broken span rules; texts = []; locals = []; names = []; known = Some a }

-- the same of one that is known where it keeps them
abbrev pub only_kept : {A : Type 0} → Span → List Rule → A → Judged A
only_kept span rules a env = record {
  faults = broken span rules;
  texts = [];
  locals = [];
  names = [];
  known = (if all_kept rules then Some a else None);
}

-- the names that it adds stay inside
abbrev pub enclosed : {A : Type 0} → Outcome A → Outcome A
enclosed a = record a { names = [] }
