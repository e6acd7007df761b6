-- Judgements of which all that is known has a property, by their parts (this project's own).
use Rattle.std.specs.Prelude.{Bool, true, false, List, [], ◌∷◌, Option, Some, None, if◌then◌else◌}
use Rattle.std.specs.List.{AllByRecursion}
use Rattle.c_ast.specs.declared.token.Span.{Span}
use Rattle.c_type_expr.specs.Environment.{Env}
use Rattle.c_type_expr.specs.Faults.{Rule}
use Rattle.c_type_expr.specs.Outcomes.{Outcome, Judged, behind, sure, pair, both, listed, each, present, perhaps, continued, on}
use Rattle.c_type_expr.specs.Outcomes.{met, either, ruled}
use Rattle.well_typed_covered.specs.Always.{IfThere, Always}

-- nothing is asked of what is known
abbrev pub Anything : {A : Type 0} → A → Type 0
Anything a = Unit {0}

anything_there : {A : Type 0} (o : Option A) → IfThere Anything o
anything_there None = tt
anything_there (Some a) = tt

pub always-any : {A : Type 0} (p : Judged A) → Always Anything p
always-any p = record { known = λ env. anything_there (p env).known }

pub always-sure : {A : Type 0} {P : A → Type 0} (a : A) → P a → Always P (sure a)
always-sure a is = record { known = λ env. is }

pub always-ruled : {A : Type 0} {P : A → Type 0} (span : Span) (rules : List Rule) (a : A) → P a → Always P (ruled span rules a)
always-ruled span rules a is = record { known = λ env. is }

pub if-kept : {A : Type 0} (P : A → Type 0) (kept : Bool) (a : A) → P a → IfThere P (if kept then Some a else None)
if-kept P true a is = is
if-kept P false a is = tt

-- a part, and then what is said of it
continued_known : {A B : Type 0} (P : A → Type 0) (Q : B → Type 0) (a : Outcome A) (f : A → Judged B) (env : Env) →
    ((v : A) → P v → Always Q (f v)) → (o : Option A) → IfThere P o → IfThere Q (continued a o f env).known
continued_known P Q a f env each None first = tt
continued_known P Q a f env each (Some v) first = (each v first).known (behind a env)

pub always-on : {A B : Type 0} {P : A → Type 0} {Q : B → Type 0} (p : Judged A) (f : A → Judged B) → Always P p →
    ((v : A) → P v → Always Q (f v)) → Always Q (on p f)
always-on {P = P} {Q = Q} p f first each =
    record { known = λ env. continued_known P Q (p env) f env each (p env).known (first.known env) }

met_known : {A B : Type 0} (P : A → Type 0) (Q : B → Type 0) (a : Outcome A) (q : Judged B) (f : A → Judged B) (env : Env) → Always Q q →
    ((v : A) → P v → Always Q (f v)) → (o : Option A) → IfThere P o → IfThere Q (met a o q f env).known
met_known P Q a q f env other each None first = other.known (behind a env)
met_known P Q a q f env other each (Some v) first = (each v first).known (behind a env)

pub always-either : {A B : Type 0} {P : A → Type 0} {Q : B → Type 0} (p : Judged A) (q : Judged B) (f : A → Judged B) → Always P p →
    Always Q q → ((v : A) → P v → Always Q (f v)) → Always Q (either p q f)
always-either {P = P} {Q = Q} p q f first other each =
    record { known = λ env. met_known P Q (p env) q f env other each (p env).known (first.known env) }

-- two parts
abbrev pub Pair : {A B : Type 0} → (A → Type 0) → (B → Type 0) → A × B → Type 0
Pair P Q x = P x.0 × Q x.1

pair_known : {A B : Type 0} (P : A → Type 0) (Q : B → Type 0) (a : Option A) (b : Option B) → IfThere P a → IfThere Q b →
    IfThere (Pair P Q) (pair a b)
pair_known P Q None b first second = tt
pair_known P Q (Some a) None first second = tt
pair_known P Q (Some a) (Some b) first second = (first, second)

pub always-both : {A B : Type 0} {P : A → Type 0} {Q : B → Type 0} (p : Judged A) (q : Judged B) → Always P p → Always Q q →
    Always (Pair P Q) (both p q)
always-both {P = P} {Q = Q} p q first second = record {
  known = λ env. pair_known P Q (p env).known (q (behind (p env) env)).known (first.known env) (second.known (behind (p env) env));
}

-- several parts
listed_known : {A : Type 0} (P : A → Type 0) (a : Option A) (b : Option (List A)) → IfThere P a → IfThere (AllByRecursion P) b →
    IfThere (AllByRecursion P) (listed a b)
listed_known P None b first rest = tt
listed_known P (Some a) None first rest = tt
listed_known P (Some a) (Some more) first rest = (first, rest)

pub always-each : {A : Type 0} {P : A → Type 0} (ps : List (Judged A)) → AllByRecursion (Always P) ps →
    Always (AllByRecursion P) (each ps)
always-each [] all = record { known = λ env. tt }
always-each {P = P} (p ∷ ps) all = record {
  known = λ env. listed_known P (p env).known (each ps (behind (p env) env)).known (all.0.known env)
      ((always-each ps all.1).known (behind (p env) env));
}

-- a part that may be left out
present_known : {A : Type 0} (P : A → Type 0) (o : Option A) → IfThere P o → IfThere (IfThere P) (present o)
present_known P None is = tt
present_known P (Some a) is = is

pub always-without : {A : Type 0} {P : A → Type 0} → Always (IfThere P) (perhaps None)
always-without = record { known = λ env. tt }

pub always-perhaps : {A : Type 0} {P : A → Type 0} (p : Judged A) → Always P p → Always (IfThere P) (perhaps (Some p))
always-perhaps {P = P} p is = record { known = λ env. present_known P (p env).known (is.known env) }
