-- What declares no local and breaks rules of the numbers 9 to 19 alone: the words that outcomes are made of, and each row of the tables on
-- operators, names and types.
use Rattle.std.proofs.Common.{◌≡◌, refl, ◌∙◌, ℕ, Bool, true, false, List, [], ◌∷◌, ◌++◌, slice_get, length, Option, Some, None}
use Rattle.std.specs.Prelude.{◌&&◌, leb, if◌then◌else◌}
use Rattle.std.specs.List.{list_all}
use Rattle.std.proofs.lemmas.Bool.{and_from, and_parts}
use Rattle.std.proofs.lemmas.List.Folds.{list_all-append}
use Rattle.c_ast.specs.declared.token.Span.{Span}
use Rattle.c_ast.specs.declared.operator.UnaryOperator.{UnaryOperator}
use Rattle.c_ast.specs.declared.operator.UnaryOperator.TheVariants as unary
use Rattle.c_ast.specs.declared.operator.BinaryOperator.{BinaryOperator}
use Rattle.c_ast.specs.declared.operator.BinaryOperator.TheVariants as binary
use Rattle.c_ast.specs.declared.operator.AssignOperator.{AssignOperator}
use Rattle.c_ast.specs.declared.operator.Step.{Step}
use Rattle.c_type_base.specs.declared.expr.Callee.{Callee}
use Rattle.c_type_base.specs.declared.typed.LocalInfo.{LocalInfo}
use Rattle.c_type_base.specs.declared.typed.MemberInfo.{MemberInfo}
use Rattle.c_type_base.specs.declared.known.Known.{Known}
use Rattle.c_type_base.specs.declared.known.Written.{Written}
use Rattle.c_type_base.specs.declared.known.Written.TheVariants.{Whole, Open}
use Rattle.c_type_base.specs.Known.{value}
use Rattle.c_type_base.specs.Layout.{members_of}
use Rattle.c_type_base.specs.Sizes.{is_complete}
use Rattle.c_type_base.specs.Types.{is_void}
use Rattle.c_type_base.specs.declared.ty.Ty.TheVariants as ty
use Rattle.c_type_expr.specs.declared.scopes.Called.{Called}
use Rattle.c_type_expr.specs.declared.scopes.Signature.{Signature}
use Rattle.c_type_expr.specs.declared.scopes.Meaning.{Meaning}
use Rattle.c_type_expr.specs.declared.scopes.Meaning.TheVariants as means
use Rattle.c_type_expr.specs.Environment.{Env}
use Rattle.c_type_expr.specs.Outcomes.{Outcome, Judged, behind, both, each, on, continued, either, met, joined, asked}
use Rattle.c_type_expr.specs.declared.fault.Fault.{Fault}
use Rattle.c_type_expr.specs.declared.scopes.Binding.{Binding}
use Rattle.c_type_expr.specs.Faults.{Rule, rule, fault, broken}
use Rattle.c_type_expr.specs.Operators.{Sort, Integer, Points, Neither, sort_of, arithmetic, sum, difference, shift, ordering, equality}
use Rattle.c_type_expr.specs.Operators.{logical, binary_row, signed_row, not_row, arms_of_void, arms, cond_row}
use Rattle.c_type_expr.specs.Said.{Said, pointer_to, judged_length, length_known, array_of, tag_of, whole, name_row}
use Rattle.c_type_expr.specs.Postfix.{index_row, member_found, member_number, member_at, member_in, member_row, arrow_found, arrow_in}
use Rattle.c_type_expr.specs.Postfix.{arrow_row, call_row, not_called_row, call_by}
use Rattle.c_type_expr.specs.Expressions.{target_row, unary_row, compound_row, assign_row, step_row}

-- the number of a rule
abbrev pub is_number : ℕ → Bool
is_number n = leb 9 n && leb n 19

abbrev pub of_rule : Fault → Bool
of_rule f = is_number f.number

-- it declares no local, and what it breaks are rules
pub record IsQuiet {A : Type 0} (o : Outcome A) : Type 0 where
  pub locals : o.locals ≡ []
  pub rules : list_all of_rule o.faults ≡ true

-- so it is wherever it stands
abbrev pub Quiet : {A : Type 0} → Judged A → Type 0
Quiet p = (env : Env) → IsQuiet (p env)

-- ---- parts

pub at_once : {A : Type 0} (o : Outcome A) → o.locals ≡ [] → list_all of_rule o.faults ≡ true → IsQuiet o
at_once o none all = record { locals = none; rules = all }

-- the faults of a construct with these rules
pub broken_rules : (span : Span) (rs : List Rule) → list_all (λ r. is_number r.number) rs ≡ true → list_all of_rule (broken span rs) ≡ true
broken_rules span [] all = refl
broken_rules span (r ∷ rs) all =
    let parts = and_parts (is_number r.number) (list_all (λ r. is_number r.number) rs) all in
    let rest = broken_rules span rs parts.1 in
    elim r.kept as (λ b. list_all of_rule (if b then broken span rs else fault r.number span ∷ broken span rs) ≡ true) [
      | true ↦ rest
      | false ↦ and_from (is_number r.number) (list_all of_rule (broken span rs)) parts.0 rest
    ]

pub rules_quiet : {A : Type 0} {texts : List (List ℕ)} {names : List Binding} {known : Option A} (span : Span) (rs : List Rule) →
    list_all (λ r. is_number r.number) rs ≡ true →
    IsQuiet {A = A} (record { faults = broken span rs; texts = texts; locals = []; names = names; known = known })
rules_quiet span rs all = record { locals = refl; rules = broken_rules span rs all }

none_joined : (a b : List LocalInfo) → a ≡ [] → b ≡ [] → a ++ b ≡ []
none_joined [] b none more = more
none_joined (x ∷ xs) b none more = absurd (cc)

pub rules_joined : (a b : List Fault) → list_all of_rule a ≡ true → list_all of_rule b ≡ true → list_all of_rule (a ++ b) ≡ true
rules_joined a b first next =
    list_all-append of_rule a b ∙ and_from (list_all of_rule a) (list_all of_rule b) first next

joined_quiet : {A B C : Type 0} (a : Outcome A) (b : Outcome B) (known : Option C) → IsQuiet a → IsQuiet b → IsQuiet (joined a b known)
joined_quiet a b known first next = record {
  locals = none_joined a.locals b.locals first.locals next.locals;
  rules = rules_joined a.faults b.faults first.rules next.rules;
}

pub both_quiet : {A B : Type 0} (p : Judged A) (q : Judged B) → Quiet p → Quiet q → Quiet (both p q)
both_quiet p q first second env = joined_quiet (p env) (q (behind (p env) env)) _ (first env) (second (behind (p env) env))

-- so it is for each
pub data AllQuiet {A : Type 0} : List (Judged A) → Type 0 where
  none : AllQuiet []
  some : {p : Judged A} {ps : List (Judged A)} → Quiet p → AllQuiet ps → AllQuiet (p ∷ ps)

pub each_quiet : {A : Type 0} (ps : List (Judged A)) → AllQuiet ps → Quiet (each ps)
each_quiet [] none = λ env. at_once _ refl refl
each_quiet (p ∷ ps) (some one all) = λ env.
    joined_quiet (p env) (each ps (behind (p env) env)) _ (one env) (each_quiet ps all (behind (p env) env))

continued_quiet : {A B : Type 0} (a : Outcome A) (k : Option A) (f : A → Judged B) (env : Env) → IsQuiet a →
    ((v : A) → Quiet (f v)) → IsQuiet (continued a k f env)
continued_quiet a None f env first next = record { locals = first.locals; rules = first.rules }
continued_quiet a (Some v) f env first next = joined_quiet a (f v (behind a env)) _ first (next v (behind a env))

pub on_quiet : {A B : Type 0} (p : Judged A) (f : A → Judged B) → Quiet p → ((v : A) → Quiet (f v)) → Quiet (on p f)
on_quiet p f first next env = continued_quiet (p env) (p env).known f env (first env) next

met_quiet : {A B : Type 0} (a : Outcome A) (k : Option A) (q : Judged B) (f : A → Judged B) (env : Env) → IsQuiet a →
    Quiet q → ((v : A) → Quiet (f v)) → IsQuiet (met a k q f env)
met_quiet a None q f env first other next = joined_quiet a (q (behind a env)) _ first (other (behind a env))
met_quiet a (Some v) q f env first other next = joined_quiet a (f v (behind a env)) _ first (next v (behind a env))

pub either_quiet : {A B : Type 0} (p : Judged A) (q : Judged B) (f : A → Judged B) → Quiet p → Quiet q →
    ((v : A) → Quiet (f v)) → Quiet (either p q f)
either_quiet p q f first other next env = met_quiet (p env) (p env).known q f env (first env) other next

-- ---- tables

arithmetic_quiet : (o : BinaryOperator) (span : Span) (a b : Known) (s t : Sort) → Quiet (arithmetic o span a b s t)
arithmetic_quiet o span a b (Integer s) (Integer t) = λ env. at_once _ refl refl
arithmetic_quiet o span a b _ _ = λ env. at_once _ refl refl

sum_quiet : (span : Span) (a b : Known) (s t : Sort) → Quiet (sum span a b s t)
sum_quiet span a b (Integer s) (Integer t) = λ env. at_once _ refl refl
sum_quiet span a b (Points u) (Integer t) = λ env. search (rules_quiet)
sum_quiet span a b (Integer s) (Points u) = λ env. search (rules_quiet)
sum_quiet span a b _ _ = λ env. at_once _ refl refl

difference_quiet : (span : Span) (a b : Known) (s t : Sort) → Quiet (difference span a b s t)
difference_quiet span a b (Integer s) (Integer t) = λ env. at_once _ refl refl
difference_quiet span a b (Points u) (Integer t) = λ env. search (rules_quiet)
difference_quiet span a b (Points u) (Points w) = λ env. search (rules_quiet)
difference_quiet span a b _ _ = λ env. at_once _ refl refl

shift_quiet : (o : BinaryOperator) (span : Span) (a b : Known) (s t : Sort) → Quiet (shift o span a b s t)
shift_quiet o span a b (Integer s) (Integer t) = λ env. at_once _ refl refl
shift_quiet o span a b _ _ = λ env. at_once _ refl refl

ordering_quiet : (o : BinaryOperator) (span : Span) (a b : Known) (s t : Sort) → Quiet (ordering o span a b s t)
ordering_quiet o span a b (Integer s) (Integer t) = λ env. at_once _ refl refl
ordering_quiet o span a b (Points u) (Points w) = λ env. search (rules_quiet)
ordering_quiet o span a b _ _ = λ env. at_once _ refl refl

equality_quiet : (o : BinaryOperator) (span : Span) (a b : Known) (s t : Sort) → Quiet (equality o span a b s t)
equality_quiet o span a b (Integer s) (Integer t) = λ env. at_once _ refl refl
equality_quiet o span a b (Points u) (Points w) = λ env. search (rules_quiet)
equality_quiet o span a b (Points u) (Integer t) = λ env. search (rules_quiet)
equality_quiet o span a b (Integer s) (Points w) = λ env. search (rules_quiet)
equality_quiet o span a b _ _ = λ env. at_once _ refl refl

logical_quiet : (o : BinaryOperator) (span : Span) (a b : Known) (s t : Sort) → Quiet (logical o span a b s t)
logical_quiet o span a b (Integer s) (Integer t) = λ env. at_once _ refl refl
logical_quiet o span a b Neither _ = λ env. at_once _ refl refl
logical_quiet o span a b _ Neither = λ env. at_once _ refl refl
logical_quiet o span a b _ _ = λ env. at_once _ refl refl

pub binary_quiet : (o : BinaryOperator) (span : Span) (a b : Known) (s t : Sort) → Quiet (binary_row o span a b s t)
binary_quiet binary.Add = sum_quiet
binary_quiet binary.Subtract = difference_quiet
binary_quiet binary.ShiftLeft = shift_quiet binary.ShiftLeft
binary_quiet binary.ShiftRight = shift_quiet binary.ShiftRight
binary_quiet binary.Less = ordering_quiet binary.Less
binary_quiet binary.Greater = ordering_quiet binary.Greater
binary_quiet binary.LessEqual = ordering_quiet binary.LessEqual
binary_quiet binary.GreaterEqual = ordering_quiet binary.GreaterEqual
binary_quiet binary.Equal = equality_quiet binary.Equal
binary_quiet binary.NotEqual = equality_quiet binary.NotEqual
binary_quiet binary.And = logical_quiet binary.And
binary_quiet binary.Or = logical_quiet binary.Or
binary_quiet o = arithmetic_quiet o

signed_quiet : (o : UnaryOperator) (span : Span) (a : Known) (s : Sort) → Quiet (signed_row o span a s)
signed_quiet o span a (Integer t) = λ env. at_once _ refl refl
signed_quiet o span a _ = λ env. at_once _ refl refl

not_quiet : (span : Span) (a : Known) (s : Sort) → Quiet (not_row span a s)
not_quiet span a (Integer t) = λ env. at_once _ refl refl
not_quiet span a (Points u) = λ env. at_once _ refl refl
not_quiet span a Neither = λ env. at_once _ refl refl

void_quiet : (span : Span) (c a b : Known) (x y : Bool) → Quiet (arms_of_void span c a b x y)
void_quiet span c a b true true = λ env. at_once _ refl refl
void_quiet span c a b _ _ = λ env. at_once _ refl refl

arms_quiet : (span : Span) (c a b : Known) (s t : Sort) → Quiet (arms span c a b s t)
arms_quiet span c a b (Integer s) (Integer t) = λ env. at_once _ refl refl
arms_quiet span c a b (Points u) (Points w) = λ env. search (rules_quiet)
arms_quiet span c a b (Points u) (Integer t) = λ env. search (rules_quiet)
arms_quiet span c a b (Integer s) (Points w) = λ env. search (rules_quiet)
arms_quiet span c a b _ _ = void_quiet span c a b (is_void a.tree.ty) (is_void b.tree.ty)

pub cond_quiet : (span : Span) (c a b : Known) (s : Sort) → Quiet (cond_row span c a b s)
cond_quiet span c a b Neither = λ env. at_once _ refl refl
cond_quiet span c a b _ = arms_quiet span c a b (sort_of a) (sort_of b)

target_quiet : (span : Span) (e : Known) (s : Sort) → Quiet (target_row span e s)
target_quiet span e (Points t) = λ env. search (rules_quiet)
target_quiet span e _ = λ env. at_once _ refl refl

pub unary_quiet : (o : UnaryOperator) (span : Span) (e : Known) → Quiet (unary_row o span e)
unary_quiet unary.AddressOf span e = λ env. search (rules_quiet)
unary_quiet unary.Dereference span e = target_quiet span (value e) (sort_of (value e))
unary_quiet unary.Not span e = not_quiet span (value e) (sort_of (value e))
unary_quiet o span e = signed_quiet o span (value e) (sort_of (value e))

compound_quiet : (o : AssignOperator) (span : Span) (a b : Known) (s t : Sort) → Quiet (compound_row o span a b s t)
compound_quiet o span a b (Integer s) (Integer t) = λ env. search (rules_quiet)
compound_quiet o span a b (Points u) (Integer t) = λ env. search (rules_quiet)
compound_quiet o span a b _ _ = λ env. search (rules_quiet)

pub assign_quiet : (o : Option AssignOperator) (span : Span) (a b : Known) → Quiet (assign_row o span a b)
assign_quiet None span a b = λ env. search (rules_quiet)
assign_quiet (Some o) span a b = compound_quiet o span a (value b) (sort_of a) (sort_of (value b))

pub step_quiet : (s : Step) (span : Span) (e : Known) (t : Sort) → Quiet (step_row s span e t)
step_quiet s span e (Integer t) = λ env. search (rules_quiet)
step_quiet s span e (Points t) = λ env. search (rules_quiet)
step_quiet s span e Neither = λ env. search (rules_quiet)

pub index_quiet : (span : Span) (a i : Known) (s t : Sort) → Quiet (index_row span a i s t)
index_quiet span a i (Points t) (Integer s) = λ env. search (rules_quiet)
index_quiet span a i (Integer s) (Points t) = λ env. search (rules_quiet)
index_quiet span a i _ _ = λ env. at_once _ refl refl

found_quiet : (span : Span) (e : Known) (k : Option ℕ) (m : Option MemberInfo) → Quiet (member_found span e k m)
found_quiet span e (Some k) (Some m) = λ env. at_once _ refl refl
found_quiet span e _ _ = λ env. at_once _ refl refl

member_in_quiet : (span : Span) (e : Known) (b : Bool) (ms : List MemberInfo) (name : List ℕ) → Quiet (member_in span e b ms name)
member_in_quiet span e false ms name = λ env. at_once _ refl refl
member_in_quiet span e true ms name = found_quiet span e (member_number ms name) (member_at ms (member_number ms name))

pub member_quiet : (span : Span) (e : Known) (name : List ℕ) (number : Option ℕ) → Quiet (member_row span e name number)
member_quiet span e name None = λ env. at_once _ refl refl
member_quiet span e name (Some number) = λ env.
    member_in_quiet span e (is_complete env.structs (ty.Struct number)) (members_of (slice_get env.structs number)) name env

pointed_found_quiet : (span : Span) (e : Known) (k : Option ℕ) (m : Option MemberInfo) → Quiet (arrow_found span e k m)
pointed_found_quiet span e (Some k) (Some m) = λ env. at_once _ refl refl
pointed_found_quiet span e _ _ = λ env. at_once _ refl refl

arrow_in_quiet : (span : Span) (e : Known) (b : Bool) (ms : List MemberInfo) (name : List ℕ) → Quiet (arrow_in span e b ms name)
arrow_in_quiet span e false ms name = λ env. at_once _ refl refl
arrow_in_quiet span e true ms name = pointed_found_quiet span e (member_number ms name) (member_at ms (member_number ms name))

pub arrow_quiet : (span : Span) (e : Known) (name : List ℕ) (number : Option ℕ) → Quiet (arrow_row span e name number)
arrow_quiet span e name None = λ env. at_once _ refl refl
arrow_quiet span e name (Some number) = λ env.
    arrow_in_quiet span e (is_complete env.structs (ty.Struct number)) (members_of (slice_get env.structs number)) name env

pub name_quiet : (span : Span) (m : Option Meaning) → Quiet (name_row span m)
name_quiet span None = λ env. at_once _ refl refl
name_quiet span (Some (means.Object place (Some t))) = λ env. at_once _ refl refl
name_quiet span (Some (means.Object place None)) = λ env. at_once _ refl refl
name_quiet span (Some (means.Function callee signature)) = λ env. at_once _ refl refl
name_quiet span (Some means.Eof) = λ env. at_once _ refl refl

-- ---- calls

call_row_quiet : (span : Span) (c : Callee) (s : Option Signature) (ks : List Known) → Quiet (call_row span c s ks)
call_row_quiet span c None ks = λ env. search (rules_quiet)
call_row_quiet span c (Some s) ks = λ env. search (rules_quiet)

pub call_by_quiet : (span : Span) (o : Option Called) (f : Judged Known) (es : Judged (List Known)) → Quiet f → Quiet es →
    Quiet (call_by span o f es)
call_by_quiet span (Some c) f es first next =
    on_quiet es (call_row span c.callee c.signature) next (call_row_quiet span c.callee c.signature)
call_by_quiet span None f es first next =
    on_quiet (both f es) (λ (k, ks). not_called_row span k ks) (both_quiet f es first next) (λ v env. search (rules_quiet))

-- ---- types

pub pointer_quiet : (span : Span) (w : Written) → Quiet (pointer_to span w)
pointer_quiet span (Open t) = λ env. at_once _ refl refl
pointer_quiet span (Whole t) = λ env. search (rules_quiet)

pub array_quiet : (span : Span) (length : Option ℕ) (w : Written) → Quiet (array_of span length w)
array_quiet span length (Open t) = λ env. at_once _ refl refl
array_quiet span None (Whole t) = λ env. search (rules_quiet)
array_quiet span (Some n) (Whole t) = λ env. search (rules_quiet)

pub tag_quiet : (span : Span) (next : ℕ) (o : Option ℕ) → Quiet (tag_of span next o)
tag_quiet span next None = λ env. search (rules_quiet)
tag_quiet span next (Some number) = λ env. at_once _ refl refl

pub whole_quiet : (span : Span) (w : Written) → Quiet (whole span w)
whole_quiet span (Whole t) = λ env. at_once _ refl refl
whole_quiet span (Open t) = λ env. at_once _ refl refl

pub length_quiet : (e : Said) → Quiet e.judged → Quiet (judged_length e)
length_quiet e quiet =
    either_quiet e.judged (asked e.span (rule 12 e.computes ∷ [])) (length_known e.span) quiet
    (λ env. search (rules_quiet)) (λ k env. search (rules_quiet))
