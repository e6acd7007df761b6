-- Postfix operators and calls (ISO C11 6.5.2): one row for the types of the operands.
use Rattle.std.specs.Prelude.{ℕ, ◌+◌, ◌%◌, ◌^◌, Bool, true, false, ◌&&◌, nat_eq, List, [], ◌∷◌, length, map, slice_get, Option, Some}
use Rattle.std.specs.Prelude.{None, if◌then◌else◌}
use Rattle.std.specs.List.{position_from}
use Rattle.std.specs.Str.{bytes_eq}
use Rattle.c_ast.specs.declared.token.Span.{Span}
use Rattle.c_type_base.specs.declared.ty.Ty.{Ty}
use Rattle.c_type_base.specs.declared.ty.Ty.TheVariants as ty
use Rattle.c_type_base.specs.declared.expr.TExpr.{TExpr}
use Rattle.c_type_base.specs.declared.expr.TNode.{TNode}
use Rattle.c_type_base.specs.declared.expr.TNode.TheVariants as node
use Rattle.c_type_base.specs.declared.expr.Callee.{Callee}
use Rattle.c_type_base.specs.declared.typed.StructInfo.{StructInfo}
use Rattle.c_type_base.specs.declared.typed.MemberInfo.{MemberInfo}
use Rattle.c_type_expr.specs.declared.scopes.Called.{Called}
use Rattle.c_type_base.specs.Sizes.{size, is_complete}
use Rattle.c_type_base.specs.Layout.{members_of}
use Rattle.c_type_base.specs.Types.{struct_of}
use Rattle.c_type_expr.specs.Faults.{rule}
use Rattle.c_type_expr.specs.declared.scopes.Meaning.{Meaning}
use Rattle.c_type_expr.specs.declared.scopes.Signature.{Signature}
use Rattle.c_type_expr.specs.declared.scopes.Meaning.TheVariants as means
use Rattle.c_type_expr.specs.Environment.{Env, in_scopes}
use Rattle.c_type_expr.specs.Outcomes.{Judged, sure, both, each, on, asked, ruled}
use Rattle.c_type_base.specs.declared.known.Known.{Known}
use Rattle.c_type_base.specs.declared.known.Fixed.{Fixed}
use Rattle.c_type_base.specs.declared.known.Constancy.TheVariants.{Varies}
use Rattle.c_type_base.specs.Known.{texpr, plain, designates, value, converted, is_value, assignable}
use Rattle.c_type_base.specs.Constants.{forward, moved}
use Rattle.c_type_expr.specs.Operators.{breaks, misfit, Sort, Integer, Points, complete_target}
use Rattle.c_type_expr.specs.Said.{Said, meaning_of}

-- the address of the element of a pointer by an integer, by the bytes of an element
abbrev pub index_fixed_by : ℕ → Known → Known → Option Fixed
index_fixed_by bytes p i = (if p.path then moved forward bytes p.fixed i.constant else None)

abbrev pub index_fixed : List StructInfo → Ty → Known → Known → Option Fixed
index_fixed structs element p i = index_fixed_by (size structs element) p i

-- the element of a pointer by an integer
abbrev pub element : Span → TNode → Known → Known → Ty → Judged Known
element span tree pointer integer t = λ env.
    ruled span (complete_target env.structs t ∷ []) (designates (texpr span t tree) (index_fixed env.structs t pointer integer)) env

-- `a[i]`, in either order (6.5.2.1)
abbrev pub index_row : Span → Known → Known → Sort → Sort → Judged Known
index_row span a i (Points t) (Integer s) = element span (node.Index a.tree i.tree) a i t
index_row span a i (Integer s) (Points t) = element span (node.Index a.tree i.tree) i a t
index_row span a i _ _ = misfit span

-- the number of a member
abbrev pub member_number : List MemberInfo → List ℕ → Option ℕ
member_number ms name = position_from (λ m. bytes_eq m.name name) 0 ms

abbrev pub member_fixed : MemberInfo → Option Fixed → Option Fixed
member_fixed m None = None
member_fixed m (Some f) = Some (record f { offset = (f.offset + m.offset) % 2 ^ 64 })

abbrev pub member_known : Span → Known → ℕ → MemberInfo → Known
member_known span e k m =
    record e { tree = texpr span m.ty (node.Member e.tree k); fixed = (if e.path then member_fixed m e.fixed else None) }

abbrev pub member_found : Span → Known → Option ℕ → Option MemberInfo → Judged Known
member_found span e (Some k) (Some m) = sure (member_known span e k m)
member_found span e _ _ = breaks 18 span

abbrev pub member_at : List MemberInfo → Option ℕ → Option MemberInfo
member_at ms None = None
member_at ms (Some k) = slice_get ms k

-- a struct that is not complete breaks 15 before it lacks the member
abbrev pub member_in : Span → Known → Bool → List MemberInfo → List ℕ → Judged Known
member_in span e false ms name = breaks 15 span
member_in span e true ms name = member_found span e (member_number ms name) (member_at ms (member_number ms name))

-- `e . name` (6.5.2.3): designates an object where e does
abbrev pub member_row : Span → Known → List ℕ → Option ℕ → Judged Known
member_row span e name None = misfit span
member_row span e name (Some number) = λ env.
    member_in span e (is_complete env.structs (ty.Struct number)) (members_of (slice_get env.structs number)) name env

abbrev pub arrow_known : Span → Known → ℕ → MemberInfo → Known
arrow_known span e k m = designates (texpr span m.ty (node.Arrow e.tree k)) None

abbrev pub arrow_found : Span → Known → Option ℕ → Option MemberInfo → Judged Known
arrow_found span e (Some k) (Some m) = sure (arrow_known span e k m)
arrow_found span e _ _ = breaks 18 span

-- likewise
abbrev pub arrow_in : Span → Known → Bool → List MemberInfo → List ℕ → Judged Known
arrow_in span e false ms name = breaks 15 span
arrow_in span e true ms name = arrow_found span e (member_number ms name) (member_at ms (member_number ms name))

abbrev pub struct_pointed : Option Ty → Option ℕ
struct_pointed None = None
struct_pointed (Some t) = struct_of t

-- `e -> name` (6.5.2.3)
abbrev pub arrow_row : Span → Known → List ℕ → Option ℕ → Judged Known
arrow_row span e name None = misfit span
arrow_row span e name (Some number) = λ env.
    arrow_in span e (is_complete env.structs (ty.Struct number)) (members_of (slice_get env.structs number)) name env

-- ---- calls (6.5.2.2)

-- arguments in the types of the parameters at their places
abbrev pub passed : List Ty → List Known → List TExpr
passed (t ∷ ts) (k ∷ ks) = (converted t k).tree ∷ passed ts ks
passed _ _ = []

abbrev pub all_assignable : List Ty → List Known → Bool
all_assignable (t ∷ ts) (k ∷ ks) = assignable t k && all_assignable ts ks
all_assignable _ _ = true

-- no argument is void
abbrev pub all_values : List Known → Bool
all_values [] = true
all_values (k ∷ ks) = is_value k && all_values ks

abbrev pub call_made : Span → Callee → Signature → List Known → Known
call_made span callee s arguments = plain (texpr span s.result (node.Call callee (passed s.params arguments))) Varies

abbrev pub call_known : Span → Callee → Signature → List Known → Judged Known
call_known span callee s arguments =
    let fit = all_values arguments && all_assignable s.params arguments in
    ruled span (rule 12 fit ∷ rule 14 (nat_eq (length arguments) (length s.params)) ∷ [])
    (call_made span callee s arguments)

abbrev pub call_row : Span → Callee → Option Signature → List Known → Judged Known
call_row span callee None arguments = asked span (rule 12 (all_values arguments) ∷ [])
call_row span callee (Some s) arguments = call_known span callee s arguments

-- the arguments of something that is no function's name
abbrev pub not_called_row : Span → Known → List Known → Judged Known
not_called_row span function arguments = asked span (rule 12 (all_values arguments) ∷ rule 13 false ∷ [])

abbrev pub not_called : Span → Judged Known → Judged (List Known) → Judged Known
not_called span function arguments = on (both function arguments) (λ (k, ks). not_called_row span k ks)

-- the function that a name means
abbrev pub function_in : Option Meaning → Option Called
function_in (Some (means.Function callee signature)) = Some (record { callee = callee; signature = signature })
function_in _ = None

abbrev pub call_by : Span → Option Called → Judged Known → Judged (List Known) → Judged Known
call_by span (Some called) function arguments = on arguments (call_row span called.callee called.signature)
call_by span None function arguments = not_called span function arguments

abbrev pub meaning_by : Option (List ℕ) → Env → Option Meaning
meaning_by None env = None
meaning_by (Some name) env = meaning_of (in_scopes name env.scopes)

abbrev pub argument : Said → Judged Known
argument e = on e.judged (λ k. sure (value k))

abbrev pub call : Said → List Said → Span → Judged Known
call function arguments span env = call_by span (function_in (meaning_by function.name env)) function.judged
    (each (map argument arguments)) env
