-- Functions that keep all rules are in order.
use Rattle.std.proofs.Common.{◌≡◌, refl, sym, ◌∙◌, ap, subst, ℕ, zero, suc, ◌+◌, ◌<◌, arith, true, ◌||◌, List, [], ◌∷◌}
use Rattle.std.proofs.Common.{◌++◌, length, slice_get, Option, Some, None}
use Rattle.std.specs.Prelude.{take}
use Rattle.c_ast.specs.declared.program.Function.{Function}
use Rattle.c_type_base.specs.Types.{is_void, is_scalar}
use Rattle.c_type_base.specs.declared.ty.Ty.{Ty}
use Rattle.c_type_base.specs.declared.statement.TStmt.{TStmt}
use Rattle.c_type_base.specs.declared.typed.LocalInfo.{LocalInfo}
use Rattle.c_type_base.specs.declared.typed.TFunction.{TFunction}
use Rattle.c_type_expr.specs.declared.scopes.Binding.{Binding}
use Rattle.c_type_expr.specs.Environment.{Env, opened}
use Rattle.c_type_expr.specs.Outcomes.{Outcome, Judged, behind}
use Rattle.c_types.specs.Files.{is_static}
use Rattle.c_types.specs.Units.{Judgement}
use Rattle.block_meaning.specs.ExpressionsInOrder.{Scope}
use Rattle.block_meaning.specs.ProgramsInOrder.{numbered, body_scope, FunctionInOrder}
use Rattle.block_meaning.specs.Running.{Program}
use Rattle.block_meaning.specs.StatementsInOrder.{Items}
use Rattle.well_typed_order.specs.Standing.{MeansIn, TextsIn, EnvIn, There, Names, Stands, LocalsIn}
use Rattle.well_typed_order.specs.Laws.Good.{get-front, get-back, some-is}
use Rattle.well_typed_order.specs.Laws.Judged.{At, env-like}
use Rattle.well_typed_order.specs.Laws.Parameters.{Below, ParametersFine}
use Rattle.well_typed_order.specs.Laws.Parts.{env-named, any-names, no-scope}
use Rattle.well_typed_order.specs.Laws.Declared.{names-more}
use Rattle.well_typed_order.specs.Laws.Scopes.{outside, no_function, env-inside, env-opened, numbered-all, contains-front}
use Rattle.well_typed_order.specs.Laws.Scopes.{contains-back}
use Rattle.well_typed_order.specs.Laws.StatementRows.{Any}
use Rattle.well_typed_order.specs.Laws.Statements.{opens_level, opens, BlockIn, BodyFine}

-- where a body stands
abbrev pub env_of_body : Judgement → Outcome (List Ty) → Option Ty → Env
env_of_body j params r = record j.env { scopes = params.names ∷ j.env.scopes; locals = length params.locals; result = r }

abbrev pub function_with : Function → Ty → List LocalInfo → TStmt → TFunction
function_with f r locals t =
    record { name = f.name; local = is_static f.storage; params = length f.params; result = r; locals = locals; body = t; span = f.span }

env_of_scope : (s : Scope) (env : Env) (names : List Binding) (n : ℕ) (r : Option Ty) → EnvIn env s → Names (MeansIn s) names →
    EnvIn (record env { scopes = names ∷ env.scopes; locals = n; result = r }) s
env_of_scope s env names n r inside means =
    let o : Outcome (Unit {0}) = record { faults = []; texts = []; locals = []; names = names; known = None } in
    let same : names ++ [] ≡ names = no-scope names in
    env-like s (behind o (opened env)) (record env { scopes = names ∷ env.scopes; locals = n; result = r }) refl
    (ap (λ names. names ∷ env.scopes) (sym same)) (env-named s (opened env) o means (env-opened s env inside))

get_take : (n k : ℕ) (xs : List LocalInfo) → k < n → slice_get (take n xs) k ≡ slice_get xs k
get_take zero k xs less = absurd (omega (arith, less))
get_take (suc n) k [] less = refl
get_take (suc n) zero (x ∷ xs) less = refl
get_take (suc n) (suc k) (x ∷ xs) less = get_take n k xs (omega (arith, less))

-- what is known of a function's parameters, wherever their locals are in scope
abbrev pub ParametersIn : Program → ℕ → Function → Outcome (List Ty) → Type 0
ParametersIn program unit f params = (g : TFunction) (ks : List ℕ) →
    Below (record { program = program; unit = unit; function = g; locals = ks }) (length params.locals) →
    LocalsIn (record { program = program; unit = unit; function = g; locals = ks }) 0 params.locals →
    ParametersFine (record { program = program; unit = unit; function = g; locals = ks }) f.params params

module _ (program : Program) (unit : ℕ) (j : Judgement) (f : Function) (params : Outcome (List Ty)) (r : Ty)
    (at : At (outside program unit) j) (parameters : ParametersIn program unit f params) (count : length params.locals ≡ length
    f.params) where
  abbrev here : TFunction → List ℕ → Scope
  here g ks = record { program = program; unit = unit; function = g; locals = ks }

  stands : (g : TFunction) (ks : List ℕ) → g.result ≡ r → Below (here g ks) (length params.locals) → LocalsIn (here g ks) 0 params.locals →
      Stands (env_of_body j params (Some r)) (here g ks)
  stands g ks result below locals = record {
    here = env_of_scope (here g ks) j.env params.names (length params.locals) (Some r) (env-inside program unit g ks j.env at.env)
        (parameters g ks below locals).names;
    result = ap (λ t. Some t) (sym result);
  }

  module _ (body : Judged TStmt) (fine : BodyFine body) (kept : (body (env_of_body j params (Some r))).faults ≡ [])
      (texts : TextsIn (outside program unit) j.env.texts (body (env_of_body j params (Some r))).texts) where
    abbrev env : Env
    env = env_of_body j params (Some r)

    abbrev o : Outcome TStmt
    o = body env

    abbrev locals : List LocalInfo
    locals = params.locals ++ o.locals

    locals_first : (k : ℕ) (l : LocalInfo) → slice_get params.locals k ≡ Some l → slice_get locals (0 + k) ≡ Some l
    locals_first k l is =
        let same : k ≡ 0 + k = omega arith in
        subst (λ k. slice_get locals k ≡ Some l) same (get-front params.locals o.locals k l is)

    locals_second : (k : ℕ) (l : LocalInfo) → slice_get o.locals k ≡ Some l → slice_get locals (length params.locals + k) ≡ Some l
    locals_second k l is = get-back params.locals o.locals k (length params.locals + k) refl ∙ is

    body_known : There o.known Any
    body_known =
        let g : TFunction = record no_function { result = r; locals = locals } in
        ((fine.told (here g [])).holds env
        (stands g (numbered 0 locals) refl (λ k l is less. numbered-all locals k l is) locals_first) (any-names o.names)
        (record { texts = texts; locals = locals_second }) kept).known

    below : (t : TStmt) → Below (body_scope program unit (function_with f r locals t) (opens t)) (length params.locals)
    below t k l is less = contains-back (opens t) (numbered 0 (take (length f.params) locals)) k
        (numbered-all (take (length f.params) locals) k l (get_take (length f.params) k locals (omega (arith, less, count)) ∙ is))

    body_order : (t : TStmt) → o.known ≡ Some t →
        BlockIn (body_scope program unit (function_with f r locals t) (opens t)) t
    body_order t is =
        let g = function_with f r locals t in
        let ks = opens t ++ numbered 0 (take (length f.params) locals) in
        let held = names-more (opens t) ks (λ k has. contains-front (opens t) (numbered 0 (take (length f.params) locals)) k has) o.names
        (fine.declares env t is) in
        some-is (BlockIn (body_scope program unit g (opens t))) o.known t is
        ((fine.fine (body_scope program unit g (opens t))).holds env (stands g ks refl (below t) locals_first) held
        (record { texts = texts; locals = locals_second }) kept).known

    -- the function is in order
    pub function-in-order : (is_void r || is_scalar r) ≡ true → (t : TStmt) → o.known ≡ Some t →
        FunctionInOrder program unit (function_with f r locals t)
    function-in-order gives t is =
        let g = function_with f r locals t in
        let block = body_order t is in
        record {
          result = gives;
          items = block.items;
          body_is = block.is;
          body = subst (λ ks. Items (body_scope program unit g ks) block.items) (ap opens_level block.is) block.in_order;
        }

    pub body-known : There o.known Any
    body-known = body_known
