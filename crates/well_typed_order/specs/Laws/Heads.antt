-- Heads of functions that keep all rules: the types of the result and of the parameters are known.
use Rattle.std.proofs.Common.{◌≡◌, refl, subst, ℕ, ◌+◌, ◌≤◌, arith, true, ◌||◌, List, [], ◌∷◌, ◌++◌, length, map}
use Rattle.std.proofs.Common.{slice_get, Option, Some, None}
use Rattle.std.specs.Prelude.{leb}
use Rattle.c_ast.specs.declared.program.Function.{Function}
use Rattle.c_type_base.specs.Types.{is_void, is_scalar}
use Rattle.c_type_base.specs.declared.ty.Ty.{Ty}
use Rattle.c_type_base.specs.declared.typed.TFunction.{TFunction}
use Rattle.c_type_base.specs.declared.typed.LocalInfo.{LocalInfo}
use Rattle.c_type_base.specs.Types.{is_there}
use Rattle.c_type_expr.specs.declared.scopes.Meaning.TheVariants as means
use Rattle.c_type_expr.specs.declared.scopes.Signature.{Signature}
use Rattle.c_type_expr.specs.Environment.{binds, opened}
use Rattle.c_type_expr.specs.Faults.{Rule, rule, broken}
use Rattle.c_types.specs.declared.names.FileNames.{FileNames}
use Rattle.c_types.specs.Files.{function_callee}
use Rattle.c_types.specs.Functions.{signature_of, head_rules, main_form, result_type}
use Rattle.c_types.specs.Redeclarations.{may_stand}
use Rattle.c_types.specs.Units.{Judgement, with_outcome, with_names, with_faults, function_declared, parameters_in, head_judged}
use Rattle.block_meaning.specs.ExpressionsInOrder.{Scope}
use Rattle.block_meaning.specs.Linkage.{type_of_local}
use Rattle.block_meaning.specs.ProgramsInOrder.{numbered}
use Rattle.block_meaning.specs.Running.{Program}
use Rattle.well_typed_order.specs.Standing.{MeansIn, TextsIn, There, LocalsIn}
use Rattle.well_typed_order.specs.Laws.Binary.{kept-first, kept-rest}
use Rattle.well_typed_order.specs.Laws.Expressions.{whole-good}
use Rattle.well_typed_order.specs.Laws.Good.{front, back, texts-front, none-is, some-is}
use Rattle.well_typed_order.specs.Laws.Judged.{At, at-outcome, at-names, at-good, at-texts}
use Rattle.well_typed_order.specs.Laws.Parameters.{Below, ParametersFine, parameters-fine}
use Rattle.well_typed_order.specs.Laws.Parts.{no-names}
use Rattle.well_typed_order.specs.Laws.Scopes.{outside, no_function, env-inside, env-opened, numbered-all}

-- behind the result
abbrev pub with_result : Judgement → Function → Judgement
with_result j f = with_outcome j (result_type f j.env)

-- behind the parameters, whose names stay inside
abbrev pub with_parameters : Judgement → Function → Judgement
with_parameters j f = with_outcome (with_result j f) (record (parameters_in j f) { names = [] })

-- the head, by what is known of its result and its parameters
abbrev pub head_by : FileNames → Judgement → Function → Option Ty → Option (List Ty) → Judgement
head_by names j f r ts =
    let this = function_declared f (signature_of r ts) in
    let headed = with_faults (with_parameters j f) (broken f.span (head_rules f (may_stand names j.declared this) r)) in
    let named = with_names headed (binds f.name (means.Function (function_callee names f.name) (signature_of r ts)) ∷ []) in
    record named { declared = this ∷ j.declared }

pub record HeadFine (s : Scope) (names : FileNames) (j : Judgement) (f : Function) (r : Option Ty) (ts : Option (List Ty)) : Type 0 where
  pub at : At s (head_by names j f r ts)
  pub result : Ty
  pub result_is : r ≡ Some result
  pub gives : (is_void result || is_scalar result) ≡ true
  pub types : List Ty
  pub types_are : ts ≡ Some types
  pub of_locals : types ≡ map type_of_local (parameters_in j f).locals
  pub count : length (parameters_in j f).locals ≡ length f.params
  pub may : may_stand names j.declared (function_declared f (signature_of r ts)) ≡ true
  pub main : main_form f r ≡ true

module _ (program : Program) (unit : ℕ) (names : FileNames) (j : Judgement) (f : Function) (at : At (outside program unit) j) where
  abbrev s : Scope
  s = outside program unit

  at_result : At s (with_result j f)
  at_result = at-outcome s j (result_type f j.env)
      (no-names (MeansIn s) (result_type f j.env).names ((whole-good s f.result f.span).silent j.env)) at

  result_there : (with_result j f).faults ≡ [] → TextsIn s 0 (with_result j f).texts →
      There (result_type f j.env).known (λ (t : Ty). Unit {0})
  result_there kept texts = at-good s j (result_type f) (whole-good s f.result f.span) at tt kept texts

  -- the parameters, in a function whose first locals they are
  pub parameters-in : (g : TFunction) (ks : List ℕ) →
      Below (record { program = program; unit = unit; function = g; locals = ks }) (length (parameters_in j f).locals) →
      LocalsIn (record { program = program; unit = unit; function = g; locals = ks }) 0 (parameters_in j f).locals →
      (with_parameters j f).faults ≡ [] → TextsIn s 0 (with_parameters j f).texts →
      ParametersFine (record { program = program; unit = unit; function = g; locals = ks }) f.params (parameters_in j f)
  parameters-in g ks below locals kept texts =
      let w = with_result j f in
      let o = parameters_in j f in
      let here : Scope = record { program = program; unit = unit; function = g; locals = ks } in
      let env = env-opened here w.env (env-inside program unit g ks w.env at_result.env) in
      let within : 0 + length o.locals ≤ length o.locals = omega arith in
      parameters-fine here (length o.locals) below (is_there f.body) f.params (opened w.env) env
      (record { texts = at-texts s w (record o { names = [] }) at_result texts; locals = locals })
      (back w.faults o.faults kept) within

  abbrev own_locals : TFunction
  own_locals = record no_function { locals = (parameters_in j f).locals }

  zero_locals : (k : ℕ) (l : LocalInfo) → slice_get (parameters_in j f).locals k ≡ Some l →
      slice_get (parameters_in j f).locals (0 + k) ≡ Some l
  zero_locals k l is = let same : k ≡ 0 + k = omega arith in subst (λ k. slice_get (parameters_in j f).locals k ≡ Some l) same is

  own_parameters : (with_parameters j f).faults ≡ [] → TextsIn s 0 (with_parameters j f).texts →
      ParametersFine (record { program = program; unit = unit; function = own_locals; locals = numbered 0 (parameters_in j f).locals })
      f.params (parameters_in j f)
  own_parameters kept texts = parameters-in own_locals (numbered 0 (parameters_in j f).locals)
      (λ k l is less. numbered-all (parameters_in j f).locals k l is) zero_locals kept texts

  abbrev HeadRules : Option Ty → Option (List Ty) → List Rule
  HeadRules r ts = head_rules f (may_stand names j.declared (function_declared f (signature_of r ts))) r

  by_known : (r : Option Ty) (ts : Option (List Ty)) → (result_type f j.env).known ≡ r → (parameters_in j f).known ≡ ts →
      (head_by names j f r ts).faults ≡ [] → TextsIn s 0 (head_by names j f r ts).texts →
      ((sig : Signature) → signature_of r ts ≡ Some sig → (is_void sig.result || is_scalar sig.result) ≡ true →
      MeansIn s (means.Function (function_callee names f.name) (Some sig))) → HeadFine s names j f r ts
  by_known None ts is its kept texts mean =
      let w = with_parameters j f in
      let rules = HeadRules None ts in
      let before = front w.faults (broken f.span rules) (front (w.faults ++ broken f.span rules) [] kept) in
      let written = texts-front s 0 w.texts [] texts in
      absurd (none-is (λ (t : Ty). Unit {0}) (result_type f j.env).known is
      (result_there (front (with_result j f).faults (parameters_in j f).faults before)
      (texts-front s 0 (with_result j f).texts (parameters_in j f).texts written)))
  by_known (Some r) None is its kept texts mean =
      let w = with_parameters j f in
      let rules = HeadRules (Some r) None in
      let before = front w.faults (broken f.span rules) (front (w.faults ++ broken f.span rules) [] kept) in
      let params = own_parameters before (texts-front s 0 w.texts [] texts) in
      absurd (none-is (λ ts. ts ≡ map type_of_local (parameters_in j f).locals) (parameters_in j f).known its params.known)
  by_known (Some r) (Some ts) is its kept texts mean =
      let w = with_parameters j f in
      let rules = HeadRules (Some r) (Some ts) in
      let inner = front (w.faults ++ broken f.span rules) [] kept in
      let before = front w.faults (broken f.span rules) inner in
      let own = back w.faults (broken f.span rules) inner in
      let params = own_parameters before (texts-front s 0 w.texts [] texts) in
      let may = may_stand names j.declared (function_declared f (Some (record { result = r; params = ts }))) in
      let last = rule 12 (is_void r || is_scalar r) ∷ [] in
      let form = rule 19 (main_form f (Some r)) ∷ last in
      let after = kept-rest f.span 10 may (rule 14 (leb (length f.params) 8) ∷ form) own in
      let after_count = kept-rest f.span 14 (leb (length f.params) 8) form after in
      let gives = kept-first f.span 12 (is_void r || is_scalar r) [] (kept-rest f.span 19 (main_form f (Some r)) last after_count) in
      let at_parameters : At s w = at-outcome s (with_result j f) (record (parameters_in j f) { names = [] }) tt at_result in
      let headed = with_faults w (broken f.span rules) in
      let at_headed : At s headed = record { env = at_parameters.env; texts_are = at_parameters.texts_are } in
      let sig : Signature = record { result = r; params = ts } in
      let at_named = at-names s headed (binds f.name (means.Function (function_callee names f.name) (Some sig)) ∷ [])
      (mean sig refl gives, tt) at_headed in
      record {
        at = record { env = at_named.env; texts_are = at_named.texts_are };
        result = r;
        result_is = refl;
        gives = gives;
        types = ts;
        types_are = refl;
        of_locals = some-is (λ ts. ts ≡ map type_of_local (parameters_in j f).locals) (parameters_in j f).known ts its params.known;
        count = params.count;
        may = kept-first f.span 10 may (rule 14 (leb (length f.params) 8) ∷ form) own;
        main = kept-first f.span 19 (main_form f (Some r)) last after_count;
      }

  -- where no rule is broken, and what its name means is there
  pub head-fine : (head_judged names j f).faults ≡ [] → TextsIn s 0 (head_judged names j f).texts →
      ((sig : Signature) → signature_of (result_type f j.env).known (parameters_in j f).known ≡ Some sig →
      (is_void sig.result || is_scalar sig.result) ≡ true →
      MeansIn s (means.Function (function_callee names f.name) (Some sig))) →
      HeadFine s names j f (result_type f j.env).known (parameters_in j f).known
  head-fine kept texts mean = by_known _ _ refl refl kept texts mean
