-- Where the walk over a file stands behind a function.
use Rattle.std.proofs.Common.{◌≡◌, sym, ◌∙◌, ap, subst, Bool, List, [], ◌∷◌, ◌++◌, Option, Some, None}
use Rattle.c_ast.specs.declared.program.Function.{Function}
use Rattle.c_ast.specs.declared.statement.Stmt.{Stmt}
use Rattle.c_type_base.specs.declared.ty.Ty.{Ty}
use Rattle.c_type_base.specs.declared.typed.TFunction.{TFunction}
use Rattle.c_type_base.specs.Types.{is_there}
use Rattle.c_type_expr.specs.declared.scopes.Meaning.TheVariants as means
use Rattle.c_type_expr.specs.declared.scopes.Signature.{Signature}
use Rattle.c_type_expr.specs.declared.walk.Walk.{Walk}
use Rattle.c_type_expr.specs.Environment.{binds}
use Rattle.c_type_expr.specs.Faults.{broken}
use Rattle.c_type_expr.specs.Walked.{blamed}
use Rattle.c_type_stmt.specs.Statements.{statement}
use Rattle.c_types.specs.declared.file_walk.FileWalk.{FileWalk}
use Rattle.c_types.specs.declared.functions.Body.{Body}
use Rattle.c_types.specs.declared.redeclared.Redeclared.{Redeclared}
use Rattle.c_types.specs.Files.{FileNames, function_callee}
use Rattle.c_types.specs.Functions.{parameters, signature_of, head_rules, result_type}
use Rattle.c_types.specs.Inside.{outside_of, named_around, Inside, Entered, Headed, env_inside, Bodied}
use Rattle.c_types.specs.Recalled.{Recalls}
use Rattle.c_types.specs.Redeclarations.{Declared, may_stand}
use Rattle.c_types.specs.Standing.{Stands, FileStands, Passed}
use Rattle.c_types.specs.Units.{Judgement, with_outcome, with_faults, with_names, function_declared, function_of, parameters_in}
use Rattle.c_types.specs.Units.{head_judged, with_function, function_judged}
use Rattle.c_types.proofs.InsideLaws.{inside_faults, inside_named, inside_declared}

-- ---- the head

pub signature_same : (f : Function) (j : Judgement) (w1 w2 : Walk) (result : Option Ty) (params : Option (List Ty))
    (s : Option Signature) →
    Passed (result_type f) j w1 result →
    Entered (parameters (is_there f.body) f.params) (with_outcome j (result_type f j.env)) w2 params → s ≡ signature_of result params →
    s ≡ signature_of (result_type f j.env).known (parameters_in j f).known
signature_same f j w1 w2 result params s passed entered is =
    is ∙ (λ i. signature_of (passed.known_is i) (entered.known_is i))

pub head_inside : (names : FileNames) (f : Function) (j : Judgement) (w1 w2 w3 w4 : Walk) (result : Option Ty) (params : Option (List Ty))
    (s : Option Signature) (agrees : Bool) → Passed (result_type f) j w1 result →
    Entered (parameters (is_there f.body) f.params) (with_outcome j (result_type f j.env)) w2 params → s ≡ signature_of result params →
    agrees ≡ may_stand names j.declared (function_declared f s) → w3 ≡ blamed w2 (broken f.span (head_rules f agrees result)) →
    w4 ≡ record w3 { scopes = named_around w3.scopes (binds f.name (means.Function (function_callee names f.name) s)) } →
    Inside w4 (head_judged names j f) (parameters_in j f)
head_inside names f j w1 w2 w3 w4 result params s agrees passed entered made agrees_is asked named =
    let r = result_type f j.env in
    let ps = parameters_in j f in
    let all = signature_of r.known ps.known in
    let same : s ≡ all = signature_same f j w1 w2 result params s passed entered made in
    let stands : agrees ≡ may_stand names j.declared (function_declared f all) =
    agrees_is ∙ ap (λ (x : Option Signature). may_stand names j.declared (function_declared f x)) same in
    let rules = head_rules f (may_stand names j.declared (function_declared f all)) r.known in
    let read = with_outcome (with_outcome j r) (record ps { names = [] }) in
    let b = binds f.name (means.Function (function_callee names f.name) all) in
    let blames : Inside w3 (with_faults read (broken f.span rules)) ps =
    inside_faults (broken f.span rules) w2 w3 read ps entered.inside
    (asked ∙ (λ i. blamed w2 (broken f.span (head_rules f (stands i) (passed.known_is i))))) in
    let binding : Inside w4 (with_names (with_faults read (broken f.span rules)) (b ∷ [])) ps =
    inside_named b w3 w4 (with_faults read (broken f.span rules)) ps blames
    (named ∙ ap (λ (x : Option Signature). record w3 {
      scopes = named_around w3.scopes (binds f.name (means.Function (function_callee names f.name) x));
    }) same) in
    inside_declared w4 (with_names (with_faults read (broken f.span rules)) (b ∷ [])) (function_declared f all ∷ j.declared) ps binding

pub head_recalls : (names : FileNames) (f : Function) (j : Judgement) (w1 w2 : Walk) (result : Option Ty) (params : Option (List Ty))
    (s : Option Signature) (this : Declared) (r : Redeclared) → Passed (result_type f) j w1 result →
    Entered (parameters (is_there f.body) f.params) (with_outcome j (result_type f j.env)) w2 params → s ≡ signature_of result params →
    this ≡ function_declared f s → Recalls r (this ∷ j.declared) → Recalls r (head_judged names j f).declared
head_recalls names f j w1 w2 result params s this r passed entered made is recalls =
    subst (λ (d : Declared). Recalls r (d ∷ j.declared))
    (is ∙ ap (function_declared f) (signature_same f j w1 w2 result params s passed entered made)) recalls

-- ---- the whole

-- without a body
pub function_declares : (names : FileNames) (f : Function) (j : Judgement) (files : FileWalk) (result : Option Ty) (w : Walk) →
    Headed names f j files result → w ≡ outside_of files.walk → f.body ≡ None →
    FileStands (record files { walk = w }) (function_judged names j f)
function_declares names f j files result w headed leaves none =
    let r = (result_type f j.env).known in
    let here : FileStands (record files { walk = w }) (head_judged names j f) =
    record {
      walk_stands = subst (λ (x : Walk). Stands x (head_judged names j f)) (sym leaves) headed.inside.outside;
      recalls = headed.recalls;
      globals_are = headed.globals_are;
      functions_are = headed.functions_are;
    } in
    subst (λ (b : Option Stmt). FileStands (record files { walk = w }) (with_function (head_judged names j f) f r (parameters_in j f) b))
    (sym none) here

-- with one
pub function_defines : (names : FileNames) (f : Function) (j : Judgement) (files : FileWalk) (result : Option Ty) (w : Walk) (s : Stmt)
    (b : Body) (fs : List TFunction) → Headed names f j files result →
    Bodied s (head_judged names j f) (parameters_in j f) w b → b.result ≡ result → f.body ≡ Some s →
    fs ≡ files.functions ++ function_of f b.result b.locals b.tree →
    FileStands (record files { walk = w; functions = fs }) (function_judged names j f)
function_defines names f j files result w s b fs headed bodied same some made =
    let r = (result_type f j.env).known in
    let h = head_judged names j f in
    let ps = parameters_in j f in
    let is : b.result ≡ r = same ∙ headed.result_is in
    let o = (statement s).body (env_inside h ps r) in
    let locals : b.locals ≡ ps.locals ++ o.locals =
    bodied.locals_are ∙ ap (λ (x : Option Ty). ps.locals ++ ((statement s).body (env_inside h ps x)).locals) is in
    let tree : b.tree ≡ o.known = bodied.tree_is ∙ ap (λ (x : Option Ty). ((statement s).body (env_inside h ps x)).known) is in
    let standing : Stands w (with_outcome h (record o { names = [] })) =
    subst (λ (x : Option Ty). Stands w (with_outcome h (record ((statement s).body (env_inside h ps x)) { names = [] })))
    is bodied.stands in
    let here : FileStands (record files { walk = w; functions = fs }) (with_function h f r ps (Some s)) =
    record {
      walk_stands = record {
        env_is = standing.env_is;
        texts_are = standing.texts_are;
        locals_are = standing.locals_are;
        first_is = standing.first_is;
      };
      recalls = headed.recalls;
      globals_are = headed.globals_are;
      functions_are = made ∙ (λ i. headed.functions_are i ++ function_of f (is i) (locals i) (tree i));
    } in
    subst (λ (x : Option Stmt). FileStands (record files { walk = w; functions = fs }) (with_function h f r ps x)) (sym some) here
