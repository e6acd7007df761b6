-- Declarations of a file that breaks no rule: they are those that its text mentions, and those of one name agree.
use Rattle.std.proofs.Common.{◌≡◌, refl, sym, ◌∙◌, ap, subst, ℕ, zero, suc, Bool, true, false, ◌&&◌, List, [], ◌∷◌, ◌++◌, map}
use Rattle.std.proofs.Common.{length, Option, Some, None}
use Rattle.std.specs.Prelude.{not, flat_map, leb, if◌then◌else◌}
use Rattle.std.specs.List.{list_all}
use Rattle.std.specs.Str.{bytes_eq}
use Rattle.std.proofs.lemmas.Option.{same_Some}
use Rattle.c_ast.specs.declared.declaration.Decl.{Decl}
use Rattle.c_ast.specs.declared.declaration.Storage.{Storage}
use Rattle.c_ast.specs.declared.declaration.StructDecl.{StructDecl}
use Rattle.c_ast.specs.declared.program.Function.{Function}
use Rattle.c_ast.specs.declared.program.External.{External}
use Rattle.c_ast.specs.declared.program.External.TheVariants as external
use Rattle.c_ast.specs.declared.statement.Stmt.{Stmt}
use Rattle.c_type_base.specs.Types.{same_type}
use Rattle.c_type_base.specs.declared.ty.Ty.{Ty}
use Rattle.c_type_expr.specs.declared.scopes.Signature.{Signature}
use Rattle.c_type_expr.specs.Environment.{tag_number}
use Rattle.c_type_expr.specs.Faults.{Rule, rule, broken}
use Rattle.c_type_expr.specs.Outcomes.{Outcome}
use Rattle.c_type_stmt.specs.Declarations.{declared_type, init_of, object_rules}
use Rattle.c_types.specs.declared.names.FileNames.{FileNames}
use Rattle.c_types.specs.declared.names.Mention.{Mention}
use Rattle.c_types.specs.declared.redeclared.Declared.{Declared}
use Rattle.c_types.specs.declared.redeclared.Kind.{Kind}
use Rattle.c_types.specs.declared.redeclared.Kind.TheVariants.{AnObject, AFunction}
use Rattle.c_types.specs.Files.{mentions, mentioned_object}
use Rattle.c_types.specs.Functions.{result_type, main_name, main_form, result_rules, head_rules, signature_of}
use Rattle.c_types.specs.Redeclarations.{same_types, same_signature, same_kind, equal, agree, agrees_with_library, may_stand}
use Rattle.c_types.specs.Units.{Judgement, with_outcome, with_tag, with_body, with_members, struct_judged, object_declared}
use Rattle.c_types.specs.Units.{object_judged, objects_judged, extern_rules, with_function, function_declared, parameters_in, head_judged}
use Rattle.c_types.specs.Units.{function_judged, part_judged, parts_judged}
use Rattle.well_typed_order.specs.Laws.Binary.{kept-first}
use Rattle.well_typed_order.specs.Laws.Good.{front, back}
use Rattle.well_typed_order.specs.Laws.Growth.{In, grows-objects, grows-body, grows-parts}
use Rattle.well_typed_order.specs.Laws.Heads.{with_parameters}
use Rattle.well_typed_order.specs.Laws.Objects.{object_named, object_begun}
use Rattle.c_type_base.specs.Laws.SameLaws.{one-type}
use Rattle.well_typed_order.specs.Laws.Types.{and_first, and_second}

-- ---- what the text mentions

abbrev pub is_function : Kind → Bool
is_function (AnObject t) = false
is_function (AFunction sig) = true

abbrev pub mention_of : Declared → Mention
mention_of d = record { name = d.name; function = is_function d.kind; defines = d.defined }

-- onto a list, the last first
abbrev pub onto : {A : Type 0} → List A → List A → List A
onto [] ys = ys
onto (x ∷ xs) ys = onto xs (x ∷ ys)

onto_both : {A : Type 0} (xs more ys : List A) → onto (xs ++ more) ys ≡ onto more (onto xs ys)
onto_both [] more ys = refl
onto_both (x ∷ xs) more ys = onto_both xs more (x ∷ ys)

tag_mentions : (j : Judgement) (tag : List ℕ) (o : Option ℕ) → (with_tag j tag o).declared ≡ j.declared
tag_mentions j tag None = refl
tag_mentions j tag (Some n) = refl

body_mentions : (j : Judgement) (d : StructDecl) (o : Option ℕ) (ds : List Decl) → (with_body j d o ds).declared ≡ j.declared
body_mentions j d None ds = refl
body_mentions j d (Some n) ds = refl

members_mentions : (j : Judgement) (d : StructDecl) (ds : Option (List Decl)) → (with_members j d ds).declared ≡ j.declared
members_mentions j d None = refl
members_mentions j d (Some ds) = body_mentions j d (tag_number j.env.structs d.name) ds

struct_mentions : (j : Judgement) (d : StructDecl) → (struct_judged j d).declared ≡ j.declared
struct_mentions j d =
    let o = tag_number j.env.structs d.name in members_mentions (with_tag j d.name o) d d.members ∙ tag_mentions j d.name o

objects_mentions : (names : FileNames) (c : Storage) (j : Judgement) (ds : List Decl) →
    map mention_of (objects_judged names c j ds).declared ≡ onto (map (mentioned_object c) ds) (map mention_of j.declared)
objects_mentions names c j [] = refl
objects_mentions names c j (d ∷ ds) = objects_mentions names c (object_judged names c j d) ds

body_declared : (j : Judgement) (f : Function) (r : Option Ty) (params : Outcome (List Ty)) (s : Option Stmt) →
    (with_function j f r params s).declared ≡ j.declared
body_declared j f r params None = refl
body_declared j f r params (Some s) = refl

part_mentions : (names : FileNames) (j : Judgement) (e : External) →
    map mention_of (part_judged names j e).declared ≡ onto (mentions e) (map mention_of j.declared)
part_mentions names j external.Include = refl
part_mentions names j (external.Struct d) = ap (map mention_of) (struct_mentions j d)
part_mentions names j (external.Objects c ds) = objects_mentions names c j ds
part_mentions names j (external.Function f) =
    ap (map mention_of) (body_declared (head_judged names j f) f (result_type f j.env).known (parameters_in j f) f.body)

-- the declarations are those that the text mentions
pub parts-mentions : (names : FileNames) (j : Judgement) (es : List External) →
    map mention_of (parts_judged names j es).declared ≡ onto (flat_map mentions es) (map mention_of j.declared)
parts-mentions names j [] = refl
parts-mentions names j (e ∷ es) =
    parts-mentions names (part_judged names j e) es ∙ ap (onto (flat_map mentions es)) (part_mentions names j e)
    ∙ sym (onto_both (mentions e) (flat_map mentions es) (map mention_of j.declared))

-- ---- they agree

-- each with those before it
abbrev pub Chain : FileNames → List Declared → Type 0
Chain names [] = Unit {0}
Chain names (d ∷ ds) = (may_stand names ds d ≡ true) × Chain names ds

object_chain : (names : FileNames) (c : Storage) (j : Judgement) (d : Decl) → (object_judged names c j d).faults ≡ [] →
    Chain names j.declared → Chain names (object_judged names c j d).declared
object_chain names c j d kept chain =
    let o = (declared_type d j.env).known in
    let named = object_named names j d o in
    let read = with_outcome named (object_begun names j d o) in
    let may = may_stand names j.declared (object_declared c d o) in
    let rest = rule 19 (not (bytes_eq d.name main_name)) ∷ object_rules j.env.structs o in (
      kept-first d.span 10 may rest (back (extern_rules c (init_of d)) (broken d.span (rule 10 may ∷ rest))
          (back read.faults (extern_rules c (init_of d) ++ broken d.span (rule 10 may ∷ rest)) kept)),
      chain,
    )

objects_chain : (names : FileNames) (c : Storage) (j : Judgement) (ds : List Decl) → (objects_judged names c j ds).faults ≡ [] →
    Chain names j.declared → Chain names (objects_judged names c j ds).declared
objects_chain names c j [] kept chain = chain
objects_chain names c j (d ∷ ds) kept chain =
    let next = object_judged names c j d in
    objects_chain names c next ds kept (object_chain names c j d ((grows-objects names c next ds).kept kept) chain)

abbrev pub head_form : FileNames → Judgement → Function → List Rule
head_form names j f = head_rules f (may_stand names j.declared
    (function_declared f (signature_of (result_type f j.env).known (parameters_in j f).known))) (result_type f j.env).known

first_rule : (span : _) (n : ℕ) (b : Bool) (rs : List Rule) → broken span (rule n b ∷ rs) ≡ [] → b ≡ true
first_rule span n b rs is = kept-first span n b rs is

head_chain : (names : FileNames) (j : Judgement) (f : Function) → (head_judged names j f).faults ≡ [] → Chain names j.declared →
    Chain names (head_judged names j f).declared
head_chain names j f kept chain =
    let w = with_parameters j f in
    let r = (result_type f j.env).known in
    let may = may_stand names j.declared
    (function_declared f (signature_of (result_type f j.env).known (parameters_in j f).known)) in (
      first_rule f.span 10 may (rule 14 (leb (length f.params) 8) ∷ rule 19 (main_form f r) ∷ result_rules r) (back w.faults (broken
          f.span (head_form names j f))
          (front (w.faults ++ broken f.span (head_form names j f)) [] kept)),
      chain,
    )

function_chain : (names : FileNames) (j : Judgement) (f : Function) → (function_judged names j f).faults ≡ [] →
    Chain names j.declared → Chain names (function_judged names j f).declared
function_chain names j f kept chain =
    let head = head_judged names j f in
    let r = (result_type f j.env).known in
    subst (Chain names) (sym (body_declared head f r (parameters_in j f) f.body))
    (head_chain names j f ((grows-body head f r (parameters_in j f) f.body).kept kept) chain)

part_chain : (names : FileNames) (j : Judgement) (e : External) → (part_judged names j e).faults ≡ [] → Chain names j.declared →
    Chain names (part_judged names j e).declared
part_chain names j external.Include kept chain = chain
part_chain names j (external.Struct d) kept chain = subst (Chain names) (sym (struct_mentions j d)) chain
part_chain names j (external.Objects c ds) kept chain = objects_chain names c j ds kept chain
part_chain names j (external.Function f) kept chain = function_chain names j f kept chain

pub parts-chain : (names : FileNames) (j : Judgement) (es : List External) → (parts_judged names j es).faults ≡ [] →
    Chain names j.declared → Chain names (parts_judged names j es).declared
parts-chain names j [] kept chain = chain
parts-chain names j (e ∷ es) kept chain =
    let next = part_judged names j e in
    parts-chain names next es kept (part_chain names j e ((grows-parts names next es).kept kept) chain)

-- ---- declarations of one name

-- they are of one kind, and of one type where that is known
abbrev pub OneKind : Kind → Kind → Type 0
OneKind (AnObject (Some s)) (AnObject (Some t)) = s ≡ t
OneKind (AnObject _) (AnObject _) = Unit {0}
OneKind (AFunction (Some f)) (AFunction (Some g)) = f ≡ g
OneKind (AFunction _) (AFunction _) = Unit {0}
OneKind _ _ = ⊥

one_types : (ss ts : List Ty) → same_types ss ts ≡ true → ss ≡ ts
one_types [] [] is = refl
one_types [] (t ∷ ts) is = absurd cc
one_types (s ∷ ss) [] is = absurd cc
one_types (s ∷ ss) (t ∷ ts) is =
    ap (λ s. s ∷ ss) (one-type s t (and_first (same_type s t) (same_types ss ts) is))
    ∙ ap (λ ss. t ∷ ss) (one_types ss ts (and_second (same_type s t) (same_types ss ts) is))

pub one-signature : (f g : Signature) → same_signature f g ≡ true → f ≡ g
one-signature f g is =
    ap (λ (t : Ty). record { result = t; params = f.params })
    (one-type f.result g.result (and_first (same_type f.result g.result) (same_types f.params g.params) is))
    ∙ ap (λ (ts : List Ty). record { result = g.result; params = ts })
    (one_types f.params g.params (and_second (same_type f.result g.result) (same_types f.params g.params) is))

pub one-kind : (k l : Kind) → same_kind k l ≡ true → OneKind k l
one-kind (AnObject None) (AnObject None) is = tt
one-kind (AnObject None) (AnObject (Some t)) is = tt
one-kind (AnObject (Some s)) (AnObject None) is = tt
one-kind (AnObject (Some s)) (AnObject (Some t)) is = one-type s t is
one-kind (AFunction None) (AFunction None) is = tt
one-kind (AFunction None) (AFunction (Some g)) is = tt
one-kind (AFunction (Some f)) (AFunction None) is = tt
one-kind (AFunction (Some f)) (AFunction (Some g)) is = one-signature f g is
one-kind (AnObject None) (AFunction sig) is = absurd cc
one-kind (AnObject (Some t)) (AFunction sig) is = absurd cc
one-kind (AFunction None) (AnObject t) is = absurd cc
one-kind (AFunction (Some f)) (AnObject t) is = absurd cc

turned : (k l : Kind) → OneKind k l → OneKind l k
turned (AnObject None) (AnObject None) is = tt
turned (AnObject None) (AnObject (Some t)) is = tt
turned (AnObject (Some s)) (AnObject None) is = tt
turned (AnObject (Some s)) (AnObject (Some t)) is = sym is
turned (AFunction None) (AFunction None) is = tt
turned (AFunction None) (AFunction (Some g)) is = tt
turned (AFunction (Some f)) (AFunction None) is = tt
turned (AFunction (Some f)) (AFunction (Some g)) is = sym is
turned (AnObject None) (AFunction sig) is = absurd is
turned (AnObject (Some t)) (AFunction sig) is = absurd is
turned (AFunction None) (AnObject t) is = absurd is
turned (AFunction (Some f)) (AnObject t) is = absurd is

itself : (k : Kind) → OneKind k k
itself (AnObject None) = tt
itself (AnObject (Some t)) = refl
itself (AFunction None) = tt
itself (AFunction (Some f)) = refl

all_agree : (d : Declared) (ds : List Declared) → list_all (λ e. (if bytes_eq e.name d.name then agree d e else true)) ds ≡ true →
    (e : Declared) → In ds e → bytes_eq e.name d.name ≡ true → OneKind d.kind e.kind
all_agree d [] all e (k, has) same = absurd cc
all_agree d (x ∷ ds) all e (zero, has) same =
    let eq : x ≡ e = same_Some x e has in
    let here : bytes_eq x.name d.name ≡ true = ap (λ (x : Declared). bytes_eq x.name d.name) eq ∙ same in
    let agrees : agree d x ≡ true = if_true (bytes_eq x.name d.name) (agree d x) here
    (and_first (if bytes_eq x.name d.name then agree d x else true) _ all) in
    subst (λ (e : Declared). OneKind d.kind e.kind) eq
    (one-kind d.kind x.kind (first_of_three (same_kind d.kind x.kind) (equal d.local x.local) (not (d.defined && x.defined)) agrees))
  where
    if_true : (b a : Bool) → b ≡ true → (if b then a else true) ≡ true → a ≡ true
    if_true true a is its = its
    if_true false a is its = absurd cc

    first_of_three : (a b c : Bool) → (a && b && c) ≡ true → a ≡ true
    first_of_three true b c is = refl
    first_of_three false b c is = absurd cc
all_agree d (x ∷ ds) all e (suc k, has) same =
    all_agree d ds (and_second (if bytes_eq x.name d.name then agree d x else true) _ all) e (k, has) same

-- two declarations of one name are of one kind
pub chain-kind : (names : FileNames) (ds : List Declared) → Chain names ds → (d e : Declared) → In ds d → In ds e →
    bytes_eq d.name e.name ≡ true → bytes_eq e.name d.name ≡ true → OneKind d.kind e.kind
chain-kind names [] chain d e (k, has) of_e same back = absurd cc
chain-kind names (x ∷ ds) chain d e (zero, has) (zero, has_e) same back =
    let one : d ≡ e = same_Some d e (sym has ∙ has_e) in subst (λ (e : Declared). OneKind d.kind e.kind) one (itself d.kind)
chain-kind names (x ∷ ds) chain d e (zero, has) (suc l, has_e) same back =
    let eq : x ≡ d = same_Some x d has in
    subst (λ (x : Declared). bytes_eq e.name x.name ≡ true → OneKind x.kind e.kind) eq
    (all_agree x ds (and_second (agrees_with_library names x) _ chain.0) e (l, has_e)) back
chain-kind names (x ∷ ds) chain d e (suc k, has) (zero, has_e) same back =
    let eq : x ≡ e = same_Some x e has_e in
    turned e.kind d.kind (subst (λ (x : Declared). bytes_eq d.name x.name ≡ true → OneKind x.kind d.kind) eq
    (all_agree x ds (and_second (agrees_with_library names x) _ chain.0) d (k, has)) same)
chain-kind names (x ∷ ds) chain d e (suc k, has) (suc l, has_e) same back =
    chain-kind names ds chain.1 d e (k, has) (l, has_e) same back

-- and each agrees with the include line
pub chain-library : (names : FileNames) (ds : List Declared) → Chain names ds → (d : Declared) → In ds d →
    agrees_with_library names d ≡ true
chain-library names [] chain d (k, has) = absurd cc
chain-library names (x ∷ ds) chain d (zero, has) =
    subst (λ x. agrees_with_library names x ≡ true) (same_Some x d has) (and_first (agrees_with_library names x) _ chain.0)
chain-library names (x ∷ ds) chain d (suc k, has) = chain-library names ds chain.1 d (k, has)
