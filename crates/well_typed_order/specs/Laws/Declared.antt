-- Which locals a part of a function declares, by the numbers in its typed tree.
use Rattle.std.proofs.Common.{◌≡◌, refl, sym, subst, ℕ, List, [], ◌∷◌, ◌++◌, map, Option, Some, None}
use Rattle.std.specs.List.{Contains}
use Rattle.std.proofs.lemmas.Option.{same_Some}
use Rattle.c_ast.specs.declared.declaration.Decl.{Decl}
use Rattle.c_type_expr.specs.declared.scopes.Binding.{Binding}
use Rattle.c_type_expr.specs.declared.scopes.Meaning.{Meaning}
use Rattle.c_type_expr.specs.declared.scopes.Meaning.TheVariants as means
use Rattle.c_type_expr.specs.declared.scopes.Place.TheVariants as place
use Rattle.c_type_expr.specs.Environment.{Env}
use Rattle.c_type_expr.specs.Outcomes.{Judged, behind, sure, pair, both, listed, each, continued, on}
use Rattle.c_type_stmt.specs.Declarations.{local}
use Rattle.block_meaning.specs.ExpressionsInOrder.{Scope}
use Rattle.block_meaning.specs.Statements.{local_of}
use Rattle.well_typed_order.specs.Standing.{Silent, Names}
use Rattle.well_typed_order.specs.Laws.Locals.{local-named}
use Rattle.well_typed_order.specs.Laws.Parts.{no-names, names-both}
use Rattle.well_typed_order.specs.Laws.Scopes.{HeldIn, contains-front, contains-back}

-- the names that it adds are those of locals with these numbers, where it is known
abbrev pub Declares : {A : Type 0} → (A → List ℕ) → Judged A → Type 0
Declares D p = (env : Env) (v : _) → (p env).known ≡ Some v → Names (HeldIn (D v)) (p env).names

held_more : (ks ls : List ℕ) → ((k : ℕ) → Contains ks k → Contains ls k) → (m : Meaning) → HeldIn ks m → HeldIn ls m
held_more ks ls more (means.Object (place.Local k) t) held = more k held
held_more ks ls more (means.Object (place.Global k) t) held = held
held_more ks ls more (means.Object (place.Extern k) t) held = held
held_more ks ls more (means.Function f sig) held = held
held_more ks ls more means.Eof held = held

pub names-more : (ks ls : List ℕ) → ((k : ℕ) → Contains ks k → Contains ls k) → (names : List Binding) → Names (HeldIn ks) names →
    Names (HeldIn ls) names
names-more ks ls more [] all = tt
names-more ks ls more (b ∷ names) all = (held_more ks ls more b.means all.0, names-more ks ls more names all.1)

-- ---- several parts in a row

listed_named : {A : Type 0} (D : A → List ℕ) (D' : List A → List ℕ) → ((x : A) (xs : List A) → D' (x ∷ xs) ≡ D x ++ D' xs) →
    (a : Option A) (b : Option (List A)) (names more : List Binding) (v : List A) → listed a b ≡ Some v →
    ((x : A) → a ≡ Some x → Names (HeldIn (D x)) names) → ((xs : List A) → b ≡ Some xs → Names (HeldIn (D' xs)) more) →
    Names (HeldIn (D' v)) (more ++ names)
listed_named D D' same None b names more v is first rest = absurd cc
listed_named D D' same (Some x) None names more v is first rest = absurd cc
listed_named D D' same (Some x) (Some xs) names more v is first rest =
    subst (λ v. Names (HeldIn (D' v)) (more ++ names)) (same_Some (x ∷ xs) v is)
    (subst (λ ks. Names (HeldIn ks) (more ++ names)) (sym (same x xs))
    (names-both (HeldIn (D x ++ D' xs)) more names
    (names-more (D' xs) (D x ++ D' xs) (λ k has. contains-back (D x) (D' xs) k has) more (rest xs refl))
    (names-more (D x) (D x ++ D' xs) (λ k has. contains-front (D x) (D' xs) k has) names (first x refl))))

pub declares-more : {A : Type 0} (D : A → List ℕ) (D' : List A → List ℕ) → ((x : A) (xs : List A) → D' (x ∷ xs) ≡ D x ++ D' xs) →
    (p : Judged A) (ps : List (Judged A)) → Declares D p → Declares D' (each ps) → Declares D' (each (p ∷ ps))
declares-more D D' same p ps first rest env v is =
    let a = p env in
    let b = each ps (behind a env) in
    listed_named D D' same a.known b.known a.names b.names v is (first env) (rest (behind a env))

-- ---- declarations

pub locals-declare : (s : Scope) (ds : List Decl) → Declares (map local_of) (each (map local ds))
locals-declare s [] env v is = tt
locals-declare s (d ∷ ds) env v is =
    declares-more (λ t. local_of t ∷ []) (map local_of) (λ x xs. refl) (local d) (map local ds) (local-named s d) (locals-declare s ds) env
    v is

-- ---- what follows

pair_named : {A B : Type 0} (D : A → List ℕ) (a : Option A) (b : Option B) (names : List Binding) (v : A × B) → pair a b ≡ Some v →
    ((x : A) → a ≡ Some x → Names (HeldIn (D x)) names) → Names (HeldIn (D v.0)) names
pair_named D None b names v is first = absurd cc
pair_named D (Some x) None names v is first = absurd cc
pair_named D (Some x) (Some y) names v is first =
    subst (λ (v : _ × _). Names (HeldIn (D v.0)) names) (same_Some (x, y) v is) (first x refl)

-- two parts, of which the first declares
pub declares-first : {A B : Type 0} (D : A → List ℕ) (p : Judged A) (q : Judged B) → Declares D p → Silent q →
    Declares (λ v. D v.0) (both p q)
declares-first D p q first silent env v is =
    let a = p env in
    let b = q (behind a env) in
    names-both (HeldIn (D v.0)) b.names a.names (no-names (HeldIn (D v.0)) b.names (silent (behind a env)))
    (pair_named D a.known b.known a.names v is (first env))

mapped_named : {A B : Type 0} (D : A → List ℕ) (D' : B → List ℕ) (f : A → B) → ((x : A) → D' (f x) ≡ D x) → (p : Judged A) → (env : Env) →
    (o : Option A) → (p env).known ≡ o → (v : B) → (continued (p env) o (λ x. sure (f x)) env).known ≡ Some v →
    ((x : A) → (p env).known ≡ Some x → Names (HeldIn (D x)) (p env).names) →
    Names (HeldIn (D' v)) (continued (p env) o (λ x. sure (f x)) env).names
mapped_named D D' f same p env None known v is first = absurd cc
mapped_named D D' f same p env (Some x) known v is first =
    subst (λ v. Names (HeldIn (D' v)) (p env).names) (same_Some (f x) v is)
    (subst (λ ks. Names (HeldIn ks) (p env).names) (sym (same x)) (first x known))

-- the same, put together
pub declares-map : {A B : Type 0} (D : A → List ℕ) (D' : B → List ℕ) (f : A → B) → ((x : A) → D' (f x) ≡ D x) → (p : Judged A) →
    Declares D p → Declares D' (on p (λ x. sure (f x)))
declares-map D D' f same p first env v is = mapped_named D D' f same p env (p env).known refl v is (first env)
