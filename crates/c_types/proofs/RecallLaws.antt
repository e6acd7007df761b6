-- What is kept of the declarations of a name decides the next one, and tells what another file defines.
use Rattle.std.proofs.Common.{◌≡◌, refl, sym, ◌∙◌, ap, subst, ℕ, suc, ◌+◌, ◌<◌, Bool, true, false, not, ◌&&◌, ◌||◌, cond, List, [], ◌∷◌}
use Rattle.std.proofs.Common.{flat_map, length, drop, get_or, ◌++◌}
use Rattle.std.proofs.Common.{Option, Some, None}
use Rattle.std.specs.Prelude.{if◌then◌else◌}
use Rattle.std.specs.List.{list_all, find}
use Rattle.std.specs.Str.{bytes_eq}
use Rattle.std.specs.Cmp.Lexicographic.{nat_list_eq_equiv}
use Rattle.std.specs.HashMap.{HashMap, get_by, UpdatesBy}
use Rattle.std.specs.Map.{lookup, IsKeyTest, AreApart, KeepsOthers}
use Rattle.std.proofs.lemmas.List.{drop_more, append-nil}
use Rattle.std.proofs.lemmas.Slice.Eq.{bytes_eq-Decides}
use Rattle.c_type_base.specs.declared.ty.Ty.{Ty}
use Rattle.c_type_base.specs.Types.{same_type}
use Rattle.c_type_base.specs.declared.typed.ExternInfo.{ExternInfo}
use Rattle.c_types.specs.declared.redeclared.Earlier.{Earlier}
use Rattle.c_types.specs.declared.redeclared.Redeclared.{Redeclared}
use Rattle.c_types.specs.Ordered.{option_list, extern_of, externs_by}
use Rattle.c_types.specs.Recalled.{nothing, or_nothing, differs, with_kind, with_declared, kept, recalled, Recalls, fits_type, fits_kind}
use Rattle.c_types.specs.Recalled.{fits, told_of}
use Rattle.c_types.specs.Redeclarations.{Kind, AnObject, AFunction, Declared, same_types, same_signature, same_kind, equal, agree}
use Rattle.c_types.specs.Redeclarations.{may_stand, agrees_with_library}
use Rattle.c_types.specs.Files.{FileNames}
use Rattle.c_type_base.specs.Laws.SameLaws.{one-type}
use Rattle.c_types.proofs.SameLaws.{signature_is}

abbrev Name : Type 0
Name = List ℕ

-- ---- one declaration more

and_false : (b : Bool) → (b && false) ≡ false
and_false true = refl
and_false false = refl

and_true : (b : Bool) → (b && true) ≡ b
and_true true = refl
and_true false = refl

-- the two outer ones change places
and_front : (a b c : Bool) → (a && (b && c)) ≡ (b && (a && c))
and_front true b c = refl
and_front false true c = refl
and_front false false c = refl

and_pairs : (a b c d : Bool) → ((a && b) && (c && d)) ≡ ((a && c) && (b && d))
and_pairs true true c d = refl
and_pairs true false c d = sym (and_false (true && c))
and_pairs false b c d = refl

type_step : {A : Type 0} (same : A → A → Bool) → ((s t : A) → same s t ≡ true → s ≡ t) → (mixed : Bool) (old : Option A) (d x : A) →
    (same d x && fits_type mixed same (Some d) old) ≡ fits_type (mixed || differs same x old) same (Some d) (Some x)
type_step {A} same alike mixed old d x = chosen (same d x) refl
  where
    joined : (mixed : Bool) (b : Bool) → (not mixed && not b) ≡ (not (mixed || b) && true)
    joined true b = refl
    joined false true = refl
    joined false false = refl

    chosen : (b : Bool) → same d x ≡ b → (b && (not mixed && not (differs same d old))) ≡ (not (mixed || differs same x old) && not (not b))
    chosen true is = ap (λ (y : A). not mixed && not (differs same y old)) (alike d x is) ∙ joined mixed (differs same x old)
    chosen false is = sym (and_false (not (mixed || differs same x old)))

kind_step : (e : Earlier) (d x : Kind) → (same_kind d x && fits_kind e d) ≡ fits_kind (with_kind e x) d
kind_step e (AnObject None) (AnObject None) = refl
kind_step e (AnObject None) (AnObject (Some s)) = refl
kind_step e (AnObject None) (AFunction None) = refl
kind_step e (AnObject None) (AFunction (Some s)) = refl
kind_step e (AnObject (Some t)) (AnObject None) = refl
kind_step e (AnObject (Some t)) (AnObject (Some s)) =
    and_front (same_type t s) (not e.functions) (fits_type e.mixed same_type (Some t) e.object)
    ∙ ap (λ b. not e.functions && b) (type_step same_type one-type e.mixed e.object t s)
kind_step e (AnObject (Some t)) (AFunction None) = refl
kind_step e (AnObject (Some t)) (AFunction (Some s)) = refl
kind_step e (AFunction None) (AnObject None) = refl
kind_step e (AFunction None) (AnObject (Some s)) = refl
kind_step e (AFunction None) (AFunction None) = refl
kind_step e (AFunction None) (AFunction (Some s)) = refl
kind_step e (AFunction (Some f)) (AnObject None) = refl
kind_step e (AFunction (Some f)) (AnObject (Some s)) = refl
kind_step e (AFunction (Some f)) (AFunction None) = refl
kind_step e (AFunction (Some f)) (AFunction (Some g)) =
    and_front (same_signature f g) (not e.objects) (fits_type e.mixed same_signature (Some f) e.signature)
    ∙ ap (λ b. not e.objects && b) (type_step same_signature signature_is e.mixed e.signature f g)

local_step : (d x shared local : Bool) → (equal d x && (if d then not shared else not local)) ≡
    (if d then not (shared || not x) else not (local || x))
local_step true true true local = refl
local_step true true false local = refl
local_step true false true local = refl
local_step true false false local = refl
local_step false true shared true = refl
local_step false true shared false = refl
local_step false false shared true = refl
local_step false false shared false = refl

defined_step : (d x e : Bool) → (not (d && x) && not (d && e)) ≡ not (d && (e || x))
defined_step true true true = refl
defined_step true true false = refl
defined_step true false true = refl
defined_step true false false = refl
defined_step false x e = refl

step : (e : Earlier) (d x : Declared) → (agree d x && fits e d) ≡ fits (with_declared e x) d
step e d x =
    let local = if d.local then not e.shared else not e.local in
    and_pairs (same_kind d.kind x.kind && equal d.local x.local) (not (d.defined && x.defined)) (fits_kind e d.kind && local)
    (not (d.defined && e.defined))
    ∙ ap (λ b. b && (not (d.defined && x.defined) && not (d.defined && e.defined)))
    (and_pairs (same_kind d.kind x.kind) (equal d.local x.local) (fits_kind e d.kind) local)
    ∙ (λ i. (kind_step e d.kind x.kind i && local_step d.local x.local e.shared e.local i) && defined_step d.defined x.defined e.defined i)

nothing_before : (d : Declared) → fits nothing d ≡ true
nothing_before d = chosen d.kind d.local d.defined
  where
    chosen : (k : Kind) (l f : Bool) → ((fits_kind nothing k && (if l then true else true)) && not (f && false)) ≡ true
    chosen (AnObject None) true true = refl
    chosen (AnObject None) true false = refl
    chosen (AnObject None) false true = refl
    chosen (AnObject None) false false = refl
    chosen (AnObject (Some t)) true true = refl
    chosen (AnObject (Some t)) true false = refl
    chosen (AnObject (Some t)) false true = refl
    chosen (AnObject (Some t)) false false = refl
    chosen (AFunction None) true true = refl
    chosen (AFunction None) true false = refl
    chosen (AFunction None) false true = refl
    chosen (AFunction None) false false = refl
    chosen (AFunction (Some t)) true true = refl
    chosen (AFunction (Some t)) true false = refl
    chosen (AFunction (Some t)) false true = refl
    chosen (AFunction (Some t)) false false = refl

-- what is kept decides whether a declaration agrees with all before
pub decided : (d : Declared) (ds : List Declared) →
    fits (kept d.name ds) d ≡ list_all (λ e. (if bytes_eq e.name d.name then agree d e else true)) ds
decided d [] = nothing_before d
decided d (x ∷ xs) = chosen (bytes_eq x.name d.name) (decided d xs)
  where
    all : List Declared → Bool
    all = list_all (λ e. (if bytes_eq e.name d.name then agree d e else true))

    chosen : (b : Bool) → fits (kept d.name xs) d ≡ list_all (λ e. (if bytes_eq e.name d.name then agree d e else true)) xs →
        fits (if b then with_declared (kept d.name xs) x else kept d.name xs) d ≡
        ((if b then agree d x else true) && list_all (λ e. (if bytes_eq e.name d.name then agree d e else true)) xs)
    chosen true before = sym (step (kept d.name xs) d x) ∙ ap (λ b. agree d x && b) before
    chosen false before = before

pub stands : (names : FileNames) (d : Declared) (r : Redeclared) (ds : List Declared) (b : Bool) →
    b ≡ (agrees_with_library names d && fits (recalled r d.name) d) → Recalls r ds → b ≡ may_stand names ds d
stands names d r ds b is recalls =
    is ∙ ap (λ e. agrees_with_library names d && fits e d) (recalls.all d.name) ∙ ap (λ c. agrees_with_library names d && c) (decided d ds)

-- ---- the table

other_name : {K X : Type 0} (eq : K → K → Bool) (test : K → Bool) (old new : List (K × X)) → KeepsOthers eq test old new →
    (other : K → Bool) → IsKeyTest eq other → AreApart test other → lookup other new ≡ lookup other old
unfolding KeepsOthers
other_name eq test old new is = is

updated : {K X S : Type 0} (key : K) (name_of : K → Name) (m n : HashMap K X S) (w : Option X) →
    UpdatesBy (λ x y. bytes_eq (name_of x) (name_of y)) (λ k. bytes_eq (name_of key) (name_of k)) m n w → (name : Name) →
    get_by (λ k. bytes_eq name (name_of k)) n ≡ cond (bytes_eq (name_of key) name) w (get_by (λ k. bytes_eq name (name_of k)) m)
updated {K} key name_of m n w is name = chosen (bytes_eq (name_of key) name) refl
  where
    chosen : (b : Bool) → bytes_eq (name_of key) name ≡ b →
        get_by (λ k. bytes_eq name (name_of k)) n ≡ cond b w (get_by (λ k. bytes_eq name (name_of k)) m)
    chosen true same =
        subst (λ (x : Name). get_by (λ k. bytes_eq x (name_of k)) n ≡ w) ((bytes_eq-Decides (name_of key) name).0 same) is.1
    chosen false apart =
        other_name (λ x y. bytes_eq (name_of x) (name_of y)) (λ k. bytes_eq (name_of key) (name_of k)) m.entries n.entries is.3
        (λ k. bytes_eq name (name_of k)) (λ x y. nat_list_eq_equiv.congr name (name_of x) (name_of y))
        (λ k same. nat_list_eq_equiv.symm name (name_of k) ∙ sym (nat_list_eq_equiv.congr (name_of key) (name_of k) name same) ∙ apart)

-- a table after what it had under a name is taken out, and put back with one declaration more
pub added : {K S : Type 0} (key : K) (name_of : K → Name) (m between n : HashMap K Earlier S) (d : Declared) (ds : List Declared)
    (new : Earlier) → name_of key ≡ d.name →
    new ≡ with_declared (or_nothing (get_by (λ k. bytes_eq (name_of key) (name_of k)) m)) d →
    UpdatesBy (λ x y. bytes_eq (name_of x) (name_of y)) (λ k. bytes_eq (name_of key) (name_of k)) m between None →
    UpdatesBy (λ x y. bytes_eq (name_of x) (name_of y)) (λ k. bytes_eq (name_of key) (name_of k)) between n
    (Some new) →
    ((name : Name) → or_nothing (get_by (λ k. bytes_eq name (name_of k)) m) ≡ kept name ds) → (name : Name) →
    or_nothing (get_by (λ k. bytes_eq name (name_of k)) n) ≡ kept name (d ∷ ds)
added key name_of m between n d ds new named new_is out put all name =
    ap or_nothing (updated key name_of between n (Some new) put name
    ∙ ap (cond (bytes_eq (name_of key) name) (Some new)) (updated key name_of m between None out name))
    ∙ ap (λ e. or_nothing (cond (bytes_eq (name_of key) name) (Some e) (cond (bytes_eq (name_of key) name) None
    (get_by (λ k. bytes_eq name (name_of k)) m)))) new_is
    ∙ chosen (bytes_eq (name_of key) name) refl
    ∙ ap (λ x. if bytes_eq x name then with_declared (kept name ds) d else kept name ds) named
  where
    chosen : (b : Bool) → bytes_eq (name_of key) name ≡ b →
        or_nothing (cond b (Some (with_declared (or_nothing (get_by (λ k. bytes_eq (name_of key) (name_of k)) m)) d))
        (cond b None (get_by (λ k. bytes_eq name (name_of k)) m))) ≡ (if b then with_declared (kept name ds) d else kept name ds)
    chosen true same =
        ap (λ x. with_declared (or_nothing (get_by (λ k. bytes_eq x (name_of k)) m)) d) ((bytes_eq-Decides (name_of key) name).0 same)
        ∙ ap (λ e. with_declared e d) (all name)
    chosen false other = all name

-- ---- what another file defines

latest : (name : Name) (e : Earlier) (d : Declared) → d.name ≡ name → option_list (told_of name (with_declared e d)) ≡ extern_of d
latest name e d named = chosen d.kind
  where
    chosen : (k : Kind) → option_list (told_of name (with_declared e (record d { kind = k }))) ≡ extern_of (record d { kind = k })
    chosen (AnObject None) = refl
    chosen (AnObject (Some t)) = ap (λ n. extern_of (record { name = n; kind = AnObject (Some t); local = d.local; defined = d.defined }))
        (sym named)
    chosen (AFunction None) = refl
    chosen (AFunction (Some s)) = ap (λ n. extern_of (record {
      name = n;
      kind = AFunction (Some s);
      local = d.local;
      defined =
          d.defined;
    })) (sym named)

abbrev first_named : Name → List Declared → List ExternInfo
first_named name ds = flat_map extern_of (option_list (find (λ d. bytes_eq d.name name) ds))

-- the latest declaration is the first
told_is : (name : Name) (ds : List Declared) → option_list (told_of name (kept name ds)) ≡ first_named name ds
told_is name [] = refl
told_is name (d ∷ ds) = chosen (bytes_eq d.name name) refl (told_is name ds)
  where
    alone : (l : List ExternInfo) → l ≡ l ++ []
    alone l = sym (append-nil l)

    chosen : (b : Bool) → bytes_eq d.name name ≡ b → option_list (told_of name (kept name ds)) ≡ first_named name ds →
        option_list (told_of name (if b then with_declared (kept name ds) d else kept name ds)) ≡
        flat_map extern_of (option_list (cond b (Some d) (find (λ d. bytes_eq d.name name) ds)))
    chosen true same rest = latest name (kept name ds) d ((bytes_eq-Decides d.name name).0 same) ∙ alone (extern_of d)
    chosen false other rest = rest

pub externs_are : (r : Redeclared) (ds : List Declared) → Recalls r ds → (names : List Name) →
    flat_map (λ n. option_list (told_of n (recalled r n))) names ≡ externs_by names ds
externs_are r ds recalls [] = refl
externs_are r ds recalls (n ∷ ns) =
    let here = ap (λ e. option_list (told_of n e)) (recalls.all n) ∙ told_is n ds in
    λ i. here i ++ externs_are r ds recalls ns i

-- ---- the loop over the parameters of two functions

pub same_types_more : (ss ts : List Ty) (i : ℕ) (s t : Ty) → i < length ss → i < length ts → s ≡ get_or ss i s → t ≡ get_or ts i t →
    same_types (drop i ss) (drop i ts) ≡ (same_type s t && same_types (drop (i + 1) ss) (drop (i + 1) ts))
same_types_more ss ts i s t within there s_is t_is =
    let front = drop_more ss i s within ∙ ap (λ x. x ∷ drop (i + 1) ss) (sym s_is) in
    let other = drop_more ts i t there ∙ ap (λ x. x ∷ drop (i + 1) ts) (sym t_is) in
    λ i. same_types (front i) (other i)

pub lengths_apart : (ss ts : List Ty) → (length ss ≡ length ts → ⊥) → false ≡ same_types ss ts
lengths_apart [] [] apart = absurd (apart refl)
lengths_apart [] (t ∷ ts) apart = refl
lengths_apart (s ∷ ss) [] apart = refl
lengths_apart (s ∷ ss) (t ∷ ts) apart =
    sym (ap (λ b. same_type s t && b) (sym (lengths_apart ss ts (λ is. apart (ap (λ n. suc n) is)))) ∙ and_false (same_type s t))
