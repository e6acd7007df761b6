-- Initialisers are walked part by part.
use Rattle.std.proofs.Common.{◌≡◌, refl, sym, ◌∙◌, ap, subst, ℕ, ◌+◌, ◌<◌, ◌≤◌, ◌-◌, arith, drop, drop-cons, length-drop, Bool, true}
use Rattle.std.proofs.Common.{false, ◌&&◌, List, [], ◌∷◌, ◌++◌, map, take, get_or, length, Option, Some, None, append_assoc, append-nil}
use Rattle.std.proofs.lemmas.List.{take_all}
use Rattle.c_ast.specs.declared.declaration.Init.{Init}
use Rattle.c_ast.specs.declared.declaration.Init.TheVariants as init
use Rattle.c_ast.specs.declared.expr.Expr.{Expr}
use Rattle.c_ast.specs.declared.token.Span.{Span}
use Rattle.c_type_stmt.specs.declared.fitted.Fitted.{Fitted}
use Rattle.c_type_stmt.specs.declared.initial.Slot.{Slot}
use Rattle.c_type_base.specs.declared.known.Known.{Known}
use Rattle.c_type_expr.specs.declared.walk.Walk.{Walk}
use Rattle.c_type_expr.specs.Outcomes.{option_map, Judged, sure, not_known, pair, both, listed, each, on, ruled}
use Rattle.c_type_expr.specs.Expressions.{expression}
use Rattle.c_type_expr.specs.Faults.{rule, fault, broken}
use Rattle.c_type_stmt.specs.Initials.{InitSaid, initialiser, loose_all, too_many, fit_all, moved_fitted}
use Rattle.c_type_base.specs.Known.{is_value}
use Rattle.c_type_stmt.specs.Laws.SaidLaws.{said-one, said-list}
use Rattle.c_type_stmt.specs.Slots.{Passes, loose_in, Spare}
use Rattle.c_type_expr.specs.Sorted.{with_known}
use Rattle.c_type_base.specs.Types.{is_there}
use Rattle.c_type_expr.specs.Walked.{env_of, blamed, passed_by, Walked}
use Rattle.c_type_expr.specs.Laws.EachLaws.{as_known, walked_next}
use Rattle.c_type_expr.specs.Laws.NodeLaws.{walked_as, on_none, on_some}
use Rattle.c_type_stmt.specs.Laws.PartLaws.{walked_made}
use Rattle.c_type_expr.specs.Laws.WalkedLaws.{walked_sure, walked_both, walked_each, walked_on, walked_on_none, walked_ruled}
use Rattle.c_type_expr.specs.Laws.WalkedLaws.{first_with-append}

-- ---- whether a construct is known

pub passes_of : {A : Type 0} (p : Judged A) (w w' : Walk) (k : Option A) (b : Bool) → Walked p w w' k → b ≡ is_there k → Passes p w w' b
passes_of p w w' k b walked is = record { after_is = walked.after_is; known_is = is ∙ ap is_there walked.known_is }

pub walked_of : {A : Type 0} (p : Judged A) (w w' : Walk) (b : Bool) → Passes p w w' b → Walked p w w' (p (env_of w)).known
walked_of p w w' b passed = record { after_is = passed.after_is; known_is = refl }

passes_as : {A : Type 0} (p q : Judged A) (w w' : Walk) (b : Bool) → p ≡ q → Passes q w w' b → Passes p w w' b
passes_as p q w w' b same passed = subst (λ (x : Judged _). Passes x w w' b) (sym same) passed

-- ---- where there is no type to fit

pub loose_unknown : (e : Expr) (w w' : Walk) (k : Option Known) → k ≡ None → Walked (expression e).judged w w' k →
    Passes (loose_in e) w w' false
loose_unknown e w w' k is first =
    passes_of (loose_in e) w w' None false
    (on_none (expression e).judged (λ k. ruled e.span (rule 12 (is_value k) ∷ []) tt) w w' k is first) refl

pub loose_known : (e : Expr) (w w1 w2 : Walk) (k : Option Known) (v : Known) → k ≡ Some v → Walked (expression e).judged w w1 k →
    w2 ≡ blamed w1 (broken e.span (rule 12 (is_value v) ∷ [])) → Passes (loose_in e) w w2 true
loose_known e w w1 w2 k v is first asked =
    passes_of (loose_in e) w w2 (Some tt) true
    (on_some (expression e).judged (λ k. ruled e.span (rule 12 (is_value k) ∷ []) tt) w w1 w2 k v (Some tt) is first
    (walked_ruled e.span (rule 12 (is_value v) ∷ []) tt w1 w2 asked)) refl

abbrev loose_of : InitSaid → Judged (Unit {0})
loose_of i = i.loose

abbrev pub loose_by : Init → Judged (Unit {0})
loose_by i = (initialiser i).loose

pub loose_one : (e : Expr) (w w' : Walk) (b : Bool) → Passes (loose_in e) w w' b → Passes (loose_by (init.One e)) w w' b
loose_one e w w' b passed = passes_as _ _ w w' b (ap loose_of (said-one e)) passed

abbrev all_loose : List Init → Judged (List (Unit {0}))
all_loose is = loose_all (map initialiser is)

there_made : (k : Option (List (Unit {0}))) → is_there k ≡ is_there (option_map (λ x. tt {0}) k)
there_made None = refl
there_made (Some us) = refl

pub loose_list : (is : List Init) (span : Span) (w w' : Walk) (b : Bool) → Passes (all_loose is) w w' b →
    Passes (loose_by (init.List is span)) w w' b
loose_list is span w w' b passed =
    let p = all_loose is in
    passes_as _ _ w w' b (ap loose_of (said-list is span))
    (passes_of (on p (λ x. sure (tt {0}))) w w' _ b
    (walked_made p (λ x. tt {0}) w w' (p (env_of w)).known _ (walked_of p w w' b passed) refl)
    (passed.known_is ∙ there_made (p (env_of w)).known))

loose_maps : (is : List Init) → map loose_of (map initialiser is) ≡ map loose_by is
loose_maps [] = refl
loose_maps (i ∷ is) = ap (λ l. loose_by i ∷ l) (loose_maps is)

there_with : (us : Option (List (Unit {0}))) (u : Option (Unit {0})) → is_there us && is_there u ≡ is_there (with_known us u)
there_with None u = refl
there_with (Some us) None = refl
there_with (Some us) (Some u) = refl

pub loose_next : (is : List Init) (n : ℕ) (d : Init) (w w1 w2 : Walk) (b c : Bool) → n < length is → Passes (all_loose (take n is)) w w1 b →
    Passes (loose_by (get_or is n d)) w1 w2 c → Passes (all_loose (take (n + 1) is)) w w2 (b && c)
loose_next is n d w w1 w2 b c below first second =
    let us = (all_loose (take n is) (env_of w)).known in
    let u = (loose_by (get_or is n d) (env_of w1)).known in
    let before = walked_as (each (map loose_by (take n is))) (all_loose (take n is)) w w1 us (ap each (sym (loose_maps (take n is))))
    (walked_of _ w w1 b first) in
    let here = walked_next loose_by is n d w w1 w2 us u below before (walked_of _ w1 w2 c second) in
    passes_of (all_loose (take (n + 1) is)) w w2 (with_known us u) (b && c)
    (walked_as (all_loose (take (n + 1) is)) (each (map loose_by (take (n + 1) is))) w w2 (with_known us u)
    (ap each (loose_maps (take (n + 1) is))) here)
    (ap (λ x. x && c) first.known_is ∙ ap (λ x. is_there us && x) second.known_is ∙ there_with us u)

-- ---- lists

-- those so far, and those that come
abbrev pub appended : {A : Type 0} → Option (List A) → Option (List A) → Option (List A)
appended None ys = None
appended (Some xs) None = None
appended (Some xs) (Some ys) = Some (xs ++ ys)

appended_none : {A : Type 0} (xs : Option (List A)) → appended xs (Some []) ≡ xs
appended_none None = refl
appended_none (Some xs) = ap Some (append-nil xs)

appended_unknown : {A : Type 0} (xs : Option (List A)) → appended xs None ≡ None
appended_unknown None = refl
appended_unknown (Some xs) = refl

appended_more : {A : Type 0} (xs ys : Option (List A)) (x : Option A) → appended xs (listed x ys) ≡ appended (with_known xs x) ys
appended_more None ys x = refl
appended_more (Some xs) ys None = refl
appended_more (Some xs) None (Some x) = refl
appended_more (Some xs) (Some ys) (Some x) = ap Some (sym (append_assoc xs (x ∷ []) ys))

-- the walk stands at the initialisers that are left, with those so far: what comes of these comes of all
abbrev pub Goes : (ℕ → Option Slot) → Bool → List InitSaid → ℕ → List InitSaid → Walk → Walk → Option (List Fitted) → Type 0
Goes slot from_start all k left w w' so_far =
    (end : Walk) (r : Option (List Fitted)) → Walked (fit_all slot from_start k left) w' end r →
    Walked (fit_all slot from_start 0 all) w end (appended so_far r)

nothing_before : (r : Option (List Fitted)) → r ≡ appended (Some []) r
nothing_before None = refl
nothing_before (Some fs) = refl

pub goes_first : (slot : ℕ → Option Slot) (from_start : Bool) (all : List InitSaid) (w : Walk) →
    Goes slot from_start all 0 all w w (Some [])
goes_first slot from_start all w = λ end r walked. as_known _ w end r (appended (Some []) r) (nothing_before r) walked

pub goes_last : (slot : ℕ → Option Slot) (from_start : Bool) (all : List InitSaid) (k : ℕ) (w w' : Walk) (so_far : Option (List Fitted)) →
    Goes slot from_start all k [] w w' so_far → Walked (fit_all slot from_start 0 all) w w' so_far
goes_last slot from_start all k w w' so_far goes =
    as_known _ w w' (appended so_far (Some [])) so_far (appended_none so_far) (goes w' (Some []) (walked_sure {A = List Fitted} w' []))

abbrev both_fit : (ℕ → Option Slot) → Bool → ℕ → InitSaid → List InitSaid → Slot → Judged (Fitted × List Fitted)
both_fit slot from_start k i is s = both (i.fitted from_start s.ty) (fit_all slot from_start (k + 1) is)

abbrev too_long : InitSaid → List InitSaid → Judged (List Fitted × List (Unit {0}))
too_long i is = both (too_many i) (loose_all is)

abbrev fit_by : (ℕ → Option Slot) → Bool → ℕ → InitSaid → List InitSaid → Option Slot → Judged (List Fitted)
fit_by slot from_start k i is None = on (too_long i is) (λ x. not_known)
fit_by slot from_start k i is (Some s) = on (both_fit slot from_start k i is s) (λ (f, fs). sure (moved_fitted s.offset f ∷ fs))

fit_each : (slot : ℕ → Option Slot) (from_start : Bool) (k : ℕ) (i : InitSaid) (is : List InitSaid) (s : Option Slot) → slot k ≡ s →
    fit_all slot from_start k (i ∷ is) ≡ fit_by slot from_start k i is s
fit_each slot from_start k i is None none = rw (none, fit_all) refl
fit_each slot from_start k i is (Some s) some = rw (some, fit_all) refl

listed_pair : (by : ℕ) (f : Option Fitted) (fs : Option (List Fitted)) →
    listed (option_map (moved_fitted by) f) fs ≡ option_map (λ (f, fs). moved_fitted by f ∷ fs) (pair f fs)
listed_pair by None fs = refl
listed_pair by (Some f) None = refl
listed_pair by (Some f) (Some fs) = refl

pub goes_on : (slot : ℕ → Option Slot) (from_start : Bool) (all : List InitSaid) (k : ℕ) (i : InitSaid) (is : List InitSaid) (s : Slot)
    (w w' w1 : Walk) (so_far : Option (List Fitted)) (f : Option Fitted) → slot k ≡ Some s →
    Goes slot from_start all k (i ∷ is) w w' so_far → Walked (i.fitted from_start s.ty) w' w1 f →
    Goes slot from_start all (k + 1) is w w1 (with_known so_far (option_map (moved_fitted s.offset) f))
goes_on slot from_start all k i is s w w' w1 so_far f some goes first = λ end r rest.
    let moved = option_map (moved_fitted s.offset) f in
    as_known _ w end (appended so_far (listed moved r)) (appended (with_known so_far moved) r) (appended_more so_far r moved)
    (goes end (listed moved r)
    (walked_as (fit_all slot from_start k (i ∷ is)) (fit_by slot from_start k i is (Some s)) w' end (listed moved r)
    (fit_each slot from_start k i is (Some s) some)
    (walked_made (both_fit slot from_start k i is s) (λ (f, fs). moved_fitted s.offset f ∷ fs) w' end (pair f r) (listed moved r)
    (walked_both _ _ w' w1 end f r first rest) (listed_pair s.offset f r))))

pub goes_over : (slot : ℕ → Option Slot) (from_start : Bool) (all : List InitSaid) (k : ℕ) (i : InitSaid) (is : List InitSaid)
    (w w' w1 : Walk) (so_far : Option (List Fitted)) → slot k ≡ None → Goes slot from_start all k (i ∷ is) w w' so_far →
    Spare (i ∷ is) w' w1 → Walked (fit_all slot from_start 0 all) w w1 None
goes_over slot from_start all k i is w w' w1 so_far none goes over =
    as_known _ w w1 (appended so_far None) None (appended_unknown so_far)
    (goes w1 None
    (walked_as (fit_all slot from_start k (i ∷ is)) (fit_by slot from_start k i is None) w' w1 None
    (fit_each slot from_start k i is None none) (record { after_is = over; known_is = refl })))

-- ---- the list of the one constant 0

pub zero_walked : (p : Judged Fitted) (h : List Fitted → Fitted) (w w' : Walk) (k : Option Fitted) → Walked p w w' k →
    Walked (on (each (p ∷ [])) (λ fs. sure (h fs))) w w' (option_map (λ f. h (f ∷ [])) k)
zero_walked p h w w' None first =
    walked_on_none (each (p ∷ [])) (λ fs. sure (h fs)) w w'
    (walked_each p [] w w' w' None (Some []) first (walked_sure {A = List Fitted} w' []))
zero_walked p h w w' (Some f) first =
    walked_on (each (p ∷ [])) (λ fs. sure (h fs)) w w' w' (f ∷ []) (Some (h (f ∷ [])))
    (walked_each p [] w w' w' (Some f) (Some []) first (walked_sure {A = List Fitted} w' [])) (walked_sure w' (h (f ∷ [])))

pub walked_structs : {A : Type 0} (p : Judged A) (w w' : Walk) (k : Option A) → Walked p w w' k → w'.structs ≡ w.structs
walked_structs p w w' k walked = ap (λ (x : Walk). x.structs) walked.after_is

-- ---- the first that is too many

pub spare_walked : (i : InitSaid) (is : List InitSaid) (w w1 w2 w3 : Walk) (b c : Bool) → Passes i.loose w w1 b →
    w2 ≡ blamed w1 (broken i.span (rule 16 false ∷ [])) → Passes (loose_all is) w2 w3 c → Spare (i ∷ is) w w3
spare_walked i is w w1 w2 w3 b c first asked rest =
    let o = i.loose (env_of w) in
    let faults = fault 16 i.span ∷ [] in
    let here : Walked (too_many i) w w2 None =
    record {
      after_is = asked ∙ ap (λ (x : Walk). blamed x faults) first.after_is
          ∙ (λ j. record (passed_by w o) { first = sym (first_with-append w.first o.faults faults) j });
      known_is = refl;
    } in
    (walked_both (too_many i) (loose_all is) w w2 w3 None _ here (walked_of (loose_all is) w2 w3 c rest)).after_is

pub spare_at : (inits : List Init) (d : Init) (w w1 w2 w3 : Walk) (b c : Bool) → 1 ≤ length inits →
    Passes (loose_by (get_or inits 0 d)) w w1 b →
    w2 ≡ blamed w1 (broken (initialiser (get_or inits 0 d)).span (rule 16 false ∷ [])) → Passes (all_loose (drop 1 inits)) w2 w3 c →
    Spare (map initialiser inits) w w3
spare_at inits d w w1 w2 w3 b c below first asked rest =
    subst (λ (is : List Init). Spare (map initialiser is) w w3) (sym (drop-cons inits 0 d below))
    (spare_walked (initialiser (get_or inits 0 d)) (map initialiser (drop 1 inits)) w w1 w2 w3 b c first asked rest)

all_behind : (inits : List Init) → take (length inits - 1) (drop 1 inits) ≡ drop 1 inits
all_behind inits = take_all (length inits - 1) (drop 1 inits) (grind (arith, length-drop))

pub spare_behind : (inits : List Init) (d : Init) (w w1 w2 w3 : Walk) (b c : Bool) → 1 ≤ length inits →
    Passes (loose_by (get_or inits 0 d)) w w1 b →
    w2 ≡ blamed w1 (broken (initialiser (get_or inits 0 d)).span (rule 16 false ∷ [])) →
    Passes (all_loose (take (length inits - 1) (drop 1 inits))) w2 w3 c → Spare (map initialiser inits) w w3
spare_behind inits d w w1 w2 w3 b c below first asked rest =
    spare_at inits d w w1 w2 w3 b c below first asked
    (subst (λ (is : List Init). Passes (all_loose is) w2 w3 c) (all_behind inits) rest)
