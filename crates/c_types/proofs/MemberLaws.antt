-- The members of a body are walked one by one.
use Rattle.std.proofs.Common.{◌≡◌, refl, sym, ◌∙◌, ap, subst, ℕ, ◌+◌, ◌<◌, Bool, true, false, not, ◌||◌, List, [], ◌∷◌, ◌++◌, take, get_or}
use Rattle.std.proofs.Common.{length, Option, Some, None, append-nil, append_assoc}
use Rattle.std.specs.List.{list_any}
use Rattle.std.specs.Str.{bytes_eq}
use Rattle.std.proofs.lemmas.List.{take_more}
use Rattle.c_ast.specs.declared.declaration.Decl.{Decl}
use Rattle.c_type_base.specs.declared.ty.Ty.{Ty}
use Rattle.c_type_expr.specs.declared.walk.Walk.{Walk}
use Rattle.c_type_expr.specs.Faults.{rule, broken}
use Rattle.c_type_expr.specs.Outcomes.{Judged, sure, behind}
use Rattle.c_type_expr.specs.Walked.{env_of, blamed, passed_by, Walked}
use Rattle.c_type_expr.specs.Laws.EachLaws.{from}
use Rattle.c_type_expr.specs.Laws.WalkedLaws.{first_with-append, walked_sure, after_sure, after_two, judged_next, split_after}
use Rattle.c_type_stmt.specs.Declarations.{object_rules}
use Rattle.c_types.specs.Structs.{Member, found_member, with_member, member_type, member, members}

-- ---- the names so far

abbrev pub names_onto : List (List ℕ) → List Decl → List (List ℕ)
names_onto seen [] = seen
names_onto seen (d ∷ ds) = names_onto (d.name ∷ seen) ds

or_moved : (a b c : Bool) → ((a || b) || c) ≡ (b || (a || c))
or_moved true true c = refl
or_moved true false c = refl
or_moved false true c = refl
or_moved false false c = refl

or_none : (b : Bool) → b ≡ (b || false)
or_none true = refl
or_none false = refl

any_onto : (test : List ℕ → Bool) (seen : List (List ℕ)) (ds : List Decl) →
    list_any test (names_onto seen ds) ≡ (list_any test seen || list_any (λ d. test d.name) ds)
any_onto test seen [] = or_none (list_any test seen)
any_onto test seen (d ∷ ds) =
    any_onto test (d.name ∷ seen) ds ∙ or_moved (test d.name) (list_any test seen) (list_any (λ d. test d.name) ds)

-- a name is new where no declaration so far has it
pub new_among : (name : List ℕ) (ds : List Decl) → not (list_any (λ d. bytes_eq name d.name) ds) ≡
    not (list_any (bytes_eq name) (names_onto [] ds))
new_among name ds = ap not (sym (any_onto (bytes_eq name) [] ds))

-- ---- a member

pub member_walked : (new : Bool) (d : Decl) (w w1 w2 : Walk) (t : Option Ty) → Walked (member_type d) w w1 t →
    w2 ≡ blamed w1 (broken d.span (rule 10 new ∷ object_rules w1.structs t)) → Walked (member new d) w w2 t
member_walked new d w w1 w2 t first asked =
    let o = member_type d (env_of w) in
    let faults = broken d.span (rule 10 new ∷ object_rules w.structs o.known) in
    record {
      after_is = asked
          ∙ (λ i. blamed (first.after_is i) (broken d.span (rule 10 new ∷ object_rules (first.after_is i).structs (first.known_is i))))
          ∙ (λ i. record (passed_by w o) { first = sym (first_with-append w.first o.faults faults) i });
      known_is = first.known_is;
    }

-- ---- one more member

abbrev pub more : Option (List Member) → List Member → Option (List Member)
more None ms = None
more (Some found) ms = Some (found ++ ms)

more_behind : (m : List Member) (k : Option (List Member)) (ms : List Member) → more (with_member m k) ms ≡ with_member m (more k ms)
more_behind m None ms = refl
more_behind m (Some found) ms = ap (λ (l : List Member). Some l) (append_assoc m found ms)

abbrev member_behind : List (List ℕ) → Decl → Judged Ty
member_behind seen d = member (not (list_any (bytes_eq d.name) seen)) d

pub members_more : (seen : List (List ℕ)) (ds : List Decl) (d : Decl) (w w1 w2 : Walk) (k : Option (List Member)) (t : Option Ty) →
    Walked (members seen ds) w w1 k → Walked (member_behind (names_onto seen ds) d) w1 w2 t →
    Walked (members seen (ds ++ d ∷ [])) w w2 (more k (found_member d.name t))
members_more seen [] d w w1 w2 k t first second =
    let p = member_behind seen d in
    let here = from p w1 w w2 t (after_sure {A = List Member} w w1 [] first.after_is) second in
    let last = walked_sure {A = List Member} w2 [] in
    record {
      after_is = after_two w w2 w2 (p (env_of w)) (sure {A = List Member} [])
          (with_member (found_member d.name (p (env_of w)).known) (Some [])) here.after_is last.after_is;
      known_is = ap (λ (k : Option (List Member)). more k (found_member d.name t)) first.known_is
          ∙ ap (λ (l : List Member). Some l) (sym (append-nil (found_member d.name t)))
          ∙ ap (λ (t : Option Ty). with_member (found_member d.name t) (Some [])) here.known_is;
    }
members_more seen (e ∷ ds) d w w1 w2 k t first second =
    let p = member_behind seen e in
    let q = members (e.name ∷ seen) ds in
    let r = members (e.name ∷ seen) (ds ++ d ∷ []) in
    let o = p (env_of w) in
    let mid = passed_by w o in
    let one = found_member e.name o.known in
    let x = found_member d.name t in
    let rest : Walked q mid w1 (q (env_of mid)).known =
    record {
      after_is = split_after w w1 p q (with_member one (q (behind o (env_of w))).known) first.after_is;
      known_is = refl;
    } in
    let all = members_more (e.name ∷ seen) ds d mid w1 w2 (q (env_of mid)).known t rest second in
    record {
      after_is = after_two w mid w2 o r (with_member one (r (behind o (env_of w))).known) refl all.after_is;
      known_is = ap (λ (k : Option (List Member)). more k x) first.known_is
          ∙ ap (λ (k : Option (List Member)). more (with_member one k) x) (ap (λ a. a.known) (sym (judged_next w mid o q refl)))
          ∙ more_behind one (q (env_of mid)).known x
          ∙ ap (with_member one) (all.known_is ∙ ap (λ a. a.known) (judged_next w mid o r refl));
    }

-- the next member of a body
pub members_next : (ds : List Decl) (i : ℕ) (d e : Decl) (w w1 w2 : Walk) (new : Bool) (ms : List Member) (t : Option Ty) →
    i < length ds → e ≡ get_or ds i d → new ≡ not (list_any (λ d. bytes_eq e.name d.name) (take i ds)) →
    Walked (members [] (take i ds)) w w1 (Some ms) → Walked (member new e) w1 w2 t →
    Walked (members [] (take (i + 1) ds)) w w2 (Some (ms ++ found_member e.name t))
members_next ds i d e w w1 w2 new ms t below is first_one before here =
    let taken : take (i + 1) ds ≡ take i ds ++ e ∷ [] = take_more ds i d below ∙ ap (λ (x : Decl). take i ds ++ x ∷ []) (sym is) in
    let fresh = first_one ∙ new_among e.name (take i ds) in
    subst (λ (l : List Decl). Walked (members [] l) w w2 (Some (ms ++ found_member e.name t))) (sym taken)
    (members_more [] (take i ds) e w w1 w2 (Some ms) t before (subst (λ (b : Bool). Walked (member b e) w1 w2 t) fresh here))
