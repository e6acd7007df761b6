-- What the names of linked files stand for.
use Rattle.std.proofs.Common.{◌≡◌, ◌⊎◌, refl, sym, ap, subst, ◌∙◌, inl, inr, ℕ, zero, suc, ◌+◌, arith, Bool, true, false, not, ◌&&◌}
use Rattle.std.proofs.Common.{◌||◌, List, [], ◌∷◌, ◌++◌, cond, find, flat_map, Option, Some, None, slice_get}
use Rattle.std.specs.Prelude.{if◌then◌else◌}
use Rattle.std.specs.List.{filter, list_any, position_from}
use Rattle.std.specs.Str.{bytes_eq}
use Rattle.std.proofs.lemmas.List.Folds.{list_any-append}
use Rattle.std.proofs.lemmas.Option.{same_Some}
use Rattle.std.proofs.lemmas.Slice.Eq.{bytes_eq-Decides}
use Rattle.c_ast.specs.declared.program.Program.{Program}
use Rattle.c_type_base.specs.declared.typed.ExternInfo.{ExternInfo}
use Rattle.c_type_base.specs.declared.typed.GlobalInfo.{GlobalInfo}
use Rattle.c_type_base.specs.declared.typed.TFunction.{TFunction}
use Rattle.c_type_base.specs.declared.typed.Typed.{Typed}
use Rattle.slot_safety.specs.Kinds.{among}
use Rattle.block_meaning.specs.ExpressionsInOrder.{IsDefined}
use Rattle.block_meaning.specs.Linkage.{Definition, AnObject, AFunction, function_of, is_object_named, is_function_named, or_definition}
use Rattle.block_meaning.specs.Linkage.{object_at, function_at, defined_in, defined_from, defined}
use Rattle.mean_link.specs.LinkFault.{defined_by, undefined_by, has_main, first_missing, is_missing}
use Rattle.mean_link.specs.Names.{is_among, declared, object_name, function_name, global_names, main_name, is_main}
use Rattle.mean_link.specs.Names.{used_from, names_of, names_in}
use Rattle.mean_texts.specs.Laws.Tests.{or_side, or_false, and_true, and_false, swapped, not_false, flipped}
use Rattle.well_typed_order.specs.Laws.Growth.{In}

abbrev Name : Type 0
Name = List ℕ

-- ---- what is defined

-- one of some things passes a test, and so it has a place
placed : {A : Type 0} (p : A → Bool) (from : ℕ) (xs : List A) → list_any p xs ≡ true → (k : ℕ) × (position_from p from xs ≡ Some k)
placed p from [] is = absurd cc
placed p from (x ∷ xs) is = by_test (p x) refl (or_side (p x) (list_any p xs) is) (placed p (from + 1) xs)
  where
    by_test : (b : Bool) → p x ≡ b → (p x ≡ true) ⊎ (list_any p xs ≡ true) →
        (list_any p xs ≡ true → (k : ℕ) × (position_from p (from + 1) xs ≡ Some k)) →
        (k : ℕ) × (position_from p from (x ∷ xs) ≡ Some k)
    by_test true here side next = (from, ap (λ b. cond b (Some from) (position_from p (from + 1) xs)) here)
    by_test false here (inl there) next = absurd cc
    by_test false here (inr later) next =
        let found = next later in
        (found.0, ap (λ b. cond b (Some from) (position_from p (from + 1) xs)) here ∙ found.1)

object_named : (name : Name) (gs : List GlobalInfo) → is_among (flat_map object_name gs) name ≡ list_any (is_object_named name) gs
object_named name [] = refl
object_named name (g ∷ gs) =
    list_any-append (bytes_eq name) (object_name g) (flat_map object_name gs)
    ∙ (λ i. one g.local refl i || object_named name gs i)
  where
    one : (b : Bool) → g.local ≡ b → is_among (object_name g) name ≡ is_object_named name g
    one true is =
        ap (λ b. is_among (if b then [] else g.name ∷ []) name) is
        ∙ sym (ap (λ b. bytes_eq g.name name && not b) is ∙ and_false (bytes_eq g.name name))
    one false is =
        ap (λ b. is_among (if b then [] else g.name ∷ []) name) is
        ∙ or_false (bytes_eq name g.name) ∙ swapped name g.name
        ∙ sym (ap (λ b. bytes_eq g.name name && not b) is ∙ and_true (bytes_eq g.name name))

function_named : (name : Name) (fs : List TFunction) → is_among (flat_map function_name fs) name ≡ list_any (is_function_named name) fs
function_named name [] = refl
function_named name (f ∷ fs) =
    list_any-append (bytes_eq name) (function_name f) (flat_map function_name fs)
    ∙ (λ i. one f.local refl i || function_named name fs i)
  where
    one : (b : Bool) → f.local ≡ b → is_among (function_name f) name ≡ is_function_named name f
    one true is =
        ap (λ b. is_among (if b then [] else f.name ∷ []) name) is
        ∙ sym (ap (λ b. bytes_eq f.name name && not b) is ∙ and_false (bytes_eq f.name name))
    one false is =
        ap (λ b. is_among (if b then [] else f.name ∷ []) name) is
        ∙ or_false (bytes_eq name f.name) ∙ swapped name f.name
        ∙ sym (ap (λ b. bytes_eq f.name name && not b) is ∙ and_true (bytes_eq f.name name))

-- a name that a file defines for all files is defined there
defines : (name : Name) (unit : ℕ) (u : Typed) → is_among (global_names u) name ≡ true →
    (d : Definition) × (defined_in name unit u ≡ Some d)
defines name unit u is =
    by_side (or_side (list_any (is_object_named name) u.globals) (list_any (is_function_named name) u.functions)
    (sym (list_any-append (bytes_eq name) (flat_map object_name u.globals) (flat_map function_name u.functions)
    ∙ (λ i. object_named name u.globals i || function_named name u.functions i)) ∙ is))
  where
    functions : Option Definition
    functions = function_at unit (position_from (is_function_named name) 0 u.functions)

    objects : Option ℕ
    objects = position_from (is_object_named name) 0 u.globals

    first : (o : Option ℕ) → objects ≡ o → (d : Definition) × (functions ≡ Some d) →
        (d : Definition) × (or_definition (object_at unit objects) functions ≡ Some d)
    first None none found = (found.0, ap (λ o. or_definition (object_at unit o) functions) none ∙ found.1)
    first (Some k) some found = (AnObject unit k, ap (λ o. or_definition (object_at unit o) functions) some)

    by_side : (list_any (is_object_named name) u.globals ≡ true) ⊎ (list_any (is_function_named name) u.functions ≡ true) →
        (d : Definition) × (defined_in name unit u ≡ Some d)
    by_side (inl object) =
        let at = placed (is_object_named name) 0 u.globals object in
        (AnObject unit at.0, ap (λ o. or_definition (object_at unit o) functions) at.1)
    by_side (inr function) =
        let at = placed (is_function_named name) 0 u.functions function in
        first objects refl (AFunction (function_of unit at.0), ap (function_at unit) at.1)

-- what a file has of a list of names it has among all
filtered : (gs ds : List Name) (name : Name) → is_among (filter (is_among gs) ds) name ≡ true → is_among gs name ≡ true
filtered gs [] name is = absurd cc
filtered gs (d ∷ ds) name is = by_test (is_among gs d) refl (filtered gs ds name)
  where
    rest : List Name
    rest = filter (is_among gs) ds

    by_side : is_among gs d ≡ true → (is_among rest name ≡ true → is_among gs name ≡ true) →
        (bytes_eq name d ≡ true) ⊎ (is_among rest name ≡ true) → is_among gs name ≡ true
    by_side there next (inl same) = ap (is_among gs) ((bytes_eq-Decides name d).0 same) ∙ there
    by_side there next (inr later) = next later

    by_test : (b : Bool) → is_among gs d ≡ b → (is_among rest name ≡ true → is_among gs name ≡ true) → is_among gs name ≡ true
    by_test true there next =
        by_side there next (or_side (bytes_eq name d) (is_among rest name)
        (sym (ap (λ b. is_among (cond b (d ∷ rest) rest) name) there) ∙ is))
    by_test false there next = next (sym (ap (λ b. is_among (cond b (d ∷ rest) rest) name) there) ∙ is)

defined_later : (o later : Option Definition) → ((d : Definition) × (later ≡ Some d)) → (d : Definition) × (or_definition o later ≡ Some d)
defined_later None later found = found
defined_later (Some e) later found = (e, refl)

defined_now : (o later : Option Definition) → ((d : Definition) × (o ≡ Some d)) → (d : Definition) × (or_definition o later ≡ Some d)
defined_now o later found = (found.0, ap (λ o. or_definition o later) found.1)

-- a name that some file defines for all files is defined
defined_somewhere : (name : Name) (unit : ℕ) (ps : List Program) (us : List Typed) →
    is_among (flat_map defined_by (names_in ps us)) name ≡ true → (d : Definition) × (defined_from name unit us ≡ Some d)
defined_somewhere name unit [] us is = absurd cc
defined_somewhere name unit (p ∷ ps) [] is = absurd cc
defined_somewhere name unit (p ∷ ps) (u ∷ us) is =
    by_side (or_side (is_among (names_of p u).defined name) (is_among (flat_map defined_by (names_in ps us)) name)
    (sym (list_any-append (bytes_eq name) (names_of p u).defined (flat_map defined_by (names_in ps us))) ∙ is))
    (defined_somewhere name (unit + 1) ps us)
  where
    Later : Type 0
    Later = is_among (flat_map defined_by (names_in ps us)) name ≡ true

    by_side : (is_among (names_of p u).defined name ≡ true) ⊎ Later →
        (Later → (d : Definition) × (defined_from name (unit + 1) us ≡ Some d)) →
        (d : Definition) × (defined_from name unit (u ∷ us) ≡ Some d)
    by_side (inl here) next =
        defined_now (defined_in name unit u) (defined_from name (unit + 1) us)
        (defines name unit u (filtered (global_names u) (declared p) name here))
    by_side (inr later) next = defined_later (defined_in name unit u) (defined_from name (unit + 1) us) (next later)

-- ---- names that are left to others

find_none : (p : Name → Bool) (xs : List Name) (k : ℕ) (x : Name) → find p xs ≡ None → slice_get xs k ≡ Some x → p x ≡ false
find_none p [] k x none is = absurd cc
find_none p (y ∷ xs) k x none is = by_test (p y) refl k is (λ j later. find_none p xs j x later)
  where
    by_test : (b : Bool) → p y ≡ b → (k : ℕ) → slice_get (y ∷ xs) k ≡ Some x →
        ((j : ℕ) → find p xs ≡ None → slice_get xs j ≡ Some x → p x ≡ false) → p x ≡ false
    by_test true here k is next = absurd (wrong (sym (ap (λ b. cond b (Some y) (find p xs)) here) ∙ none))
      where
        wrong : Some y ≡ None → ⊥
        wrong e = cc
    by_test false here zero is next = ap p (sym (same_Some y x is)) ∙ here
    by_test false here (suc k) is next = next k (sym (ap (λ b. cond b (Some y) (find p xs)) here) ∙ none) is

pub used_in : (numbers : List ℕ) (from : ℕ) (es : List ExternInfo) (k : ℕ) (e : ExternInfo) → slice_get es k ≡ Some e →
    among (from + k) numbers ≡ true → In (used_from numbers from es) e.name
used_in numbers from [] k e is used = absurd cc
used_in numbers from (x ∷ es) zero e is used =
    let here : from + 0 ≡ from = omega arith in
    let now : used_from numbers from (x ∷ es) ≡ x.name ∷ used_from numbers (suc from) es =
    ap (λ b. if b then x.name ∷ used_from numbers (suc from) es else used_from numbers (suc from) es)
    (ap (λ n. among n numbers) (sym here) ∙ used) in
    (0, ap (λ l. slice_get l 0) now ∙ ap (λ (e : ExternInfo). Some e.name) (same_Some x e is))
used_in numbers from (x ∷ es) (suc k) e is used =
    let next : from + suc k ≡ suc from + k = omega arith in
    let found = used_in numbers (suc from) es k e is (ap (λ n. among n numbers) (sym next) ∙ used) in
    later (among from numbers) (used_from numbers (suc from) es) found
  where
    later : (b : Bool) (rest : List Name) → In rest e.name → In (if b then x.name ∷ rest else rest) e.name
    later true rest has = (suc has.0, has.1)
    later false rest has = has

in_first : (xs ys : List Name) (x : Name) → In xs x → In (xs ++ ys) x
in_first [] ys x (k, is) = absurd cc
in_first (y ∷ xs) ys x (zero, is) = (zero, is)
in_first (y ∷ xs) ys x (suc k, is) = let found = in_first xs ys x (k, is) in (suc found.0, found.1)

in_second : (xs ys : List Name) (x : Name) → In ys x → In (xs ++ ys) x
in_second [] ys x has = has
in_second (y ∷ xs) ys x has = let found = in_second xs ys x has in (suc found.0, found.1)

undefined_in : (ps : List Program) (us : List Typed) (unit : ℕ) (p : Program) (u : Typed) (name : Name) → slice_get ps unit ≡ Some p →
    slice_get us unit ≡ Some u → In (names_of p u).undefined name → In (flat_map undefined_by (names_in ps us)) name
undefined_in [] us unit p u name is its has = absurd cc
undefined_in (q ∷ ps) [] unit p u name is its has = absurd cc
undefined_in (q ∷ ps) (v ∷ us) zero p u name is its has =
    in_first (names_of q v).undefined (flat_map undefined_by (names_in ps us)) name
    (subst (λ q. In (names_of q v).undefined name) (sym (same_Some q p is))
    (subst (λ v. In (names_of p v).undefined name) (sym (same_Some v u its)) has))
undefined_in (q ∷ ps) (v ∷ us) (suc unit) p u name is its has =
    in_second (names_of q v).undefined (flat_map undefined_by (names_in ps us)) name (undefined_in ps us unit p u name is its has)

-- what a file leaves to others is defined, where nothing is missing
pub used-defined : (ps : List Program) (us : List Typed) (unit : ℕ) (p : Program) (u : Typed) (name : Name) →
    first_missing (names_in ps us) ≡ None → slice_get ps unit ≡ Some p → slice_get us unit ≡ Some u →
    In (names_of p u).undefined name → IsDefined us name
used-defined ps us unit p u name none is its has =
    let files = names_in ps us in
    let among_all = undefined_in ps us unit p u name is its has in
    let there = not_false _ (find_none (is_missing files) (flat_map undefined_by files) among_all.0 name none among_all.1) in
    let found = defined_somewhere name 0 ps us there in
    record { definition = found.0; is = found.1 }

-- ---- `main`

no_place : (gs : List GlobalInfo) (from : ℕ) → ((g : GlobalInfo) → In gs g → bytes_eq g.name main_name ≡ false) →
    position_from (is_object_named main_name) from gs ≡ None
no_place [] from other = refl
no_place (g ∷ gs) from other =
    ap (λ b. cond (b && not g.local) (Some from) (position_from (is_object_named main_name) (from + 1) gs)) (other g (0, refl))
    ∙ no_place gs (from + 1) (λ h has. other h (suc has.0, has.1))

test_is : (fs : List TFunction) → list_any is_main fs ≡ list_any (is_function_named main_name) fs
test_is [] = refl
test_is (f ∷ fs) = (λ i. flipped (not f.local) (bytes_eq f.name main_name) i || test_is fs i)

-- where no object is called so, and some file has the function, the name stands for it
main_from : (unit : ℕ) (ps : List Program) (us : List Typed) →
    ((u : Typed) → In us u → (g : GlobalInfo) → In u.globals g → bytes_eq g.name main_name ≡ false) →
    has_main (names_in ps us) ≡ true → (k n : ℕ) × (defined_from main_name unit us ≡ Some (AFunction (function_of k n)))
main_from unit [] us none is = absurd cc
main_from unit (p ∷ ps) [] none is = absurd cc
main_from unit (p ∷ ps) (u ∷ us) none is =
    by_test (list_any is_main u.functions) refl (main_from (unit + 1) ps us (λ v has. none v (suc has.0, has.1)))
  where
    no_object : position_from (is_object_named main_name) 0 u.globals ≡ None
    no_object = no_place u.globals 0 (none u (0, refl))

    here_is : (o : Option ℕ) → position_from (is_function_named main_name) 0 u.functions ≡ o →
        defined_from main_name unit (u ∷ us) ≡ or_definition (function_at unit o) (defined_from main_name (unit + 1) us)
    here_is o is =
        ap (λ x. or_definition (or_definition (object_at unit x)
        (function_at unit (position_from (is_function_named main_name) 0 u.functions))) (defined_from main_name (unit + 1) us)) no_object
        ∙ ap (λ x. or_definition (function_at unit x) (defined_from main_name (unit + 1) us)) is

    by_place : (o : Option ℕ) → position_from (is_function_named main_name) 0 u.functions ≡ o →
        ((k n : ℕ) × (defined_from main_name (unit + 1) us ≡ Some (AFunction (function_of k n)))) →
        (k n : ℕ) × (defined_from main_name unit (u ∷ us) ≡ Some (AFunction (function_of k n)))
    by_place None none found = (found.0, found.1, here_is None none ∙ found.2)
    by_place (Some n) some found = (unit, n, here_is (Some n) some)

    Later : Type 0
    Later = (k n : ℕ) × (defined_from main_name (unit + 1) us ≡ Some (AFunction (function_of k n)))

    by_test : (b : Bool) → list_any is_main u.functions ≡ b → (has_main (names_in ps us) ≡ true → Later) →
        (k n : ℕ) × (defined_from main_name unit (u ∷ us) ≡ Some (AFunction (function_of k n)))
    by_test true here next =
        let at = placed (is_function_named main_name) 0 u.functions (sym (test_is u.functions) ∙ here) in
        (unit, at.0, here_is (Some at.0) at.1)
    by_test false here next =
        by_place (position_from (is_function_named main_name) 0 u.functions) refl
        (next (sym (ap (λ b. b || has_main (names_in ps us)) here) ∙ is))

pub main-defined : (ps : List Program) (us : List Typed) →
    ((u : Typed) → In us u → (g : GlobalInfo) → In u.globals g → bytes_eq g.name main_name ≡ false) →
    has_main (names_in ps us) ≡ true → (k n : ℕ) × (defined us main_name ≡ Some (AFunction (function_of k n)))
main-defined ps us none is = main_from 0 ps us none is
