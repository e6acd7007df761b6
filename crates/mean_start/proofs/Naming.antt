-- A map of names, one definition more.
use Rattle.std.proofs.Common.{◌≡◌, refl, sym, ap, ◌∙◌, ℕ, suc, ◌+◌, ◌<◌, Bool, true}
use Rattle.std.proofs.Common.{false, ◌&&◌, cond, not, List, [], ◌∷◌, ◌++◌}
use Rattle.std.proofs.Common.{length, take, get_or, arith, Option, Some, None, is_some, add-zero, zero-add}
use Rattle.std.specs.Borrow.{Bor}
use Rattle.std.specs.List.{position_from}
use Rattle.std.specs.Option.{option_map, option_or}
use Rattle.std.specs.Str.{bytes_eq}
use Rattle.std.proofs.lemmas.Bool.{true≢false}
use Rattle.std.proofs.lemmas.List.{take_more, length-take-le}
use Rattle.std.proofs.lemmas.Slice.Eq.{bytes_eq-Decides}
use Rattle.indexmap.specs.IndexMap.{IndexMap, get_by}
use Rattle.c_type_base.specs.declared.typed.GlobalInfo.{GlobalInfo}
use Rattle.c_type_base.specs.declared.typed.TFunction.{TFunction}
use Rattle.c_type_base.specs.declared.typed.Typed.{Typed}
use Rattle.block_meaning.specs.Linkage.{Definition, AnObject, AFunction, function_of, or_definition, object_at, function_at, defined_from}
use Rattle.block_meaning.specs.Linkage.{defined_in, is_object_named, is_function_named, object_block, code_block}
use Rattle.mean_start.specs.declared.names.Meant.{Meant}
use Rattle.mean_start.specs.Known.{meant_by, Knows, where_true, also}

abbrev Name : Type 0
Name = List ℕ

abbrev Found : Type 0
Found = Name → Option Definition

-- ---- one definition or another

pub or_none : (o : Option Definition) → or_definition o None ≡ o
or_none None = refl
or_none (Some d) = refl

pub or_assoc : (a b c : Option Definition) → or_definition (or_definition a b) c ≡ or_definition a (or_definition b c)
or_assoc None b c = refl
or_assoc (Some d) b c = refl

-- what is found may be written otherwise
pub knows_as : {S : Type 0} (m : IndexMap (Bor Name) Meant S) (units : List Typed) (found other : Found) →
    ((name : Name) → found name ≡ other name) → Knows m units found → Knows m units other
knows_as m units found other same knows name = knows name ∙ ap (option_map (meant_by units)) (same name)

-- ---- a name that is added

is_none : (units : List Typed) (o : Option Definition) → is_some (option_map (meant_by units) o) ≡ false → o ≡ None
is_none units None h = refl
is_none units (Some d) h = absurd (true≢false h)

stays : (units : List Typed) (o later : Option Definition) → is_some (option_map (meant_by units) o) ≡ true → or_definition o later ≡ o
stays units None later h = absurd (true≢false (sym h))
stays units (Some d) later h = refl

-- one that is there keeps its definition
pub knows_again : {S : Type 0} (m : IndexMap (Bor Name) Meant S) (units : List Typed) (found : Found) (name : Name) (d : Definition) →
    is_some (get_by (λ k. bytes_eq name k.now) m) ≡ true → Knows m units found → Knows m units (also found name d)
knows_again m units found name d there knows n = knows n ∙ ap (option_map (meant_by units)) (sym (by_test (bytes_eq name n) refl))
  where
    by_test : (b : Bool) → bytes_eq name n ≡ b → or_definition (found n) (where_true b d) ≡ found n
    by_test true is =
        let same : name ≡ n = (bytes_eq-Decides name n).0 is in
        let has : is_some (option_map (meant_by units) (found n)) ≡ true =
        ap is_some (sym (knows n)) ∙ ap (λ (x : Name). is_some (get_by (λ k. bytes_eq x k.now) m)) (sym same) ∙ there in
        stays units (found n) (Some d) has
    by_test false is = or_none (found n)

-- one that is new
pub knows_new : {S : Type 0} (m m' : IndexMap (Bor Name) Meant S) (units : List Typed) (found : Found) (name : Name) (d : Definition)
    (meant : Meant) → meant ≡ meant_by units d → is_some (get_by (λ k. bytes_eq name k.now) m) ≡ false →
    ((n : Name) → get_by (λ k. bytes_eq n k.now) m' ≡ cond (bytes_eq name n) (Some meant) (get_by (λ k. bytes_eq n k.now) m)) →
    Knows m units found → Knows m' units (also found name d)
knows_new m m' units found name d meant is new updates knows n = updates n ∙ by_test (bytes_eq name n) refl
  where
    by_test : (b : Bool) → bytes_eq name n ≡ b → cond b (Some meant) (get_by (λ k. bytes_eq n k.now) m) ≡
        option_map (meant_by units) (or_definition (found n) (where_true b d))
    by_test true at =
        let same : name ≡ n = (bytes_eq-Decides name n).0 at in
        let free : is_some (option_map (meant_by units) (found n)) ≡ false =
        ap is_some (sym (knows n)) ∙ ap (λ (x : Name). is_some (get_by (λ k. bytes_eq x k.now) m)) (sym same) ∙ new in
        ap Some is ∙ ap (λ o. option_map (meant_by units) (or_definition o (Some d))) (sym (is_none units (found n) free))
    by_test false at = knows n ∙ ap (option_map (meant_by units)) (sym (or_none (found n)))

-- ---- an object or function more

and_true : (b : Bool) → b ≡ (b && true)
and_true true = refl
and_true false = refl

behind : (b : Bool) (n : ℕ) (all front rest : Option ℕ) → all ≡ option_or front rest →
    cond b (Some n) all ≡ option_or (cond b (Some n) front) rest
behind true n all front rest is = refl
behind false n all front rest is = is

position_last : {A : Type 0} (p : A → Bool) (xs : List A) (x : A) (n : ℕ) →
    position_from p n (xs ++ x ∷ []) ≡ option_or (position_from p n xs) (cond (p x) (Some (n + length xs)) None)
position_last p [] x n = ap (λ k. cond (p x) (Some k) None) (sym (add-zero n))
position_last p (y ∷ ys) x n =
    let further : n + 1 + length ys ≡ n + suc (length ys) = omega arith in
    behind (p y) n (position_from p (n + 1) (ys ++ x ∷ [])) (position_from p (n + 1) ys) (cond (p x) (Some (n + suc (length ys))) None)
    (position_last p ys x (n + 1) ∙ ap (λ k. option_or (position_from p (n + 1) ys) (cond (p x) (Some k) None)) further)

-- the first that passes of those so far and of one more
position_more : {A : Type 0} (p : A → Bool) (xs : List A) (i : ℕ) (x : A) → i < length xs → x ≡ get_or xs i x →
    position_from p 0 (take (i + 1) xs) ≡ option_or (position_from p 0 (take i xs)) (cond (p x) (Some i) None)
position_more p xs i x within is =
    ap (position_from p 0) (take_more xs i x within ∙ ap (λ y. take i xs ++ y ∷ []) (sym is)) ∙ position_last p (take i xs) x 0
    ∙ ap (λ k. option_or (position_from p 0 (take i xs)) (cond (p x) (Some k) None)) (zero-add _ ∙ length-take-le i xs (omega arith))

object_or : (unit : ℕ) (a : Option ℕ) (b : Bool) (i : ℕ) →
    or_definition (object_at unit a) (where_true b (AnObject unit i)) ≡ object_at unit (option_or a (cond b (Some i) None))
object_or unit None true i = refl
object_or unit None false i = refl
object_or unit (Some n) b i = refl

function_or : (unit : ℕ) (a : Option ℕ) (b : Bool) (i : ℕ) →
    or_definition (function_at unit a) (where_true b (AFunction (function_of unit i))) ≡
    function_at unit (option_or a (cond b (Some i) None))
function_or unit None true i = refl
function_or unit None false i = refl
function_or unit (Some n) b i = refl

-- an object more
pub object_more : {A : Type 0} (unit : ℕ) (p : A → Bool) (xs : List A) (i : ℕ) (x : A) (o : Option Definition) → i < length xs →
    x ≡ get_or xs i x →
    or_definition (or_definition o (object_at unit (position_from p 0 (take i xs)))) (where_true (p x) (AnObject unit i)) ≡
    or_definition o (object_at unit (position_from p 0 (take (i + 1) xs)))
object_more unit p xs i x o within is =
    or_assoc o _ _ ∙ ap (or_definition o)
    (object_or unit (position_from p 0 (take i xs)) (p x) i ∙ ap (object_at unit) (sym (position_more p xs i x within is)))

-- a function more
pub function_more : {A : Type 0} (unit : ℕ) (p : A → Bool) (xs : List A) (i : ℕ) (x : A) (o : Option Definition) → i < length xs →
    x ≡ get_or xs i x →
    or_definition (or_definition o (function_at unit (position_from p 0 (take i xs)))) (where_true (p x) (AFunction
    (function_of unit i))) ≡
    or_definition o (function_at unit (position_from p 0 (take (i + 1) xs)))
function_more unit p xs i x o within is =
    or_assoc o _ _ ∙ ap (or_definition o)
    (function_or unit (position_from p 0 (take i xs)) (p x) i ∙ ap (function_at unit) (sym (position_more p xs i x within is)))

-- ---- a file more

defined_last : (name : Name) (us : List Typed) (u : Typed) (n : ℕ) →
    defined_from name n (us ++ u ∷ []) ≡ or_definition (defined_from name n us) (defined_in name (n + length us) u)
defined_last name [] u n = or_none (defined_in name n u) ∙ ap (λ k. defined_in name k u) (sym (add-zero n))
defined_last name (x ∷ xs) u n =
    let further : n + 1 + length xs ≡ n + suc (length xs) = omega arith in
    ap (or_definition (defined_in name n x)) (defined_last name xs u (n + 1)
    ∙ ap (λ k. or_definition (defined_from name (n + 1) xs) (defined_in name k u)) further)
    ∙ sym (or_assoc (defined_in name n x) (defined_from name (n + 1) xs) (defined_in name (n + suc (length xs)) u))

pub defined_more : (us : List Typed) (i : ℕ) (u : Typed) (name : Name) → i < length us → u ≡ get_or us i u →
    or_definition (defined_from name 0 (take i us)) (defined_in name i u) ≡ defined_from name 0 (take (i + 1) us)
defined_more us i u name within is = sym (
    ap (defined_from name 0) (take_more us i u within ∙ ap (λ y. take i us ++ y ∷ []) (sym is)) ∙ defined_last name (take i us) u 0
    ∙ ap (λ k. or_definition (defined_from name 0 (take i us)) (defined_in name k u)) (zero-add _ ∙ length-take-le i us (omega arith)))

-- ---- what stands for a definition

pub object_meant : (units : List Typed) (unit first block number : ℕ) → first ≡ object_block units unit 0 → block ≡ first + number →
    record { block = block; function = None } ≡ meant_by units (AnObject unit number)
object_meant units unit first block number begins is =
    let same : block ≡ object_block units unit number = omega arith in
    ap (λ (b : ℕ). meant b) same
  where
    meant : ℕ → Meant
    meant b = record { block = b; function = None }

pub function_meant : (units : List Typed) (unit first block number n : ℕ) → first ≡ code_block units unit 0 → block ≡ first + number →
    n ≡ number →
    record { block = block; function = Some (record { unit = unit; number = n }) } ≡ meant_by units (AFunction (function_of unit number))
function_meant units unit first block number n begins is at =
    let same : block ≡ code_block units unit number = omega arith in
    ap (λ (b : ℕ). meant b n) same ∙ ap (meant (code_block units unit number)) at
  where
    meant : ℕ → ℕ → Meant
    meant b k = record { block = b; function = Some (record { unit = unit; number = k }) }

-- an object is found under its name alone, where other files see it
pub object_named : {S : Type 0} (m : IndexMap (Bor Name) Meant S) (units : List Typed) (found : Found) (unit number : ℕ) (name : Name)
    (g : GlobalInfo) → name ≡ g.name → g.local ≡ false → Knows m units (also found name (AnObject unit number)) →
    Knows m units (λ n. or_definition (found n) (where_true (is_object_named n g) (AnObject unit number)))
object_named m units found unit number name g is shared =
    knows_as m units (also found name (AnObject unit number))
    (λ n. or_definition (found n) (where_true (is_object_named n g) (AnObject unit number)))
    (λ n. ap (λ b. or_definition (found n) (where_true b (AnObject unit number)))
    (ap (λ x. bytes_eq x n) is ∙ and_true (bytes_eq g.name n) ∙ ap (λ b. bytes_eq g.name n && not b) (sym shared)))

-- likewise a function
pub function_named : {S : Type 0} (m : IndexMap (Bor Name) Meant S) (units : List Typed) (found : Found) (unit number : ℕ) (name : Name)
    (f : TFunction) → name ≡ f.name → f.local ≡ false → Knows m units (also found name (AFunction (function_of unit number))) →
    Knows m units (λ n. or_definition (found n) (where_true (is_function_named n f) (AFunction (function_of unit number))))
function_named m units found unit number name f is shared =
    knows_as m units (also found name (AFunction (function_of unit number)))
    (λ n. or_definition (found n) (where_true (is_function_named n f) (AFunction (function_of unit number))))
    (λ n. ap (λ b. or_definition (found n) (where_true b (AFunction (function_of unit number))))
    (ap (λ x. bytes_eq x n) is ∙ and_true (bytes_eq f.name n) ∙ ap (λ b. bytes_eq f.name n && not b) (sym shared)))

-- what a file defines: its objects, and then its functions
pub file_defined : {S : Type 0} (m : IndexMap (Bor Name) Meant S) (units : List Typed) (found : Found) (k unit : ℕ) (u : Typed)
    (os : List GlobalInfo) (fs : List TFunction) → k ≡ unit → os ≡ u.globals → fs ≡ u.functions →
    Knows m units (λ n. or_definition (or_definition (found n) (object_at k (position_from (is_object_named n) 0 os)))
    (function_at k (position_from (is_function_named n) 0 fs))) →
    Knows m units (λ n. or_definition (found n) (defined_in n unit u))
file_defined m units found k unit u os fs is of_os of_fs =
    knows_as m units
    (λ n. or_definition (or_definition (found n) (object_at k (position_from (is_object_named n) 0 os)))
    (function_at k (position_from (is_function_named n) 0 fs)))
    (λ n. or_definition (found n) (defined_in n unit u))
    (λ n. or_assoc (found n) (object_at k (position_from (is_object_named n) 0 os)) (function_at k (position_from
    (is_function_named n) 0 fs))
    ∙ ap (λ j. or_definition (found n) (or_definition (object_at j (position_from (is_object_named n) 0 os))
    (function_at j (position_from (is_function_named n) 0 fs)))) is
    ∙ ap (λ l. or_definition (found n) (or_definition (object_at unit (position_from (is_object_named n) 0 l))
    (function_at unit (position_from (is_function_named n) 0 fs)))) of_os
    ∙ ap (λ l. or_definition (found n) (or_definition (object_at unit (position_from (is_object_named n) 0 u.globals))
    (function_at unit (position_from (is_function_named n) 0 l)))) of_fs)
