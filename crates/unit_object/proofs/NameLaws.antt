-- Tables of names.
use Rattle.std.proofs.Common.{◌≡◌, refl, sym, ◌∙◌, ap, ℕ, ◌+◌, Bool, true, false, ◌||◌, cond, List, [], ◌∷◌, ◌++◌, map, position, Some}
use Rattle.std.proofs.Common.{◌<◌, length, take, get_or}
use Rattle.std.specs.Prelude.{flat_map}
use Rattle.c_ast.specs.declared.program.External.{External}
use Rattle.mean_link.specs.Names.{declared_by}
use Rattle.std.specs.Prelude.{if◌then◌else◌}
use Rattle.std.specs.List.{list_any, position_from}
use Rattle.std.specs.Str.{bytes_eq}
use Rattle.std.proofs.lemmas.Iterator.Adapters.{position_from-zero}
use Rattle.std.proofs.lemmas.Grind.{flat_map-append}
use Rattle.std.proofs.lemmas.List.{take_more, map-append, append-nil}
use Rattle.c_types.specs.Files.{number_among}
use Rattle.c_types.specs.Tables.{with_name}
use Rattle.unit_object.specs.Order.{each_once}

abbrev Name : Type 0
Name = List ℕ

pub position_from-map : {K : Type 0} (ks : List K) (name_of : K → Name) (test : Name → Bool) (i : ℕ) →
    position_from test i (map name_of ks) ≡ position_from (λ k. test (name_of k)) i ks
position_from-map [] name_of test i = refl
position_from-map (k ∷ ks) name_of test i =
    ap (cond (test (name_of k)) (Some i)) (position_from-map ks name_of test (i + 1))

-- the place of a key is the number of its name
pub number_is : {K : Type 0} (ks : List K) (name_of : K → Name) (name : Name) →
    position (λ k. bytes_eq name (name_of k)) ks ≡ number_among (map name_of ks) name
number_is ks name_of name =
    position_from-zero (λ k. bytes_eq name (name_of k)) ks ∙ sym (position_from-map ks name_of (bytes_eq name) 0)

pub any-map : {K : Type 0} (ks : List K) (name_of : K → Name) (name : Name) →
    list_any (λ k. bytes_eq name (name_of k)) ks ≡ list_any (bytes_eq name) (map name_of ks)
any-map [] name_of name = refl
any-map (k ∷ ks) name_of name = ap (λ b. bytes_eq name (name_of k) || b) (any-map ks name_of name)

pub added_is : {K : Type 0} (ks : List K) (name_of : K → Name) (k : K) →
    map name_of (if list_any (λ x. bytes_eq (name_of k) (name_of x)) ks then ks else ks ++ k ∷ []) ≡ with_name (map name_of ks) (name_of k)
added_is ks name_of k =
    chosen (list_any (λ x. bytes_eq (name_of k) (name_of x)) ks)
    ∙ ap (λ b. if b then map name_of ks else map name_of ks ++ name_of k ∷ []) (any-map ks name_of (name_of k))
  where
    chosen : (b : Bool) → map name_of (if b then ks else ks ++ k ∷ []) ≡ (if b then map name_of ks else map name_of ks ++ name_of k ∷ [])
    chosen true = refl
    chosen false = map-append name_of ks (k ∷ [])

pub each_once_append : (names xs ys : List Name) → each_once names (xs ++ ys) ≡ each_once (each_once names xs) ys
each_once_append names [] ys = refl
each_once_append names (x ∷ xs) ys = each_once_append (with_name names x) xs ys

-- the names of one part more
pub one_more : (parts : List External) (i : ℕ) (part : External) (old new : List Name) → i < length parts → part ≡ get_or parts i part →
    old ≡ each_once [] (flat_map declared_by (take i parts)) → new ≡ each_once old (declared_by part) →
    new ≡ each_once [] (flat_map declared_by (take (i + 1) parts))
one_more parts i part old new within is was now =
    let more : take (i + 1) parts ≡ take i parts ++ part ∷ [] = take_more parts i part within ∙ ap (λ x. take i parts ++ x ∷ []) (sym is) in
    now ∙ ap (λ o. each_once o (declared_by part)) was
    ∙ sym (each_once_append [] (flat_map declared_by (take i parts)) (declared_by part))
    ∙ sym (ap (each_once []) (ap (flat_map declared_by) more ∙ flat_map-append declared_by (take i parts) (part ∷ [])
    ∙ ap (λ l. flat_map declared_by (take i parts) ++ l) (append-nil (declared_by part))))
