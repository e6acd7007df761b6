-- Objects in the order of their definitions, by their numbers.
use Rattle.std.proofs.Common.{◌≡◌, refl, sym, ◌∙◌, ap, ℕ, Bool, true, false, not, ◌&&◌, List, [], ◌∷◌, ◌++◌, map, Option, Some, None}
use Rattle.std.specs.Prelude.{flat_map, filter, slice_get, if◌then◌else◌}
use Rattle.std.specs.List.{find}
use Rattle.std.specs.Str.{bytes_eq}
use Rattle.std.proofs.lemmas.List.{map-append, append_assoc}
use Rattle.c_ast.specs.declared.declaration.Decl.{Decl}
use Rattle.c_ast.specs.declared.declaration.Storage.{Storage}
use Rattle.c_ast.specs.declared.program.External.{External}
use Rattle.c_ast.specs.declared.program.External.TheVariants as external
use Rattle.c_ast.specs.declared.program.Program.{Program}
use Rattle.c_type_base.specs.declared.typed.GlobalInfo.{GlobalInfo}
use Rattle.c_types.specs.Files.{mentions, mentioned_object, is_extern, name_in, number_among}
use Rattle.c_types.specs.declared.names.Mention.{Mention}
use Rattle.c_types.specs.Ordered.{globals_by, option_list}
use Rattle.mean_link.specs.Names.{name_of}
use Rattle.unit_object.specs.Numbered.{defined_by, is_wanted, is_wanted_there, wanted_number, numbers_by, global_names}
use Rattle.unit_object.specs.Order.{chosen, defined_names, defines_object}
use Rattle.unit_object.specs.Scopes.{at_number}
use Rattle.unit_object.proofs.FoundLaws.{found_there}

-- ---- lists

pub filter_append : {K : Type 0} (test : K → Bool) (xs ys : List K) → filter test (xs ++ ys) ≡ filter test xs ++ filter test ys
filter_append test [] ys = refl
filter_append test (x ∷ xs) ys =
    ap (λ l. if test x then x ∷ l else l) (filter_append test xs ys) ∙ by (test x)
  where
    by : (b : Bool) →
        (if b then x ∷ (filter test xs ++ filter test ys) else filter test xs ++ filter test ys)
        ≡ (if b then x ∷ filter test xs else filter test xs) ++ filter test ys
    by true = refl
    by false = refl

chosen_append : (gs : List GlobalInfo) (ks js : List ℕ) → chosen gs (ks ++ js) ≡ chosen gs ks ++ chosen gs js
chosen_append gs [] js = refl
chosen_append gs (k ∷ ks) js =
    ap (λ l. option_list (slice_get gs k) ++ l) (chosen_append gs ks js)
    ∙ sym (append_assoc (option_list (slice_get gs k)) (chosen gs ks) (chosen gs js))

-- ---- one name

chosen_wanted : (filled : Bool) (gs : List GlobalInfo) (number : Option ℕ) →
    chosen gs (wanted_number filled gs number) ≡ filter (is_wanted filled) (at_number gs number)
chosen_wanted filled gs None = refl
chosen_wanted filled gs (Some k) = by (slice_get gs k) refl
  where
    test : (g : GlobalInfo) (b : Bool) → slice_get gs k ≡ Some g →
        chosen gs (if b then k ∷ [] else []) ≡ (if b then g ∷ [] else [])
    test g true is = ap (λ o. option_list o ++ []) is
    test g false is = refl

    by : (o : Option GlobalInfo) → slice_get gs k ≡ o →
        chosen gs (if is_wanted_there filled (slice_get gs k) then k ∷ [] else []) ≡ filter (is_wanted filled) (option_list
        (slice_get gs k))
    by None is =
        ap (λ o. chosen gs (if is_wanted_there filled o then k ∷ [] else [])) is
        ∙ sym (ap (λ o. filter (is_wanted filled) (option_list o)) is)
    by (Some g) is =
        ap (λ o. chosen gs (if is_wanted_there filled o then k ∷ [] else [])) is ∙ test g (is_wanted filled g) is
        ∙ sym (ap (λ o. filter (is_wanted filled) (option_list o)) is)

-- ---- all names

pub chosen_by : (filled : Bool) (gs : List GlobalInfo) (names : List (List ℕ)) →
    chosen gs (numbers_by filled gs (global_names gs) names) ≡ filter (is_wanted filled) (globals_by names gs)
chosen_by filled gs [] = refl
chosen_by filled gs (n ∷ ns) =
    chosen_append gs (wanted_number filled gs (number_among (global_names gs) n)) (numbers_by filled gs (global_names gs) ns)
    ∙ ap (λ l. l ++ chosen gs (numbers_by filled gs (global_names gs) ns)) here
    ∙ ap (λ l. filter (is_wanted filled) (option_list (find (λ g. bytes_eq g.name n) gs)) ++ l) (chosen_by filled gs ns)
    ∙ sym (filter_append (is_wanted filled) (option_list (find (λ g. bytes_eq g.name n) gs)) (globals_by ns gs))
  where
    here : chosen gs (wanted_number filled gs (number_among (global_names gs) n))
        ≡ filter (is_wanted filled) (option_list (find (λ g. bytes_eq g.name n) gs))
    here =
        chosen_wanted filled gs (number_among (global_names gs) n)
        ∙ sym (ap (filter (is_wanted filled)) (found_there gs (λ g. g.name) n))

-- ---- the names that a text defines

defined_in : (parts : List External) → map name_in (filter defines_object (flat_map mentions parts)) ≡ flat_map defined_by parts
defined_in [] = refl
defined_in (p ∷ ps) =
    ap (map name_in) (filter_append defines_object (mentions p) (flat_map mentions ps))
    ∙ map-append name_in (filter defines_object (mentions p)) (filter defines_object (flat_map mentions ps))
    ∙ ap (λ l. defined_by p ++ l) (defined_in ps)

pub defined_names_are : (p : Program) → defined_names p ≡ flat_map defined_by p.items
defined_names_are p = defined_in p.items

-- of one part
pub defined_objects : (c : Storage) (ds : List Decl) → is_extern c ≡ false →
    map name_in (filter defines_object (map (mentioned_object c) ds)) ≡ map name_of ds
defined_objects c [] own = refl
defined_objects c (d ∷ ds) own =
    ap (λ b. map name_in (if not b && not false then mentioned_object c d ∷ filter defines_object (map (mentioned_object c) ds)
    else filter defines_object (map (mentioned_object c) ds))) own ∙ ap (λ l. d.name ∷ l) (defined_objects c ds own)

pub no_objects : (c : Storage) (ds : List Decl) → is_extern c ≡ true →
    map name_in (filter defines_object (map (mentioned_object c) ds)) ≡ []
no_objects c [] other = refl
no_objects c (d ∷ ds) other =
    ap (λ b. map name_in (if not b && not false then mentioned_object c d ∷ filter defines_object (map (mentioned_object c) ds)
    else filter defines_object (map (mentioned_object c) ds))) other ∙ no_objects c ds other

-- what is appended for a part that declares objects
pub none_defined : (filled : Bool) (gs : List GlobalInfo) (all : List (List ℕ)) (old : List ℕ) (p : External) (c : Storage)
    (ds : List Decl) → p ≡ external.Objects c ds → is_extern c ≡ true → old ≡ old ++ numbers_by filled gs all (defined_by p)
none_defined filled gs all old p c ds is other =
    sym (ap (λ p. old ++ numbers_by filled gs all (defined_by p)) is
    ∙ ap (λ names. old ++ numbers_by filled gs all names) (no_objects c ds other) ∙ nothing old)
  where
    nothing : (xs : List ℕ) → xs ++ [] ≡ xs
    nothing [] = refl
    nothing (x ∷ xs) = ap (λ l. x ∷ l) (nothing xs)

pub some_defined : (filled : Bool) (gs : List GlobalInfo) (all : List (List ℕ)) (old new : List ℕ) (p : External) (c : Storage)
    (ds there : List Decl) → p ≡ external.Objects c ds → is_extern c ≡ false → there ≡ ds →
    new ≡ old ++ numbers_by filled gs all (map name_of there) → new ≡ old ++ numbers_by filled gs all (defined_by p)
some_defined filled gs all old new p c ds there is own same made =
    made ∙ ap (λ ds. old ++ numbers_by filled gs all (map name_of ds)) same
    ∙ sym (ap (λ p. old ++ numbers_by filled gs all (defined_by p)) is
    ∙ ap (λ names. old ++ numbers_by filled gs all names) (defined_objects c ds own))
