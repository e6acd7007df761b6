-- Symbols that are appended by the number of their name.
use Rattle.std.proofs.Common.{◌≡◌, refl, sym, ◌∙◌, ap, ℕ, Bool, true, false, List, [], ◌∷◌, ◌++◌, map, Option, Some, None}
use Rattle.std.specs.Prelude.{filter, slice_get}
use Rattle.std.specs.List.{find}
use Rattle.std.specs.Str.{bytes_eq}
use Rattle.std.proofs.lemmas.List.{append_assoc}
use Rattle.c_types.specs.Files.{number_among}
use Rattle.c_types.specs.Ordered.{by_names, option_list}
use Rattle.elf_obj.specs.declared.parts.Symbol.{Symbol}
use Rattle.unit_object.specs.Scopes.{at_number}
use Rattle.unit_object.specs.Symbols.{name_of}
use Rattle.unit_object.proofs.FoundLaws.{found_there}
use Rattle.unit_object.proofs.OrderLaws.{filter_append}

abbrev Name : Type 0
Name = List ℕ

pub nothing_there : (test : Symbol → Bool) (old all : List Symbol) (number : Option ℕ) (k : ℕ) → number ≡ Some k → slice_get all k ≡ None →
    old ≡ old ++ filter test (at_number all number)
nothing_there test old all number k is none =
    sym (ap (λ o. old ++ filter test (at_number all o)) is ∙ ap (λ o. old ++ filter test (option_list o)) none ∙ append_nothing old)
  where
    append_nothing : (xs : List Symbol) → xs ++ [] ≡ xs
    append_nothing [] = refl
    append_nothing (x ∷ xs) = ap (λ l. x ∷ l) (append_nothing xs)

pub one_there : (test : Symbol → Bool) (new old all : List Symbol) (number : Option ℕ) (k : ℕ) (s : Symbol) → number ≡ Some k →
    slice_get all k ≡ Some s → new ≡ old ++ filter test (s ∷ []) → new ≡ old ++ filter test (at_number all number)
one_there test new old all number k s is some made =
    made ∙ sym (ap (λ o. old ++ filter test (at_number all o)) is ∙ ap (λ o. old ++ filter test (option_list o)) some)

-- one name more
pub one_name : (test : Symbol → Bool) (all : List Symbol) (name : Name) (names : List Name) (old new : List Symbol) →
    new ≡ old ++ filter test (at_number all (number_among (map name_of all) name)) →
    new ++ filter test (by_names name_of names all) ≡ old ++ filter test (by_names name_of (name ∷ names) all)
one_name test all name names old new made =
    ap (λ l. l ++ filter test (by_names name_of names all)) (made
    ∙ ap (λ l. old ++ filter test l) (sym (found_there all name_of name)))
    ∙ append_assoc old (filter test (option_list (find (λ s. bytes_eq (name_of s) name) all))) (filter test (by_names name_of names all))
    ∙ ap (λ l. old ++ l) (sym (filter_append test (option_list (find (λ s. bytes_eq (name_of s) name) all)) (by_names name_of names all)))
