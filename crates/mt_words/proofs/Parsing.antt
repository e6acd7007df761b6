-- The command that the code builds, and what its parse says.
use Rattle.std.proofs.Common.{◌≡◌, ◌∙◌, ◌⊎◌, ℕ, List, [], Bool, true, Option, Some, None, refl, sym, ap, ap₂, subst, inl, inr, codes}
use Rattle.std.specs.Prelude.{IsSomeAnd, unwrap_or, map, option_map}
use Rattle.std.specs.Borrow.{Bor}
use Rattle.clap.specs.Faults.{fault_of, is_simple_and_free}
use Rattle.clap.specs.Kinds.{HasKind}
use Rattle.clap.specs.Lexer.{usize_max}
use Rattle.clap.specs.Matches.{found_of, matched_of, raw_values, first_value}
use Rattle.clap.specs.Simple.{App, is_simple, matches_of, new_rule}
use Rattle.clap.specs.Values.{kind_of}
use Rattle.clap.specs.Walk.{Row, Rule, all_of, first_of, rows_of, rule_of}
use Rattle.clap.proofs.WalkLemmas.{first_value-rows, raw_values-rows}
use Rattle.clap.specs.declared.builder.arg.Arg.{Arg}
use Rattle.clap.specs.declared.builder.range.ValueRange.{ValueRange}
use Rattle.clap.specs.declared.error.Error.{Error}
use Rattle.clap.specs.declared.error.kind.ErrorKind.TheVariants.{OutOfMemory}
use Rattle.clap.specs.declared.parser.matches.Found.{Found}
use Rattle.mt_words.specs.Held.{text_is}
use Rattle.mt_words.specs.Model.{texts}
use Rattle.mt_words.specs.Reading.{IsRead, file_argument, given_by, given_in, mtcc}

simple_and_free : is_simple_and_free mtcc ≡ true
unfolding mtcc
simple_and_free = refl

simple : is_simple mtcc ≡ true
unfolding mtcc
simple = refl

some_range : (range : Option ValueRange) (r : ValueRange) → IsSomeAnd range (λ x. x ≡ r) → range ≡ Some r
some_range None r e = absurd e
some_range (Some x) r e = ap Some e

-- an argument that takes one value or several
pub several : (a b : Arg) → b ≡ record a { num_vals = b.num_vals } →
    IsSomeAnd b.num_vals (λ r. r ≡ record { start_inclusive = 1; end_inclusive = usize_max }) → rule_of a ≡ new_rule (codes "FILE") →
    rule_of b ≡ file_argument
several a b is range rule =
    ap rule_of is ∙ ap₂ (λ (r : Rule) (n : Option ValueRange). record r { range = n }) rule (some_range b.num_vals _ range)

-- an option's value, by the rows
pub option_row : (found : Found) (id : List ℕ) (value : Option (Bor (List ℕ))) → option_map (λ s. s.now) value ≡ first_value found id →
    text_is value ≡ first_of id (rows_of found)
option_row found id value is = is ∙ first_value-rows found id

-- the files, by the rows
pub files_row : (found : Found) (id : List ℕ) (values : List (Bor (List ℕ))) →
    Some (map (λ v. v.now) values) ≡ option_map raw_values (matched_of found id) → texts values ≡ unwrap_or (all_of id (rows_of found)) []
files_row found id values is = ap (λ o. unwrap_or o []) (is ∙ raw_values-rows found id)

pub no_files_row : (found : Found) (id : List ℕ) → None ≡ option_map raw_values (matched_of found id) →
    [] ≡ unwrap_or (all_of id (rows_of found)) []
no_files_row found id is = ap (λ o. unwrap_or o []) (is ∙ raw_values-rows found id)

-- a parse that succeeds has no fault, and what it finds is the matches of the words
pub is_read : (a : App) (words : List (List ℕ)) → a ≡ mtcc → (is_simple_and_free a ≡ true → fault_of a words ≡ []) → IsRead words
is_read a words is kinds = record { no_fault = subst (λ x. fault_of x words ≡ []) is (kinds (ap is_simple_and_free is ∙ simple_and_free)) }

pub is_given : (a : App) (words : List (List ℕ)) (rows : List Row) → a ≡ mtcc → (is_simple a ≡ true → rows ≡ matches_of a words) →
    given_in rows ≡ given_by words
unfolding given_by
is_given a words rows is found = ap given_in (found (ap is_simple is ∙ simple) ∙ ap (λ x. matches_of x words) is)

-- one that fails but for want of memory has a fault
no_kind : (e : Error) → ¬ (kind_of e ≡ OutOfMemory) → ¬ HasKind [] e
no_kind e other (inl memory) = other memory
no_kind e other (inr among) = among

pub not_read : (a : App) (words : List (List ℕ)) (e : Error) → a ≡ mtcc → (is_simple_and_free a ≡ true → HasKind (fault_of a words) e) →
    ¬ (kind_of e ≡ OutOfMemory) → ¬ IsRead words
not_read a words e is kinds other read =
    let none : fault_of a words ≡ [] = ap (λ x. fault_of x words) is ∙ read.no_fault in
    no_kind e other (subst (λ k. HasKind k e) none (kinds (ap is_simple_and_free is ∙ simple_and_free)))
