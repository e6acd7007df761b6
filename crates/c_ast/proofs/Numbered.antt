-- Lists whose members are numbered by their places.
use Rattle.std.proofs.Common.{◌≡◌, ℕ, zero, suc, ◌+◌, ◌<◌, List, [], ◌∷◌, Option, None, Some, IfSome, Bor, length, map, drop, get_or}
use Rattle.std.proofs.Common.{slice_index_or, refl, ap, arith}
use Rattle.std.specs.Option.{option_copied}
use Rattle.std.specs.Slice.{IsItemAt}
use Rattle.c_ast.specs.declared.keyword.Keyword.{Keyword}
use Rattle.c_ast.specs.declared.keyword.TheConstants as keyword
use Rattle.c_ast.specs.declared.punctuator.Punctuator.{Punctuator}
use Rattle.c_ast.specs.declared.punctuator.TheConstants as punctuator
use Rattle.c_ast.specs.Words.{keyword_number, punctuator_number}

-- so many numbers, one after another
abbrev upward : ℕ → ℕ → List ℕ
upward start zero = []
upward start (suc n) = start ∷ upward (suc start) n

-- the member at a place has the number of the place
numbered-at : {X : Type 0} (f : X → ℕ) (xs : List X) (start n m : ℕ) (y : X) → map f xs ≡ upward start (length xs) → m ≡ start + n
    → n < length xs → y ≡ slice_index_or xs n y → f y ≡ m
numbered-at f [] start n m y h e within at = absurd (omega arith)
numbered-at f (x ∷ xs) start zero m y h e within at =
    let first : f x ≡ start = ap (λ (l : List ℕ). get_or l 0 0) h in
    let here : f y ≡ f x = ap f at in
    omega arith
numbered-at f (x ∷ xs) start (suc n) m y h e within at =
    numbered-at f xs (suc start) n m y (ap (λ (l : List ℕ). drop 1 l) h) (omega arith) (omega arith) at

-- likewise of what a look in the list gives
numbered-found : {X : Type 0} (f : X → ℕ) (xs : List X) (n : ℕ) (r : Option (Bor X)) → map f xs ≡ upward 0 (length xs) → IsItemAt xs n r
    → IfSome (option_copied r) (λ x. f x ≡ n)
numbered-found f xs n None h found = tt
numbered-found f xs n (Some x) h found =
    let within = found.3.0 in
    numbered-at f xs 0 n n x.now h (omega arith) within found.1

pub keyword-found : (n : ℕ) (r : Option (Bor Keyword)) → IsItemAt keyword.BY_NUMBER n r
    → IfSome (option_copied r) (λ k. keyword_number k ≡ n)
keyword-found n r found = numbered-found keyword_number keyword.BY_NUMBER n r refl found

pub punctuator-found : (n : ℕ) (r : Option (Bor Punctuator)) → IsItemAt punctuator.BY_NUMBER n r
    → IfSome (option_copied r) (λ p. punctuator_number p ≡ n)
punctuator-found n r found = numbered-found punctuator_number punctuator.BY_NUMBER n r refl found
