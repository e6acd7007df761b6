-- A read of one byte more than the limit that ends below it has read all.
use Rattle.std.proofs.Common.{◌≡◌, ℕ, ◌+◌, ◌≤◌, List, [], ◌++◌, Option, Some, None, IfSome, length, take, ap, subst, ◌∙◌, arith}
use Rattle.std.specs.Prelude.{min}
use Rattle.std.specs.Option.{option_map}
use Rattle.std.proofs.lemmas.List.{take_all, length-take}

whole-from_front : (told : Option (List ℕ)) (most limit : ℕ) (bytes before : List ℕ) → limit ≡ most + 1 → length bytes ≤ most → before ≡ []
    → IfSome (option_map (take limit) told) (λ front. bytes ≡ before ++ front) → IfSome told (λ left. bytes ≡ left)
whole-from_front None most limit bytes before one within none front = tt
whole-from_front (Some left) most limit bytes before one within none front =
    let is : bytes ≡ take limit left = front ∙ ap (λ (old : List ℕ). old ++ take limit left) none in
    let taken : length bytes ≡ min limit (length left) = ap length is ∙ length-take limit left in
    let short : length left ≤ limit = omega (arith, taken) in
    is ∙ take_all limit left short

-- the same for a reader of this file
pub whole-from_take : {F : Type 0} (remaining : F → Option (List ℕ)) (inner file : F) (most limit : ℕ) (bytes before : List ℕ)
    → inner ≡ file
    → limit ≡ most + 1 → length bytes ≤ most → before ≡ [] → IfSome (option_map (take limit) (remaining inner)) (λ front. bytes
    ≡ before ++ front)
    → IfSome (remaining file) (λ left. bytes ≡ left)
whole-from_take {F = F} remaining inner file most limit bytes before is one within none front =
    subst (λ (f : F). IfSome (remaining f) (λ left. bytes ≡ left)) is
    (whole-from_front (remaining inner) most limit bytes before one within none front)
