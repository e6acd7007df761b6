-- The numbers of the first blocks of files, one file further.
use Rattle.std.proofs.Common.{◌≡◌, refl, sym, ap, subst, ◌∙◌, ℕ, zero, suc, ◌+◌, ◌<◌, ◌≤◌, List, [], ◌∷◌}
use Rattle.std.proofs.Common.{◌++◌, length, take, get_or, arith, Some, None}
use Rattle.std.specs.Prelude.{slice_get}
use Rattle.std.proofs.lemmas.List.{take_more}
use Rattle.std.proofs.lemmas.Option.{none-some, same_Some, slice_get_read, slice_get-get_or}
use Rattle.c_type_base.specs.declared.typed.Typed.{Typed}
use Rattle.block_meaning.specs.Linkage.{blocks_of, blocks_in, first_block, objects_in, objects_and_texts_in}
use Rattle.mean_start.specs.declared.starts.Starts.{Starts}
use Rattle.mean_start.specs.Numbers.{IsStart, AreStarts}

-- what holds of each element by its place, with one more
pub each_more : {A : Type 0} (P : ℕ → A → Type 0) (xs : List A) (x : A) → ((n : ℕ) (y : A) → slice_get xs n ≡ Some y → P n y) →
    P (length xs) x → (n : ℕ) (y : A) → slice_get (xs ++ x ∷ []) n ≡ Some y → P n y
each_more P [] x old new zero y at = subst (P 0) (same_Some _ _ at) new
each_more P [] x old new (suc n) y at = absurd (none-some _ at)
each_more P (z ∷ zs) x old new zero y at = old zero y at
each_more P (z ∷ zs) x old new (suc n) y at = each_more (λ k. P (suc k)) zs x (λ k. old (suc k)) new n y at

blocks_last : (us : List Typed) (u : Typed) → blocks_in (us ++ u ∷ []) ≡ blocks_in us + blocks_of u
blocks_last [] u = omega arith
blocks_last (x ∷ xs) u = let below = blocks_last xs u in omega arith

first_more : (us : List Typed) (i : ℕ) (u : Typed) → i < length us → u ≡ get_or us i u →
    first_block us (i + 1) ≡ first_block us i + blocks_of u
first_more us i u within is =
    let all : take (i + 1) us ≡ take i us ++ u ∷ [] = take_more us i u within ∙ ap (λ x. take i us ++ x ∷ []) (sym is) in
    let sum : blocks_in (take (i + 1) us) ≡ blocks_in (take i us) + blocks_of u = ap blocks_in all ∙ blocks_last (take i us) u in
    omega arith

-- the next file's blocks begin where this one's end
pub next_is : (us : List Typed) (i : ℕ) (u : Typed) (s : Starts) (first next : ℕ) → i < length us → u ≡ get_or us i u →
    first ≡ first_block us i → s.functions ≡ first + (length u.globals + length u.texts) → next ≡ s.functions + length u.functions →
    next ≡ first_block us (i + 1)
next_is us i u s first next within is begins functions ends =
    let more = first_more us i u within is in
    omega arith

-- this file's own
pub start_is : (us : List Typed) (i : ℕ) (u : Typed) (s : Starts) (first : ℕ) → i < length us → u ≡ get_or us i u →
    first ≡ first_block us i → s.objects ≡ first → s.texts ≡ first + length u.globals →
    s.functions ≡ first + (length u.globals + length u.texts) → IsStart s us i
start_is us i u s first within is begins objects texts functions =
    let at : slice_get us i ≡ Some u = slice_get_read us (length us) i u refl within is in
    let of_objects : objects_in (slice_get us i) ≡ length u.globals = ap objects_in at in
    let of_both : objects_and_texts_in (slice_get us i) ≡ length u.globals + length u.texts = ap objects_and_texts_in at in
    record { objects = omega arith; texts = omega arith; functions = omega arith }

-- likewise in a list that was made of it
pub each_pushed : {A : Type 0} (P : ℕ → A → Type 0) (xs ys : List A) (i : ℕ) (x : A) → ys ≡ xs ++ x ∷ [] → length xs ≡ i →
    ((n : ℕ) (y : A) → slice_get xs n ≡ Some y → P n y) → P i x → (n : ℕ) (y : A) → slice_get ys n ≡ Some y → P n y
each_pushed P xs ys i x is count old new n y at = each_more P xs x old (subst (λ k. P k x) (sym count) new) n y
    (ap (λ l. slice_get l n) (sym is) ∙ at)

-- what a place past the end reads as
abbrev pub no_start : Starts
no_start = record { objects = 0; texts = 0; functions = 0 }

-- those of the file of a number
pub start_at : (starts : List Starts) (units : List Typed) → AreStarts starts units → (i : ℕ) → i < length units →
    IsStart (get_or starts i no_start) units i
start_at starts units are i within =
    let count = are.count in
    are.each i (get_or starts i no_start) (slice_get-get_or starts i no_start (omega arith))

-- there is an element within a list
pub element : {A : Type 0} (xs : List A) (i : ℕ) → i < length xs → (x : A) × (x ≡ get_or xs i x)
element [] i within = absurd (omega arith)
element (x ∷ xs) zero within = (x, refl)
element (x ∷ xs) (suc i) within = element xs i (omega arith)

-- past the end of a list
pub past : {A : Type 0} (xs : List A) (i : ℕ) → slice_get xs i ≡ None → length xs ≤ i
past [] i none = omega arith
past (x ∷ xs) zero none = absurd (none-some x (sym none))
past (x ∷ xs) (suc i) none = let below = past xs i none in omega arith
