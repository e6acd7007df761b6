-- Bytes of a list replaced from a place on.
use Rattle.std.proofs.Common.{◌≡◌, ℕ, ◌+◌, ◌-◌, ◌<◌, ◌≤◌, List, ◌++◌, length, get_or, take, drop, refl, ◌∙◌, ap, arith, length-append}
use Rattle.std.proofs.Common.{length-take, length-drop, inl, inr}
use Rattle.std.proofs.lemmas.Bool.{cases_lt}
use Rattle.std.proofs.lemmas.List.{get_or-take, get_or-drop, get_or_append_left, get_or-append_right}
use Rattle.tag_mem.specs.Regions.{put_list}

pub length-put_list : (xs : List ℕ) (at : ℕ) (ys : List ℕ) → at + length ys ≤ length xs → length (put_list xs at ys) ≡ length xs
length-put_list xs at ys room =
    length-append (take at xs) (ys ++ drop (at + length ys) xs)
    ∙ omega (arith, room, length-append ys (drop (at + length ys) xs), length-take at xs, length-drop (at + length ys) xs)

front : (xs : List ℕ) (at : ℕ) (ys : List ℕ) → at + length ys ≤ length xs → length (take at xs) ≡ at
front xs at ys room = omega (arith, room, length-take at xs)

-- an element before the place, in the new part, and behind it
pub put_list_below : (xs : List ℕ) (at : ℕ) (ys : List ℕ) (k : ℕ) → at + length ys ≤ length xs → k < at →
    get_or (put_list xs at ys) k 0 ≡ get_or xs k 0
put_list_below xs at ys k room h =
    get_or_append_left (take at xs) (ys ++ drop (at + length ys) xs) 0 k (omega (arith, h, front xs at ys room))
    ∙ get_or-take at xs k 0 h

pub put_list_inside : (xs : List ℕ) (at : ℕ) (ys : List ℕ) (k : ℕ) → at + length ys ≤ length xs → k < length ys →
    get_or (put_list xs at ys) (at + k) 0 ≡ get_or ys k 0
put_list_inside xs at ys k room h =
    get_or-append_right (take at xs) (ys ++ drop (at + length ys) xs) at (at + k) 0 (front xs at ys room) (omega arith)
    ∙ ap (λ i. get_or (ys ++ drop (at + length ys) xs) i 0) (let e : at + k - at ≡ k = omega arith in e)
    ∙ get_or_append_left ys (drop (at + length ys) xs) 0 k h

pub put_list_above : (xs : List ℕ) (at : ℕ) (ys : List ℕ) (k : ℕ) → at + length ys ≤ length xs → at + length ys ≤ k →
    get_or (put_list xs at ys) k 0 ≡ get_or xs k 0
put_list_above xs at ys k room h =
    get_or-append_right (take at xs) (ys ++ drop (at + length ys) xs) at k 0 (front xs at ys room) (omega (arith, h))
    ∙ get_or-append_right ys (drop (at + length ys) xs) (length ys) (k - at) 0 refl (omega (arith, h))
    ∙ get_or-drop (at + length ys) xs (k - at - length ys) 0
    ∙ ap (λ i. get_or xs i 0) (let e : at + length ys + (k - at - length ys) ≡ k = omega (arith, h) in e)

-- a list that is put piece by piece, of elements that a function gives
pub put_more : (xs : List ℕ) (f : ℕ → ℕ) (done : ℕ) (ys : List ℕ) → done + length ys ≤ length xs →
    ((k : ℕ) → k < done → get_or xs k 0 ≡ f k) → ((k : ℕ) → k < length ys → get_or ys k 0 ≡ f (done + k)) → (k : ℕ) →
    k < done + length ys → get_or (put_list xs done ys) k 0 ≡ f k
put_more xs f done ys room before new k h = elim (cases_lt k done) [
  | inl below ↦ put_list_below xs done ys k room below ∙ before k below
  | inr from ↦
      ap (λ i. get_or (put_list xs done ys) i 0) (let e : k ≡ done + (k - done) = omega (arith, from) in e)
      ∙ put_list_inside xs done ys (k - done) room (omega (arith, from, h))
      ∙ new (k - done) (omega (arith, from, h))
      ∙ ap f (let e : done + (k - done) ≡ k = omega (arith, from) in e)
]
