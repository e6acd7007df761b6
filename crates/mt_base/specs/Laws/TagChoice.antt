-- What the choice of a tag gives: a tag that is not excluded, and at a greater offset the next one.
use Rattle.std.specs.Prelude.{◌≡◌, ℕ, zero, suc, ◌+◌, ◌-◌, ◌%◌, ◌<◌, ◌≤◌, List, [], ◌∷◌, ◌++◌, length, slice_index, true, false, refl}
use Rattle.std.specs.List.{filter}
use Rattle.std.proofs.Common.{sym, ◌∙◌, ap, ap₂, subst, arith, get_or, length-append, inl, inr, zero-add, add-zero, suc-add, mod-lt}
use Rattle.std.proofs.Common.{mod-eq_of_lt, add_comm, add-one}
use Rattle.std.proofs.Math.Nat.{mod_self, suc-mod, eq-zero-or-pos}
use Rattle.std.proofs.Math.Seq.{get_or-append_seam}
use Rattle.std.proofs.lemmas.Bool.{cases_Bool}
use Rattle.std.proofs.lemmas.List.{get_or_past, get_or-append-add}
use Rattle.std.proofs.lemmas.List.Elements.{filter-append}
use Rattle.mt_base.specs.Tags.{is_allowed, ring, allowed_from, chosen_at, next_tag}

-- ---- pieces of the ring

-- the tags of a piece of the ring that are not excluded
piece : ℕ → ℕ → ℕ → List ℕ
piece e s n = filter (is_allowed e) (ring s n)

allowed_from_is : (e s : ℕ) → allowed_from e s ≡ piece e s 16
unfolding allowed_from piece
allowed_from_is e s = refl

-- the ring is the same from one number on as from another that stands for the same tag
ring_same : (s t n : ℕ) → s % 16 ≡ t % 16 → ring s n ≡ ring t n
ring_same s t zero same = refl
ring_same s t (suc n) same = ap₂ (λ x xs. x ∷ xs) same (ring_same (s + 1) (t + 1) n (omega arith))

piece_same : (e s t n : ℕ) → s % 16 ≡ t % 16 → piece e s n ≡ piece e t n
unfolding piece
piece_same e s t n same = ap (filter (is_allowed e)) (ring_same s t n same)

-- two pieces, one after the other
ring-add : (s a b : ℕ) → ring s (a + b) ≡ ring s a ++ ring (s + a) b
ring-add s zero b = rw (zero-add b, add-zero s) refl
ring-add s (suc a) b = rw (suc-add a b) (ap (λ xs. (s % 16) ∷ xs)
    (ring-add (s + 1) a b ∙ ap (λ t. ring (s + 1) a ++ ring t b) (let e : s + 1 + a ≡ s + suc a = omega arith in e)))

piece-add : (e s a b : ℕ) → piece e s (a + b) ≡ piece e s a ++ piece e (s + a) b
unfolding piece
piece-add e s a b = ap (filter (is_allowed e)) (ring-add s a b) ∙ filter-append (is_allowed e) (ring s a) (ring (s + a) b)

-- no tag, one tag
piece_none : (e s : ℕ) → piece e s 0 ≡ []
unfolding piece
piece_none e s = refl

piece_allowed : (e s n : ℕ) → is_allowed e (s % 16) ≡ true → piece e s (suc n) ≡ (s % 16) ∷ piece e (s + 1) n
unfolding piece
piece_allowed e s n allowed = rw allowed refl

piece_excluded : (e s n : ℕ) → is_allowed e (s % 16) ≡ false → piece e s (suc n) ≡ piece e (s + 1) n
unfolding piece
piece_excluded e s n excluded = rw excluded refl

-- as many tags are allowed from wherever the ring is gone round
length-allowed_from_step : (e s : ℕ) → length (piece e (s + 1) 16) ≡ length (piece e s 16)
length-allowed_from_step e s =
    ap length (piece-add e (s + 1) 15 1 ∙ ap (λ xs. piece e (s + 1) 15 ++ xs) (piece_same e (s + 1 + 15) s 1 (omega arith)))
    ∙ length-append (piece e (s + 1) 15) (piece e s 1)
    ∙ add_comm (length (piece e (s + 1) 15)) (length (piece e s 1))
    ∙ sym (length-append (piece e s 1) (piece e (s + 1) 15))
    ∙ ap length (sym (piece-add e s 1 15))

length-allowed_from : (e s : ℕ) → length (piece e s 16) ≡ length (piece e 0 16)
length-allowed_from e zero = refl
length-allowed_from e (suc s) = ap (λ t. length (piece e t 16)) (sym (add-one s)) ∙ length-allowed_from_step e s ∙ length-allowed_from e s

-- ---- the places of such a list

-- the tag at place j of a piece stands behind `before` tags of the ring
record IsPlace (e s n j : ℕ) : Type 0 where
  before : ℕ
  after : ℕ
  whole : before + suc after ≡ n
  count : length (piece e s before) ≡ j
  allowed : is_allowed e ((s + before) % 16) ≡ true

moved : (s b : ℕ) → s + 1 + b ≡ s + suc b
moved s b = omega arith

place_here : (e s n : ℕ) → is_allowed e (s % 16) ≡ true → IsPlace e s (suc n) 0
place_here e s n allowed = record {
  before = 0;
  after = n;
  whole = omega arith;
  count = ap length (piece_none e s);
  allowed = rw (add-zero s) allowed;
}

place_behind_allowed : (e s n i : ℕ) → is_allowed e (s % 16) ≡ true → IsPlace e (s + 1) n i → IsPlace e s (suc n) (suc i)
place_behind_allowed e s n i allowed p = record {
  before = suc p.before;
  after = p.after;
  whole = omega (arith, p.whole);
  count = ap length (piece_allowed e s p.before allowed) ∙ ap suc p.count;
  allowed = ap (λ t. is_allowed e (t % 16)) (sym (moved s p.before)) ∙ p.allowed;
}

place_behind_excluded : (e s n j : ℕ) → is_allowed e (s % 16) ≡ false → IsPlace e (s + 1) n j → IsPlace e s (suc n) j
place_behind_excluded e s n j excluded p = record {
  before = suc p.before;
  after = p.after;
  whole = omega (arith, p.whole);
  count = ap length (piece_excluded e s p.before excluded) ∙ p.count;
  allowed = ap (λ t. is_allowed e (t % 16)) (sym (moved s p.before)) ∙ p.allowed;
}

place_at_allowed : (e s n j : ℕ) → is_allowed e (s % 16) ≡ true → j < suc (length (piece e (s + 1) n))
    → ((i : ℕ) → i < length (piece e (s + 1) n) → IsPlace e (s + 1) n i) → IsPlace e s (suc n) j
place_at_allowed e s n zero allowed below again = place_here e s n allowed
place_at_allowed e s n (suc i) allowed below again = place_behind_allowed e s n i allowed (again i (omega (arith, below)))

place_of : (e s n j : ℕ) → j < length (piece e s n) → IsPlace e s n j
place_of e s zero j h = absurd (omega (arith, rw (piece_none e s) at h))
place_of e s (suc n) j h = elim (cases_Bool (is_allowed e (s % 16))) [
  | inl allowed ↦ place_at_allowed e s n j allowed (rw (piece_allowed e s n allowed) at h) (λ i below. place_of e (s + 1) n i below)
  | inr excluded ↦ place_behind_excluded e s n j excluded (place_of e (s + 1) n j (rw (piece_excluded e s n excluded) at h))
]

-- the list is what stands before the place, the tag there, and what stands behind it
split_at_place : (e s n j : ℕ) (p : IsPlace e s n j)
    → piece e s n ≡ piece e s p.before ++ ((s + p.before) % 16) ∷ piece e (s + p.before + 1) p.after
split_at_place e s n j p =
    ap (piece e s) (sym p.whole)
    ∙ piece-add e s p.before (suc p.after)
    ∙ ap (λ xs. piece e s p.before ++ xs) (piece_allowed e (s + p.before) p.after p.allowed)

get_or-place : (e s n j : ℕ) (p : IsPlace e s n j) → get_or (piece e s n) j 0 ≡ (s + p.before) % 16
get_or-place e s n j p =
    ap (λ xs. get_or xs j 0) (split_at_place e s n j p)
    ∙ ap (λ k. get_or (piece e s p.before ++ ((s + p.before) % 16) ∷ piece e (s + p.before + 1) p.after) k 0) (sym p.count)
    ∙ get_or-append_seam (piece e s p.before) ((s + p.before) % 16) (piece e (s + p.before + 1) p.after) 0

-- the head of a list that is turned by its front and one element is the next element, gone round
turned : (p q : List ℕ) (u : ℕ) → get_or (q ++ (p ++ u ∷ [])) 0 0 ≡ get_or (p ++ u ∷ q) ((length p + 1) % length (p ++ u ∷ q)) 0
turned p [] u = rw (length-append p (u ∷ []), mod_self (length p + 1)) refl
turned p (x ∷ q) u =
    sym (get_or-append-add p (u ∷ x ∷ q) 1 0)
    ∙ ap (λ k. get_or (p ++ u ∷ x ∷ q) k 0) (sym (mod-eq_of_lt (omega (arith, length-append p (u ∷ x ∷ q)))))

-- the ring from behind a place on
behind_place : (e s j : ℕ) (p : IsPlace e s 16 j) → piece e (s + p.before + 1) 16
    ≡ piece e (s + p.before + 1) p.after ++ (piece e s p.before ++ ((s + p.before) % 16) ∷ [])
behind_place e s j p =
    ap (piece e (s + p.before + 1)) (let sum : 16 ≡ p.after + (p.before + 1) = omega (arith, p.whole) in sum)
    ∙ piece-add e (s + p.before + 1) p.after (p.before + 1)
    ∙ ap (λ xs. piece e (s + p.before + 1) p.after ++ xs)
    (piece_same e (s + p.before + 1 + p.after) s (p.before + 1) (omega (arith, p.whole))
    ∙ piece-add e s p.before 1
    ∙ ap (λ xs. piece e s p.before ++ xs) (piece_allowed e (s + p.before) 0 p.allowed
    ∙ ap (λ xs. ((s + p.before) % 16) ∷ xs) (piece_none e (s + p.before + 1))))

-- ---- the first tag

piece_all_excluded : (e s n : ℕ) → ((k : ℕ) → k < n → is_allowed e ((s + k) % 16) ≡ false) → piece e s n ≡ []
piece_all_excluded e s zero none = piece_none e s
piece_all_excluded e s (suc n) none =
    piece_excluded e s n (rw (add-zero s) at (none 0 (omega arith)))
    ∙ piece_all_excluded e (s + 1) n (λ k below. ap (λ t. is_allowed e (t % 16)) (moved s k) ∙ none (suc k) (omega (arith, below)))

-- the first tag that is not excluded, d places from the start
pub first_is : (e s d : ℕ) → d < 16 → ((k : ℕ) → k < d → is_allowed e ((s + k) % 16) ≡ false) → is_allowed e ((s + d) % 16) ≡ true
    → slice_index (allowed_from e s) 0 ≡ (s + d) % 16
first_is e s d small none allowed = ap (λ xs. get_or xs 0 0) whole
  where
    whole : allowed_from e s ≡ ((s + d) % 16) ∷ piece e (s + d + 1) (15 - d)
    whole =
        allowed_from_is e s
        ∙ ap (piece e s) (let sum : 16 ≡ d + suc (15 - d) = omega (arith, small) in sum)
        ∙ piece-add e s d (suc (15 - d))
        ∙ ap (λ xs. xs ++ piece e (s + d) (suc (15 - d))) (piece_all_excluded e s d none)
        ∙ piece_allowed e (s + d) (15 - d) allowed

-- where all are excluded it is 0
pub first_none : (e s : ℕ) → ((k : ℕ) → k < 16 → is_allowed e ((s + k) % 16) ≡ false) → slice_index (allowed_from e s) 0 ≡ 0
first_none e s none = ap (λ xs. get_or xs 0 0) (allowed_from_is e s ∙ piece_all_excluded e s 16 none)

-- ---- the choice

-- the tag at offset 0, and at a greater offset
pub next_tag-zero : (t e : ℕ) → next_tag t 0 e ≡ slice_index (allowed_from e t) 0
next_tag-zero t e = refl

pub next_tag-suc : (t i e : ℕ) → next_tag t (suc i) e ≡ chosen_at (allowed_from e (t + 1)) i
next_tag-suc t i e = refl

chosen_is : (t i e : ℕ) → next_tag t (suc i) e ≡ get_or (piece e (t + 1) 16) (i % length (piece e (t + 1) 16)) 0
chosen_is t i e = ap (λ xs. get_or xs (i % length xs) 0) (allowed_from_is e (t + 1))

-- that is so where no tag is allowed, and at a place of the list
more_none : (t i e : ℕ) → length (piece e (t + 1) 16) ≡ 0 → get_or (piece e (next_tag t (suc i) e + 1) 16) 0 0 ≡ next_tag t (suc (suc i)) e
more_none t i e none =
    get_or_past (piece e (next_tag t (suc i) e + 1) 16) 0 0 (omega
    (arith, none, length-allowed_from e (next_tag t (suc i) e + 1), length-allowed_from e (t + 1)))
    ∙ sym (chosen_is t (suc i) e ∙ get_or_past (piece e (t + 1) 16) (suc i % length (piece e (t + 1) 16)) 0 (omega (arith, none)))

more_at : (t i e place : ℕ) → place ≡ i % length (piece e (t + 1) 16) → IsPlace e (t + 1) 16 place
    → get_or (piece e (next_tag t (suc i) e + 1) 16) 0 0 ≡ next_tag t (suc (suc i)) e
more_at t i e place is p =
    ap (λ xs. get_or xs 0 0) (piece_same e (next_tag t (suc i) e + 1) (t + 1 + p.before + 1) 16 (omega (arith, at))
    ∙ behind_place e (t + 1) place p)
    ∙ turned (piece e (t + 1) p.before) (piece e (t + 1 + p.before + 1) p.after) ((t + 1 + p.before) % 16)
    ∙ ap (λ xs. get_or xs ((length (piece e (t + 1) p.before) + 1) % length xs) 0) (sym (split_at_place e (t + 1) 16 place p))
    ∙ ap (λ k. get_or (piece e (t + 1) 16) (k % length (piece e (t + 1) 16)) 0)
    (ap (λ k. k + 1) (p.count ∙ is) ∙ add-one (i % length (piece e (t + 1) 16)))
    ∙ ap (λ k. get_or (piece e (t + 1) 16) k 0) (sym (suc-mod i (length (piece e (t + 1) 16))))
    ∙ sym (chosen_is t (suc i) e)
  where
    at : next_tag t (suc i) e ≡ (t + 1 + p.before) % 16
    at = chosen_is t i e ∙ ap (λ k. get_or (piece e (t + 1) 16) k 0) (sym is) ∙ get_or-place e (t + 1) 16 place p

-- the next greater offset gives the first tag behind the one before
pub next_tag_more : (t i e : ℕ) → slice_index (allowed_from e (next_tag t (suc i) e + 1)) 0 ≡ next_tag t (suc (suc i)) e
next_tag_more t i e = ap (λ xs. get_or xs 0 0) (allowed_from_is e (next_tag t (suc i) e + 1))
    ∙ elim (eq-zero-or-pos (length (piece e (t + 1) 16))) [
      | inl none ↦ more_none t i e none
      | inr some ↦ more_at t i e _ refl (place_of e (t + 1) 16 _ (mod-lt i some))
    ]

-- the same at an offset that is not 0
pub next_tag_next : (t i e : ℕ) → 1 ≤ i → slice_index (allowed_from e (next_tag t i e + 1)) 0 ≡ next_tag t (i + 1) e
next_tag_next t zero e h = absurd (omega (arith, h))
next_tag_next t (suc i) e h = next_tag_more t i e ∙ ap (λ n. next_tag t n e) (sym (add-one (suc i)))

-- a place of an allowed list has an allowed tag, which is below 16
record IsChoice (e u : ℕ) : Type 0 where
  small : u < 16
  allowed : is_allowed e u ≡ true

choice_at : (e s j : ℕ) → j < length (piece e s 16) → IsChoice e (get_or (piece e s 16) j 0)
choice_at e s j h = let p = place_of e s 16 j h in
    subst (IsChoice e) (sym (get_or-place e s 16 j p)) (record { small = omega arith; allowed = p.allowed })

-- the choice is one, where some tag is allowed
next_tag_choice : (t i e : ℕ) → 0 < length (piece e 0 16) → IsChoice e (next_tag t i e)
next_tag_choice t zero e some =
    subst (IsChoice e) (ap (λ xs. get_or xs 0 0) (sym (allowed_from_is e t)))
    (choice_at e t 0 (omega (arith, some, length-allowed_from e t)))
next_tag_choice t (suc i) e some =
    subst (IsChoice e) (sym (chosen_is t i e))
    (choice_at e (t + 1) (i % length (piece e (t + 1) 16)) (mod-lt i (omega (arith, some, length-allowed_from e (t + 1)))))

next_tag_none : (t i e : ℕ) → length (piece e 0 16) ≡ 0 → next_tag t i e ≡ 0
next_tag_none t zero e none =
    ap (λ xs. get_or xs 0 0) (allowed_from_is e t) ∙ get_or_past (piece e t 16) 0 0 (omega (arith, none, length-allowed_from e t))
next_tag_none t (suc i) e none =
    chosen_is t i e ∙ get_or_past (piece e (t + 1) 16) (i % length (piece e (t + 1) 16)) 0
    (omega (arith, none, length-allowed_from e (t + 1)))

pub next_tag-lt : (t i e : ℕ) → next_tag t i e < 16
next_tag-lt t i e = elim (eq-zero-or-pos (length (piece e 0 16))) [
  | inl none ↦ omega (arith, next_tag_none t i e none)
  | inr some ↦ (next_tag_choice t i e some).small
]

-- it is not excluded, where some tag is not
pub next_tag_allowed : (t i e u : ℕ) → u < 16 → is_allowed e u ≡ true → is_allowed e (next_tag t i e) ≡ true
next_tag_allowed t i e u small allowed = (next_tag_choice t i e some).allowed
  where
    here : is_allowed e (u % 16) ≡ true
    here = ap (is_allowed e) (mod-eq_of_lt small) ∙ allowed

    some : 0 < length (piece e 0 16)
    some = omega (arith, length-allowed_from e u, ap length (piece_allowed e u 15 here))

-- where all are excluded it is 0
pub next_tag_all_excluded : (t i e : ℕ) → ((k : ℕ) → k < 16 → is_allowed e k ≡ false) → next_tag t i e ≡ 0
next_tag_all_excluded t i e none =
    next_tag_none t i e (ap length (piece_all_excluded e 0 16
    (λ k below. ap (is_allowed e) (let n : (0 + k) % 16 ≡ k = omega (arith, below) in n) ∙ none k below)))

-- a tag that is not excluded is its own choice at offset 0
pub next_tag_own : (t e : ℕ) → t < 16 → is_allowed e t ≡ true → next_tag t 0 e ≡ t
next_tag_own t e small allowed =
    first_is e t 0 (omega arith) (λ k below. absurd (omega (arith, below)))
    (ap (is_allowed e) (let n : (t + 0) % 16 ≡ t = omega (arith, small) in n) ∙ allowed)
    ∙ omega (arith, small)
