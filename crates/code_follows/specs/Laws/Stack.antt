-- The stack may be read and written where a state is related (this project's own).
use Rattle.std.specs.Prelude.{◌≡◌, ℕ, zero, suc, ◌+◌, ◌<◌, ◌≤◌, Bool, true, false, ◌&&◌, ◌||◌, not, List, [], ◌∷◌, length}
use Rattle.std.specs.Prelude.{slice_index_or, refl}
use Rattle.std.specs.List.{list_any}
use Rattle.std.proofs.Common.{arith, ap, inl, inr, ◌∙◌}
use Rattle.std.proofs.lemmas.Bool.{cases_Bool, cases_eq, cases_lt}
use Rattle.std.proofs.lemmas.Bool.Decides.{nat_tests}
use Rattle.mt_base.specs.Memory.{Extent, is_in_extent, is_in_span, is_mapped, is_protected}
use Rattle.a64_code.specs.State.{State}
use Rattle.a64_laws.specs.Laws.Effects.Open.{IsOpen}
use Rattle.block_meaning.specs.Running.{Context, State as MeaningState}
use Rattle.code_relation.specs.Calls.{stack_end}
use Rattle.code_relation.specs.Injects.{Injects}
use Rattle.code_relation.specs.Loaded.{HasStack}
use Rattle.code_relation.specs.Sites.{Given}

-- ---- lists

or_first : (a b : Bool) → a ≡ true → (a || b) ≡ true
or_first true b is = refl
or_first false b is = absurd (cc)

or_second : (a b : Bool) → b ≡ true → (a || b) ≡ true
or_second true b is = refl
or_second false b is = is

or_none : (a b : Bool) → a ≡ false → b ≡ false → (a || b) ≡ false
or_none true b first second = absurd (cc)
or_none false b first second = second

pub any_at : {X : Type 0} (p : X → Bool) (xs : List X) (k : ℕ) (d : X) → k < length xs → p (slice_index_or xs k d) ≡ true →
    list_any p xs ≡ true
any_at p [] k d within is = absurd (omega (arith, within))
any_at p (x ∷ xs) zero d within is = or_first (p x) (list_any p xs) is
any_at p (x ∷ xs) (suc k) d within is = or_second (p x) (list_any p xs) (any_at p xs k d (omega (arith, within)) is)

pub none_at : {X : Type 0} (p : X → Bool) (xs : List X) → ((k : ℕ) (d : X) → k < length xs → p (slice_index_or xs k d) ≡ false) →
    list_any p xs ≡ false
none_at p [] each = refl
none_at p (x ∷ xs) each =
    or_none (p x) (list_any p xs) (each 0 x (omega arith)) (none_at p xs (λ k d within. each (suc k) d (omega (arith, within))))

pub index_any : {X : Type 0} (xs : List X) (k : ℕ) (d e : X) → k < length xs → slice_index_or xs k d ≡ slice_index_or xs k e
index_any [] k d e within = absurd (omega (arith, within))
index_any (x ∷ xs) zero d e within = refl
index_any (x ∷ xs) (suc k) d e within = index_any xs k d e (omega (arith, within))

-- ---- the stack

module _ {g : Given} {here : Context} {now : MeaningState} {s : State} (injects : Injects g here now s) where
  abbrev stack : HasStack g.program.stack g.loaded
  stack = injects.loaded.stack

  abbrev region : Extent
  region = stack.region

  has_byte : (a : ℕ) → stack_end ≤ a + g.program.stack → a < stack_end → is_in_extent region a ≡ true
  has_byte a from below =
      let end : region.start + region.bytes ≡ stack_end = stack.end in
      let size : region.bytes ≡ g.program.stack = stack.bytes_is in
      grind (arith, nat_tests)

  writable_there : (k : ℕ) (d : Extent) (a : ℕ) → k < length g.loaded.regions → is_in_extent region a ≡ true →
      (is_in_extent (slice_index_or g.loaded.regions k d) a && not (slice_index_or g.loaded.regions k d).writable) ≡ false
  writable_there k d a within there = by_test (is_in_extent (slice_index_or g.loaded.regions k d) a) refl
    where
      j : ℕ
      j = stack.there.0

      at_stack : slice_index_or g.loaded.regions j d ≡ region
      at_stack = index_any g.loaded.regions j d region stack.there.1 ∙ stack.there.2

      is_stack : is_in_extent (slice_index_or g.loaded.regions k d) a ≡ true → k ≡ j
      is_stack both = elim (cases_lt k j) [
        | inl before ↦ absurd (injects.loaded.apart k j d before stack.there.1 a both (ap (λ r. is_in_extent r a) at_stack ∙ there))
        | inr after ↦ elim (cases_eq k j) [
          | inl same ↦ same
          | inr other ↦ absurd (injects.loaded.apart j k d (omega (arith, after, other)) within a (ap
              (λ r. is_in_extent r a) at_stack ∙ there) both)
        ]
      ]

      by_test : (b : Bool) → is_in_extent (slice_index_or g.loaded.regions k d) a ≡ b →
          (is_in_extent (slice_index_or g.loaded.regions k d) a && not (slice_index_or g.loaded.regions k d).writable) ≡ false
      by_test false is = ap (λ b. b && not (slice_index_or g.loaded.regions k d).writable) is
      by_test true is =
          ap (λ b. b && not (slice_index_or g.loaded.regions k d).writable) is
          ∙ ap (λ (r : Extent). not r.writable) (ap (λ i. slice_index_or g.loaded.regions i d) (is_stack is) ∙ at_stack)
          ∙ ap not stack.writable

  pub stack_open : (at n : ℕ) → stack_end ≤ at + g.program.stack → at + n ≤ stack_end → IsOpen s at n
  stack_open at n from to = record {
    readable = record {
      mapped = λ a low high.
          ap (λ rs. is_mapped rs a) injects.as_loaded.regions
          ∙ any_at (λ r. is_in_extent r a) g.loaded.regions stack.there.0 region stack.there.1
          (ap (λ r. is_in_extent r a) stack.there.2 ∙ has_byte a (omega (arith, from, low)) (omega (arith, to, high)));
      unguarded = λ a low high. ap (λ span. is_in_span span a) injects.as_loaded.guard ∙ not_guarded a (has_byte a (omega
          (arith, from, low)) (omega (arith, to, high)));
    };
    unprotected = λ a low high.
        ap (λ rs. is_protected rs a) injects.as_loaded.regions
        ∙ none_at (λ r. is_in_extent r a && not r.writable) g.loaded.regions
        (λ k d within. writable_there k d a within (has_byte a (omega (arith, from, low)) (omega (arith, to, high))));
  }
    where
      not_guarded : (a : ℕ) → is_in_extent region a ≡ true → is_in_span g.loaded.guard a ≡ false
      not_guarded a there = elim (cases_Bool (is_in_span g.loaded.guard a)) [
        | inl guarded ↦ absurd (injects.loaded.guard_apart stack.there.0 region stack.there.1 a guarded
            (ap (λ r. is_in_extent r a) stack.there.2 ∙ there))
        | inr free ↦ free
      ]
