-- Regions that were loaded may be read, and written where they are writable, in each state that is related (this project's own).
use Rattle.std.specs.Prelude.{◌≡◌, ℕ, ◌+◌, ◌<◌, ◌≤◌, Bool, true, false, ◌&&◌, not, length, slice_index_or, refl}
use Rattle.std.specs.List.{Contains}
use Rattle.std.proofs.Common.{arith, ap, inl, inr, ◌∙◌}
use Rattle.std.proofs.lemmas.Bool.{cases_Bool, cases_eq, cases_lt}
use Rattle.std.proofs.lemmas.Bool.Decides.{nat_tests}
use Rattle.mt_base.specs.Memory.{Extent, is_in_extent, is_in_span, is_mapped, is_protected}
use Rattle.a64_code.specs.State.{State}
use Rattle.a64_laws.specs.Laws.Effects.Open.{IsReadable, IsOpen}
use Rattle.block_meaning.specs.Running.{Context, State as MeaningState}
use Rattle.code_relation.specs.Injects.{Injects}
use Rattle.code_relation.specs.Sites.{Given}
use Rattle.code_follows.specs.Laws.Stack.{any_at, none_at, index_any}

module _ {g : Given} {here : Context} {now : MeaningState} {s : State} (injects : Injects g here now s) (r : Extent)
    (there : Contains g.loaded.regions r) where
  inside : (a : ℕ) → r.start ≤ a → a < r.start + r.bytes → is_in_extent r a ≡ true
  inside a from below = grind (arith, nat_tests, from, below)

  not_guarded : (a : ℕ) → is_in_extent r a ≡ true → is_in_span g.loaded.guard a ≡ false
  not_guarded a has = elim (cases_Bool (is_in_span g.loaded.guard a)) [
    | inl guarded ↦
        absurd (injects.loaded.guard_apart there.0 r there.1 a guarded (ap (λ r. is_in_extent r a) there.2 ∙ has))
    | inr free ↦ free
  ]

  pub readable_in : (at n : ℕ) → r.start ≤ at → at + n ≤ r.start + r.bytes → IsReadable s at n
  readable_in at n from to = record {
    mapped = λ a low high.
        ap (λ rs. is_mapped rs a) injects.as_loaded.regions
        ∙ any_at (λ r. is_in_extent r a) g.loaded.regions there.0 r there.1
        (ap (λ r. is_in_extent r a) there.2 ∙ inside a (omega (arith, from, low)) (omega (arith, to, high)));
    unguarded = λ a low high.
        ap (λ span. is_in_span span a) injects.as_loaded.guard
        ∙ not_guarded a (inside a (omega (arith, from, low)) (omega (arith, to, high)));
  }

  -- no other region has its bytes
  writable_there : r.writable ≡ true → (k : ℕ) (d : Extent) (a : ℕ) → k < length g.loaded.regions → is_in_extent r a ≡ true →
      (is_in_extent (slice_index_or g.loaded.regions k d) a && not (slice_index_or g.loaded.regions k d).writable) ≡ false
  writable_there writable k d a within has = by_test (is_in_extent (slice_index_or g.loaded.regions k d) a) refl
    where
      j : ℕ
      j = there.0

      at_own : slice_index_or g.loaded.regions j d ≡ r
      at_own = index_any g.loaded.regions j d r there.1 ∙ there.2

      is_own : is_in_extent (slice_index_or g.loaded.regions k d) a ≡ true → k ≡ j
      is_own both = elim (cases_lt k j) [
        | inl before ↦ absurd (injects.loaded.apart k j d before there.1 a both (ap (λ r. is_in_extent r a) at_own ∙ has))
        | inr after ↦ elim (cases_eq k j) [
          | inl same ↦ same
          | inr other ↦
              absurd (injects.loaded.apart j k d (omega (arith, after, other)) within a
              (ap (λ r. is_in_extent r a) at_own ∙ has) both)
        ]
      ]

      by_test : (b : Bool) → is_in_extent (slice_index_or g.loaded.regions k d) a ≡ b →
          (is_in_extent (slice_index_or g.loaded.regions k d) a && not (slice_index_or g.loaded.regions k d).writable) ≡ false
      by_test false is = ap (λ b. b && not (slice_index_or g.loaded.regions k d).writable) is
      by_test true is =
          ap (λ b. b && not (slice_index_or g.loaded.regions k d).writable) is
          ∙ ap (λ (r : Extent). not r.writable) (ap (λ i. slice_index_or g.loaded.regions i d) (is_own is) ∙ at_own)
          ∙ ap not writable

  pub open_in : r.writable ≡ true → (at n : ℕ) → r.start ≤ at → at + n ≤ r.start + r.bytes → IsOpen s at n
  open_in writable at n from to = record {
    readable = readable_in at n from to;
    unprotected = λ a low high.
        ap (λ rs. is_protected rs a) injects.as_loaded.regions
        ∙ none_at (λ r. is_in_extent r a && not r.writable) g.loaded.regions
        (λ k d within. writable_there writable k d a within (inside a (omega (arith, from, low)) (omega (arith, to, high))));
  }
