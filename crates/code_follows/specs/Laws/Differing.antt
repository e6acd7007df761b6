-- Pointers of different blocks: where the meaning knows that they differ, their numbers do (this project's own).
use Rattle.std.specs.Prelude.{◌≡◌, ◌≢◌, ℕ, ◌+◌, ◌<◌, Bool, true, false, ◌&&◌, ◌||◌, nat_eq, ltb, not, slice_get}
use Rattle.std.specs.Prelude.{Option, Some, None, if◌then◌else◌, refl}
use Rattle.std.proofs.Common.{arith, ap, sym, subst, ◌∙◌}
use Rattle.std.proofs.lemmas.Bool.{eqb-true}
use Rattle.std.proofs.lemmas.Bool.Decides.{nat_tests}
use Rattle.mt_base.specs.Memory.{is_between}
use Rattle.c_ast.specs.declared.operator.BinaryOperator.TheVariants as binary
use Rattle.a64_code.specs.State.{State}
use Rattle.block_meaning.specs.Blocks.{Block, null, null_block}
use Rattle.block_meaning.specs.Compare.{known_to_differ, lives_within, is_inside, is_at_most_at_end, is_null, pointer_truth, within_block}
use Rattle.block_meaning.specs.Compare.{of_different}
use Rattle.block_meaning.specs.Running.{State as MeaningState}
use Rattle.block_meaning.specs.declared.value.Pointer.{Pointer}
use Rattle.code_relation.specs.Numbers.{IsNumber, number_at}
use Rattle.code_relation.specs.Relates.{Relates}
use Rattle.code_relation.specs.Sites.{Site, Lives, site_of}
use Rattle.gen_laws.specs.Laws.Numbers.{some_same}
use Rattle.code_follows.specs.Scene.{Scene, given_in}
use Rattle.code_follows.specs.Laws.Pointing.{LiesAbove, LocalsLie, lies_here, pointers_true}
use Rattle.code_follows.specs.Laws.Truth.{PointersTrue}

-- ---- why they are known to differ

-- one of three things holds
data OneOf (a b c : Bool) : Type 0 where
  the_first : a ≡ true → OneOf a b c
  the_second : b ≡ true → OneOf a b c
  the_third : c ≡ true → OneOf a b c

one_of : (a b c : Bool) → (a || b || c) ≡ true → OneOf a b c
one_of true b c is = the_first refl
one_of false true c is = the_second refl
one_of false false true is = the_third refl
one_of false false false is = absurd (cc)

-- both hold
record BothHold (a b : Bool) : Type 0 where
  one : a ≡ true
  other : b ≡ true

both_hold : (a b : Bool) → (a && b) ≡ true → BothHold a b
both_hold true b is = record { one = refl; other = is }
both_hold false b is = absurd (cc)

-- ---- two blocks

-- the bytes at two offsets stand at two addresses, so the numbers are two
sites_differ : (at other : Site) (size more i j : ℕ) → LiesAbove at size → LiesAbove other more → i < size → j < more →
    ((a : ℕ) → is_between at.start size a ≡ true → is_between other.start more a ≡ true → ⊥) → number_at at i ≢ number_at other j
sites_differ at other size more i j lies its within its_within apart same =
    apart (at.start + i) (between at.start size i within)
    (subst (λ (a : ℕ). is_between other.start more a ≡ true)
    (let e : other.start + j ≡ at.start + i =
    omega (arith, lies.below, lies.tag, its.below, its.tag, within, its_within, same) in e)
    (between other.start more j its_within))
  where
    between : (start size i : ℕ) → i < size → is_between start size (start + i) ≡ true
    between start size i within = grind (arith, nat_tests)

-- ---- pointers

-- the block is alive, and the pointer is before its end
record Inside (b : Block) (offset : ℕ) : Type 0 where
  live : b.live ≡ true
  within : offset < b.size

inside_by : (o : Option Block) (b : Block) (p : Pointer) → o ≡ Some b → lives_within ltb o p ≡ true → Inside b p.offset
inside_by None b p is inside = absurd (cc)
inside_by (Some c) b p is inside =
    let both = both_hold c.live (ltb p.offset c.size) inside in
    let less : p.offset < c.size = lt_of p.offset c.size both.other in
    subst (λ b. Inside b p.offset) (some_same is) (record { live = both.one; within = less })
  where
    lt_of : (m n : ℕ) → ltb m n ≡ true → m < n
    lt_of m n is = grind (arith, nat_tests)

no_null : (now : MeaningState) (number offset : ℕ) (b : Block) → slice_get now.blocks 0 ≡ Some null_block →
    slice_get now.blocks number ≡ Some b → offset < b.size → nat_eq number 0 ≡ false
no_null now number offset b null_is is within = by_first (nat_eq number 0) refl
  where
    by_first : (zero : Bool) → nat_eq number 0 ≡ zero → nat_eq number 0 ≡ false
    by_first true first =
        let none : number ≡ 0 = eqb-true number 0 first in
        let block_is : b ≡ null_block = some_same (sym is ∙ ap (slice_get now.blocks) none ∙ null_is) in
        let size_is : b.size ≡ 0 = ap (λ (c : Block). c.size) block_is in
        absurd (omega (arith, within, size_is))
    by_first false first = first

module _ {k : Scene} (locals : LocalsLie k) {now : MeaningState} {s : State} (relates : Relates (given_in k) k.here now s) where
  both_inside : (p q : Pointer) (m n : ℕ) → p.block ≢ q.block → IsNumber (given_in k) now p m → IsNumber (given_in k) now q n →
      is_inside now.blocks p ≡ true → is_inside now.blocks q ≡ true → m ≢ n
  both_inside p q m n different p_is q_is p_in q_in same =
      let one = inside_by (slice_get now.blocks p.block) p_is.block p p_is.is p_in in
      let two = inside_by (slice_get now.blocks q.block) q_is.block q q_is.is q_in in
      let lives : Lives now p.block p_is.block = record { is = p_is.is; live = one.live } in
      let its : Lives now q.block q_is.block = record { is = q_is.is; live = two.live } in
      let null_is = relates.injects.stands.null_is in
      sites_differ (site_of (given_in k) now p.block p_is.block) (site_of (given_in k) now q.block q_is.block) p_is.block.size
      q_is.block.size p.offset q.offset
      (lies_here locals relates p.block p_is.block (no_null now p.block p.offset p_is.block null_is p_is.is one.within) lives)
      (lies_here locals relates q.block q_is.block (no_null now q.block q.offset q_is.block null_is q_is.is two.within) its)
      one.within two.within
      (λ a has its_has. relates.injects.apart.bytes p.block q.block p_is.block q_is.block
      (record { different = different; first = lives; second = its }) a has its_has)
      (sym p_is.number ∙ same ∙ q_is.number)

  -- the null pointer, and one of another block
  one_null : (p q : Pointer) (m n : ℕ) → p.block ≢ q.block → IsNumber (given_in k) now p m → IsNumber (given_in k) now q n →
      is_null p ≡ true → is_at_most_at_end now.blocks q ≡ true → m ≢ n
  one_null p q m n different p_is q_is null_first at_end same =
      let both = both_hold (nat_eq p.block 0) (nat_eq p.offset 0) null_first in
      let first_false : pointer_truth now.blocks p ≡ Some false =
      ap (λ b. (if b then within_block binary.NotEqual p null else of_different binary.NotEqual (known_to_differ now.blocks p null)))
      both.one
      ∙ ap (λ b. Some (not b)) both.other in
      let other : nat_eq q.block 0 ≡ false = not_null_block q.block (λ is. different (eqb-true p.block 0 both.one ∙ sym is)) in
      let second_true : pointer_truth now.blocks q ≡ Some true =
      ap (λ b. (if b then within_block binary.NotEqual q null else of_different binary.NotEqual (known_to_differ now.blocks q null))) other
      ∙ ap (of_different binary.NotEqual) (known_other (is_inside now.blocks q && is_inside now.blocks null) (is_null q)
      (is_at_most_at_end now.blocks null) at_end) in
      let pointers : PointersTrue k = pointers_true locals in
      let zero : false ≡ not (nat_eq m 0) = pointers.is now s p m false relates p_is first_false in
      let some : true ≡ not (nat_eq n 0) = pointers.is now s q n true relates q_is second_true in
      absurd (two_truths (nat_eq m 0) zero (some ∙ ap (λ (x : ℕ). not (nat_eq x 0)) (sym same)))
    where
      not_null_block : (block : ℕ) → block ≢ 0 → nat_eq block 0 ≡ false
      not_null_block block other = grind (arith, nat_tests)

      known_other : (a c d : Bool) {e : Bool} → e ≡ true → (a || (c && d) || (true && e)) ≡ true
      known_other true c d is = refl
      known_other false true true is = refl
      known_other false true false is = is
      known_other false false d is = is

      two_truths : (b : Bool) → false ≡ not b → true ≡ not b → ⊥
      two_truths b one other = cc

  pub numbers_differ : (p q : Pointer) (m n : ℕ) → nat_eq p.block q.block ≡ false → IsNumber (given_in k) now p m →
      IsNumber (given_in k) now q n → known_to_differ now.blocks p q ≡ true → nat_eq m n ≡ false
  numbers_differ p q m n different p_is q_is known =
      let two : p.block ≢ q.block = neq_of p.block q.block different in
      by_case two (one_of (is_inside now.blocks p && is_inside now.blocks q) (is_null p && is_at_most_at_end now.blocks q)
      (is_null q && is_at_most_at_end now.blocks p) known)
    where
      neq_of : (i j : ℕ) → nat_eq i j ≡ false → i ≢ j
      neq_of i j is same = grind (arith, nat_tests)

      eq_of : (i j : ℕ) → i ≢ j → nat_eq i j ≡ false
      eq_of i j other = grind (arith, nat_tests)

      by_case : p.block ≢ q.block → OneOf (is_inside now.blocks p && is_inside now.blocks q) (is_null p && is_at_most_at_end now.blocks q)
          (is_null q && is_at_most_at_end now.blocks p) → nat_eq m n ≡ false
      by_case two (the_first is) =
          let both = both_hold (is_inside now.blocks p) (is_inside now.blocks q) is in
          eq_of m n (both_inside p q m n two p_is q_is both.one both.other)
      by_case two (the_second is) =
          let both = both_hold (is_null p) (is_at_most_at_end now.blocks q) is in
          eq_of m n (one_null p q m n two p_is q_is both.one both.other)
      by_case two (the_third is) =
          let both = both_hold (is_null q) (is_at_most_at_end now.blocks p) is in
          eq_of m n (λ same. one_null q p n m (λ is. two (sym is)) q_is p_is both.one both.other (sym same))
