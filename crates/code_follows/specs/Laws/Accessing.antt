-- A scalar access through a pointer, in a state that is related: it is in order, and then the machine lets it through; or the meaning stops
-- there (this project's own).
use Rattle.std.specs.Prelude.{◌≡◌, ℕ, ◌+◌, ◌%◌, ◌^◌, ◌≤◌, Bool, true, false, not, nat_eq, ltb, ◌&&◌, [], ◌∷◌, slice_get, Option, Some}
use Rattle.std.specs.Prelude.{None, refl}
use Rattle.std.proofs.Common.{arith, ap, sym, subst, inl, inr, ◌∙◌}
use Rattle.std.proofs.lemmas.Bool.{cases_Bool, eqb-true}
use Rattle.std.proofs.lemmas.Bool.Decides.{nat_tests}
use Rattle.mt_base.specs.Granules.{granule_of}
use Rattle.mt_base.specs.Memory.{is_between}
use Rattle.c_ast.specs.declared.token.Span.{Span}
use Rattle.a64_code.specs.State.{State}
use Rattle.a64_laws.specs.Forms.{Points}
use Rattle.a64_laws.specs.Laws.Effects.Accesses.{IsSize}
use Rattle.a64_laws.specs.Laws.Effects.Open.{IsReadable, IsOpen}
use Rattle.a64_laws.specs.Laws.OpenMemory.{IsReadable-part, IsOpen-part}
use Rattle.a64_laws.specs.Laws.Pointers.{Points-behind}
use Rattle.block_meaning.specs.Access.{first_reason, is_null_block, is_text, reason_against}
use Rattle.block_meaning.specs.Blocks.{Block, null_block}
use Rattle.block_meaning.specs.Running.{Context, Undefined, IsUndefined, State as MeaningState}
use Rattle.block_meaning.specs.declared.access.Access.{Access}
use Rattle.block_meaning.specs.declared.reason.Reason.{Reason}
use Rattle.block_meaning.specs.declared.reason.Reason.TheVariants.{Misaligned, Null, Dead, Outside, ReadOnly}
use Rattle.code_relation.specs.Ends.{NextAccesses, IsCaught, is_dead_or_outside, is_outside, Over}
use Rattle.code_relation.specs.Numbers.{IsNumber, number_at}
use Rattle.code_relation.specs.Relates.{Relates}
use Rattle.code_relation.specs.Sites.{Given, Lives, site_of}
use Rattle.code_follows.specs.Scene.{Scene, IsScene, given_in}
use Rattle.code_follows.specs.Laws.BlockBytes.{Bytes, bytes_of_block}
use Rattle.code_follows.specs.Laws.BlockTags.{tag_of_byte}
use Rattle.code_follows.specs.Laws.LocalSites.{locals_lie}
use Rattle.code_follows.specs.Laws.Pointing.{LiesAbove, lies_above}
use Rattle.gen_laws.specs.Laws.Numbers.{some_same}

-- ---- the reasons against an access

-- none applies
pub record IsInOrder (b : Block) (a : Access) : Type 0 where
  pub aligned : a.at.offset % a.align ≡ 0
  pub not_null : is_null_block b.kind ≡ false
  pub live : b.live ≡ true
  pub within : a.at.offset + a.size ≤ b.size
  pub not_text : a.writes ≡ true → is_text b.kind ≡ false

no_reason : (m n l o w : Bool) →
    first_reason ((m, Misaligned) ∷ (n, Null) ∷ (l, Dead) ∷ (o, Outside) ∷ (w, ReadOnly) ∷ []) ≡ None →
    (m ≡ false) × (n ≡ false) × (l ≡ false) × (o ≡ false) × (w ≡ false)
no_reason true n l o w is = absurd (cc)
no_reason false true l o w is = absurd (cc)
no_reason false false true o w is = absurd (cc)
no_reason false false false true w is = absurd (cc)
no_reason false false false false true is = absurd (cc)
no_reason false false false false false is = (refl, refl, refl, refl, refl)

not_false : (b : Bool) → not b ≡ false → b ≡ true
not_false true is = refl
not_false false is = absurd (cc)

pub in_order : (b : Block) (a : Access) → reason_against b a ≡ None → IsInOrder b a
in_order b a none =
    let each = no_reason (not (nat_eq (a.at.offset % a.align) 0)) (is_null_block b.kind) (not b.live) (ltb b.size (a.at.offset + a.size))
    (a.writes && is_text b.kind) none in
    record {
      aligned = by_zero (a.at.offset % a.align) each.0;
      not_null = each.1;
      live = not_false b.live each.2;
      within = by_test b.size (a.at.offset + a.size) each.3;
      not_text = both a.writes (is_text b.kind) each.4;
    }
  where
    by_zero : (n : ℕ) → not (nat_eq n 0) ≡ false → n ≡ 0
    by_zero n is = grind (arith, nat_tests, is)

    by_test : (size n : ℕ) → ltb size n ≡ false → n ≤ size
    by_test size n is = grind (arith, nat_tests, is)

    both : (w t : Bool) → (w && t) ≡ false → w ≡ true → t ≡ false
    both true t is writes = is
    both false t is writes = absurd (cc)

all_false : (m n l o w : Bool) → m ≡ false → n ≡ false → l ≡ false → o ≡ false → w ≡ false →
    first_reason ((m, Misaligned) ∷ (n, Null) ∷ (l, Dead) ∷ (o, Outside) ∷ (w, ReadOnly) ∷ []) ≡ None
all_false false false false false false a b c d e = refl
all_false true n l o w a b c d e = absurd (cc)
all_false false true l o w a b c d e = absurd (cc)
all_false false false true o w a b c d e = absurd (cc)
all_false false false false true w a b c d e = absurd (cc)
all_false false false false false true a b c d e = absurd (cc)

pub none_against : (b : Block) (a : Access) → IsInOrder b a → reason_against b a ≡ None
none_against b a order =
    all_false (not (nat_eq (a.at.offset % a.align) 0)) (is_null_block b.kind) (not b.live) (ltb b.size (a.at.offset + a.size))
    (a.writes && is_text b.kind) (by_zero (a.at.offset % a.align) order.aligned) order.not_null (ap not order.live)
    (by_test b.size (a.at.offset + a.size) order.within) (both a.writes (is_text b.kind) order.not_text)
  where
    by_zero : (n : ℕ) → n ≡ 0 → not (nat_eq n 0) ≡ false
    by_zero n is = rw is refl

    by_test : (size n : ℕ) → n ≤ size → ltb size n ≡ false
    by_test size n is = grind (arith, nat_tests, is)

    both : (w t : Bool) → (w ≡ true → t ≡ false) → (w && t) ≡ false
    both true t is = is refl
    both false t is = refl

-- outside of its block is only an access to a live one
only_outside : (m n l o w : Bool) →
    first_reason ((m, Misaligned) ∷ (n, Null) ∷ (l, Dead) ∷ (o, Outside) ∷ (w, ReadOnly) ∷ []) ≡ Some Outside → l ≡ false
only_outside true n l o w is = absurd (cc)
only_outside false true l o w is = absurd (cc)
only_outside false false true o w is = absurd (cc)
only_outside false false false o w is = refl

pub outside_live : (b : Block) (a : Access) → reason_against b a ≡ Some Outside → b.live ≡ true
outside_live b a is =
    not_false b.live (only_outside (not (nat_eq (a.at.offset % a.align) 0)) (is_null_block b.kind) (not b.live)
    (ltb b.size (a.at.offset + a.size)) (a.writes && is_text b.kind) is)

-- ---- an access that is in order

-- where it goes
abbrev pub address_in : Given → MeaningState → Access → Block → ℕ
address_in g now a b = (site_of g now a.at.block b).start + a.at.offset

-- The address is that of a pointer's number, which has the tag of memory there, and the bytes may be read, and written.
pub record LetsThrough (g : Given) (now : MeaningState) (s : State) (a : Access) (b : Block) (number : ℕ) : Type 0 where
  pub lives : Lives now a.at.block b
  pub within : a.at.offset + a.size ≤ b.size
  pub points : Points number (address_in g now a b) (site_of g now a.at.block b).tag
  pub readable : IsReadable s (address_in g now a b) a.size
  pub writable : a.writes ≡ true → IsOpen s (address_in g now a b) a.size
  pub agrees : s.tag (granule_of (address_in g now a b)) ≡ (site_of g now a.at.block b).tag
  pub below : address_in g now a b + a.size ≤ 2 ^ 56

module _ {k : Scene} (scene : IsScene k) {now : MeaningState} {s : State} (relates : Relates (given_in k) k.here now s) where
  -- the null block alone has the number 0
  other_block : (number : ℕ) (b : Block) → slice_get now.blocks number ≡ Some b → is_null_block b.kind ≡ false → nat_eq number 0 ≡ false
  other_block number b there other = elim (cases_Bool (nat_eq number 0)) [
    | inl zero ↦
        let one : Some b ≡ Some null_block =
        sym there ∙ ap (λ n. slice_get now.blocks n) (eqb-true number 0 zero) ∙ relates.injects.stands.null_is in
        let both : true ≡ false = ap (λ y. is_null_block y.kind) (sym (some_same one)) ∙ other in
        absurd (cc)
    | inr some ↦ some
  ]

  -- it is let through where it is in order, but for its alignment
  pub lets_through : (a : Access) (b : Block) (number : ℕ) → slice_get now.blocks a.at.block ≡ Some b → IsNumber (given_in k) now a.at number →
      reason_against b a ≡ None → 1 ≤ a.size → LetsThrough (given_in k) now s a b number
  lets_through a b number there is none some =
      let order = in_order b a none in
      let injects = relates.injects in
      let program = scene.file.meant.in_order in
      let lives : Lives now a.at.block b = record { is = there; live = order.live } in
      let same : is.block ≡ b = some_same (sym is.is ∙ there) in
      let lies : LiesAbove (site_of (given_in k) now a.at.block b) b.size =
      lies_above (locals_lie scene) relates a.at.block b (other_block a.at.block b there order.not_null) lives in
      let bytes : Bytes injects program a.writes (site_of (given_in k) now a.at.block b).start b.size =
      bytes_of_block injects program a.writes a.at.block b lives order.not_text in
      record {
        lives = lives;
        within = order.within;
        points = subst (λ n. Points n (address_in (given_in k) now a b) (site_of (given_in k) now a.at.block b).tag)
            (sym (is.number ∙ ap (λ y. number_at (site_of (given_in k) now a.at.block y) a.at.offset) same))
            (Points-behind (site_of (given_in k) now a.at.block b).start (site_of (given_in k) now a.at.block b).tag a.at.offset
            (omega (arith, lies.below, order.within, some)) lies.tag);
        readable = IsReadable-part (address_in (given_in k) now a b) a.size (omega arith) (omega (arith, order.within)) bytes.readable;
        writable = λ writing.
            IsOpen-part (address_in (given_in k) now a b) a.size (omega arith) (omega (arith, order.within)) (bytes.writable writing);
        agrees = tag_of_byte injects program a.at.block b (address_in (given_in k) now a b) lives
            (has_first (site_of (given_in k) now a.at.block b).start a.at.offset a.size b.size order.within some);
        below = omega (arith, lies.below, order.within);
      }
    where
      has_first : (start offset size bytes : ℕ) → offset + size ≤ bytes → 1 ≤ size → is_between start bytes (start + offset) ≡ true
      has_first start offset size bytes within some = grind (arith, nat_tests, within, some)

-- ---- alignment

-- a site and an offset that are multiples of a size
pub sum_aligned : (n start offset : ℕ) → IsSize n → start % n ≡ 0 → offset % n ≡ 0 → (start + offset) % n ≡ 0
sum_aligned n start offset (inl one) first second =
    subst (λ (m : ℕ). (start + offset) % m ≡ 0) (sym one) (omega arith)
sum_aligned n start offset (inr (inl two)) first second =
    subst (λ (m : ℕ). start % m ≡ 0 → offset % m ≡ 0 → (start + offset) % m ≡ 0) (sym two)
    (λ first second. omega (arith, first, second)) first second
sum_aligned n start offset (inr (inr (inl four))) first second =
    subst (λ (m : ℕ). start % m ≡ 0 → offset % m ≡ 0 → (start + offset) % m ≡ 0) (sym four)
    (λ first second. omega (arith, first, second)) first second
sum_aligned n start offset (inr (inr (inr eight))) first second =
    subst (λ (m : ℕ). start % m ≡ 0 → offset % m ≡ 0 → (start + offset) % m ≡ 0) (sym eight)
    (λ first second. omega (arith, first, second)) first second

-- a site that starts a granule is a multiple of each size
pub granule_aligned : (n start : ℕ) → IsSize n → start % 16 ≡ 0 → start % n ≡ 0
granule_aligned n start (inl one) whole = subst (λ (m : ℕ). start % m ≡ 0) (sym one) (omega arith)
granule_aligned n start (inr (inl two)) whole = subst (λ (m : ℕ). start % m ≡ 0) (sym two) (omega (arith, whole))
granule_aligned n start (inr (inr (inl four))) whole = subst (λ (m : ℕ). start % m ≡ 0) (sym four) (omega (arith, whole))
granule_aligned n start (inr (inr (inr eight))) whole = subst (λ (m : ℕ). start % m ≡ 0) (sym eight) (omega (arith, whole))

-- ---- an access that is not

-- the step that the meaning does not go over
abbrev pub undefined_at : Context → Span → Option Access → Reason → MeaningState → Undefined
undefined_at here span access why now = record {
  why = why;
  file = here.unit;
  span = span;
  access = access;
  open_calls = here.open_calls;
  calls = now.calls;
  blocks = now.blocks;
}

-- for a reason that says nothing of addresses there is nothing to show
pub over_unsaid : (g : Given) (here : Context) (now : MeaningState) (s : State) (span : Span) (a : Access) (why : Reason) →
    is_dead_or_outside why ≡ false → Over g (IsUndefined (undefined_at here span (Some a) why now)) now s
over_unsaid g here now s span a why other both = absurd (no_second a.scalar (is_dead_or_outside why) other both)
  where
    no_second : (x y : Bool) → y ≡ false → (x && y) ≡ true → ⊥
    no_second true true other both = absurd (cc)
    no_second true false other both = absurd (cc)
    no_second false y other both = absurd (cc)

-- and else the next step is that access
pub over_access : (g : Given) (here : Context) (now : MeaningState) (s : State) (span : Span) (a : Access) (why : Reason) →
    Relates g here now s → NextAccesses g now a s → (is_outside why ≡ true → IsCaught g now a s) →
    Over g (IsUndefined (undefined_at here span (Some a) why now)) now s
over_access g here now s span a why relates next caught both =
    record { here = here; open_is = refl; injects = relates.injects; next = next; caught = caught }
