-- Intervals have one description, and have one exactly where they are whole granules, in order, none empty, and all below the limit.
use Rattle.std.proofs.Common.{◌≡◌, ℕ, zero, suc, ◌+◌, ◌*◌, ◌-◌, ◌/◌, ◌%◌, ◌^◌, ◌<◌, ◌≤◌, List, [], ◌∷◌, ◌++◌, length, refl, ap, subst}
use Rattle.std.proofs.Common.{◌∙◌, arith, inl, inr}
use Rattle.std.proofs.Math.Nat.{pow-succ'}
use Rattle.std.proofs.lemmas.Bool.{cases_lt}
use Rattle.memtag_desc.specs.declared.interval.Interval.{Interval}
use Rattle.memtag_desc.specs.Numbers.{IsShortest, last, more}
use Rattle.memtag_desc.specs.Descriptors.{IsDescriptor, small, large, interval_at, end_of, DescribesFrom, nothing, next, Describes}
use Rattle.memtag_desc.specs.Descriptors.{HaveDescription}

-- ---- one spelling

one_number : (n : ℕ) (a : List ℕ) → IsShortest n a → (m : ℕ) (b : List ℕ) → IsShortest m b → n ≡ m → a ≡ b
one_number n a (last _ lt) m b (last _ le) same = ap (λ (k : ℕ). k ∷ []) same
one_number n a (last _ lt) m b (more low high tail le some s) same = absurd (omega arith)
one_number n a (more low high tail lt some s) m b (last _ le) same = absurd (omega arith)
one_number n a (more low high tail lt some s) m b (more low2 high2 tail2 lt2 some2 s2) same =
    let lows : low ≡ low2 = omega arith in
    let highs : high ≡ high2 = omega arith in
    ap (λ (k : ℕ). (k + 128) ∷ tail) lows ∙ ap (λ (l : List ℕ). (low2 + 128) ∷ l) (one_number high tail s high2 tail2 s2 highs)

one_descriptor : (d n : ℕ) (a : List ℕ) → IsDescriptor d n a → (e m : ℕ) (b : List ℕ) → IsDescriptor e m b → d ≡ e → n ≡ m → a ≡ b
one_descriptor d n a (small _ _ _ some few h) e m b (small _ _ _ some2 few2 g) same size =
    one_number (8 * d + n) a h.shortest (8 * e + m) b g.shortest (omega arith)
one_descriptor d n a (small _ _ _ some few h) e m b (large _ _ one two many g k) same size = absurd (omega arith)
one_descriptor d n a (large _ _ one two many h k) e m b (small _ _ _ some few g) same size = absurd (omega arith)
one_descriptor d n a (large _ _ one two many h k) e m b (large _ _ one2 two2 many2 h2 k2) same size =
    ap (λ (l : List ℕ). l ++ two) (one_number (8 * d) one h.shortest (8 * e) one2 h2.shortest (omega arith))
    ∙ ap (λ (l : List ℕ). one2 ++ l) (one_number (n - 1) two k.shortest (m - 1) two2 k2.shortest (omega arith))

-- the same intervals from the same place
spelled_from : (from : ℕ) (xs : List Interval) (a : List ℕ) → DescribesFrom from xs a → (other : ℕ) (ys : List Interval) (b : List ℕ)
    → DescribesFrom other ys b
    → from ≡ other → xs ≡ ys → a ≡ b
spelled_from from xs a (nothing _) other ys b (nothing _) same are = refl
spelled_from from xs a (nothing _) other ys b (next _ e m others first rest h le s) same are = absurd cc
spelled_from from xs a (next _ d n others first rest h le s) other ys b (nothing _) same are = absurd cc
spelled_from from xs a (next _ d n others first rest h le s) other ys b (next _ e m further two after g ge t) same are =
    let heads : interval_at from d n ≡ interval_at other e m = cc in
    let tails : others ≡ further = cc in
    let starts : from + 16 * d ≡ other + 16 * e = ap (λ (i : Interval). i.start) heads in
    let sizes : 16 * n ≡ 16 * m = ap (λ (i : Interval). i.bytes) heads in
    let one : first ≡ two = one_descriptor d n first h e m two g (omega arith) (omega arith) in
    let ends : end_of (interval_at from d n) ≡ end_of (interval_at other e m) = ap end_of heads in
    ap (λ (l : List ℕ). l ++ rest) one ∙ ap (λ (l : List ℕ). two ++ l)
    (spelled_from (end_of (interval_at from d n)) others rest s (end_of (interval_at other e m)) further after t ends tails)

-- a list of intervals has one spelling
pub one_spelling : (xs : List Interval) (a b : List ℕ) → Describes xs a → Describes xs b → a ≡ b
one_spelling xs a b h g = spelled_from 0 xs a h 0 xs b g refl refl

-- ---- which intervals have one

some_size : (d n : ℕ) (a : List ℕ) → IsDescriptor d n a → 0 < n
some_size d n a (small _ _ _ some few h) = omega arith
some_size d n a (large _ _ one two many h k) = omega arith

have_from : (from : ℕ) (xs : List Interval) (bytes : List ℕ) → from % 16 ≡ 0 → DescribesFrom from xs bytes → HaveDescription from xs
have_from from xs bytes whole (nothing _) = tt
have_from from xs bytes whole (next _ d n others first rest h le s) =
    let some = some_size d n first h in
    (omega arith, omega arith, omega arith, omega arith, le, have_from (end_of (interval_at from d n)) others rest (omega arith) s)

-- what is described has a description
pub have_description : (xs : List Interval) (bytes : List ℕ) → Describes xs bytes → HaveDescription 0 xs
have_description xs bytes h = have_from 0 xs bytes refl h

-- a number has a spelling, of as many bytes as hold it
abbrev pub HasSpelling : ℕ → ℕ → Type 0
HasSpelling most n = (bytes : List ℕ) × IsShortest n bytes × (length bytes ≤ most)

longer : (most n : ℕ) → 128 ≤ n → HasSpelling most (n / 128) → HasSpelling (suc most) n
longer most n le high =
    let is : n % 128 + 128 * (n / 128) ≡ n = omega arith in
    let few = high.2 in (
      (n % 128 + 128) ∷ high.0,
      subst (λ (m : ℕ). IsShortest m ((n % 128 + 128) ∷ high.0)) is
          (more (n % 128) (n / 128) high.0 (omega arith) (omega arith) high.1),
      omega arith,
    )

pub spelling : (k n : ℕ) → n < 128 ^ suc k → HasSpelling (suc k) n
spelling zero n h = (n ∷ [], last n (omega arith), omega arith)
spelling (suc k) n h =
    let power = pow-succ' 128 (suc k) in
    elim (cases_lt n 128) [
      | inl lt ↦ (n ∷ [], last n lt, omega arith)
      | inr le ↦ longer (suc k) n le (spelling k (n / 128) (omega arith))
    ]
