-- Any number of granules tagged: a loop and its rest (this project's own).
use Rattle.std.specs.Prelude.{◌≡◌, ◌≢◌, ℕ, zero, suc, ◌+◌, ◌*◌, ◌/◌, ◌%◌, ◌^◌, ◌<◌, ◌≤◌, ◌==◌, nat_lt, Bool, true, false, List, length}
use Rattle.std.specs.Prelude.{refl}
use Rattle.std.proofs.Common.{arith, ap, sym, ◌∙◌, subst, inl, inr, length-append, eq-eqb}
use Rattle.std.proofs.lemmas.Bool.{cases_Bool, cases_lt, lt-ltb, le-ltb}
use Rattle.mt_base.specs.Pointers.{tag_of}
use Rattle.a64_code.specs.declared.instr.Instr.{Instr}
use Rattle.a64_code.specs.declared.instr.Reg.{Reg}
use Rattle.a64_code.specs.State.{State, general_or_sp}
use Rattle.a64_laws.specs.Laws.Effects.Registers.{with_value-other, with_value-same}
use Rattle.a64_code.specs.State.{tagged}
use Rattle.a64_laws.specs.Laws.Effects.Open.{IsOpen}
use Rattle.a64_laws.specs.Forms.{Points, puts_register, puts_tags}
use Rattle.a64_laws.specs.Runs.{RunsFrom, Runs}
use Rattle.a64_laws.specs.Tagging.{tags_from, loop_end, tag_loop, SameButTags, TagsGranules, tags_in_rounds, tag_quickly, tag_shortly}
use Rattle.a64_laws.specs.Tagging.{base_or_count}
use Rattle.a64_laws.specs.Laws.OpenMemory.{IsOpen-part, IsOpen-kept}
use Rattle.a64_laws.specs.Laws.Results.{constant_moved}
use Rattle.a64_laws.specs.Laws.Runs.{Runs-one, Runs-append}
use Rattle.a64_laws.specs.Laws.Tagging.{tagged-add, length-tags_from, tagged_to, MayTag, Runs-tags_from}
use Rattle.a64_laws.specs.Tagging.{LoopRegisters, IsAhead}
use Rattle.a64_laws.specs.Laws.TagLoop.{Looped, SameButTags-then, loops}

-- n granules from an address on may be tagged: the base points there, Rt has the tag, memory is open
pub record CanTag (rt rn count : Reg) (n at tag value : ℕ) (s : State) : Type 0 where
  pub registers : LoopRegisters rt rn count
  pub points : Points (s.register rn.0) at tag
  pub has_tag : tag_of (general_or_sp s rt) ≡ value
  pub aligned : at % 16 ≡ 0
  pub below : at + 16 * n < 2 ^ 56
  pub memory : IsOpen s at (16 * n)

-- what a list of tag instructions leads to, where it does
pub record Tagged (instrs : List Instr) (steps n at value : ℕ) (is_scratch : ℕ → Bool) (from : State) : Type 0 where
  pub to : State
  pub tagged : TagsGranules instrs steps n at value is_scratch from to

-- ---- a short list

pub tags_short : (rt rn count : Reg) (n at tag value : ℕ) (s : State) → CanTag rt rn count n at tag value s → n ≤ 256 → s.pc + 4 *
    ((n + 1) / 2) < 2 ^ 64 →
    Tagged (tags_from rt rn 0 n) ((n + 1) / 2) n at value (base_or_count rn count) s
unfolding puts_register puts_tags
tags_short rt rn count n at tag value s can reach fits = record {
  to = tagged_to n (at + 16 * 0) value ((n + 1) / 2) s;
  tagged = record {
    runs = Runs-tags_from rt rn 0 n at value s may fits;
    tags = ap (λ (a : ℕ). tagged n s.tag a value) (let e : at + 16 * 0 ≡ at = omega arith in e);
    registers = λ r h. refl;
    same = record { sp = refl; flags = refl; byte = refl; regions = refl; guard = refl; choices = refl; drawn = refl; outside = refl };
  };
}
  where
    may : MayTag rt rn 0 n at value s
    may = record {
      base = rw (lt-ltb rn.0 31 can.registers.base) can.points.is_at;
      aligned = can.aligned;
      reach = omega (arith, reach);
      below = omega (arith, can.below);
      memory = IsOpen-part (at + 16 * 0) (16 * n) (omega arith) (omega arith) can.memory;
      has_tag = can.has_tag;
    }

-- ---- rounds and the rest

length-tag_loop : (rt rn count : Reg) (pairs : ℕ) → length (tag_loop rt rn count pairs) ≡ pairs + 3
length-tag_loop rt rn count pairs =
    length-append (tags_from rt rn 0 (2 * pairs)) (loop_end rn count pairs) ∙ omega (arith, length-tags_from rt rn 0 (2 * pairs))

Runs-looped : {rt rn count : Reg} {pairs rounds base at tag value : ℕ} {s : State}
    (looped : Looped rt rn count pairs rounds base at tag value s) → s.pc ≡ base →
    Runs (tag_loop rt rn count pairs) (3 * rounds + rounds * pairs) s looped.to
Runs-looped {rt} {rn} {count} {pairs} {rounds} {base} {at} {tag} {value} {s} looped start = record {
  steps = subst (λ (b : ℕ). RunsFrom (tag_loop rt rn count pairs) b (3 * rounds + rounds * pairs) s looped.to) (sym start) looped.steps;
  pc = looped.pc ∙ omega (arith, start, length-tag_loop rt rn count pairs);
}

-- behind the move of the count
counted : (rt rn count : Reg) (pairs more n at tag value : ℕ) (s : State) → CanTag rt rn count n at tag value s → pairs < 128 →
    suc more < 2 ^ 16 →
    2 * (suc more * pairs) ≤ n → s.pc + 4 + 4 * (pairs + 3) < 2 ^ 64 → IsAhead rt rn count pairs (suc more) at tag value
    (puts_register count (suc more) s)
unfolding puts_register puts_tags
counted rt rn count pairs more n at tag value s can reach small within fits = record {
  points = subst (λ (pointer : ℕ). Points pointer at tag) (sym (with_value-other s.register count.0 (suc more) rn.0
      (λ same. can.registers.apart (sym same)))) can.points;
  has_tag = source ∙ can.has_tag;
  counts = with_value-same s.register count.0 (suc more);
  rounds_fit = omega (arith, small);
  aligned = can.aligned;
  reach = reach;
  below = omega (arith, can.below, within);
  memory = IsOpen-kept (record { regions = refl; guard = refl }) (IsOpen-part at (32 * (suc more * pairs)) (omega arith) (omega
      (arith, within)) can.memory);
  fits = omega (arith, fits);
}
  where
    source : tag_of (general_or_sp (puts_register count (suc more) s) rt) ≡ tag_of (general_or_sp s rt)
    source = elim (cases_Bool (nat_lt rt.0 31)) [
      | inl in_register ↦ rw in_register (ap tag_of (with_value-other s.register count.0 (suc more) rt.0 can.registers.source))
      | inr is_sp ↦ rw is_sp refl
    ]

scratch_apart : (rn count : Reg) (r : ℕ) → base_or_count rn count r ≡ false → (r ≢ rn.0) × (r ≢ count.0)
scratch_apart rn count r none = (
  λ same. absurd (let e : true ≡ false = sym (eq_or_left same) ∙ none in cc),
  λ same. absurd (let e : true ≡ false = sym (eq_or_right same) ∙ none in cc),
)
  where
    eq_or_left : r ≡ rn.0 → base_or_count rn count r ≡ true
    eq_or_left same = rw (eq-eqb r rn.0 same) refl

    eq_or_right : r ≡ count.0 → base_or_count rn count r ≡ true
    eq_or_right same = elim (cases_Bool (r == rn.0)) [
      | inl one ↦ rw one refl
      | inr other ↦ rw (other, eq-eqb r count.0 same) refl
    ]

-- the steps of a loop with its rest
abbrev pub round_steps : ℕ → ℕ → ℕ → ℕ
round_steps pairs rounds rest = 1 + (3 * rounds + rounds * pairs + (rest + 1) / 2)

-- what is left to tag behind the loop
rest_ahead : (rt rn count : Reg) (pairs rounds rest n base at tag value : ℕ) (s t : State) → CanTag rt rn count n at tag value s →
    n ≡ 2 * (rounds * pairs) + rest →
    (looped : Looped rt rn count pairs rounds base at tag value t) → SameButTags s t → rest ≤ 256 → MayTag rt rn 0 rest (at + 32 *
    (rounds * pairs)) value looped.to
rest_ahead rt rn count pairs rounds rest n base at tag value s t can whole looped same small = record {
  base = rw (lt-ltb rn.0 31 can.registers.base) looped.points.is_at;
  aligned = omega (arith, can.aligned);
  reach = omega (arith, small);
  below = omega (arith, can.below, whole);
  memory = IsOpen-kept (record { regions = looped.same.regions ∙ same.regions; guard = looped.same.guard ∙ same.guard })
      (IsOpen-part (at + 32 * (rounds * pairs) + 16 * 0) (16 * rest) (omega arith) (omega (arith, whole)) can.memory);
  has_tag = looped.has_tag;
}

pub tags_rounds : (rt rn count : Reg) (pairs more rest n at tag value : ℕ) (s : State) → CanTag rt rn count n at tag value s →
    n ≡ 2 * (suc more * pairs) + rest →
    pairs < 128 → suc more < 2 ^ 16 → rest ≤ 256 → s.pc + 4 * (pairs + 4 + (rest + 1) / 2) < 2 ^ 64 →
    Tagged (tags_in_rounds rt rn count pairs (suc more) rest) (round_steps pairs (suc more) rest) n at value (base_or_count rn count) s
unfolding puts_register puts_tags
tags_rounds rt rn count pairs more rest n at tag value s can whole reach small few fits = record {
  to = tagged_to rest place value ((rest + 1) / 2) looped.to;
  tagged = record {
    runs = Runs-append (Runs-one (constant_moved (suc more) count s can.registers.counter) refl (omega (arith, fits)))
        (Runs-append (Runs-looped looped refl) (Runs-tags_from rt rn 0 rest (at + 32 * (suc more * pairs)) value looped.to
        (rest_ahead rt rn count pairs (suc more) rest n u.pc at tag value s u can whole looped same_u few) (omega
        (arith, looped.pc, fits))));
    tags = ap (λ (tags : ℕ → ℕ). tagged rest tags place value) looped.tags
        ∙ ap (λ (a : ℕ). tagged rest (tagged (2 * (suc more * pairs)) s.tag at value) a value) (let e : place ≡ at + 16 * (2 *
        (suc more * pairs)) = omega arith in e)
        ∙ sym (tagged-add (2 * (suc more * pairs)) rest s.tag at value)
        ∙ ap (λ (k : ℕ). tagged k s.tag at value) (sym whole);
    registers = λ r none. looped.registers r (scratch_apart rn count r none).0 (scratch_apart rn count r none).1
        ∙ with_value-other s.register count.0 (suc more) r (scratch_apart rn count r none).1;
    same = SameButTags-then same_u (SameButTags-then looped.same
        (record { sp = refl; flags = refl; byte = refl; regions = refl; guard = refl; choices = refl; drawn = refl; outside = refl }));
  };
}
  where
    u : State
    u = puts_register count (suc more) s

    place : ℕ
    place = at + 32 * (suc more * pairs) + 16 * 0

    same_u : SameButTags s u
    same_u = record { sp = refl; flags = refl; byte = refl; regions = refl; guard = refl; choices = refl; drawn = refl; outside = refl }

    looped : Looped rt rn count pairs (suc more) u.pc at tag value u
    looped = loops rt rn count pairs more u.pc at tag value u can.registers refl
        (counted rt rn count pairs more n at tag value s can reach small (omega (arith, whole)) (omega (arith, fits)))

-- ---- any number of granules of a frame of 262,144 bytes

-- at most so many instructions and so many steps
pub record TaggedWithin (instrs : List Instr) (words most n at value : ℕ) (is_scratch : ℕ → Bool) (from : State) : Type 0 where
  pub short : length instrs ≤ words
  pub steps : ℕ
  pub few : steps ≤ most
  pub tagged : Tagged instrs steps n at value is_scratch from

length-rounds : (rt rn count : Reg) (pairs rounds rest : ℕ) → length (tags_in_rounds rt rn count pairs rounds rest) ≡ pairs + 4 +
    (rest + 1) / 2
length-rounds rt rn count pairs rounds rest =
    ap suc (length-append (tag_loop rt rn count pairs) (tags_from rt rn 0 rest)) ∙ omega
    (arith, length-tag_loop rt rn count pairs, length-tags_from rt rn 0 rest)

-- at most 20 instructions, and three quarters of a step a granule
pub tags_quickly : (rt rn count : Reg) (n at tag value : ℕ) (s : State) → CanTag rt rn count n at tag value s → n ≤ 16384 →
    s.pc + 4 * 20 < 2 ^ 64 →
    TaggedWithin (tag_quickly rt rn count n) 20 (3 * n / 4 + 2) n at value (base_or_count rn count) s
tags_quickly rt rn count n at tag value s can within fits = elim (cases_lt n 16) [
  | inl few ↦ rw (lt-ltb n 16 few) (record {
    short = omega (arith, length-tags_from rt rn 0 n, few);
    steps = (n + 1) / 2;
    few = omega arith;
    tagged = tags_short rt rn count n at tag value s can (omega (arith, few)) (omega (arith, few, fits));
  })
  | inr many ↦ rw (le-ltb n 16 many) (by_rounds many (n / 16) refl)
]
  where
    by_rounds : 16 ≤ n → (rounds : ℕ) → n / 16 ≡ rounds → TaggedWithin (tags_in_rounds rt rn count 8 (n / 16) (n % 16)) 20
        (3 * n / 4 + 2) n at value (base_or_count rn count) s
    by_rounds many zero is = absurd (omega (arith, many, is))
    by_rounds many (suc more) is = subst (λ (k : ℕ). TaggedWithin (tags_in_rounds rt rn count 8 k (n % 16)) 20
        (3 * n / 4 + 2) n at value (base_or_count rn count) s) (sym is) (record {
          short = omega (arith, length-rounds rt rn count 8 (suc more) (n % 16));
          steps = round_steps 8 (suc more) (n % 16);
          few = omega (arith, is);
          tagged = tags_rounds rt rn count 8 more (n % 16) n at tag value s can (omega (arith, is)) (omega arith) (omega
              (arith, is, within)) (omega arith) (omega (arith, fits));
        })

-- at most 6 instructions, and two steps a granule
pub tags_shortly : (rt rn count : Reg) (n at tag value : ℕ) (s : State) → CanTag rt rn count n at tag value s → n ≤ 16384 →
    s.pc + 4 * 6 < 2 ^ 64 →
    TaggedWithin (tag_shortly rt rn count n) 6 (2 * n + 1) n at value (base_or_count rn count) s
tags_shortly rt rn count n at tag value s can within fits = elim (cases_lt n 4) [
  | inl few ↦ rw (lt-ltb n 4 few) (record {
    short = omega (arith, length-tags_from rt rn 0 n, few);
    steps = (n + 1) / 2;
    few = omega arith;
    tagged = tags_short rt rn count n at tag value s can (omega (arith, few)) (omega (arith, few, fits));
  })
  | inr many ↦ rw (le-ltb n 4 many) (by_rounds many (n / 2) refl)
]
  where
    by_rounds : 4 ≤ n → (rounds : ℕ) → n / 2 ≡ rounds → TaggedWithin (tags_in_rounds rt rn count 1 (n / 2) (n % 2)) 6
        (2 * n + 1) n at value (base_or_count rn count) s
    by_rounds many zero is = absurd (omega (arith, many, is))
    by_rounds many (suc more) is = subst (λ (k : ℕ). TaggedWithin (tags_in_rounds rt rn count 1 k (n % 2)) 6 (2 * n + 1) n at value
        (base_or_count rn count) s) (sym is) (record {
          short = omega (arith, length-rounds rt rn count 1 (suc more) (n % 2));
          steps = round_steps 1 (suc more) (n % 2);
          few = omega (arith, is);
          tagged = tags_rounds rt rn count 1 more (n % 2) n at tag value s can (omega (arith, is)) (omega arith) (omega
              (arith, is, within)) (omega arith) (omega (arith, fits));
        })
