-- What a loop that tags granules does (this project's own).
use Rattle.std.specs.Prelude.{◌≡◌, ◌≢◌, ℕ, zero, suc, ◌+◌, ◌-◌, ◌*◌, ◌/◌, ◌%◌, ◌^◌, ◌<◌, ◌==◌, nat_lt, true, length, if◌then◌else◌, refl}
use Rattle.std.proofs.Common.{arith, ap, sym, ◌∙◌, subst, inl, inr, suc-mul}
use Rattle.std.proofs.lemmas.Bool.{cases_eq, cases_Bool, ne_eqb, lt-ltb}
use Rattle.mt_base.specs.Pointers.{tag_of}
use Rattle.a64_code.specs.declared.instr.Instr.TheVariants.{AddImm, SubImm, Cbnz}
use Rattle.a64_code.specs.declared.instr.Reg.{Reg}
use Rattle.a64_code.specs.State.{State, with_value, general_or_sp}
use Rattle.a64_code.specs.Stepped.{Leads}
use Rattle.a64_laws.specs.Laws.Effects.Registers.{with_value-same, with_value-other}
use Rattle.a64_code.specs.State.{tagged}
use Rattle.a64_code.specs.Effect.{effect}
use Rattle.a64_laws.specs.Forms.{Points, next, puts_register, puts_tags, puts_pc}
use Rattle.a64_laws.specs.Branches.{Back, OnOther}
use Rattle.a64_laws.specs.Runs.{RunsFrom}
use Rattle.a64_laws.specs.Tagging.{tags_from, loop_end, tag_loop, SameButTags, LoopRegisters, IsAhead}
use Rattle.a64_laws.specs.Laws.Pointers.{Points-on}
use Rattle.a64_laws.specs.Laws.OpenMemory.{IsOpen-part, IsOpen-kept}
use Rattle.a64_laws.specs.Laws.Results.{number_added, number_taken}
use Rattle.a64_laws.specs.Laws.Branches.{jump-taken, jump-passed}
use Rattle.a64_laws.specs.Laws.Runs.{RunsFrom-add, RunsFrom-front, RunsFrom-back, RunsFrom-one_at}
use Rattle.a64_laws.specs.Laws.Tagging.{tagged-add, length-tags_from, tagged_to, MayTag, Runs-tags_from}

-- what one round leaves, where so many are to come
pub record Round (rt rn count : Reg) (pairs more at tag value : ℕ) (from to : State) : Type 0 where
  pub steps : RunsFrom (tag_loop rt rn count pairs) from.pc (pairs + 3) from to
  pub pc : to.pc ≡ (if more == 0 then from.pc + 4 * (pairs + 3) else from.pc)
  pub tags : to.tag ≡ tagged (2 * pairs) from.tag at value
  pub points : Points (to.register rn.0) (at + 32 * pairs) tag
  pub counts : to.register count.0 ≡ more
  pub registers : (r : ℕ) → r ≢ rn.0 → r ≢ count.0 → to.register r ≡ from.register r
  pub same : SameButTags from to

-- the states of a round: the granules have their tags, the base is behind them, the count is one less
abbrev after_tags : ℕ → ℕ → ℕ → State → State
after_tags pairs at value s = tagged_to (2 * pairs) at value pairs s

abbrev after_add : Reg → ℕ → State → State
after_add rn pairs s = puts_register rn ((s.register rn.0 + 32 * pairs) % 2 ^ 64) s

tags_done : (rt rn count : Reg) (pairs more at tag value : ℕ) (s : State) → LoopRegisters rt rn count → IsAhead rt rn count pairs
    (suc more) at tag value s →
    RunsFrom (tag_loop rt rn count pairs) s.pc pairs s (after_tags pairs at value s)
tags_done rt rn count pairs more at tag value s regs ahead =
    RunsFrom-front (tags_from rt rn 0 (2 * pairs)) (loop_end rn count pairs) s.pc pairs s (after_tags pairs at value s)
    (subst (λ (k : ℕ). RunsFrom (tags_from rt rn 0 (2 * pairs)) s.pc k s (tagged_to (2 * pairs) at value k s)) (let e :
    (2 * pairs + 1) / 2 ≡ pairs = omega arith in e)
    (subst (λ (a : ℕ). RunsFrom (tags_from rt rn 0 (2 * pairs)) s.pc ((2 * pairs + 1) / 2) s (tagged_to (2 * pairs) a value
    ((2 * pairs + 1) / 2) s)) (let e : at + 16 * 0 ≡ at = omega arith in e)
    (Runs-tags_from rt rn 0 (2 * pairs) at value s may (omega (arith, ahead.fits))).steps))
  where
    split : suc more * pairs ≡ more * pairs + pairs
    split = suc-mul more pairs

    may : MayTag rt rn 0 (2 * pairs) at value s
    may = record {
      base = rw (lt-ltb rn.0 31 regs.base) ahead.points.is_at;
      aligned = ahead.aligned;
      reach = omega (arith, ahead.reach);
      below = omega (arith, ahead.below, split);
      memory = IsOpen-part (at + 16 * 0) (16 * (2 * pairs)) (omega arith) (omega (arith, split)) ahead.memory;
      has_tag = ahead.has_tag;
    }

-- the three instructions behind the tags: what they lead from and to
abbrev after_sub : Reg → Reg → ℕ → ℕ → State → State
after_sub rn count pairs more s = puts_register count more (after_add rn pairs s)

abbrev after_branch : ℕ → ℕ → ℕ → State → State
after_branch pairs more base s = record s { pc = if more == 0 then base + 4 * (pairs + 3) else base }

count_kept : (rn count : Reg) (pairs : ℕ) (s : State) → count.0 ≢ rn.0 → (after_add rn pairs s).register count.0 ≡ s.register count.0
unfolding puts_register
count_kept rn count pairs s apart = with_value-other s.register rn.0 ((s.register rn.0 + 32 * pairs) % 2 ^ 64) count.0 apart

add_done : (rn : Reg) (pairs : ℕ) (s : State) → rn.0 < 31 → effect (AddImm true 0 (32 * pairs) rn rn) s ≡ Leads (after_add rn pairs s)
add_done rn pairs s small = number_added 0 (32 * pairs) (32 * pairs) rn rn s small small (omega arith)

sub_done : (rn count : Reg) (pairs more : ℕ) (s : State) → LoopRegisters rn rn count → s.register count.0 ≡ suc more → suc more < 2 ^ 64 →
    effect (SubImm true 0 1 count count) (after_add rn pairs s) ≡ Leads (after_sub rn count pairs more s)
unfolding puts_register puts_tags puts_pc
sub_done rn count pairs more s regs counts fits =
    number_taken 0 1 1 count count (after_add rn pairs s) regs.counter regs.counter refl (omega (arith, kept, counts)) (omega
    (arith, kept, counts, fits))
    ∙ ap (λ (n : ℕ). Leads (puts_register count n (after_add rn pairs s))) (let e : (after_add rn pairs s).register count.0 - 1 ≡ more =
    omega (arith, kept, counts) in e)
  where
    kept : (after_add rn pairs s).register count.0 ≡ s.register count.0
    kept = count_kept rn count pairs s regs.apart

-- back to the first instruction, or on behind the last
branch_done : (rn count : Reg) (pairs more base : ℕ) (s : State) → count.0 < 31 → pairs < 128 → s.register count.0 ≡ more →
    s.pc ≡ base + 4 * (pairs + 2) → base + 4 * (pairs + 3) < 2 ^ 64 →
    effect (Cbnz true (2 ^ 19 - (pairs + 2)) count) s ≡ Leads (after_branch pairs more base s)
unfolding next puts_register puts_tags puts_pc
branch_done rn count pairs zero base s small reach counts pc fits =
    jump-passed (OnOther true count) (Back (pairs + 2)) s (rw (lt-ltb count.0 31 small, counts) refl)
    ∙ ap (λ (a : ℕ). Leads (puts_pc a s)) (let e : (s.pc + 4) % 2 ^ 64 ≡ base + 4 * (pairs + 3) = omega (arith, pc, fits) in e)
branch_done rn count pairs (suc more) base s small reach counts pc fits =
    jump-taken (OnOther true count) (Back (pairs + 2)) s (omega (arith, pc, fits)) (
      omega arith,
      omega (arith, reach),
      omega
          (arith, pc),
    ) (rw (lt-ltb count.0 31 small, counts, ne_eqb (suc more) 0 (λ is. absurd (omega (arith, is)))) refl)
    ∙ rw (ne_eqb (suc more) 0 (λ is. absurd (omega (arith, is)))) (ap (λ (a : ℕ). Leads (puts_pc a s)) (let e : s.pc - 4 *
    (pairs + 2) ≡ base = omega (arith, pc) in e))

abbrev round_end : Reg → Reg → ℕ → ℕ → ℕ → ℕ → State → State
round_end rn count pairs more at value s = after_branch pairs more s.pc (after_sub rn count pairs more (after_tags pairs at value s))

round_steps : (rt rn count : Reg) (pairs more at tag value : ℕ) (s : State) → LoopRegisters rt rn count → IsAhead rt rn count pairs
    (suc more) at tag value s →
    RunsFrom (tag_loop rt rn count pairs) s.pc (pairs + 3) s (round_end rn count pairs more at value s)
unfolding puts_register puts_tags puts_pc
round_steps rt rn count pairs more at tag value s regs ahead =
    RunsFrom-add (tag_loop rt rn count pairs) s.pc pairs 3 s u (round_end rn count pairs more at value s)
    (tags_done rt rn count pairs more at tag value s regs ahead)
    (RunsFrom-back (tags_from rt rn 0 (2 * pairs)) (loop_end rn count pairs) s.pc 3 u (round_end rn count pairs more at value s)
    (subst (λ (base : ℕ). RunsFrom (loop_end rn count pairs) base 3 u (round_end rn count pairs more at value s)) base three))
  where
    u : State
    u = after_tags pairs at value s

    v : State
    v = after_add rn pairs u

    w : State
    w = after_sub rn count pairs more u

    base : s.pc + 4 * pairs ≡ s.pc + 4 * length (tags_from rt rn 0 (2 * pairs))
    base = omega (arith, length-tags_from rt rn 0 (2 * pairs))

    regs_too : LoopRegisters rn rn count
    regs_too = record { base = regs.base; counter = regs.counter; apart = regs.apart; source = λ same. regs.apart (sym same) }

    v_pc : v.pc ≡ s.pc + 4 * pairs + 4 * 1
    v_pc = omega (arith, ahead.fits)

    w_pc : w.pc ≡ s.pc + 4 * (pairs + 2)
    w_pc = omega (arith, ahead.fits)

    three : RunsFrom (loop_end rn count pairs) (s.pc + 4 * pairs) 3 u (round_end rn count pairs more at value s)
    three =
        RunsFrom-add (loop_end rn count pairs) (s.pc + 4 * pairs) 1 2 u v (round_end rn count pairs more at value s)
        (RunsFrom-one_at 0 (AddImm true 0 (32 * pairs) rn rn) (omega arith) refl (add_done rn pairs u regs.base))
        (RunsFrom-add (loop_end rn count pairs) (s.pc + 4 * pairs) 1 1 v w (round_end rn count pairs more at value s)
        (RunsFrom-one_at 1 (SubImm true 0 1 count count) v_pc refl (sub_done rn count pairs more u regs_too ahead.counts ahead.rounds_fit))
        (RunsFrom-one_at 2 (Cbnz true (2 ^ 19 - (pairs + 2)) count) (omega (arith, w_pc)) refl
        (branch_done rn count pairs more s.pc w regs.counter ahead.reach (with_value-same v.register count.0 more) w_pc ahead.fits)))

-- the tag of Rt stays, also where it is the base
source_kept : (rt rn count : Reg) (pairs more at tag value : ℕ) (s : State) → LoopRegisters rt rn count → IsAhead rt rn count pairs
    (suc more) at tag value s →
    tag_of (general_or_sp (round_end rn count pairs more at value s) rt) ≡ value
unfolding puts_register puts_tags puts_pc
source_kept rt rn count pairs more at tag value s regs ahead = elim (cases_Bool (nat_lt rt.0 31)) [
  | inl small ↦ rw small (elim (cases_eq rt.0 rn.0) [
    | inl is ↦
        ap tag_of (in_register small ∙ ap (with_value s.register rn.0 next) is ∙ with_value-same s.register rn.0 next)
        ∙ (Points-on (32 * pairs) (omega (arith, ahead.below, suc-mul more pairs)) ahead.points).has_tag
        ∙ sym ahead.points.has_tag
        ∙ ap (λ (r : ℕ). tag_of (s.register r)) (sym is)
        ∙ source small
    | inr other ↦ ap tag_of (in_register small ∙ with_value-other s.register rn.0 next rt.0 other) ∙ source small
  ])
  | inr is_sp ↦ rw is_sp (rw is_sp at ahead.has_tag)
]
  where
    next : ℕ
    next = (s.register rn.0 + 32 * pairs) % 2 ^ 64

    in_register : nat_lt rt.0 31 ≡ true → with_value
        (with_value s.register rn.0 next) count.0 more rt.0 ≡ with_value s.register rn.0 next rt.0
    in_register small = with_value-other (with_value s.register rn.0 next) count.0 more rt.0 regs.source

    source : nat_lt rt.0 31 ≡ true → tag_of (s.register rt.0) ≡ value
    source small = rw small at ahead.has_tag

one_round : (rt rn count : Reg) (pairs more at tag value : ℕ) (s : State) → LoopRegisters rt rn count → IsAhead rt rn count pairs
    (suc more) at tag value s →
    Round rt rn count pairs more at tag value s (round_end rn count pairs more at value s)
unfolding puts_register puts_tags puts_pc
one_round rt rn count pairs more at tag value s regs ahead = record {
  steps = round_steps rt rn count pairs more at tag value s regs ahead;
  pc = refl;
  tags = refl;
  points = subst (λ (pointer : ℕ). Points pointer (at + 32 * pairs) tag)
      (sym (with_value-other (with_value s.register rn.0 next) count.0 more rn.0 (λ same. regs.apart (sym same))
      ∙ with_value-same s.register rn.0 next))
      (Points-on (32 * pairs) (omega (arith, ahead.below, suc-mul more pairs)) ahead.points);
  counts = with_value-same (with_value s.register rn.0 next) count.0 more;
  registers = λ r not_base not_count. with_value-other (with_value s.register rn.0 next) count.0 more r not_count
      ∙ with_value-other s.register rn.0 next r not_base;
  same = record { sp = refl; flags = refl; byte = refl; regions = refl; guard = refl; choices = refl; drawn = refl; outside = refl };
}
  where
    next : ℕ
    next = (s.register rn.0 + 32 * pairs) % 2 ^ 64

pub SameButTags-then : {r s t : State} → SameButTags r s → SameButTags s t → SameButTags r t
SameButTags-then first rest = record {
  sp = rest.sp ∙ first.sp;
  flags = rest.flags ∙ first.flags;
  byte = rest.byte ∙ first.byte;
  regions = rest.regions ∙ first.regions;
  guard = rest.guard ∙ first.guard;
  choices = rest.choices ∙ first.choices;
  drawn = rest.drawn ∙ first.drawn;
  outside = rest.outside ∙ first.outside;
}

-- what the loop leaves
pub record Looped (rt rn count : Reg) (pairs rounds base at tag value : ℕ) (from : State) : Type 0 where
  pub to : State
  pub steps : RunsFrom (tag_loop rt rn count pairs) base (3 * rounds + rounds * pairs) from to
  pub pc : to.pc ≡ base + 4 * (pairs + 3)
  pub tags : to.tag ≡ tagged (2 * (rounds * pairs)) from.tag at value
  pub points : Points (to.register rn.0) (at + 32 * (rounds * pairs)) tag
  pub has_tag : tag_of (general_or_sp to rt) ≡ value
  pub registers : (r : ℕ) → r ≢ rn.0 → r ≢ count.0 → to.register r ≡ from.register r
  pub same : SameButTags from to

next_ahead : (rt rn count : Reg) (pairs more at tag value : ℕ) (s t : State) → LoopRegisters rt rn count → IsAhead rt rn count pairs
    (suc (suc more)) at tag value s →
    Round rt rn count pairs (suc more) at tag value s t → tag_of (general_or_sp t rt) ≡ value → t.pc ≡ s.pc →
    IsAhead rt rn count pairs (suc more) (at + 32 * pairs) tag value t
next_ahead rt rn count pairs more at tag value s t regs ahead round source pc = record {
  points = round.points;
  has_tag = source;
  counts = round.counts;
  rounds_fit = omega (arith, ahead.rounds_fit);
  aligned = omega (arith, ahead.aligned);
  reach = ahead.reach;
  below = omega (arith, ahead.below, suc-mul (suc more) pairs);
  memory = IsOpen-kept (record { regions = round.same.regions; guard = round.same.guard })
      (IsOpen-part (at + 32 * pairs) (32 * (suc more * pairs)) (omega arith) (omega (arith, suc-mul (suc more) pairs)) ahead.memory);
  fits = omega (arith, ahead.fits, pc);
}

-- one round and the rest
round_and : (rt rn count : Reg) (pairs more base at tag value : ℕ) (s t : State) → s.pc ≡ base →
    Round rt rn count pairs more at tag value s t →
    Looped rt rn count pairs more base (at + 32 * pairs) tag value t → Looped rt rn count pairs (suc more) base at tag value s
round_and rt rn count pairs more base at tag value s t start round rest = record {
  to = rest.to;
  steps = subst (λ (n : ℕ). RunsFrom (tag_loop rt rn count pairs) base n s rest.to) (let e : pairs + 3 +
      (3 * more + more * pairs) ≡ 3 * suc more + suc more * pairs = omega (arith, suc-mul more pairs) in e)
      (RunsFrom-add (tag_loop rt rn count pairs) base (pairs + 3) (3 * more + more * pairs) s t rest.to (subst (λ (b : ℕ). RunsFrom
      (tag_loop rt rn count pairs) b (pairs + 3) s t) start round.steps) rest.steps);
  pc = rest.pc;
  tags = rest.tags
      ∙ ap (λ (tags : ℕ → ℕ). tagged (2 * (more * pairs)) tags (at + 32 * pairs) value) round.tags
      ∙ ap (λ (a : ℕ). tagged (2 * (more * pairs)) (tagged (2 * pairs) s.tag at value) a value) (let e : at + 32 * pairs ≡ at + 16 *
      (2 * pairs) = omega arith in e)
      ∙ sym (tagged-add (2 * pairs) (2 * (more * pairs)) s.tag at value)
      ∙ ap (λ (n : ℕ). tagged n s.tag at value) (let e : 2 * pairs + 2 * (more * pairs) ≡ 2 * (suc more * pairs) =
      omega (arith, suc-mul more pairs) in e);
  points = subst (λ (a : ℕ). Points (rest.to.register rn.0) a tag) (let e : at + 32 * pairs + 32 * (more * pairs) ≡ at + 32 *
      (suc more * pairs) = omega (arith, suc-mul more pairs) in e) rest.points;
  has_tag = rest.has_tag;
  registers = λ r not_base not_count. rest.registers r not_base not_count ∙ round.registers r not_base not_count;
  same = SameButTags-then round.same rest.same;
}

-- no round more
looped_out : (rt rn count : Reg) (pairs base at tag value : ℕ) (t : State) → t.pc ≡ base + 4 * (pairs + 3) → Points
    (t.register rn.0) at tag → tag_of (general_or_sp t rt) ≡ value →
    Looped rt rn count pairs 0 base at tag value t
looped_out rt rn count pairs base at tag value t pc points source = record {
  to = t;
  steps = subst (λ (n : ℕ). RunsFrom (tag_loop rt rn count pairs) base n t t) (let e : 0 ≡ 3 * 0 + 0 * pairs = omega arith in e) refl;
  pc = pc;
  tags = ap (λ (n : ℕ). tagged n t.tag at value) (let e : 0 ≡ 2 * (0 * pairs) = omega arith in e);
  points = subst (λ (a : ℕ). Points (t.register rn.0) a tag) (let e : at ≡ at + 32 * (0 * pairs) = omega arith in e) points;
  has_tag = source;
  registers = λ r not_base not_count. refl;
  same = record { sp = refl; flags = refl; byte = refl; regions = refl; guard = refl; choices = refl; drawn = refl; outside = refl };
}

-- The loop tags 2 * pairs granules a round, of as many rounds as the count says, which is 1 at least, in pairs + 3 steps each.
pub loops : (rt rn count : Reg) (pairs more base at tag value : ℕ) (s : State) → LoopRegisters rt rn count → s.pc ≡ base →
    IsAhead rt rn count pairs (suc more) at tag value s →
    Looped rt rn count pairs (suc more) base at tag value s
loops rt rn count pairs zero base at tag value s regs start ahead =
    let round = one_round rt rn count pairs 0 at tag value s regs ahead in
    round_and rt rn count pairs 0 base at tag value s (round_end rn count pairs 0 at value s) start round
    (looped_out rt rn count pairs base (at + 32 * pairs) tag value (round_end rn count pairs 0 at value s) (omega
    (arith, start)) round.points
    (source_kept rt rn count pairs 0 at tag value s regs ahead))
loops rt rn count pairs (suc more) base at tag value s regs start ahead =
    let round = one_round rt rn count pairs (suc more) at tag value s regs ahead in
    let again : (round_end rn count pairs (suc more) at value s).pc ≡ s.pc =
    rw (ne_eqb (suc more) 0 (λ is. absurd (omega (arith, is)))) refl in
    round_and rt rn count pairs (suc more) base at tag value s (round_end rn count pairs (suc more) at value s) start round
    (loops rt rn count pairs more base (at + 32 * pairs) tag value (round_end rn count pairs (suc more) at value s) regs (again ∙ start)
    (next_ahead rt rn count pairs more at tag value s (round_end rn count pairs (suc more) at value s) regs ahead round
    (source_kept rt rn count pairs (suc more) at tag value s regs ahead) again))
