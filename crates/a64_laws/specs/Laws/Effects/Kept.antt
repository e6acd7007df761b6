-- Parts of a state that change within reach, and what then stays (this project's own).
use Rattle.std.specs.Prelude.{◌≡◌, ℕ, ◌+◌, ◌%◌, ◌^◌, ◌==◌, nat_lt, Bool, true, false, not, ◌&&◌, if◌then◌else◌, Option, Some, None, refl}
use Rattle.std.proofs.Common.{ap, sym, ◌∙◌, true≢false}
use Rattle.mt_base.specs.Granules.{granule_of}
use Rattle.a64_alu.specs.declared.flags.Flags.{Flags}
use Rattle.a64_code.specs.declared.instr.Reg.{Reg}
use Rattle.a64_code.specs.declared.end.MachineEnd.{MachineEnd}
use Rattle.a64_code.specs.declared.end.MachineEnd.TheVariants.{Exited, BadCode, Divide, InputFault, OutputFault}
use Rattle.a64_code.specs.Outside.{Outside, fails_now}
use Rattle.a64_code.specs.State.{State, with_value, with_operand, with_flags, with_bytes, with_tags, with_choice_drawn, with_outside}
use Rattle.a64_code.specs.State.{is_sp, at_pc, advanced}
use Rattle.a64_code.specs.Stepped.{Leads, Ends, unless}
use Rattle.a64_code.specs.Services.{low_byte, put_state, next_state, put_service, next_service, service}
use Rattle.a64_code.specs.Laws.Reach.{Reach}
use Rattle.a64_laws.specs.Laws.Effects.Leaves.{Keeps, SparesProtected, Leaves, OnLeads}

pub keeps_same : (r : Reach) (s : State) → Keeps r s s
keeps_same r s = record {
  registers = λ n h. refl;
  sp = λ h. refl;
  flags = λ h. refl;
  bytes = λ at h. refl;
  tags = λ granule h. refl;
  regions = refl;
  guard = refl;
  choices = refl;
  drawn = λ h. refl;
  outside = λ h. refl;
}

-- a state whose parts differ from those of the last one within reach alone
keeps_parts : {r : Reach} {s t u : State} → Keeps r s t → ((n : ℕ) → r.registers n ≡ false → u.register n ≡ t.register n) →
    (r.sp ≡ false → u.sp ≡ t.sp) → (r.flags ≡ false → u.flags ≡ t.flags) → ((at : ℕ) → r.bytes at ≡ false → u.byte at ≡ t.byte at) →
    ((granule : ℕ) → r.tags granule ≡ false → u.tag granule ≡ t.tag granule) → (r.draws ≡ false → u.drawn ≡ t.drawn) →
    (r.asks ≡ false → u.outside ≡ t.outside) → u.regions ≡ t.regions → u.guard ≡ t.guard → u.choices ≡ t.choices → Keeps r s u
keeps_parts k registers sp flags bytes tags drawn outside regions guard choices = record {
  registers = λ n h. registers n h ∙ k.registers n h;
  sp = λ h. sp h ∙ k.sp h;
  flags = λ h. flags h ∙ k.flags h;
  bytes = λ at h. bytes at h ∙ k.bytes at h;
  tags = λ granule h. tags granule h ∙ k.tags granule h;
  regions = regions ∙ k.regions;
  guard = guard ∙ k.guard;
  choices = choices ∙ k.choices;
  drawn = λ h. drawn h ∙ k.drawn h;
  outside = λ h. outside h ∙ k.outside h;
}

pub keeps_at_pc : {r : Reach} {s t : State} (address : ℕ) → Keeps r s t → Keeps r s (at_pc address t)
keeps_at_pc address k =
    keeps_parts k (λ n h. refl) (λ h. refl) (λ h. refl) (λ at h. refl) (λ granule h. refl) (λ h. refl) (λ h. refl) refl refl refl

-- the operand's register is within reach
pub record Reaches (r : Reach) (takes : Bool) (q : Reg) : Type 0 where
  pub register : (n : ℕ) → r.registers n ≡ false → (n == q.0) ≡ false
  pub sp : r.sp ≡ false → is_sp takes q ≡ false

-- X0 to X30 by number
pub keeps_register : {r : Reach} {s t : State} (place value : ℕ) → ((n : ℕ) → r.registers n ≡ false → (n == place) ≡ false) →
    Keeps r s t → Keeps r s (record t { register = with_value t.register place value })
keeps_register place value within k =
    keeps_parts k (λ n h. rw (within n h) refl) (λ h. refl) (λ h. refl) (λ at h. refl) (λ granule h. refl) (λ h. refl) (λ h. refl) refl
    refl refl

pub keeps_sp : {r : Reach} {s t : State} (value : ℕ) → (r.sp ≡ false → true ≡ false) → Keeps r s t → Keeps r s (record t { sp = value })
keeps_sp value within k =
    keeps_parts k (λ n h. refl) (λ h. absurd (true≢false (within h))) (λ h. refl) (λ at h. refl) (λ granule h. refl) (λ h. refl)
    (λ h. refl) refl refl refl

pub keeps_operand : {r : Reach} {s t : State} (takes : Bool) (q : Reg) (value : ℕ) → Reaches r takes q → Keeps r s t →
    Keeps r s (with_operand takes q value t)
keeps_operand {r} {s} {t} takes q value reaches k = by_number takes (nat_lt q.0 31) refl reaches.sp
  where
    by_number : (takes small : Bool) → nat_lt q.0 31 ≡ small → (r.sp ≡ false → (takes && not (nat_lt q.0 31)) ≡ false) →
        Keeps r s (with_operand takes q value t)
    by_number true true is within = rw is (keeps_register q.0 value reaches.register k)
    by_number true false is within = rw is (keeps_sp value (rw is at within) k)
    by_number false true is within = rw is (keeps_register q.0 value reaches.register k)
    by_number false false is within = rw is k

pub keeps_flags : {r : Reach} {s t : State} (flags : Flags) → r.flags ≡ true → Keeps r s t → Keeps r s (with_flags flags t)
keeps_flags flags within k =
    keeps_parts k (λ n h. refl) (λ h. refl) (λ h. absurd (true≢false (sym within ∙ h))) (λ at h. refl) (λ granule h. refl) (λ h. refl)
    (λ h. refl) refl refl refl

pub keeps_bytes : {r : Reach} {s t : State} (byte : ℕ → ℕ) → ((at : ℕ) → r.bytes at ≡ false → byte at ≡ t.byte at) → Keeps r s t →
    Keeps r s (with_bytes byte t)
keeps_bytes byte within k =
    keeps_parts k (λ n h. refl) (λ h. refl) (λ h. refl) within (λ granule h. refl) (λ h. refl) (λ h. refl) refl refl refl

pub keeps_tags : {r : Reach} {s t : State} (tag : ℕ → ℕ) → ((granule : ℕ) → r.tags granule ≡ false → tag granule ≡ t.tag granule) →
    Keeps r s t → Keeps r s (with_tags tag t)
keeps_tags tag within k =
    keeps_parts k (λ n h. refl) (λ h. refl) (λ h. refl) (λ at h. refl) within (λ h. refl) (λ h. refl) refl refl refl

pub keeps_drawn : {r : Reach} {s t : State} → r.draws ≡ true → Keeps r s t → Keeps r s (with_choice_drawn t)
keeps_drawn within k =
    keeps_parts k (λ n h. refl) (λ h. refl) (λ h. refl) (λ at h. refl) (λ granule h. refl) (λ h. absurd (true≢false (sym within ∙ h)))
    (λ h. refl) refl refl refl

pub keeps_outside : {r : Reach} {s t : State} (outside : Outside) → r.asks ≡ true → Keeps r s t → Keeps r s (with_outside outside t)
keeps_outside outside within k =
    keeps_parts k (λ n h. refl) (λ h. refl) (λ h. refl) (λ at h. refl) (λ granule h. refl) (λ h. refl)
    (λ h. absurd (true≢false (sym within ∙ h))) refl refl refl

-- ---- whole instructions

-- no byte and no tag is within reach
pub record SparesMemory (r : Reach) : Type 0 where
  pub bytes : (at : ℕ) → r.bytes at ≡ false
  pub tags : (granule : ℕ) → r.tags granule ≡ false

pub spares_protected : {r : Reach} {s : State} → SparesMemory r → SparesProtected r s
spares_protected none = record { bytes = λ at h. none.bytes at; tags = λ at h. none.tags (granule_of at) }

-- a state that differs from the first within reach, at the next instruction
pub goes_on : {r : Reach} {s t : State} → t.pc ≡ s.pc → SparesProtected r s → Keeps r s t → Leaves r s (advanced t)
goes_on {r} {s} {t} pc protected k = record {
  keeps = keeps_at_pc ((t.pc + 4) % 2 ^ 64) k;
  pc = λ h. ap (λ n. (n + 4) % 2 ^ 64) pc;
  protected = protected;
}

-- the same at any instruction, for a branch
pub goes_off : {r : Reach} {s t : State} (address : ℕ) → r.branches ≡ true → SparesMemory r → Keeps r s t → Leaves r s (at_pc address t)
goes_off address within none k = record {
  keeps = keeps_at_pc address k;
  pc = λ h. absurd (true≢false (sym within ∙ h));
  protected = spares_protected none;
}

pub with_operand-pc : (takes : Bool) (q : Reg) (value : ℕ) (s : State) → (with_operand takes q value s).pc ≡ s.pc
with_operand-pc takes q value s = by_number takes (nat_lt q.0 31) refl
  where
    by_number : (takes small : Bool) → nat_lt q.0 31 ≡ small → (with_operand takes q value s).pc ≡ s.pc
    by_number true true is = rw is refl
    by_number true false is = rw is refl
    by_number false true is = rw is refl
    by_number false false is = rw is refl

-- a result goes into a register, and what changes besides is within reach
pub puts_leaves : {r : Reach} {s : State} (takes : Bool) (q : Reg) (value : ℕ) (t : State) → Reaches r takes q → SparesMemory r →
    t.pc ≡ s.pc → Keeps r s t →
    Leaves r s (advanced (with_operand takes q value t))
puts_leaves takes q value t reaches none pc k =
    goes_on (with_operand-pc takes q value t ∙ pc) (spares_protected none) (keeps_operand takes q value reaches k)

-- what comes where nothing ends the run
pub unless_leads : (P : State → Type 0) (end : Option MachineEnd) (next : State) → (end ≡ None → P next) → OnLeads (unless end next) P
unless_leads P None next holds = holds refl
unless_leads P (Some end) next holds = tt

-- a test that ends the run, or goes on
pub test_leads : (P : State → Type 0) (test : Bool) (end : MachineEnd) (next : State) → P next →
    OnLeads (if test then Ends end else Leads next) P
test_leads P true end next holds = tt
test_leads P false end next holds = holds

-- what comes of a service where it is a put or a `next` that is answered
pub service_leads : (P : State → Type 0) (number : ℕ) (s : State) → P (put_state s) → P (next_state s) → OnLeads (service number s) P
service_leads P number s put next = by_number (number == 1) (number == 2) (number == 3) (number == 4)
  where
    by_number : (first second third fourth : Bool) →
        OnLeads (if first then put_service s else if second then next_service s else if third then Ends
        (Exited (low_byte s)) else if fourth then Ends Divide else Ends (BadCode s.pc)) P
    by_number true second third fourth = test_leads P (fails_now s.outside.put_failure) OutputFault _ put
    by_number false true third fourth = test_leads P (fails_now s.outside.next_failure) InputFault _ next
    by_number false false true fourth = tt
    by_number false false false true = tt
    by_number false false false false = tt
