-- Lists that compute: one instruction, a constant, a comparison, and one list behind another (this project's own).
use Rattle.std.specs.Prelude.{◌≡◌, ◌≢◌, ℕ, ◌+◌, ◌^◌, ◌<◌, true, List, [], ◌∷◌, ◌++◌, refl}
use Rattle.std.proofs.Common.{sym, ◌∙◌, subst, length-append}
use Rattle.a64_code.specs.declared.instr.Instr.{Instr}
use Rattle.a64_code.specs.declared.instr.Reg.{Reg}
use Rattle.a64_code.specs.State.{State}
use Rattle.a64_code.specs.Stepped.{Leads}
use Rattle.a64_code.specs.Effect.{effect}
use Rattle.a64_laws.specs.Forms.{puts_register, puts_flags}
use Rattle.a64_laws.specs.Runs.{Runs}
use Rattle.a64_laws.specs.Constants.{constant_moves, PutsConstant}
use Rattle.a64_laws.specs.Relations.{Relation}
use Rattle.a64_laws.specs.Sequences.{Compared, IsComparable, comparison_instrs, bit_of}
use Rattle.a64_laws.specs.Laws.Comparisons.{compares, compared_flags, comparison_put}
use Rattle.a64_laws.specs.Laws.Constants.{constant_put}
use Rattle.a64_laws.specs.Laws.Effects.Registers.{with_value-same, with_value-other}
use Rattle.a64_laws.specs.Laws.Runs.{Runs-nil, Runs-one, Runs-append}
use Rattle.gen_laws.specs.Computes.{SameButResults, Computes, all}

-- ---- what stays

pub SameButResults-same : (s : State) → SameButResults s s
SameButResults-same s = record {
  sp = refl;
  byte = refl;
  tag = refl;
  regions = refl;
  guard = refl;
  choices = refl;
  drawn = refl;
  outside = refl;
}

pub SameButResults-then : {s t u : State} → SameButResults s t → SameButResults t u → SameButResults s u
SameButResults-then first rest = record {
  sp = rest.sp ∙ first.sp;
  byte = rest.byte ∙ first.byte;
  tag = rest.tag ∙ first.tag;
  regions = rest.regions ∙ first.regions;
  guard = rest.guard ∙ first.guard;
  choices = rest.choices ∙ first.choices;
  drawn = rest.drawn ∙ first.drawn;
  outside = rest.outside ∙ first.outside;
}

-- ---- one list

-- what a register has is computed by no instruction
pub Computes-nil : (into : Reg) (value : ℕ) (s : State) → s.register into.0 ≡ value → Computes [] into value all s
Computes-nil into value s is =
    record { to = s; runs = Runs-nil s; holds = is; registers = λ r other spared. refl; same = SameButResults-same s }

-- one instruction that puts it
pub Computes-put : (instr : Instr) (into : Reg) (value : ℕ) (s : State) → effect instr s ≡ Leads (puts_register into value s) →
    s.pc + 4 < 2 ^ 64 → Computes (instr ∷ []) into value all s
unfolding puts_register
Computes-put instr into value s leads room = record {
  to = puts_register into value s;
  runs = Runs-one leads refl room;
  holds = with_value-same s.register into.0 value;
  registers = λ r other spared. with_value-other s.register into.0 value r other;
  same = record {
    sp = refl;
    byte = refl;
    tag = refl;
    regions = refl;
    guard = refl;
    choices = refl;
    drawn = refl;
    outside = refl;
  };
}

pub Computes-constant : (value : ℕ) (into : Reg) (s : State) → into.0 < 31 → value < 2 ^ 64 → s.pc + 16 < 2 ^ 64 →
    Computes (constant_moves into value) into value all s
Computes-constant value into s small fits room = record {
  to = put.to;
  runs = put.runs;
  holds = put.holds;
  registers = λ r other spared. put.registers r other;
  same = record {
    sp = put.same.sp;
    byte = put.same.byte;
    tag = put.same.tag;
    regions = put.same.regions;
    guard = put.same.guard;
    choices = put.same.choices;
    drawn = put.same.drawn;
    outside = put.same.outside;
  };
}
  where
    put : PutsConstant into value (constant_moves into value) s
    put = constant_put value into s small fits room

-- 1 where a relation holds, else 0
pub Computes-comparison : (r : Relation) (second : Compared) (rn into : Reg) (s : State) → IsComparable second s → rn.0 < 31 →
    into.0 < 31 → s.register rn.0 < 2 ^ 64 → s.pc + 8 < 2 ^ 64 →
    Computes (comparison_instrs r true second rn into) into (bit_of (compares r true second rn s)) all s
unfolding puts_register puts_flags
Computes-comparison r second rn into s can first small fits room = record {
  to = puts_register into (bit_of (compares r true second rn s)) (puts_flags (compared_flags true second rn s) s);
  runs = comparison_put r true second rn into s can first small fits room;
  holds = with_value-same s.register into.0 (bit_of (compares r true second rn s));
  registers = λ q other spared. with_value-other s.register into.0 (bit_of (compares r true second rn s)) q other;
  same = record {
    sp = refl;
    byte = refl;
    tag = refl;
    regions = refl;
    guard = refl;
    choices = refl;
    drawn = refl;
    outside = refl;
  };
}

-- ---- another number, which is the same one, and fewer registers that are spared

pub Computes-is : {instrs : List Instr} {into : Reg} {v w : ℕ} {spares : ℕ → Type 0} {s : State} → v ≡ w →
    Computes instrs into v spares s → Computes instrs into w spares s
Computes-is is c = record { to = c.to; runs = c.runs; holds = c.holds ∙ is; registers = c.registers; same = c.same }

pub Computes-fewer : {instrs : List Instr} {into : Reg} {v : ℕ} {more fewer : ℕ → Type 0} {s : State} →
    ((r : ℕ) → fewer r → more r) → Computes instrs into v more s → Computes instrs into v fewer s
Computes-fewer within c = record {
  to = c.to;
  runs = c.runs;
  holds = c.holds;
  registers = λ r other spared. c.registers r other (within r spared);
  same = c.same;
}

-- ---- one list behind another, where the first one's register is the second one's or is not spared

joined : {xs ys : List Instr} {first into : Reg} {v w : ℕ} {spares : ℕ → Type 0} {s : State} (c : Computes xs first v spares s) →
    Computes ys into w spares c.to → ((r : ℕ) → r ≢ into.0 → spares r → r ≢ first.0) → Computes (xs ++ ys) into w spares s
joined {xs} {ys} {s = s} c d within = record {
  to = d.to;
  runs = subst (λ (n : ℕ). Runs (xs ++ ys) n s d.to) (sym (length-append xs ys)) (Runs-append c.runs d.runs);
  holds = d.holds;
  registers = λ r other spared. d.registers r other spared ∙ c.registers r (within r other spared) spared;
  same = SameButResults-then c.same d.same;
}

-- The second stands on what the first leaves, whatever that is.
pub Computes-then : {xs ys : List Instr} {first into : Reg} {v w : ℕ} {spares : ℕ → Type 0} {s : State} →
    Computes xs first v spares s → ((c : Computes xs first v spares s) → Computes ys into w spares c.to) →
    ((r : ℕ) → r ≢ into.0 → spares r → r ≢ first.0) →
    Computes (xs ++ ys) into w spares s
Computes-then c second within = joined c (second c) within

-- both into one register
pub Computes-again : {xs ys : List Instr} {into : Reg} {v w : ℕ} {spares : ℕ → Type 0} {s : State} →
    Computes xs into v spares s → ((c : Computes xs into v spares s) → Computes ys into w spares c.to) →
    Computes (xs ++ ys) into w spares s
Computes-again c second = joined c (second c) (λ r other spared. other)
