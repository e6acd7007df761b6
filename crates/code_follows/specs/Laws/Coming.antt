-- How code comes on: by steps that leave the relation as it is, and past a unit of work (this project's own).
use Rattle.std.specs.Prelude.{◌≡◌, ◌≢◌, ℕ, ◌^◌, ◌<◌, ◌≤◌, Bool, true, ◌+◌, ◌*◌, List, [], ◌∷◌, length, Some, refl}
use Rattle.std.proofs.Common.{arith, ap, subst, ◌∙◌}
use Rattle.a64_code.specs.declared.instr.Instr.{Instr}
use Rattle.a64_code.specs.declared.instr.Reg.{Reg}
use Rattle.a64_code.specs.State.{State, at_pc}
use Rattle.a64_laws.specs.Runs.{instr_at, RunsFrom}
use Rattle.block_meaning.specs.Running.{Context, State as MeaningState}
use Rattle.code_relation.specs.Items.{HasInstr}
use Rattle.code_relation.specs.Laws.Keeps.{KeepsFrom-bytes, KeepsFrom-then}
use Rattle.code_relation.specs.Laws.Kept.{Injects-same, Injects-with}
use Rattle.code_relation.specs.Laws.Outcomes.{spent}
use Rattle.code_relation.specs.Relates.{SameOutside, Relates}
use Rattle.code_relation.specs.Sites.{Given, units_of}
use Rattle.code_runs.specs.Bounded.{Account}
use Rattle.code_runs.specs.Laws.Ranges.{IsInRange-Steps}
use Rattle.gen_laws.specs.Laws.Computing.{Computes-nil, Computes-fewer}
use Rattle.code_follows.specs.Parts.{Came, On}
use Rattle.code_follows.specs.Scene.{Scene, given_in, IsScene}
use Rattle.gen_laws.specs.Computes.{SameButResults, Computes}
use Rattle.code_follows.specs.Steps.{SameMachine, Walks, Suits}
use Rattle.code_follows.specs.Laws.Lying.{HasInstrs}
use Rattle.code_follows.specs.Laws.Walking.{are_quiet, walk_within}

-- ---- related states

pub Relates-spent : {g : Given} {here : Context} {now : MeaningState} {s : State} → Relates g here now s → Relates g here (spent now) s
Relates-spent {now = now} relates = record {
  injects = Injects-with (record { work = (spent now).work; input = now.input; output = now.output }) relates.injects;
  outside = record {
    output = relates.outside.output;
    input = relates.outside.input;
    bytes = relates.outside.bytes;
    takes = relates.outside.takes;
    puts = relates.outside.puts;
  };
}

outside_same : {now : MeaningState} {s t : State} → t.outside ≡ s.outside → SameOutside now s → SameOutside now t
outside_same same outside = record {
  output = ap (λ o. o.output) same ∙ outside.output;
  input = ap (λ o. o.answers) same ∙ outside.input;
  bytes = outside.bytes;
  takes = ap (λ o. o.next_failure) same ∙ outside.takes;
  puts = ap (λ o. o.put_failure) same ∙ outside.puts;
}

pub Relates-walks : {k : Scene} {to n : ℕ} {now : MeaningState} {s t : State} → Walks k to n s t → Relates (given_in k) k.here now s →
    Relates (given_in k) k.here now t
Relates-walks {n = n} walks relates = record {
  injects = Injects-same walks.same.injected (IsInRange-Steps n walks.led.steps relates.injects.in_range) relates.injects;
  outside = outside_same walks.same.outside relates.outside;
}

-- ---- where code has come

module _ {k : Scene} {first : ℕ} {reg : Reg} {alone : Bool} {s : State} where
  pub Came-start : {from : ℕ} {now : MeaningState} → Relates (given_in k) k.here now s → s.pc ≡ from →
      Came k first reg alone s from now s
  Came-start relates at = record {
    comes = record {
      relates = relates;
      pc = at;
      kept = KeepsFrom-bytes (units_of (given_in k)) first s s k.here.open_calls refl;
    };
    registers = λ is r other. refl;
  }

  pub Came-spent : {to : ℕ} {now : MeaningState} {t : State} → Came k first reg alone s to now t → Came k first reg alone s to (spent now) t
  Came-spent came = record {
    comes = record { relates = Relates-spent came.comes.relates; pc = came.comes.pc; kept = came.comes.kept };
    registers = came.registers;
  }

  -- where what is alone changes no other register than its own
  pub Came-walks : {from to n : ℕ} {now : MeaningState} {t u : State} → Walks k to n t u →
      (alone ≡ true → (r : ℕ) → r ≢ reg.0 → u.register r ≡ t.register r) → Came k first reg alone s from now t →
      Came k first reg alone s to now u
  Came-walks {t = t} {u = u} walks others came = record {
    comes = record {
      relates = Relates-walks walks came.comes.relates;
      pc = walks.pc;
      kept = KeepsFrom-then (units_of (given_in k)) first first first s t u k.here.open_calls (omega arith) (omega arith) came.comes.kept
          (KeepsFrom-bytes (units_of (given_in k)) first t u k.here.open_calls walks.same.injected.byte);
    };
    registers = λ is r other. others is r other ∙ came.registers is r other;
  }

  -- by the code of a part, which keeps no fewer temps, and is alone, in the same register, where the whole is
  pub Came-part : {from to sub_first : ℕ} {sub_reg : Reg} {sub_alone : Bool} {now then : MeaningState} {t u : State} → first ≤ sub_first →
      (alone ≡ true → (sub_reg.0 ≡ reg.0) × (sub_alone ≡ true)) → Came k sub_first sub_reg sub_alone t to then u →
      Came k first reg alone s from now t → Came k first reg alone s to then u
  Came-part {sub_first = sub_first} {t = t} {u = u} above others part came = record {
    comes = record {
      relates = part.comes.relates;
      pc = part.comes.pc;
      kept = KeepsFrom-then (units_of (given_in k)) first first sub_first s t u k.here.open_calls (omega arith) above came.comes.kept
          part.comes.kept;
    };
    registers = λ is r other. part.registers (others is).1 r (λ same. other (same ∙ (others is).0)) ∙ came.registers is r other;
  }

-- ---- instructions that compute something

SameMachine-results : {s t : State} → SameButResults s t → t.register 28 ≡ s.register 28 → SameMachine s t
SameMachine-results same base = record {
  injected = record {
    sp = same.sp;
    base = base;
    byte = same.byte;
    tag = same.tag;
    regions = same.regions;
    guard = same.guard;
    choices = same.choices;
    drawn = same.drawn;
  };
  outside = same.outside;
}

pub Walks-computes : {k : Scene} {instrs : List Instr} {from to : ℕ} {alone : Bool} {reg into : Reg} {spares : ℕ → Type 0} {value : ℕ}
    {now : MeaningState} {s : State} → HasInstrs k instrs from to → are_quiet instrs ≡ true →
    (computes : Computes instrs into value spares s) → Suits alone reg into spares → Relates (given_in k) k.here now s → s.pc ≡ from →
    Walks k to (length instrs) s computes.to
Walks-computes {k} {instrs} {from} {to} {s = s} has quiet computes suits relates at = record {
  led = walk_within k (length instrs) has quiet
      (subst (λ (base : ℕ). RunsFrom instrs base (length instrs) s computes.to) at computes.runs.steps) relates.injects.as_loaded
      relates.injects.in_range;
  pc = omega (arith, computes.runs.pc, at, has.to_is);
  same = SameMachine-results computes.same (computes.registers 28 (λ same. omega (arith, suits.low, same)) suits.base);
}

-- Where instructions stand, PC is low; and no instruction computes the same at any PC.
pub Computes-where : {k : Scene} {instrs : List Instr} {from to : ℕ} {into : Reg} {value : ℕ} {spares : ℕ → Type 0} {s : State} →
    HasInstrs k instrs from to → s.pc ≡ from →
    ((t : State) → t.register ≡ s.register → t.pc < 2 ^ 56 → Computes instrs into value spares t) → Computes instrs into value spares s
Computes-where {k} {instrs} {from} {into = into} {value} {spares} {s} has at each = by_list instrs (λ instr. (has.each 0 instr)) each
  where
    by_list : (instrs : List Instr) → ((instr : Instr) → instr_at instrs 0 ≡ Some instr → HasInstr k.code (from + 4 * 0) instr) →
        ((t : State) → t.register ≡ s.register → t.pc < 2 ^ 56 → Computes instrs into value spares t) → Computes instrs into value spares s
    by_list [] has each =
        let c = each (at_pc 0 s) refl (omega arith) in
        Computes-fewer (λ r spared. tt) (Computes-nil into value s (ap (λ u. u.register into.0) c.runs.steps ∙ c.holds))
    by_list (x ∷ xs) has each = each s refl (omega (arith, at, (has x refl).below))

-- ---- numbers

-- a unit of work pays for much more than a node
pub pays : {k : Scene} → IsScene k → 96 ≤ k.code.per
pays scene = omega (arith, scene.file.pays)

pub pays-some : {k : Scene} → IsScene k → 1 ≤ k.code.per
pays-some scene = omega (arith, pays scene)

-- where instructions begin that come next
pub starts_low : {k : Scene} {instr : Instr} {instrs : List Instr} {first from to : ℕ} {reg : Reg} {alone : Bool} {a : Account}
    {owes spare : ℕ} {now : MeaningState} {s t : State} → HasInstrs k (instr ∷ instrs) from to →
    On k first reg alone s from a owes spare now t → t.pc < 2 ^ 56
starts_low {instr = instr} {from = from} has on = omega (arith, on.came.comes.pc, (has.each 0 instr refl).below)
