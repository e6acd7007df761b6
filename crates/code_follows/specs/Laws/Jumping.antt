-- Jumps and labels in the code of a part (this project's own).
use Rattle.std.specs.Prelude.{◌≡◌, ◌≢◌, ℕ, zero, suc, ◌+◌, ◌<◌, ◌≤◌, Bool, true, false, nat_eq, not, max, refl}
use Rattle.std.proofs.Common.{arith, ap, sym, subst, ◌∙◌}
use Rattle.std.proofs.lemmas.Bool.{lt-ltb}
use Rattle.std.proofs.lemmas.Bool.Decides.{nat_tests}
use Rattle.a64_code.specs.declared.instr.Reg.{Reg}
use Rattle.a64_code.specs.State.{State, general, at_pc}
use Rattle.block_meaning.specs.Running.{Run, State as MeaningState}
use Rattle.code_relation.specs.Follows.{Code}
use Rattle.code_relation.specs.Items.{IsAt, GoesTo, JumpsOnZero}
use Rattle.code_runs.specs.Bounded.{Account, later}
use Rattle.gen_base.specs.Code.{Code as Items, only}
use Rattle.mte_machine.specs.Laws.Steps.{Steps-none}
use Rattle.sym_code.specs.declared.item.SymItem.TheVariants as item
use Rattle.code_follows.specs.Parts.{Result, On, Goes}
use Rattle.code_follows.specs.Scene.{Scene, Lies, IsFree}
use Rattle.code_follows.specs.Laws.Going.{Goes-walks}
use Rattle.code_follows.specs.Laws.Lying.{ActsFrom, Lies-only}

-- ---- where code stands

-- an address by another name
pub Lies-at : {k : Scene} {code : Items} {from to start end : ℕ} → from ≡ start → to ≡ end → Lies k code from to → Lies k code start end
Lies-at first last lies = record {
  position = lies.position;
  place = lies.place;
  label_is = lies.label_is;
  stands = lies.stands;
  from_is = lies.from_is ∙ first;
  to_is = lies.to_is ∙ last;
}

-- as few temps are enough as a part of the code needs
pub IsFree-less : {k : Scene} {needs first : ℕ} {reg : Reg} (fewer : ℕ) → fewer ≤ needs → IsFree k needs first reg →
    IsFree k fewer first reg
IsFree-less fewer less free = record {
  low = free.low;
  high = free.high;
  temps = omega (arith, free.temps, less);
  near = omega (
    arith,
    free.near,
    less,
  );
}

-- the address of a label, which is no instruction
pub record IsLabel (k : Scene) (n from to : ℕ) : Type 0 where
  pub label : k.label n ≡ from
  pub none : from ≡ to

pub Lies-label : {k : Scene} {from to : ℕ} (n : ℕ) → Lies k (only (item.Label n)) from to → IsLabel k n from to
Lies-label {k} n lies =
    let acts : ActsFrom k (item.Label n) _ _ = Lies-only (item.Label n) lies in
    record {
      label = ap (λ f. f n) (sym acts.label_is) ∙ acts.acts.0 ∙ acts.from_is;
      none = sym acts.from_is ∙ sym acts.acts.1 ∙ acts.to_is;
    }

-- from an address to a label
pub record Jumps (k : Scene) (from to : ℕ) : Type 0 where
  pub jumps : (s : State) → IsAt k.code from s → GoesTo k.code to s

pub Lies-jump : {k : Scene} {from to : ℕ} (n : ℕ) → Lies k (only (item.Jump n)) from to → Jumps k from (k.label n)
Lies-jump {k} {from} {to} n lies = record {
  jumps = λ s is_at.
      subst (λ (f : ℕ → ℕ). GoesTo k.code (f n) s) acts.label_is
      (acts.acts s (subst (λ (at : ℕ). IsAt k.code at s) (sym acts.from_is) is_at));
}
  where
    acts : ActsFrom k (item.Jump n) from to
    acts = Lies-only (item.Jump n) lies

jumps_at : {c : Code} {from taken passed start on off : ℕ} {r : Reg} → from ≡ start → taken ≡ on → passed ≡ off →
    JumpsOnZero c from taken passed r → JumpsOnZero c start on off r
jumps_at {c} {from} {taken} {passed} {start} {on} {off} {r} first second third jumps =
    subst (λ (x : ℕ). JumpsOnZero c x on off r) first
    (subst (λ (x : ℕ). JumpsOnZero c from x off r) second (subst (λ (x : ℕ). JumpsOnZero c from taken x r) third jumps))

pub Lies-zero : {k : Scene} {from to : ℕ} (r : Reg) (n : ℕ) → Lies k (only (item.JumpIfZero r n)) from to →
    JumpsOnZero k.code from (k.label n) to r
Lies-zero r n lies =
    let acts = Lies-only (item.JumpIfZero r n) lies in
    jumps_at acts.from_is (ap (λ f. f n) acts.label_is) acts.to_is acts.acts

pub Lies-other : {k : Scene} {from to : ℕ} (r : Reg) (n : ℕ) → Lies k (only (item.JumpIfNotZero r n)) from to →
    JumpsOnZero k.code from to (k.label n) r
Lies-other r n lies =
    let acts = Lies-only (item.JumpIfNotZero r n) lies in
    jumps_at acts.from_is acts.to_is (ap (λ f. f n) acts.label_is) acts.acts

-- ---- a jump

pub GoesTo-inside : {c : Code} {to : ℕ} {s : State} → GoesTo c to s → c.Inside s
GoesTo-inside {c} {to} {s} goes = goes.led.inside 0 (omega (arith, goes.least)) s (Steps-none s)

general_is : (s : State) (r : Reg) → r.0 < 31 → general s r ≡ s.register r.0
general_is s r small = rw (lt-ltb r.0 31 small) refl

-- by the number in a register that is 0, or is not
pub on_zero_jump : {c : Code} {from taken passed : ℕ} {r : Reg} → JumpsOnZero c from taken passed r → r.0 < 31 → (s : State) →
    IsAt c from s → s.register r.0 ≡ 0 → GoesTo c taken s
on_zero_jump {r = r} jumps small s is_at is = jumps.on_zero s is_at (general_is s r small ∙ is)

pub on_other_jump : {c : Code} {from taken passed : ℕ} {r : Reg} → JumpsOnZero c from taken passed r → r.0 < 31 → (s : State) →
    IsAt c from s → s.register r.0 ≢ 0 → GoesTo c passed s
on_other_jump {r = r} jumps small s is_at other = jumps.on_other s is_at (λ is. other (sym (general_is s r small) ∙ is))

-- wherever it leads, a step is made there
pub jump_inside : {c : Code} {from taken passed : ℕ} {r : Reg} → JumpsOnZero c from taken passed r → r.0 < 31 → (s : State) →
    IsAt c from s → c.Inside s
jump_inside {c} {from} {taken} {passed} {r} jumps small s is_at = by_number (s.register r.0) refl
  where
    by_number : (n : ℕ) → s.register r.0 ≡ n → c.Inside s
    by_number zero is = GoesTo-inside (on_zero_jump jumps small s is_at is)
    by_number (suc n) is = GoesTo-inside (on_other_jump jumps small s is_at (λ none. omega (arith, is, none)))

-- the truth of a number
pub true_number : (n : ℕ) → not (nat_eq n 0) ≡ true → n ≢ 0
true_number zero is same = grind (arith, nat_tests)
true_number (suc n) is same = omega (arith, same)

pub false_number : (n : ℕ) → not (nat_eq n 0) ≡ false → n ≡ 0
false_number zero is = refl
false_number (suc n) is = grind (arith, nat_tests)

pub Goes-jump : {A : Type 0} {k : Scene} {first : ℕ} {reg : Reg} {alone : Bool} {result : Result A} {s : State} {to leaves : ℕ}
    {a : Account}
    {owes spare from middle : ℕ} {m : Run A} {now : MeaningState} {t : State} (left : ℕ) (goes : GoesTo k.code middle t) →
    On k first reg alone s from a owes spare now t → owes ≤ 1 → 2 + left ≤ spare →
    (On k first reg alone s middle (later goes.steps a) 0 left now (at_pc middle t) →
    Goes k first reg alone result s to leaves (later goes.steps a) m now (at_pc middle t)) →
    Goes k first reg alone result s to leaves a m now t
Goes-jump left goes on pays fits more =
    Goes-walks goes.steps left (record {
      led = goes.led;
      pc = refl;
      same = record {
        injected = record {
          sp = refl;
          base = refl;
          byte = refl;
          tag = refl;
          regions = refl;
          guard = refl;
          choices = refl;
          drawn = refl;
        };
        outside = refl;
      };
    }) (λ is r other. refl) on (omega (arith, pays, goes.least)) (omega (arith, goes.most, fits)) more

-- ---- more than one part

pub le_left : (a b : ℕ) → a ≤ max a b
le_left a b = grind (arith, nat_tests)

pub le_right : (a b : ℕ) → b ≤ max a b
le_right a b = grind (arith, nat_tests)
