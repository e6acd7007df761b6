-- A node with two operands: the first value waits while the second is evaluated, a unit of work is spent, and a list of instructions does
-- the rest (this project's own).
use Rattle.std.specs.Prelude.{◌≡◌, ℕ, ◌+◌, ◌^◌, ◌<◌, ◌≤◌, Bool, false, List, [], ◌∷◌, max, min, None, refl}
use Rattle.std.proofs.Common.{arith, sym, subst}
use Rattle.a64_code.specs.declared.instr.Instr.{Instr}
use Rattle.a64_code.specs.declared.instr.Reg.{Reg}
use Rattle.a64_code.specs.State.{State}
use Rattle.frame_layout.specs.Needs.{waiting}
use Rattle.block_meaning.specs.Running.{Run, Stops, IsUndefined, Undefined, gives, and_then, unit_then, State as MeaningState}
use Rattle.code_relation.specs.Laws.Outcomes.{spent}
use Rattle.code_relation.specs.Relates.{Relates}
use Rattle.code_runs.specs.Bounded.{Account}
use Rattle.gen_base.specs.Code.{plain, in_turn}
use Rattle.gen_base.specs.Registers.{left, scratch}
use Rattle.gen_expr.specs.Coded.{Emits, Coded}
use Rattle.gen_expr.specs.Nodes.{first_waits}
use Rattle.gen_laws.specs.Computes.{Computes, all_but}
use Rattle.code_follows.specs.Later.{Lasts}
use Rattle.code_follows.specs.Parts.{Result, On, Goes, Part}
use Rattle.code_follows.specs.Scene.{Scene, IsScene, IsFree, given_in}
use Rattle.code_follows.specs.Waits.{WaitingLaws}
use Rattle.code_follows.specs.Laws.Coming.{pays}
use Rattle.code_follows.specs.Laws.Computing.{Suits-other}
use Rattle.code_follows.specs.Laws.Going.{Goes-same, Goes-unit, Goes-computes, Goes-done, Part-by}
use Rattle.code_follows.specs.Laws.Lying.{HasInstrs, Lies-plain}
use Rattle.code_follows.specs.Laws.Operand.{Lies-two, begins, IsAt-on, Goes-undefined, Listed, IsKept}
use Rattle.code_follows.specs.Laws.Waiting.{IsLasting, Goes-waits-kept}

-- What a list of instructions does for a run, where it may change X17: it computes the number of what the run gives, or the run is
-- undefined, but for no access.
pub data DoesBeside {C : Type 0} (result : Result C) (instrs : List Instr) (reg : Reg) (run : Run C) (now : MeaningState) (s : State)
    : Type 0 where
  computes_it : (w : C) (n : ℕ) → run now ≡ gives w now → Computes instrs reg n (all_but scratch) s → result w now n →
      DoesBeside result instrs reg run now s
  is_undefined : (u : Undefined) → run now ≡ Stops (IsUndefined u) now → u.access ≡ None → DoesBeside result instrs reg run now s

-- the first operand is in X16 and the second in the register, states are related, and there is room for the list
pub record BothOperands {A B : Type 0} (k : Scene) (first_result : Result A) (second_result : Result B) (reg : Reg) (v : A) (w : B)
    (now : MeaningState) (s : State) : Type 0 where
  pub low : 9 ≤ reg.0
  pub high : reg.0 ≤ 15
  pub first : first_result v now (s.register left.0)
  pub second : second_result w now (s.register reg.0)
  pub relates : Relates (given_in k) k.here now s
  pub room : s.pc < 2 ^ 56

-- such a list, for each two values
pub record DoesBoth {A B C : Type 0} (k : Scene) (first_result : Result A) (second_result : Result B) (result : Result C)
    (instrs : Reg → List Instr) (f : A → B → Run C) : Type 0 where
  pub list : (reg : Reg) → Listed (instrs reg)
  pub does : (reg : Reg) (v : A) (w : B) (now : MeaningState) (s : State) → BothOperands k first_result second_result reg v w now s →
      DoesBeside result (instrs reg) reg (f v w) now s

Goes-beside : {C : Type 0} {k : Scene} {first : ℕ} {reg : Reg} {result : Result C} {s : State} {from to leaves : ℕ} {a : Account}
    {owes spare : ℕ} {run : Run C} {now : MeaningState} {t : State} {instrs : List Instr} → HasInstrs k instrs from to → Listed instrs →
    reg.0 < 17 → On k first reg false s from a owes spare now t → owes ≤ 1 → 32 + leaves ≤ spare →
    DoesBeside result instrs reg run now t → Goes k first reg false result s to leaves a run now t
Goes-beside {reg = reg} {result} {leaves = leaves} {now = now} {instrs = instrs} has list low on pays enough
    (computes_it w n is puts holds) =
    Goes-same is
    (Goes-computes leaves has list.quiet puts (Suits-other reg reg (all_but scratch) (omega (arith, low)) (λ same. omega (arith, same))) on
    (omega (arith, pays, list.few.some)) (omega (arith, list.few.few, enough))
    (λ done. Goes-done w done (omega arith) (subst (λ (m : ℕ). result w now m) (sym puts.holds) holds)))
Goes-beside {instrs = instrs} has list low on pays enough (is_undefined u is none) =
    let first = begins instrs list.few.some has in
    Goes-undefined u is none (first.has.inside _ (IsAt-on on)) on pays (omega (arith, enough))

-- temps for a first operand, and for a second one while the first waits
free_first : {k : Scene} {first : ℕ} {reg : Reg} (needs more : ℕ) → IsFree k (waiting needs more) first reg → IsFree k needs first reg
free_first needs more free = record {
  low = free.low;
  high = free.high;
  temps = omega (arith, free.temps, is);
  near = omega (arith, free.near, is);
}
  where
    is : waiting needs more ≡ max needs (min (more + 1) 18446744073709551615)
    is = refl

free_second : {k : Scene} {first : ℕ} {reg : Reg} (needs more : ℕ) → IsFree k (waiting needs more) first reg →
    IsFree k (more + 1) first reg
free_second needs more free = record {
  low = free.low;
  high = free.high;
  temps = omega (arith, free.temps, free.near, is);
  near = omega (arith, free.near, is);
}
  where
    is : waiting needs more ≡ max needs (min (more + 1) 18446744073709551615)
    is = refl

pub operands_part : {A B C : Type 0} {k : Scene} {needs more : ℕ} {alone : Bool} {first_result : Result A} {second_result : Result B}
    {result : Result C} {m : Run A} {n : Run B} {f : A → B → Run C} {instrs : Reg → List Instr} (leaves : ℕ) (e : Emits) (b : Coded) →
    leaves ≤ 60 → IsScene k → WaitingLaws k → Part k e needs 4 alone first_result m → Part k b.value more 4 b.alone second_result n →
    Lasts n → IsLasting k first_result → IsKept first_result → IsKept second_result →
    DoesBoth k first_result second_result result instrs f →
    Part k (λ t r. in_turn (first_waits left e b t r ∷ plain (instrs r) ∷ [])) (waiting needs more) leaves false result
    (and_then m (λ v. and_then n (λ w. unit_then (f v w))))
operands_part {k = k} {needs} {more} {first_result = first_result} {second_result} {f = f} {instrs} leaves e b fits scene waits pa pb
    lasts lasting first_kept second_kept both =
    Part-by (λ first reg from to free lies a now s on.
    let pieces = Lies-two (first_waits left e b first reg) (plain (instrs reg)) lies in
    let has : HasInstrs k (instrs reg) pieces.middle to = Lies-plain (instrs reg) pieces.back in
    Goes-waits-kept scene waits left e b (omega arith) (omega arith) lasts lasting pa pb (free_first needs more free)
    (free_second needs more free) pieces.front on
    (λ v w behind u c x came first_is into_is second_is.
    Goes-unit came (λ owing.
    Goes-beside has (both.list reg) (omega (arith, free.high)) owing (omega arith) (omega (arith, fits, pays scene))
    (both.does reg v w (spent behind) u (record {
      low = free.low;
      high = free.high;
      first = subst (λ (number : ℕ). first_result v (spent behind) number) (sym into_is) (first_kept v behind x first_is);
      second = second_kept w behind (u.register reg.0) second_is;
      relates = owing.came.comes.relates;
      room = omega (arith, came.came.comes.pc, (begins (instrs reg) (both.list reg).few.some has).has.below);
    })))))
