-- The temps of the innermost frame keep what is given them (this project's own).
use Rattle.std.specs.Prelude.{◌≡◌, ℕ, ◌+◌, ◌*◌, ◌%◌, ◌^◌, ◌<◌, ◌≤◌, true, [], ◌∷◌, Some, refl}
use Rattle.std.proofs.Common.{arith, ap, sym, subst, ◌∙◌}
use Rattle.std.proofs.lemmas.Bool.{lt-ltb}
use Rattle.mt_base.specs.Memory.{load, store, bytes_of}
use Rattle.mt_base.specs.Laws.Memory.{length-bytes_of, store_bytes_below, store_bytes_above, load-store_same}
use Rattle.a64_code.specs.declared.instr.Instr.TheVariants.{Ldr, Str}
use Rattle.a64_code.specs.declared.instr.Reg.{Reg}
use Rattle.a64_code.specs.Effect.{effect}
use Rattle.a64_code.specs.State.{State, general}
use Rattle.a64_code.specs.Stepped.{Leads}
use Rattle.a64_laws.specs.Forms.{StoreWhole, Whole, stack_pointer, puts_bytes}
use Rattle.a64_laws.specs.Laws.Effects.InRange.{IsInRange}
use Rattle.a64_laws.specs.Laws.Effects.Open.{IsOpen}
use Rattle.a64_laws.specs.Laws.Loads.{load_at_sp}
use Rattle.a64_laws.specs.Laws.Stores.{store_at_sp}
use Rattle.block_meaning.specs.Locals.{latest}
use Rattle.block_meaning.specs.Running.{Call, Context, State as MeaningState}
use Rattle.code_relation.specs.Calls.{stack_end, lowest, frame_of}
use Rattle.code_relation.specs.Injects.{Injects}
use Rattle.code_relation.specs.Items.{HasInstr}
use Rattle.code_relation.specs.Relates.{Relates}
use Rattle.code_relation.specs.Sites.{Given, units_of}
use Rattle.code_relation.specs.Laws.Framed.{ChangesWithin}
use Rattle.code_relation.specs.Laws.TempBytes.{IsInnermost, innermost, KeepsTemps, Injects-temps}
use Rattle.code_relation.specs.Laws.WholeFrames.{open_whole, lowest_whole}
use Rattle.code_relation.specs.Laws.Writing.{SameButBytes}
use Rattle.code_runs.specs.Laws.Ranges.{IsInRange-Steps}
use Rattle.code_runs.specs.Within.{StepsWithin}
use Rattle.gen_base.specs.Waiting.{keep, fetch}
use Rattle.gen_laws.specs.Computes.{Computes, all}
use Rattle.gen_laws.specs.Laws.Computing.{Computes-put, Computes-is}
use Rattle.code_follows.specs.Scene.{Scene, IsScene, given_in, frame_in}
use Rattle.code_follows.specs.Waits.{HasTemp, KeptIn, IsTemp, WaitingLaws}
use Rattle.code_follows.specs.Laws.Lying.{HasInstrs}
use Rattle.code_follows.specs.Laws.Stack.{stack_open}
use Rattle.code_follows.specs.Laws.Walking.{step_within}

-- ---- where a temp lies

-- an address of eight bytes on the stack, which a load or a store at SP reaches
record Reached (t at : ℕ) (s : State) : Type 0 where
  at_is : at ≡ s.sp + (3 + t) * 8
  below : at < 2 ^ 56
  aligned : at % 8 ≡ 0
  memory : IsOpen s at 8

module _ {k : Scene} (scene : IsScene k) {now : MeaningState} {s : State} (relates : Relates (given_in k) k.here now s) where
  frame_same : (c : Call) → c.function ≡ k.function → (frame_of (units_of (given_in k)) c.function).temps ≡ (frame_in k).temps
  frame_same c is = ap (λ f. (frame_of (units_of (given_in k)) f).temps) is

  reached : (t : ℕ) (c : Call) → latest k.here.open_calls ≡ Some c → c.function ≡ k.function → IsTemp k t →
      Reached t (lowest c + (24 + 8 * t)) s
  reached t c is function_is temp =
      let injects = relates.injects in
      let inner : IsInnermost (given_in k) k.here.open_calls c = innermost injects scene.file.meant.in_order c is in
      let small : (given_in k).program.stack ≤ stack_end = omega (arith, injects.loaded.stack_size.most) in
      let whole : lowest c % 16 ≡ 0 =
      lowest_whole c k.here.open_calls is (open_whole (units_of (given_in k)) k.here.open_calls injects.frames.in_order)
      (omega (arith, inner.place_is, inner.fit, small)) in
      let temps : (frame_of (units_of (given_in k)) c.function).temps ≡ (frame_in k).temps = frame_same c function_is in
      let ends : lowest c + (24 + 8 * t) + 8 ≤ stack_end =
      omega (arith, inner.fit, inner.held, small, temp.within, temps) in
      record {
        at_is = omega (arith, injects.frames.sp, inner.place_is, inner.fit, small);
        below = omega (arith, ends);
        aligned = omega (arith, whole);
        memory = stack_open injects (lowest c + (24 + 8 * t)) 8 (omega (arith, inner.fit, small)) ends;
      }

-- ---- it is kept

general_low : (s : State) (r : Reg) → r.0 < 31 → general s r ≡ s.register r.0
general_low s r low = rw (lt-ltb r.0 31 low) refl

keep-near : (t : ℕ) (r : Reg) → t ≤ 4092 → keep t r ≡ Str true (3 + t) stack_pointer r ∷ []
keep-near t r near = rw (lt-ltb (3 + t) 4096 (let e : 3 + t < 4096 = omega (arith, near) in e)) refl

fetch-near : (t : ℕ) (r : Reg) → t ≤ 4092 → fetch t r ≡ Ldr true (3 + t) stack_pointer r ∷ []
fetch-near t r near = rw (lt-ltb (3 + t) 4096 (let e : 3 + t < 4096 = omega (arith, near) in e)) refl

-- eight bytes are stored
stores_within : (s : State) (at value : ℕ) → ChangesWithin at (at + 8) s (puts_bytes (store 8 s.byte at value) s)
unfolding puts_bytes
stores_within s at value = record {
  below = λ a less. store_bytes_below s.byte at (bytes_of 8 value) a less;
  above = λ a more. store_bytes_above s.byte at (bytes_of 8 value) a (omega (arith, more, length-bytes_of 8 value));
}

stores_bytes : (s : State) (byte : ℕ → ℕ) → SameButBytes s (puts_bytes byte s)
unfolding puts_bytes
stores_bytes s byte = record {
  sp = refl;
  base = refl;
  tag = refl;
  regions = refl;
  guard = refl;
  choices = refl;
  drawn = refl;
}

low_next : (pc from to : ℕ) → pc ≡ from → from < 2 ^ 56 → to ≡ from + 4 → (pc + 4) % 2 ^ 64 ≡ to
low_next pc from to at low is = omega (arith, at, low, is)

relates_on : {g : Given} {here : Context} {now : MeaningState} {s : State} (byte : ℕ → ℕ) → Relates g here now s →
    Injects g here now (puts_bytes byte s) → Relates g here now (puts_bytes byte s)
unfolding puts_bytes
relates_on byte relates injects = record {
  injects = injects;
  outside = record {
    output = relates.outside.output;
    input = relates.outside.input;
    bytes = relates.outside.bytes;
    takes = relates.outside.takes;
    puts = relates.outside.puts;
  };
}

-- what is in the eight bytes then
stored_there : (s : State) (r : Reg) (at : ℕ) → r.0 ≤ 15 → IsInRange s →
    load 8 (puts_bytes (store 8 s.byte at (general s r)) s).byte at ≡ s.register r.0
unfolding puts_bytes
stored_there s r at low range =
    let fits : s.register r.0 < 2 ^ 64 = range.registers r.0 in
    load-store_same 8 s.byte at (general s r)
    ∙ ap (λ (n : ℕ). n % 256 ^ 8) (general_low s r (omega (arith, low)))
    ∙ omega (arith, fits)

registers_on : (s : State) (byte : ℕ → ℕ) → (puts_bytes byte s).register ≡ s.register
unfolding puts_bytes
registers_on s byte = refl

pc_on : (s : State) (byte : ℕ → ℕ) → (puts_bytes byte s).pc ≡ (s.pc + 4) % 2 ^ 64
unfolding puts_bytes
pc_on s byte = refl

module _ {k : Scene} (scene : IsScene k) {now : MeaningState} {s : State} (relates : Relates (given_in k) k.here now s) where
  kept_in : (t : ℕ) (r : Reg) (from to : ℕ) → IsTemp k t → r.0 ≤ 15 → HasInstrs k (Str true (3 + t) stack_pointer r ∷ []) from to →
      s.pc ≡ from → KeptIn k t r to now s
  kept_in t r from to temp low has at =
      by_call scene.inside.0 scene.inside.1 scene.inside.2 (reached scene relates t scene.inside.0 scene.inside.1
      scene.inside.2 temp)
    where
      by_call : (c : Call) → latest k.here.open_calls ≡ Some c → c.function ≡ k.function → Reached t (lowest c + (24 + 8 * t)) s →
          KeptIn k t r to now s
      by_call c is function_is reach =
          let place : ℕ = lowest c + (24 + 8 * t) in
          let u : State = puts_bytes (store 8 s.byte place (general s r)) s in
          let instr : HasInstr k.code from (Str true (3 + t) stack_pointer r) =
          subst (λ (a : ℕ). HasInstr k.code a (Str true (3 + t) stack_pointer r)) (omega arith)
          (has.each 0 (Str true (3 + t) stack_pointer r) refl) in
          let leads : effect (Str true (3 + t) stack_pointer r) s ≡ Leads u =
          store_at_sp StoreWhole (3 + t) place r s reach.at_is reach.below reach.aligned reach.memory in
          let led : StepsWithin k.code.Inside 1 s u =
          step_within k (Str true (3 + t) stack_pointer r) instr
          (record { pc = at; as_loaded = relates.injects.as_loaded; in_range = relates.injects.in_range }) leads in
          let range : IsInRange u = IsInRange-Steps 1 led.steps relates.injects.in_range in
          let temps : (frame_of (units_of (given_in k)) c.function).temps ≡ (frame_in k).temps = frame_same scene relates c function_is in
          let kept : KeepsTemps relates.injects scene.file.meant.in_order t u =
          Injects-temps relates.injects scene.file.meant.in_order c t place (place + 8) u
          (record { latest_is = is; from_on = omega arith; before = omega (arith, temp.within, temps) })
          (stores_within s place (general s r)) (stores_bytes s (store 8 s.byte place (general s r))) range in
          record {
            steps = 1;
            some = omega arith;
            few = omega arith;
            state = u;
            led = led;
            comes = record {
              relates = relates_on (store 8 s.byte place (general s r)) relates kept.injects_on;
              pc = pc_on s (store 8 s.byte place (general s r)) ∙ low_next s.pc from to at instr.below has.to_is;
              kept = kept.kept;
            };
            registers = registers_on s (store 8 s.byte place (general s r));
            has = record {
              is = λ d latest_is.
                  let one : latest k.here.open_calls ≡ Some c = is in
                  let same : c ≡ d = cc in
                  subst (λ (x : Call). load 8 u.byte (lowest x + (24 + 8 * t)) ≡ s.register r.0) same
                  (stored_there s r place low relates.injects.in_range);
            };
          }

  fetched : (t value : ℕ) (into : Reg) (from to : ℕ) → IsTemp k t → into.0 < 28 →
      HasInstrs k (Ldr true (3 + t) stack_pointer into ∷ []) from to → s.pc ≡ from → HasTemp k t value s →
      Computes (Ldr true (3 + t) stack_pointer into ∷ []) into value all s
  fetched t value into from to temp low has at holds =
      by_call scene.inside.0 scene.inside.1 (reached scene relates t scene.inside.0 scene.inside.1 scene.inside.2 temp)
    where
      by_call : (c : Call) → latest k.here.open_calls ≡ Some c → Reached t (lowest c + (24 + 8 * t)) s →
          Computes (Ldr true (3 + t) stack_pointer into ∷ []) into value all s
      by_call c is reach =
          let instr : HasInstr k.code (from + 4 * 0) (Ldr true (3 + t) stack_pointer into) =
          has.each 0 (Ldr true (3 + t) stack_pointer into) refl in
          Computes-is (holds.is c is)
          (Computes-put (Ldr true (3 + t) stack_pointer into) into (load 8 s.byte (lowest c + (24 + 8 * t))) s
          (load_at_sp Whole (3 + t) (lowest c + (24 + 8 * t)) into s (omega (arith, low)) reach.at_is reach.below reach.aligned
          reach.memory.readable)
          (omega (arith, at, instr.below)))

-- So temps are as they should be wherever an expression stands.
pub waiting_laws : {k : Scene} → IsScene k → WaitingLaws k
waiting_laws {k} scene = record {
  keeps = λ t r from to now s temp low has relates at.
      kept_in scene relates t r from to temp low (subst (λ is. HasInstrs k is from to) (keep-near t r temp.near) has) at;
  fetches = λ t value into from to now s temp low has relates at holds.
      subst (λ is. Computes is into value all s) (sym (fetch-near t into temp.near))
      (fetched scene relates t value into from to temp low (subst (λ is. HasInstrs k is from to) (fetch-near t into temp.near) has) at
      holds);
}
