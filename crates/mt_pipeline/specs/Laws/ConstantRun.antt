-- The run of the image of a constant.
use Rattle.std.proofs.Common.{◌≡◌, ◌<◌, ◌≤◌, ◌⊎◌, ℕ, zero, suc, ◌+◌, ◌*◌, ◌/◌, ◌%◌, ◌^◌}
use Rattle.std.proofs.Common.{false, List, [], ◌∷◌, length, get_or, refl, ap, sym, ◌∙◌, inl, inr, arith}
use Rattle.std.proofs.lemmas.Bool.{cases_lt}
use Rattle.a64_code.specs.declared.instr.Instr.{Instr}
use Rattle.a64_code.specs.declared.end.MachineEnd.{MachineEnd}
use Rattle.a64_code.specs.declared.end.MachineEnd.TheVariants.{Exited, OutOfSteps}
use Rattle.a64_code.specs.Effect.{effect}
use Rattle.a64_code.specs.Instruction.{instruction_of}
use Rattle.a64_code.specs.Outside.{Outside}
use Rattle.a64_code.specs.Results.{with_halfword}
use Rattle.a64_code.specs.Row.{Row}
use Rattle.a64_code.specs.State.{State, general, of_width, with_general, advanced}
use Rattle.a64_code.specs.Step.{carried_out, step}
use Rattle.a64_code.specs.Stepped.{Ends}
use Rattle.a64_code.specs.Laws.Decoding.{Row-below}
use Rattle.a64_code.specs.Laws.Words.{Row-instruction}
use Rattle.elf_image.specs.Constant.{constant_code, constant_image, movz_word, movk_word, svc_word}
use Rattle.elf_image.specs.Laws.ConstantLaws.{constant_place, constant_valid}
use Rattle.mte_machine.specs.Run.{Running, Stopped, run, end_of, output_after, answers_after, Steps}
use Rattle.mte_machine.specs.Laws.Steps.{Steps-one, Steps-add, run-ends}
use Rattle.tag_startup.specs.Loaded.{loaded, loaded_byte}
use Rattle.tag_startup.specs.Parts.{loaded_regions}
use Rattle.tag_startup.specs.Starts.{Starts}
use Rattle.tag_startup.specs.Tags.{loaded_tag}
use Rattle.tag_startup.specs.Laws.CodeAlone.{code_alone_starts}
use Rattle.tag_startup.specs.Laws.CodeInMemory.{code_fetched}
use Rattle.tag_startup.specs.Laws.MachineLaws.{machine_of, one_end}
use Rattle.mt_compile.specs.Laws.CodeRows.{status_register, movz_row, movk_row, svc_row, constant_code-short, constant_code-long}
use Rattle.mt_pipeline.specs.Agrees.{ExitsAlways}

-- ---- a step

-- the state has the memory of the constant's image, and PC is at the k-th word of the code
record IsAt (n stack : ℕ) (tag : ℕ → ℕ) (k : ℕ) (s : State) : Type 0 where
  regions : s.regions ≡ loaded_regions (constant_image n) stack
  byte : s.byte ≡ loaded_byte (constant_image n) stack tag
  pc : s.pc ≡ 0x10001000 + 4 * k

-- a step from there carries out the instruction of that word
step-at : (n stack : ℕ) (starts : Starts (constant_image n)) (tag : ℕ → ℕ) (k : ℕ) (s : State) (word : ℕ) (instr : Instr) →
    IsAt n stack tag k s → k < length (constant_code n) → get_or (constant_code n) k 0 ≡ word → Row word instr → step s ≡ effect instr s
step-at n stack starts tag k s word instr at within is row =
    ap (λ found. carried_out found s)
    (code_fetched (constant_image n) starts.intervals stack tag k s (constant_valid n) starts.objects within
    (rw is (Row-below word instr row)) at.regions at.byte
    (omega (arith, at.pc, constant_place n))
    ∙ ap instruction_of is ∙ Row-instruction word instr row)

-- the state behind each move of a half
abbrev low_moved : ℕ → State → State
low_moved n s = advanced (with_general status_register (of_width false (n % 65536 * 2 ^ (16 * 0))) s)

abbrev high_moved : ℕ → State → State
high_moved n s =
    advanced (with_general status_register (of_width false (with_halfword (16 * 1) (n / 65536)
    (of_width false (general s status_register)))) s)

abbrev at_start : (n : ℕ) → Starts (constant_image n) → List ℕ → ℕ → Outside → State
at_start n starts choices stack w = loaded (constant_image n) starts.intervals choices stack w

-- ---- runs

-- How a run of so many steps ends over any outside, which it leaves alone: with this status, or sooner out of steps.
pub record EndsWith (status steps : ℕ) (start : Outside → State) : Type 0 where
  pub end : MachineEnd
  pub ends : (w : Outside) → end_of (run steps (start w)) ≡ end
  pub late : 3 ≤ steps → end ≡ Exited status
  pub soon : (end ≡ Exited status) ⊎ (end ≡ OutOfSteps)
  pub puts_nothing : (w : Outside) → output_after (run steps (start w)) ≡ w.output
  pub takes_nothing : (w : Outside) → answers_after (run steps (start w)) ≡ w.answers

-- the run has exited over this outside, or can go on
record HasExited (status steps : ℕ) (start : State) (w : Outside) : Type 0 where
  state : State
  stops : run steps start ≡ Stopped (Exited status) state
  outside : state.outside ≡ w

record GoesOn (steps : ℕ) (start : State) (w : Outside) : Type 0 where
  state : State
  leads : run steps start ≡ Running state
  outside : state.outside ≡ w

late_end : (status steps : ℕ) (start : Outside → State) → ((w : Outside) → HasExited status steps (start w) w) →
    EndsWith status steps start
late_end status steps start exits = record {
  end = Exited status;
  ends = λ w. ap end_of (exits w).stops;
  late = λ enough. refl;
  soon = inl refl;
  puts_nothing = λ w. ap output_after (exits w).stops ∙ ap (λ o. o.output) (exits w).outside;
  takes_nothing = λ w. ap answers_after (exits w).stops ∙ ap (λ o. o.answers) (exits w).outside;
}

soon_end : (status steps : ℕ) (start : Outside → State) → steps < 3 → ((w : Outside) → GoesOn steps (start w) w) →
    EndsWith status steps start
soon_end status steps start few goes = record {
  end = OutOfSteps;
  ends = λ w. ap end_of (goes w).leads;
  late = λ enough. absurd (omega arith);
  soon = inr refl;
  puts_nothing = λ w. ap output_after (goes w).leads ∙ ap (λ o. o.output) (goes w).outside;
  takes_nothing = λ w. ap answers_after (goes w).leads ∙ ap (λ o. o.answers) (goes w).outside;
}

-- the first step moves the lower half
first_step : (n : ℕ) (starts : Starts (constant_image n)) (choices : List ℕ) (stack : ℕ) (w : Outside) → 0 < length (constant_code n) →
    get_or (constant_code n) 0 0 ≡ movz_word (n % 65536) →
    Steps 1 (at_start n starts choices stack w) (low_moved n (at_start n starts choices stack w))
first_step n starts choices stack w within is =
    Steps-one _ _
    (step-at n stack starts (loaded_tag starts.intervals choices) 0 (at_start n starts choices stack w) (movz_word (n % 65536)) _
    (record { regions = refl; byte = refl; pc = refl }) within is (movz_row (n % 65536) (omega arith)))

-- the lower half alone, where the constant has no other
short_run : (n : ℕ) (starts : Starts (constant_image n)) (choices : List ℕ) (stack steps : ℕ) → n < 65536 →
    EndsWith (n % 256) steps (at_start n starts choices stack)
short_run n starts choices stack zero short =
    soon_end _ zero _ (omega arith) (λ w. record { state = at_start n starts choices stack w; leads = refl; outside = refl })
short_run n starts choices stack (suc zero) short =
    let code : constant_code n ≡ movz_word (n % 65536) ∷ svc_word ∷ [] = constant_code-short n (omega (arith, short)) in
    soon_end _ 1 _ (omega arith) (λ w. record {
      state = low_moved n (at_start n starts choices stack w);
      leads = (first_step n starts choices stack w (rw code (omega arith)) (rw code refl)).runs;
      outside = refl;
    })
short_run n starts choices stack (suc (suc more)) short =
    let code : constant_code n ≡ movz_word (n % 65536) ∷ svc_word ∷ [] = constant_code-short n (omega (arith, short)) in
    late_end _ (suc (suc more)) _ (λ w.
    let s : State = low_moved n (at_start n starts choices stack w) in
    let first : Steps 1 (at_start n starts choices stack w) s =
    first_step n starts choices stack w (rw code (omega arith)) (rw code refl) in
    let last : step s ≡ Ends (Exited (n % 65536 * 2 ^ (16 * 0) % 2 ^ 32 % 2 ^ 8)) =
    step-at n stack starts (loaded_tag starts.intervals choices) 1 s svc_word _ (record { regions = refl; byte = refl; pc = refl })
    (rw code (omega arith)) (rw code refl) svc_row in
    let value : n % 65536 * 2 ^ (16 * 0) % 2 ^ 32 % 2 ^ 8 ≡ n % 256 = omega arith in
    record { state = s; stops = run-ends (suc (suc more)) first last (omega arith) ∙ ap (λ v. Stopped (Exited v) s) value; outside = refl })

-- the second step moves the upper half
second_step : (n : ℕ) (starts : Starts (constant_image n)) (choices : List ℕ) (stack : ℕ) (w : Outside) → n ≤ 2147483647 →
    constant_code n ≡ movz_word (n % 65536) ∷ movk_word (n / 65536) ∷ svc_word ∷ [] →
    Steps 2 (at_start n starts choices stack w) (high_moved n (low_moved n (at_start n starts choices stack w)))
second_step n starts choices stack w within code =
    let s : State = low_moved n (at_start n starts choices stack w) in
    let first : Steps 1 (at_start n starts choices stack w) s =
    first_step n starts choices stack w (rw code (omega arith)) (rw code refl) in
    let second : Steps 1 s (high_moved n s) =
    Steps-one _ _ (step-at n stack starts (loaded_tag starts.intervals choices) 1 s (movk_word (n / 65536)) _
    (record { regions = refl; byte = refl; pc = refl })
    (rw code (omega arith)) (rw code refl) (movk_row (n / 65536) (omega (arith, within)))) in
    Steps-add first second

-- both halves
long_run : (n : ℕ) (starts : Starts (constant_image n)) (choices : List ℕ) (stack steps : ℕ) → 65535 < n → n ≤ 2147483647 →
    EndsWith (n % 256) steps (at_start n starts choices stack)
long_run n starts choices stack zero long within =
    soon_end _ zero _ (omega arith) (λ w. record { state = at_start n starts choices stack w; leads = refl; outside = refl })
long_run n starts choices stack (suc zero) long within =
    let code : constant_code n ≡ movz_word (n % 65536) ∷ movk_word (n / 65536) ∷ svc_word ∷ [] = constant_code-long n long in
    soon_end _ 1 _ (omega arith) (λ w. record {
      state = low_moved n (at_start n starts choices stack w);
      leads = (first_step n starts choices stack w (rw code (omega arith)) (rw code refl)).runs;
      outside = refl;
    })
long_run n starts choices stack (suc (suc zero)) long within =
    soon_end _ 2 _ (omega arith) (λ w. record {
      state = high_moved n (low_moved n (at_start n starts choices stack w));
      leads = (second_step n starts choices stack w within (constant_code-long n long)).runs;
      outside = refl;
    })
long_run n starts choices stack (suc (suc (suc more))) long within =
    let code : constant_code n ≡ movz_word (n % 65536) ∷ movk_word (n / 65536) ∷ svc_word ∷ [] = constant_code-long n long in
    late_end _ (suc (suc (suc more))) _ (λ w.
    let s : State = high_moved n (low_moved n (at_start n starts choices stack w)) in
    let both : Steps 2 (at_start n starts choices stack w) s = second_step n starts choices stack w within code in
    let last : step s ≡ Ends (Exited (with_halfword (16 * 1) (n / 65536) (n % 65536 * 2 ^ (16 * 0) % 2 ^ 32 % 2 ^ 32) % 2 ^ 32 % 2 ^ 8)) =
    step-at n stack starts (loaded_tag starts.intervals choices) 2 s svc_word _ (record { regions = refl; byte = refl; pc = refl })
    (rw code (omega arith)) (rw code refl) svc_row in
    let value : with_halfword (16 * 1) (n / 65536) (n % 65536 * 2 ^ (16 * 0) % 2 ^ 32 % 2 ^ 32) % 2 ^ 32 % 2 ^ 8 ≡ n % 256 = omega arith in
    record {
      state = s;
      stops = run-ends (suc (suc (suc more))) both last (omega arith)
          ∙ ap (λ v. Stopped (Exited v) s) value;
      outside = refl;
    })

-- Its run exits with the constant modulo 256, or is out of steps before, whatever the outside is.
pub constant_ends : (n steps : ℕ) (starts : Starts (constant_image n)) (choices : List ℕ) (stack : ℕ) → n ≤ 2147483647 →
    EndsWith (n % 256) steps (loaded (constant_image n) starts.intervals choices stack)
constant_ends n steps starts choices stack within = elim (cases_lt 65535 n) [
  | inl long ↦ long_run n starts choices stack steps long within
  | inr short ↦ short_run n starts choices stack steps (omega (arith, short))
]

either : (end : MachineEnd) (status : ℕ) → {other : MachineEnd} → other ≡ end → (end ≡ Exited status) ⊎ (end ≡ OutOfSteps) →
    (other ≡ Exited status) ⊎ (other ≡ OutOfSteps)
either end status same (inl exits) = inl (same ∙ exits)
either end status same (inr over) = inr (same ∙ over)

-- ---- the image

-- the image of a constant starts
pub constant_starts : (n : ℕ) → Starts (constant_image n)
constant_starts n =
    code_alone_starts (constant_image n) (record { relocs = refl; descriptors = refl; rodata = refl; filled = refl; zero_bytes = refl })

-- each of its runs exits with the constant modulo 256
pub constant_exits : (n : ℕ) → n ≤ 2147483647 → ExitsAlways (constant_image n) (n % 256)
constant_exits n within = record {
  starts = λ choices stack steps outside. (_, machine_of (constant_image n) choices stack steps outside (constant_starts n));
  exits = λ choices stack steps outside e m.
      let run = constant_ends n steps m.starts choices stack within in
      record {
        late = λ enough. m.ends ∙ run.ends outside ∙ run.late enough;
        soon = either run.end (n % 256) (m.ends ∙ run.ends outside) run.soon;
        puts_nothing = m.puts ∙ run.puts_nothing outside;
        takes_nothing = m.leaves ∙ run.takes_nothing outside;
      };
  one_end = λ choices stack steps outside other end last m o.
      let run = constant_ends n steps (constant_starts n) choices stack within in
      one_end (constant_image n) choices stack steps outside end (constant_starts n) m ∙ run.ends outside
      ∙ sym (run.ends other) ∙ sym (one_end (constant_image n) choices stack steps other last (constant_starts n) o);
}
