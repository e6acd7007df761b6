-- The words of a function without tagged slots follow it: its entry, its body and its exit, or the guard that they meet (this project's
-- own).
use Rattle.std.specs.Prelude.{◌≡◌, ℕ, zero, suc, ◌+◌, ◌-◌, ◌*◌, ◌<◌, ◌≤◌, Bool, true, false, leb, List, [], ◌∷◌, length, map}
use Rattle.std.specs.Prelude.{Some, refl, if◌then◌else◌}
use Rattle.std.proofs.Common.{arith, ap, sym, subst, ◌∙◌}
use Rattle.std.proofs.lemmas.Bool.{leb-true, leb-false}
use Rattle.std.proofs.lemmas.Bool.Decides.{nat_tests}
use Rattle.mt_base.specs.Memory.{Span, is_in_span}
use Rattle.a64_code.specs.State.{State}
use Rattle.a64_code.specs.Step.{carried_out}
use Rattle.a64_laws.specs.Frames.{frame_pointer, link_register, HasPair}
use Rattle.c_type_base.specs.declared.ty.Ty.{Ty}
use Rattle.c_type_base.specs.declared.typed.TFunction.{TFunction}
use Rattle.block_meaning.specs.declared.value.Value.{Value}
use Rattle.block_meaning.specs.Linkage.{function_named, type_of_local}
use Rattle.block_meaning.specs.Meaning.{calls_at, frame_bytes, open_bytes, inside, call_of, body_of, new_call}
use Rattle.block_meaning.specs.ProgramsInOrder.{HasFrame}
use Rattle.block_meaning.specs.Running.{Function, Call, Program, Context, Run, Result, Goes, Stops, Deep, and_then, with_some}
use Rattle.block_meaning.specs.Running.{one_of, State as MeaningState}
use Rattle.block_meaning.specs.Statements.{statements_at}
use Rattle.code_runs.specs.Bounded.{Account, later, Bounded}
use Rattle.code_runs.specs.Laws.Bounded.{opened, after, finishes, unsaid, changes, IsWider-same}
use Rattle.code_runs.specs.Laws.Ranges.{IsInRange-Steps}
use Rattle.code_follows.specs.Laws.Stack.{stack_open}
use Rattle.code_relation.specs.Calls.{stack_end, lowest}
use Rattle.code_relation.specs.Follows.{Code, setting, Does, HasArguments, Returns, call_room, function_words, types_of, WordsFollow}
use Rattle.code_relation.specs.Follows.{call_of as tree_of}
use Rattle.code_relation.specs.Injects.{Injects}
use Rattle.code_relation.specs.Items.{IsAt}
use Rattle.code_relation.specs.Numbers.{Holds}
use Rattle.code_relation.specs.Outcomes.{outcome_of}
use Rattle.code_relation.specs.Relates.{Relates}
use Rattle.code_relation.specs.Sites.{units_of}
use Rattle.code_relation.specs.Laws.Called.{with_call}
use Rattle.code_relation.specs.Laws.Framed.{StartFrom, StartFrom-frame, keeps_above}
use Rattle.code_relation.specs.Laws.Kept.{Injects-with, Holds-with}
use Rattle.code_relation.specs.Laws.Told.{product_split}
use Rattle.stmt_follows.specs.Laws.Locals.Slots.{open_whole}
use Rattle.unit_follows.specs.Functions.{IsPlacedFunction, parameters}
use Rattle.unit_follows.specs.Placing.{Placing}
use Rattle.unit_follows.specs.Laws.Bodies.{order, fr}
use Rattle.unit_follows.specs.Laws.FrameFacts.{frame_some, frame_whole, Holds-called}
use Rattle.unit_follows.specs.Laws.Entering.{IsNewCall, Injects-entered}
use Rattle.unit_follows.specs.Laws.EntrySteps.{HasSpace, AtPair, at_pair, EntryDone, entry_done}
use Rattle.unit_follows.specs.Laws.ExitSteps.{pair_guarded}
use Rattle.unit_follows.specs.Laws.Finishing.{InCall, Bounded-told, since_made}
use Rattle.unit_follows.specs.Laws.InCalls.{Back}
use Rattle.unit_follows.specs.Laws.Ended.{moment}
use Rattle.unit_follows.specs.Laws.Running.{body_does}
use Rattle.unit_follows.specs.Laws.Spares.Meaning.{calls_spares}
use Rattle.unit_follows.specs.Laws.Spares.Runs.{IsKept, OnGoes, any, Spares}

module _ {c : Code} {p : Placing} {f : Function} {tf : TFunction} {base : ℕ} (fn : IsPlacedFunction c p f tf base) where
  -- ---- what the call means

  abbrev called : ℕ → Context → List Value → Run Value
  called bound here vs = call_of (statements_at (calls_at bound) bound) here f vs tf (fr fn).bytes

  call_is : (bound : ℕ) (here : Context) (vs : List Value) → here.program ≡ c.given.program →
      calls_at (suc bound) here f vs ≡ called bound here vs
  call_is bound here vs program =
      ap (λ o. with_some o (λ t. with_some (frame_bytes here.program f) (λ bytes.
      call_of (statements_at (calls_at bound) bound) here f vs t bytes))) (ap (λ (q : Program). function_named q.units f) program
      ∙ fn.here.is)
      ∙ ap (λ o. with_some o (λ bytes. call_of (statements_at (calls_at bound) bound) here f vs tf bytes))
      (ap (λ q. frame_bytes q f) program ∙ has.is ∙ ap Some (fn.here.file.meant.frames f has.bytes has.is))
    where
      has : HasFrame c.given.program f
      has = (order fn).frames f tf fn.here.is

  module _ (bound : ℕ) (here : Context) (now : MeaningState) (vs : List Value) (s : State) (relates : Relates c.given here now s)
      (pc : s.pc ≡ base) where
    abbrev injects : Injects c.given here now s
    injects = relates.injects

    abbrev call : Call
    call = record { number = length now.calls; function = f; place = open_bytes here.open_calls + (fr fn).bytes }

    is_at : IsAt c base s
    is_at = record { pc = pc; as_loaded = injects.as_loaded; in_range = injects.in_range }

    space : HasSpace (fr fn) s
    space = record {
      safe = fn.here.safe;
      within = omega (arith, injects.frames.sp, injects.frames.fit, injects.loaded.stack_size.most, fn.here.most);
      small = omega (arith, fn.here.most);
      some = omega (arith, frame_some fn);
      below = omega (arith, injects.frames.sp);
      sp_whole = omega (
        arith,
        injects.frames.sp,
        open_whole (units_of c.given) now.calls here.open_calls injects.stands.calls
            injects.frames.in_order,
      );
      whole = frame_whole fn;
    }

    -- ---- the stack is too small

    deep : (a : Account) → c.given.program.stack < call.place → a.least ≤ now.work + a.so_far + 1 →
        a.so_far + 3 + c.per * now.work ≤ a.most →
        Bounded (setting c) a (λ v. call_room vs) s (Back c here now s) (outcome_of (Stops Deep now))
    deep a passes least most =
        after at.comes.led (finishes (record { least = omega (arith, least); most = omega (arith, most, at.low.few) }) (record {
          inside = at.has.inside at.low.to at.comes.is_at;
          output = ap (λ o. o.output) at.low.same.outside ∙ relates.outside.output;
          over = record {
            ends = ap (λ i. carried_out i at.low.to) (at.has.is at.low.to at.comes.is_at)
                ∙ pair_guarded link_register frame_pointer at.low.to (omega (arith, at.low.sp, space.sp_whole, space.whole))
                (omega (arith, at.low.sp, space.below)) guarded;
            input = ap (λ o. o.answers) at.low.same.outside ∙ relates.outside.input;
          };
        }))
      where
        at : AtPair c base (fr fn) s
        at = at_pair (fr fn) fn.here.words.enters is_at space

        in_guard : (guard : Span) (sp : ℕ) → guard.start ≤ sp → sp < guard.start + guard.bytes → is_in_span guard sp ≡ true
        in_guard guard sp from below = grind (arith, nat_tests)

        guarded : is_in_span at.low.to.guard at.low.to.sp ≡ true
        guarded = ap (λ guard. is_in_span guard at.low.to.sp) (at.low.same.guard ∙ injects.as_loaded.guard)
            ∙ in_guard c.given.loaded.guard at.low.to.sp
            (omega (arith, injects.loaded.guard_end, at.low.sp, injects.frames.sp, injects.frames.fit, fn.here.most))
            (omega (arith, injects.loaded.guard_end, injects.loaded.guard_bytes_is, at.low.sp, injects.frames.sp, passes))

    -- ---- it is large enough

    new : call.place ≤ c.given.program.stack → IsNewCall c.given here now call
    new fits = record {
      number_is = refl;
      place_is = refl;
      fits = fits;
      there = record { function = tf; is = fn.here.is };
      safe = fn.here.safe;
    }

    shallow : (a : Account) → call.place ≤ c.given.program.stack → HasArguments c.given now s 0 (map type_of_local (parameters tf)) vs →
        now.work ≤ c.reach → a.least ≤ now.work + a.so_far → a.so_far + 95 + c.per * now.work ≤ a.most →
        Bounded (setting c) a (λ v. call_room vs) s (Back c here now s)
        (outcome_of (body_of (statements_at (calls_at bound) bound) tf vs (inside here call) (with_call call now)))
    shallow a fits arguments within least most =
        after e.led (body_does fn bound here now call vs s injects (new fits) refl (with_call call now) e.to (later e.steps a)
        (record {
          injects = Injects-entered call (order fn) injects (new fits) e.entered (IsInRange-Steps e.steps e.led.steps injects.in_range);
          outside = record {
            output = ap (λ o. o.output) e.outside ∙ relates.outside.output;
            input = ap (λ o. o.answers) e.outside ∙ relates.outside.input;
            bytes = relates.outside.bytes;
            takes = ap (λ o. o.next_failure) e.outside ∙ relates.outside.takes;
            puts = ap (λ o. o.put_failure) e.outside ∙ relates.outside.puts;
          };
        })
        e.pc (arguments_on 0 (map type_of_local (parameters tf)) vs arguments) in_call within (omega (arith, least))
        (omega (arith, most, e.most)))
      where
        sp_is : s.sp + open_bytes here.open_calls ≡ stack_end
        sp_is = injects.frames.sp

        e : EntryDone c base (fr fn) s
        e = entry_done (fr fn) fn.here.words.enters is_at space
            (stack_open injects (s.sp - (fr fn).bytes) 16 (omega (arith, sp_is, fits, space.within))
            (omega (arith, sp_is, space.within, space.some)))

        lowest_is : e.to.sp ≡ lowest call
        lowest_is = omega (arith, e.entered.sp, sp_is)

        holds_on : (v : Value) (n m : ℕ) → n ≡ m → Holds c.given now v m → Holds c.given (with_call call now) v n
        holds_on v n m same holds = Holds-called c.given call now injects.stands v n (subst (λ x. Holds c.given now v x) (sym same) holds)

        arguments_on : (k : ℕ) (ts : List Ty) (vs : List Value) → HasArguments c.given now s k ts vs →
            HasArguments c.given (with_call call now) e.to k ts vs
        arguments_on k [] [] has = tt
        arguments_on k [] (v ∷ vs) has = absurd has
        arguments_on k (t ∷ ts) [] has = absurd has
        arguments_on k (t ∷ ts) (v ∷ vs) has = (
          has.0,
          holds_on v (e.to.register k) (s.register k) (ap (λ register. register k) e.register) has.1,
          arguments_on (suc k) ts vs has.2,
        )

        starts : StartFrom s.sp here.open_calls
        starts = subst (λ to. StartFrom to here.open_calls) (omega (arith, sp_is, fits, injects.loaded.stack_size.most))
            (StartFrom-frame (units_of c.given) call here.open_calls (refl, injects.frames.in_order)
            (omega (arith, fits, injects.loaded.stack_size.most)))

        in_call : InCall c.given here call s e.to
        in_call = record {
          pair = subst (λ x. HasPair e.to.byte x (s.register 29) (s.register 30)) lowest_is e.pair;
          kept = keeps_above (units_of c.given) s e.to here.open_calls e.entered.byte starts;
        }

    by_depth : (a : Account) (b : Bool) → leb call.place here.program.stack ≡ b → here.program ≡ c.given.program →
        HasArguments c.given now s 0 (map type_of_local (parameters tf)) vs → now.work ≤ c.reach →
        a.least ≤ now.work + a.so_far → a.so_far + 95 + c.per * now.work ≤ a.most →
        Bounded (setting c) a (λ v. call_room vs) s (Back c here now s)
        (outcome_of (if b then and_then (new_call here f call.place) (body_of (statements_at (calls_at bound) bound) tf vs) now
        else Stops Deep now))
    by_depth a true is program arguments within least most =
        shallow a (fits is (ap (λ (q : Program). q.stack) program)) arguments within least most
      where
        fits : leb call.place here.program.stack ≡ true → here.program.stack ≡ c.given.program.stack → call.place ≤ c.given.program.stack
        fits is same = omega (arith, leb-true call.place here.program.stack is, same)
    by_depth a false is program arguments within least most =
        deep a (passes is (ap (λ (q : Program). q.stack) program)) (omega (arith, least)) (omega (arith, most))
      where
        passes : leb call.place here.program.stack ≡ false → here.program.stack ≡ c.given.program.stack → c.given.program.stack < call.place
        passes is same = omega (arith, leb-false call.place here.program.stack is, same)

    -- where it comes back, the run has kept what it has to
    comes_back : (m : Run Value) → ((work : ℕ) → Spares (moment now) m) → (left : ℕ) → now.work ≡ suc left →
        (v : Value) (last : MeaningState) (u : State) → Back c here (record now { work = left }) s v last u →
        m (record now { work = left }) ≡ Goes v last → Returns c.given (s.register 30) here s v last u
    comes_back m spares left some v last u back is = back (kept (m (record now { work = left })) is
        ((spares left).spares (record now { work = left }) (since_made (Injects-with (record {
          work = left;
          input = now.input;
          output = now.output;
        }) injects).stands)))
      where
        kept : (r : Result Value) → r ≡ Goes v last → OnGoes r (λ v last. IsKept (moment now) (record now { work = left }) last × any v) →
            IsKept (moment now) (record now { work = left }) last
        kept (Goes w other) is holds =
            let same : other ≡ last = cc in subst (λ x. IsKept (moment now) (record now { work = left }) x) same holds.0
        kept (Stops why other) is holds = absurd (cc)

-- what they have to do with a unit less, where the first step was made
abbrev Goal : Code → ℕ → List Value → Context → MeaningState → State → Run Value → Type 0
Goal c left vs here now s m = Bounded (setting c) (later 1 (opened (setting c) now.work)) (λ v. call_room vs) s
    (λ v last u. Returns c.given (s.register 30) here s v last u) (outcome_of (m (record now { work = left })))

pub WordsFollow-function : {c : Code} {p : Placing} {f : Function} {tf : TFunction} {base : ℕ} → IsPlacedFunction c p f tf base →
    WordsFollow (record c { reach = suc c.reach }) f base
WordsFollow-function {c} {p} {f} {tf} {base} fn = record {
  follows = λ bound vs. record {
    does = λ here now s within relates begins. by_work bound vs here now s within relates begins now.work refl;
  };
}
  where
    types : types_of (function_named (units_of c.given) f) ≡ map type_of_local (parameters tf)
    types = ap types_of fn.here.is

    by_bound : (bound left : ℕ) (vs : List Value) (here : Context) (now : MeaningState) (s : State) → left ≤ c.reach →
        Relates c.given here now s → s.pc ≡ base → HasArguments c.given now s 0 (types_of (function_named (units_of c.given) f)) vs →
        now.work ≡ suc left → Goal c left vs here now s (calls_at bound here f vs)
    by_bound zero left vs here now s within relates pc arguments some = unsaid
    by_bound (suc bound) left vs here now s within relates pc arguments some =
        subst (λ m. Goal c left vs here now s m) (sym is)
        (changes (record { least = omega arith; most = omega arith }) (λ v. IsWider-same (call_room vs))
        (λ v last u told. comes_back fn bound here now vs s relates pc (called fn bound here vs)
        (λ work. subst (λ m. Spares (moment now) m) is (calls_spares (suc bound) here f vs)) left some v last u told.0 told.1)
        (Bounded-told c (called fn bound here vs spent)
        (by_depth fn bound here spent vs s spent_relates pc (later 1 (opened (setting c) now.work)) (leb place here.program.stack) refl
        program (arguments_spent 0 (map type_of_local (parameters tf)) vs
        (subst (λ ts. HasArguments c.given now s 0 ts vs) types arguments)) within (omega (arith, some))
        (omega (arith, fn.here.file.pays, ap (λ w. c.per * w) some, product_split c.per left 1)))))
      where
        spent : MeaningState
        spent = record now { work = left }

        program : here.program ≡ c.given.program
        program = relates.injects.stands.program_is

        is : calls_at (suc bound) here f vs ≡ called fn bound here vs
        is = call_is fn bound here vs program

        place : ℕ
        place = open_bytes here.open_calls + (fr fn).bytes

        spent_relates : Relates c.given here spent s
        spent_relates = record {
          injects = Injects-with (record { work = left; input = now.input; output = now.output }) relates.injects;
          outside = record {
            output = relates.outside.output;
            input = relates.outside.input;
            bytes = relates.outside.bytes;
            takes = relates.outside.takes;
            puts = relates.outside.puts;
          };
        }

        arguments_spent : (k : ℕ) (ts : List Ty) (vs : List Value) → HasArguments c.given now s k ts vs →
            HasArguments c.given spent s k ts vs
        arguments_spent k [] [] has = tt
        arguments_spent k [] (v ∷ vs) has = absurd has
        arguments_spent k (t ∷ ts) [] has = absurd has
        arguments_spent k (t ∷ ts) (v ∷ vs) has = (
          has.0,
          Holds-with c.given now v (s.register k) (record { work = left; input = now.input; output = now.output }) has.1,
          arguments_spent (suc k) ts vs has.2,
        )

    by_work : (bound : ℕ) (vs : List Value) (here : Context) (now : MeaningState) (s : State) → now.work ≤ suc c.reach →
        Relates c.given here now s → (function_words c.given (tree_of c.given bound f vs) base).Begins here now s → (work : ℕ) →
        now.work ≡ work →
        Does (record c { reach = suc c.reach }) (function_words c.given (tree_of c.given bound f vs) base) here now s
    by_work bound vs here now s within relates begins zero none = absurd (let b = begins.0 in omega (arith, none, b))
    by_work bound vs here now s within relates begins (suc left) some = record {
      extra = 0;
      bounded = subst (λ (work : ℕ). Bounded (setting c) (later 1 (opened (setting c) now.work)) (λ v. call_room vs) s
          (λ v last u. Returns c.given (s.register 30) here s v last u) (outcome_of (one_of work (calls_at bound here f vs) now)))
          (sym some) (by_bound bound left vs here now s (omega (arith, within, some)) relates begins.1 begins.2 some);
    }
