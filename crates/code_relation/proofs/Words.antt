-- An example: the words of a function that does nothing follow it. They are a return alone, so the frame that counts for it has no bytes.
use Rattle.std.specs.Prelude.{◌≡◌, ℕ, zero, suc, ◌+◌, ◌*◌, ◌<◌, ◌≤◌, false, true, leb, List, [], ◌∷◌, ◌++◌, length, map, take, slice_get}
use Rattle.std.specs.Prelude.{Some, refl, if◌then◌else◌}
use Rattle.std.proofs.Common.{arith, ap, sym, subst, ◌∙◌}
use Rattle.std.proofs.lemmas.Bool.{ne_eqb, le-leb}
use Rattle.c_type_base.specs.declared.statement.TItem.TheOpen.{TStmt-F}
use Rattle.c_type_base.specs.declared.statement.TStmt.{out-TStmt}
use Rattle.c_type_base.specs.declared.ty.Ty.{Ty, out-Ty}
use Rattle.c_type_base.specs.declared.ty.Ty.TheOpen.{Ty-F}
use Rattle.c_type_base.specs.declared.typed.TFunction.{TFunction}
use Rattle.a64_code.specs.declared.instr.Instr.TheVariants.{Ret}
use Rattle.a64_code.specs.State.{State}
use Rattle.a64_code.specs.Step.{carried_out, step}
use Rattle.a64_code.specs.Stepped.{Leads}
use Rattle.a64_laws.specs.Forms.{puts_pc}
use Rattle.a64_laws.specs.Laws.Branches.{returned}
use Rattle.mte_machine.specs.Run.{Steps}
use Rattle.mte_machine.specs.Laws.Steps.{Steps-one}
use Rattle.block_meaning.specs.declared.kind.Kind.{Kind}
use Rattle.block_meaning.specs.declared.kind.Kind.TheVariants.{NullBlock, Global, Text, Code as OfCode, Local}
use Rattle.block_meaning.specs.declared.value.Value.{Value}
use Rattle.block_meaning.specs.declared.value.Value.TheVariants.{NoValue}
use Rattle.block_meaning.specs.Blocks.{Block, ended}
use Rattle.block_meaning.specs.Linkage.{function_named, type_of_local}
use Rattle.block_meaning.specs.Meaning.{calls_at, frame_bytes, open_bytes, is_of_call, end_call}
use Rattle.block_meaning.specs.Running.{Function, Call, Program, Context, Goes, Run, one_of, unit_then}
use Rattle.block_meaning.specs.Running.{State as MeaningState}
use Rattle.code_runs.specs.Bounded.{later, Bounded}
use Rattle.code_runs.specs.Laws.Bounded.{opened, done, after, unsaid}
use Rattle.code_runs.specs.Laws.Ranges.{IsInRange-Steps}
use Rattle.code_runs.specs.Laws.Within.{StepsWithin-one}
use Rattle.code_relation.specs.Calls.{has_tagged}
use Rattle.code_relation.specs.Follows.{Code, setting, Does, HasArguments, Returns, call_room, function_words, types_of, call_of}
use Rattle.code_relation.specs.Follows.{WordsFollow}
use Rattle.code_relation.specs.Items.{IsAt, HasInstr}
use Rattle.code_relation.specs.Outcomes.{outcome_of}
use Rattle.code_relation.specs.Relates.{Relates}
use Rattle.code_relation.specs.Sites.{Given, units_of}
use Rattle.code_relation.specs.Stands.{IsLocal, Stands}
use Rattle.code_relation.specs.Laws.Called.{with_call, Injects-called}
use Rattle.code_relation.specs.Laws.Keeps.{KeepsAll-bytes}
use Rattle.code_relation.specs.Laws.Kept.{with_rest, SameInjected, Injects-same, Injects-with}
use Rattle.code_relation.specs.Laws.Lists.{get_within}
use Rattle.code_relation.specs.Laws.Told.{product_split}

-- a function without parameters, with an empty body and no value
record IsIdle (p : Program) (f : Function) (function : TFunction) : Type 0 where
  function_is : function_named p.units f ≡ Some function
  frame_is : frame_bytes p f ≡ Some 0
  params_is : function.params ≡ 0
  body_is : out-TStmt function.body ≡ TStmt-F.Block []
  result_is : out-Ty function.result ≡ Ty-F.Void
  untagged : has_tagged p.units f ≡ false

-- ---- what it means

abbrev made : Context → Function → MeaningState → Call
made here f now = record { number = length now.calls; function = f; place = open_bytes here.open_calls + 0 }

abbrev behind : Context → Function → MeaningState → MeaningState
behind here f now = record now { blocks = end_call (length now.calls) now.blocks; calls = now.calls ++ made here f now ∷ [] }

means : {p : Program} {f : Function} {function : TFunction} → IsIdle p f function → (bound : ℕ) (here : Context) (now : MeaningState) →
    here.program ≡ p → open_bytes here.open_calls ≤ p.stack → calls_at (suc bound) here f [] now ≡ Goes NoValue (behind here f now)
means {p} {f} {function} idle bound here now same fits =
    let function_is : function_named here.program.units f ≡ Some function =
    ap (λ q. function_named q.units f) same ∙ idle.function_is in
    let frame_is : frame_bytes here.program f ≡ Some 0 = ap (λ q. frame_bytes q f) same ∙ idle.frame_is in
    let not_deep : leb (open_bytes here.open_calls + 0) here.program.stack ≡ true =
    le-leb (open_bytes here.open_calls + 0) here.program.stack (omega (arith, fits, ap (λ q. q.stack) same)) in
    rw (function_is, frame_is, not_deep, idle.params_is, idle.body_is, idle.result_is) refl

none_ended : (call : ℕ) (bs : List Block) → ((number : ℕ) (b : Block) → slice_get bs number ≡ Some b → is_of_call call b.kind ≡ false) →
    end_call call bs ≡ bs
none_ended call [] none = refl
none_ended call (b ∷ bs) none =
    ap (λ t. (if t then ended b else b) ∷ end_call call bs) (none 0 b refl)
    ∙ ap (λ rest. b ∷ rest) (none_ended call bs (λ number d is. none (suc number) d is))

-- no block is one of a call that is not made yet
of_none : {g : Given} {here : Context} {now : MeaningState} → Stands g here now → (number : ℕ) (b : Block) →
    slice_get now.blocks number ≡ Some b → is_of_call (length now.calls) b.kind ≡ false
of_none {g} {here} {now} stands number b there = by_kind b.kind refl
  where
    by_kind : (kind : Kind) → b.kind ≡ kind → is_of_call (length now.calls) kind ≡ false
    by_kind NullBlock is = refl
    by_kind (Global unit k) is = refl
    by_kind (Text unit k) is = refl
    by_kind (OfCode unit k) is = refl
    by_kind (Local call k) is =
        let l : IsLocal g now b call k = stands.locals number b call k there is in
        ne_eqb call (length now.calls) (λ same. omega (arith, same, get_within now.calls call l.made_by l.call_is))

-- ---- the words

goes_back : (s : State) → SameInjected s (puts_pc (s.register 30) s)
unfolding puts_pc
goes_back s = record { sp = refl; base = refl; byte = refl; tag = refl; regions = refl; guard = refl; choices = refl; drawn = refl }

same_outside : (s : State) → (puts_pc (s.register 30) s).outside ≡ s.outside
unfolding puts_pc
same_outside s = refl

pc_back : (s : State) → (puts_pc (s.register 30) s).pc ≡ s.register 30
unfolding puts_pc
pc_back s = refl

no_arguments : (g : Given) (now : MeaningState) (s : State) (ts : List Ty) (vs : List Value) → ts ≡ [] → HasArguments g now s 0 ts vs →
    [] ≡ vs
no_arguments g now s [] [] none has = refl
no_arguments g now s [] (v ∷ vs) none has = absurd has
no_arguments g now s (t ∷ ts) vs none has = absurd (cc)

words_follow : (c : Code) (f : Function) (function : TFunction) (at : ℕ) → IsIdle c.given.program f function → HasInstr c at Ret →
    10 ≤ c.per → WordsFollow c f at
words_follow c f function at idle has pays = record {
  follows = λ bound vs. record {
    does = λ here now s within relates begins.
        subst (λ vs. Does c (function_words c.given (call_of c.given bound f vs) at) here now s)
        (no_arguments c.given now s (types_of (function_named (units_of c.given) f)) vs no_types begins.2)
        (by_work bound here now s relates begins.1 now.work refl begins.0);
  };
}
  where
    no_types : types_of (function_named (units_of c.given) f) ≡ []
    no_types = ap types_of idle.function_is ∙ ap (λ n. map type_of_local (take n function.locals)) idle.params_is

    -- a unit is spent
    left_with : {A : Type 0} (m : Run A) (now : MeaningState) (left : ℕ) → now.work ≡ suc left →
        unit_then m now ≡ m (record now { work = left })
    left_with m now left some = ap (λ work. one_of work m now) some

    by_bound : (bound : ℕ) (here : Context) (now : MeaningState) (s : State) (left : ℕ) → Relates c.given here now s → s.pc ≡ at →
        now.work ≡ suc left →
        Bounded (setting c) (later 1 (opened (setting c) now.work)) (λ v. call_room []) s
        (λ v last t. Returns c.given (s.register 30) here s v last t) (outcome_of (calls_at bound here f [] (record now { work = left })))
    by_bound zero here now s left relates pc some = unsaid
    by_bound (suc bound) here now s left relates pc some =
        let is_at : IsAt c at s = record { pc = pc; as_loaded = relates.injects.as_loaded; in_range = relates.injects.in_range } in
        let leads : step s ≡ Leads (puts_pc (s.register 30) s) =
        ap (λ instr. carried_out instr s) (has.is s is_at) ∙ returned s in
        let steps : Steps 1 s (puts_pc (s.register 30) s) = Steps-one s (puts_pc (s.register 30) s) leads in
        let stands : Stands c.given here now = relates.injects.stands in
        let last : MeaningState = with_call (made here f now)
        (with_rest (record { work = left; input = now.input; output = now.output }) now) in
        let run : calls_at (suc bound) here f [] (record now { work = left }) ≡ Goes NoValue last =
        means idle bound here (record now { work = left }) stands.program_is relates.injects.frames.fit
        ∙ ap (λ bs. Goes NoValue (record last { blocks = bs })) (none_ended (length now.calls) now.blocks (of_none stands)) in
        subst (λ q. Bounded (setting c) (later 1 (opened (setting c) now.work)) (λ v. call_room []) s
        (λ v last t. Returns c.given (s.register 30) here s v last t) (outcome_of q)) (sym run)
        (after (StepsWithin-one steps (has.inside s is_at))
        (done
        (record { least = omega (arith, some); most = omega (arith, pays, ap (λ w. c.per * w) some, product_split c.per left 1) })
        (record {
          relates = record {
            injects = Injects-same (goes_back s) (IsInRange-Steps 1 steps relates.injects.in_range)
                (Injects-called (made here f now) refl idle.untagged
                (Injects-with (record { work = left; input = now.input; output = now.output }) relates.injects));
            outside = record {
              output = ap (λ o. o.output) (same_outside s) ∙ relates.outside.output;
              input = ap (λ o. o.answers) (same_outside s) ∙ relates.outside.input;
              bytes = relates.outside.bytes;
              takes = ap (λ o. o.next_failure) (same_outside s) ∙ relates.outside.takes;
              puts = ap (λ o. o.put_failure) (same_outside s) ∙ relates.outside.puts;
            };
          };
          pc = pc_back s;
          value = tt;
          kept = KeepsAll-bytes (units_of c.given) s (puts_pc (s.register 30) s) here.open_calls (goes_back s).byte;
        })))

    by_work : (bound : ℕ) (here : Context) (now : MeaningState) (s : State) → Relates c.given here now s → s.pc ≡ at → (work : ℕ) →
        now.work ≡ work → 0 < now.work → Does c (function_words c.given (call_of c.given bound f []) at) here now s
    by_work bound here now s relates pc zero none some = absurd (omega (arith, none, some))
    by_work bound here now s relates pc (suc left) is some = record {
      extra = 0;
      bounded = subst (λ q. Bounded (setting c) (later 1 (opened (setting c) now.work)) (λ v. call_room []) s
          (λ v last t. Returns c.given (s.register 30) here s v last t) (outcome_of q))
          (sym (left_with (calls_at bound here f []) now left is)) (by_bound bound here now s left relates pc is);
    }
