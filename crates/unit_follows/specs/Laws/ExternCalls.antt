-- Items that call what another file defines, where their words stand (this project's own). Where no file has a function of the name, or
-- one of another type, the call is no step of the code: the meaning stops there too.
use Rattle.std.specs.Prelude.{◌≡◌, ℕ, zero, suc, ◌+◌, ◌*◌, ◌/◌, ◌<◌, ◌≤◌, Bool, true, false, List, length}
use Rattle.std.specs.Prelude.{Option, Some, None, refl, if◌then◌else◌, ◌&&◌}
use Rattle.std.proofs.Common.{arith, ap, sym, subst, ◌∙◌}
use Rattle.c_type_base.specs.declared.expr.Callee.TheVariants as callee
use Rattle.c_type_base.specs.declared.typed.ExternInfo.{ExternInfo}
use Rattle.c_type_base.specs.declared.typed.TFunction.{TFunction}
use Rattle.c_type_base.specs.declared.typed.Typed.{Typed}
use Rattle.a64_code.specs.declared.instr.Instr.{Instr}
use Rattle.a64_code.specs.State.{State}
use Rattle.a64_code.specs.Step.{carried_out, step}
use Rattle.a64_code.specs.Stepped.{Leads}
use Rattle.a64_laws.specs.Branches.{Linked, jump_instr, goes_to, IsInReach}
use Rattle.a64_laws.specs.Forms.{puts_link}
use Rattle.a64_laws.specs.Laws.Branches.{jump-taken}
use Rattle.mte_machine.specs.Run.{Steps}
use Rattle.mte_machine.specs.Laws.Steps.{Steps-one}
use Rattle.block_meaning.specs.declared.value.Value.{Value}
use Rattle.block_meaning.specs.Expressions.{Site, call_effect, if_agrees}
use Rattle.block_meaning.specs.Linkage.{Definition, AnObject, AFunction, extern_at, definition_of, called_as, agrees_with}
use Rattle.block_meaning.specs.Linkage.{function_named, structs_of, parameter_types, same_across, all_same_across}
use Rattle.block_meaning.specs.Meaning.{calls_at}
use Rattle.block_meaning.specs.Running.{Function, Program, Context, Run, stuck, unit_then, with_some, State as MeaningState}
use Rattle.code_runs.specs.Bounded.{later, Bounded}
use Rattle.code_runs.specs.Laws.Bounded.{IsWider-same, opened, after, changes, finishes, unsaid}
use Rattle.code_runs.specs.Laws.Within.{StepsWithin-one}
use Rattle.code_relation.specs.Follows.{Code, setting, HasArguments, Returns, call_room, types_of}
use Rattle.code_relation.specs.Follows.{WordsFollow}
use Rattle.code_relation.specs.Items.{IsAt, HasInstr, Calls, types_of_extern}
use Rattle.code_relation.specs.Outcomes.{outcome_of}
use Rattle.code_relation.specs.Relates.{Relates}
use Rattle.code_relation.specs.Sites.{units_of}
use Rattle.code_relation.specs.Stands.{IsThere}
use Rattle.code_relation.specs.Laws.Calling.{linked_pc, arguments_stay, linked_relates, returns_behind}
use Rattle.code_relation.specs.Laws.Follows.{does_unit, without_work}
use Rattle.code_relation.specs.Laws.Outcomes.{one_less, spent}
use Rattle.code_relation.specs.Laws.Told.{product_split}
use Rattle.gen_unit.specs.declared.parts.CodeTarget.TheVariants as target
use Rattle.gen_unit.specs.Words.{way, call_words}
use Rattle.unit_follows.specs.Placing.{Placing, callee_at, defined_at}
use Rattle.unit_follows.specs.Laws.Across.{arguments-over}
use Rattle.unit_follows.specs.Laws.CallItems.{AllFollow, Links, links_by}
use Rattle.unit_follows.specs.Laws.PlacedWords.{PlacedWords}
use Rattle.unit_follows.specs.Laws.Standing.{HasInstr-first}

-- ---- the branch to any function

-- what a call item has to do from a state, for a run that begins with its unit
abbrev DoesCall : Code → ℕ → List Value → Context → MeaningState → State → Run Value → Type 0
DoesCall c to vs here now s m = Bounded (setting c) (later 0 (opened (setting c) now.work)) (λ v. call_room vs) s
    (Returns c.given to here s) (outcome_of (unit_then m now))

module _ (c : Code) (bound from : ℕ) (vs : List Value) (here : Context) (now : MeaningState) (s : State) (within : now.work ≤ c.reach)
    (relates : Relates c.given here now s) (pc : s.pc ≡ from) where
  abbrev Does' : Run Value → Type 0
  Does' m = DoesCall c (from + 4) vs here now s m

  spent_one : (left : ℕ) → now.work ≡ suc left → (spent now).work ≡ left
  spent_one left some = ap one_less some

  -- where no work is left
  idle_call : (m : Run Value) → now.work ≡ 0 → Does' m
  idle_call m none = without_work c m now none (record { least = omega arith; most = omega arith }) relates.outside.output

  linked_call : (g : Function) (to : ℕ) → Links c from to → WordsFollow c g to →
      length (types_of (function_named (units_of c.given) g)) ≤ 30 →
      HasArguments c.given now s 0 (types_of (function_named (units_of c.given) g)) vs → 0 < now.work → Does' (calls_at bound here g vs)
  linked_call g to links words few arguments some =
      let is_at : IsAt c from s = record { pc = pc; as_loaded = relates.injects.as_loaded; in_range = relates.injects.in_range } in
      let leads : step s ≡ Leads (puts_link to s) =
      ap (λ instr. carried_out instr s) (links.has.is s is_at)
      ∙ jump-taken Linked links.way s (omega (arith, relates.injects.in_range.pc))
      (subst (λ p. IsInReach 26 p links.way) (sym pc) links.reach) refl
      ∙ ap (λ a. Leads (puts_link (goes_to a links.way) s)) pc ∙ ap (λ a. Leads (puts_link a s)) links.goes in
      let steps : Steps 1 s (puts_link to s) = Steps-one s (puts_link to s) leads in
      let does = (words.follows bound vs).does here now (puts_link to s) within (linked_relates to steps relates) (
        some,
        linked_pc to s,
        arguments_stay c.given now to s 0 (types_of (function_named (units_of c.given) g)) vs (omega (arith, few)) arguments,
      ) in
      after (StepsWithin-one steps (links.has.inside s is_at))
      (changes (record { least = omega arith; most = omega arith }) (λ v. IsWider-same (call_room vs))
      (λ v next u. returns_behind to from pc (omega (arith, links.has.below))) does.bounded)

  by_work : (work : ℕ) → now.work ≡ work → (m : Run Value) → (0 < now.work → Does' m) → Does' m
  by_work zero none m more = idle_call m none
  by_work (suc left) some m more = more (omega (arith, some))

  -- the meaning stops at the call
  stuck_call : Does' stuck
  stuck_call = does_unit c stuck now (record { least = omega arith; most = omega arith }) relates.outside.output (λ left some. unsaid)

  undefined_call : (i : Instr) → HasInstr c from i → 1 ≤ c.per → (at : Site) → Does' (if_agrees at vs None)
  undefined_call i has pays at =
      does_unit c (if_agrees at vs None) now (record { least = omega arith; most = omega arith }) relates.outside.output
      (λ left some. finishes (record {
        least = omega (arith, some, spent_one left some);
        most = omega (arith, pays, ap (λ w. c.per * w) some, product_split c.per left 1, ap (λ w. c.per * w) (spent_one left some));
      }) (record {
        inside = has.inside s (record { pc = pc; as_loaded = relates.injects.as_loaded; in_range = relates.injects.in_range });
        output = relates.outside.output;
        over = tt;
      }))

  -- ---- what another file defines

  module _ (p : Placing) (all : AllFollow c p) (unit : ℕ) (at : Site) (at_calls : at.calls ≡ calls_at bound) (at_here : at.here ≡ here)
      (e : ExternInfo) (arguments : HasArguments c.given now s 0 e.params vs) where
    abbrev units : List Typed
    units = units_of c.given

    -- a function of the type by which it is declared
    agreed_call : (g : Function) (links : IsThere units g → Links c from (p.function g)) (o : Option TFunction) →
        function_named units g ≡ o → agrees_with (structs_of units unit) (structs_of units g.unit) e o ≡ true →
        Does' (at.calls at.here g vs)
    agreed_call g links None is agrees = absurd (cc)
    agreed_call g links (Some tf) is agrees =
        let there : IsThere units g = record { function = tf; is = is } in
        let these = structs_of units unit in
        let those = structs_of units g.unit in
        subst Does' (ap (λ calls. calls here g vs) (sym at_calls) ∙ ap (λ h. at.calls h g vs) (sym at_here))
        (by_work now.work refl (calls_at bound here g vs)
        (linked_call g (p.function g) (links there) (all.follow g there) (all.few g)
        (subst (λ ts. HasArguments c.given now s 0 ts vs) (sym (ap types_of is))
        (arguments-over c.given now s these those 0 e.params (parameter_types tf) vs
        (second (same_across these those e.result tf.result) (all_same_across these those e.params
        (parameter_types tf)) agrees) arguments))))
      where
        second : (a b : Bool) → (a && b) ≡ true → b ≡ true
        second true b is = is
        second false b is = cc

    module _ (i : Instr) (has : HasInstr c from i) (pays : 1 ≤ c.per)
        (links : (g : Function) → definition_of units (Some e) ≡ Some (AFunction g) → IsThere units g → Links c from (p.function g)) where
      by_agreement : (g : Function) (b : Bool) → definition_of units (Some e) ≡ Some (AFunction g) →
          agrees_with (structs_of units unit) (structs_of units g.unit) e (function_named units g) ≡ b →
          Does' (if_agrees at vs (if b then Some g else None))
      by_agreement g false is agrees = undefined_call i has pays at
      by_agreement g true is agrees = agreed_call g (links g is) (function_named units g) refl agrees

      defined_call : (o : Option Definition) → definition_of units (Some e) ≡ o →
          Does' (with_some o (λ d. if_agrees at vs (called_as units unit e d)))
      defined_call None is = stuck_call
      defined_call (Some (AnObject v k)) is = undefined_call i has pays at
      defined_call (Some (AFunction g)) is =
          by_agreement g (agrees_with (structs_of units unit) (structs_of units g.unit) e (function_named units g)) is refl

-- ---- the item

abbrev extern_run : Site → List Value → Program → ℕ → Option ExternInfo → Run Value
extern_run at vs program unit o =
    with_some o (λ e. with_some (definition_of program.units (Some e)) (λ d. if_agrees at vs (called_as program.units unit e d)))

extern_call : (c : Code) (p : Placing) (bound from unit n : ℕ) (vs : List Value) (here : Context) (now : MeaningState) (s : State) →
    now.work ≤ c.reach → Relates c.given here now s → s.pc ≡ from → PlacedWords c p unit from (call_words (target.Extern n)) →
    AllFollow c p → 1 ≤ c.per → (at : Site) → at.calls ≡ calls_at bound → at.here ≡ here → (o : Option ExternInfo) →
    extern_at (units_of c.given) unit n ≡ o → HasArguments c.given now s 0 (types_of_extern o) vs →
    DoesCall c (from + 4) vs here now s (extern_run at vs c.given.program unit o)
extern_call c p bound from unit n vs here now s within relates pc placed all pays at at_calls at_here None is arguments =
    stuck_call c bound from vs here now s within relates pc
extern_call c p bound from unit n vs here now s within relates pc placed all pays at at_calls at_here (Some e) is arguments =
    defined_call c bound from vs here now s within relates pc p all unit at at_calls at_here e arguments
    (jump_instr Linked (way (from / 4) (callee_at c.given p unit (target.Extern n) / 4))) has pays
    (λ g defines there. links_by c p from (p.function g) g
    (subst (λ to. HasInstr c from (jump_instr Linked (way (from / 4) (to / 4)))) (goes g defines) has) placed.whole refl placed.load_below
    (placed.functions g there))
    (definition_of (units_of c.given) (Some e)) refl
  where
    has : HasInstr c from (jump_instr Linked (way (from / 4) (callee_at c.given p unit (target.Extern n) / 4)))
    has = HasInstr-first placed.stands

    goes : (g : Function) → definition_of (units_of c.given) (Some e) ≡ Some (AFunction g) →
        callee_at c.given p unit (target.Extern n) ≡ p.function g
    goes g defines = ap (λ o. defined_at p (definition_of (units_of c.given) o)) is ∙ ap (defined_at p) defines

pub Calls-extern : {c : Code} {p : Placing} (f : Function) (n from : ℕ) → PlacedWords c p f.unit from (call_words (target.Extern n)) →
    AllFollow c p → 1 ≤ c.per → Calls c f from (from + 4) (callee.Extern n)
Calls-extern {c} {p} f n from placed all pays = record {
  follows = λ bound around vs of_calls. record {
    does = λ here now s within relates begins. record {
      extra = 0;
      bounded = subst (λ m. DoesCall c (from + 4) vs here now s m)
          (sym (same_run bound around vs here relates.injects.stands.program_is begins.0.3))
          (extern_call c p bound from f.unit n vs here now s within relates begins.1 placed all pays (record around { here = here })
          of_calls refl (extern_at (units_of c.given) f.unit n) refl begins.2);
    };
  };
}
  where
    same_run : (bound : ℕ) (around : Site) (vs : List Value) (here : Context) → here.program ≡ c.given.program → here.unit ≡ f.unit →
        call_effect (record around { here = here }) (callee.Extern n) vs
        ≡ extern_run (record around { here = here }) vs c.given.program f.unit (extern_at (units_of c.given) f.unit n)
    same_run bound around vs here program unit =
        ap (λ (q : Program). extern_run (record around { here = here }) vs q here.unit (extern_at q.units here.unit n)) program
        ∙ ap (λ u. extern_run (record around { here = here }) vs c.given.program u (extern_at (units_of c.given) u n)) unit
