-- A branch with the link into words that follow a function is a call of it (this project's own).
use Rattle.std.specs.Prelude.{◌≡◌, ◌≢◌, ℕ, zero, suc, ◌+◌, ◌^◌, ◌<◌, ◌≤◌, List, [], ◌∷◌, length, refl}
use Rattle.std.proofs.Common.{arith, ap, sym, subst, ◌∙◌}
use Rattle.std.proofs.lemmas.Bool.{ne_eqb}
use Rattle.c_type_base.specs.declared.expr.Callee.TheVariants as callee
use Rattle.c_type_base.specs.declared.ty.Ty.{Ty}
use Rattle.a64_code.specs.State.{State}
use Rattle.a64_code.specs.Step.{carried_out, step}
use Rattle.a64_code.specs.Stepped.{Leads}
use Rattle.a64_laws.specs.Branches.{Way, Linked, jump_instr, goes_to, IsInReach}
use Rattle.a64_laws.specs.Forms.{puts_link}
use Rattle.a64_laws.specs.Laws.Branches.{jump-taken}
use Rattle.mte_machine.specs.Run.{Steps}
use Rattle.mte_machine.specs.Laws.Steps.{Steps-one}
use Rattle.block_meaning.specs.declared.value.Value.{Value}
use Rattle.block_meaning.specs.Expressions.{Site, call_effect}
use Rattle.block_meaning.specs.Linkage.{function_of, function_named}
use Rattle.block_meaning.specs.Meaning.{calls_at}
use Rattle.block_meaning.specs.Running.{Function, Context, unit_then, State as MeaningState}
use Rattle.code_runs.specs.Bounded.{later, Bounded}
use Rattle.code_runs.specs.Laws.Bounded.{IsWider-same, opened, after, changes}
use Rattle.code_runs.specs.Laws.Ranges.{IsInRange-Steps}
use Rattle.code_runs.specs.Laws.Within.{StepsWithin-one}
use Rattle.code_relation.specs.Follows.{Code, setting, Tree, Does, HasArguments, Returns, call_room, call_item, types_of, WordsFollow}
use Rattle.code_relation.specs.Items.{IsAt, HasInstr, Calls, call_from}
use Rattle.code_relation.specs.Numbers.{Holds}
use Rattle.code_relation.specs.Outcomes.{outcome_of}
use Rattle.code_relation.specs.Relates.{Relates}
use Rattle.code_relation.specs.Sites.{Given, units_of}
use Rattle.code_relation.specs.Laws.Follows.{without_work}
use Rattle.code_relation.specs.Laws.Keeps.{KeepsAll-bytes, KeepsAll-then}
use Rattle.code_relation.specs.Laws.Kept.{SameInjected, Injects-same}

-- ---- the branch

linked_same : (a : ℕ) (s : State) → SameInjected s (puts_link a s)
unfolding puts_link
linked_same a s = record { sp = refl; base = refl; byte = refl; tag = refl; regions = refl; guard = refl; choices = refl; drawn = refl }

linked_outside : (a : ℕ) (s : State) → (puts_link a s).outside ≡ s.outside
unfolding puts_link
linked_outside a s = refl

linked_bytes : (a : ℕ) (s : State) → (puts_link a s).byte ≡ s.byte
unfolding puts_link
linked_bytes a s = refl

pub linked_pc : (a : ℕ) (s : State) → (puts_link a s).pc ≡ a
unfolding puts_link
linked_pc a s = refl

linked_back : (a from : ℕ) (s : State) → s.pc ≡ from → from + 4 < 2 ^ 64 → (puts_link a s).register 30 ≡ from + 4
unfolding puts_link
linked_back a from s is fits = omega (arith, is, fits)

linked_register : (a k : ℕ) (s : State) → k < 30 → (puts_link a s).register k ≡ s.register k
unfolding puts_link
linked_register a k s below = rw (ne_eqb k 30 (not_thirty k below)) refl
  where
    not_thirty : (k : ℕ) → k < 30 → k ≢ 30
    not_thirty k below same = omega (arith, below, same)

-- arguments are where they were
pub arguments_stay : (g : Given) (now : MeaningState) (a : ℕ) (s : State) (k : ℕ) (ts : List Ty) (vs : List Value) → k + length ts ≤ 30 →
    HasArguments g now s k ts vs → HasArguments g now (puts_link a s) k ts vs
arguments_stay g now a s k [] [] few has = tt
arguments_stay g now a s k [] (v ∷ vs) few has = absurd has
arguments_stay g now a s k (t ∷ ts) [] few has = absurd has
arguments_stay g now a s k (t ∷ ts) (v ∷ vs) few has = (
  has.0,
  subst (λ n. Holds g now v n) (sym (linked_register a k s (omega (arith, few)))) has.1,
  arguments_stay g now a s (suc k) ts vs (omega (arith, few)) has.2,
)

pub linked_relates : {g : Given} {here : Context} {now : MeaningState} {s : State} (a : ℕ) → Steps 1 s
    (puts_link a s) → Relates g here now s →
    Relates g here now (puts_link a s)
linked_relates {s = s} a steps relates = record {
  injects = Injects-same (linked_same a s) (IsInRange-Steps 1 steps relates.injects.in_range) relates.injects;
  outside = record {
    output = ap (λ o. o.output) (linked_outside a s) ∙ relates.outside.output;
    input = ap (λ o. o.answers) (linked_outside a s) ∙ relates.outside.input;
    bytes = relates.outside.bytes;
    takes = ap (λ o. o.next_failure) (linked_outside a s) ∙ relates.outside.takes;
    puts = ap (λ o. o.put_failure) (linked_outside a s) ∙ relates.outside.puts;
  };
}

-- ---- the call

pub returns_behind : {g : Given} {here : Context} {s : State} {v : Value} {then : MeaningState} {u : State} (a from : ℕ) → s.pc ≡ from →
    from + 4 < 2 ^ 64 → Returns g ((puts_link a s).register 30) here (puts_link a s) v then u → Returns g (from + 4) here s v then u
returns_behind {g} {here} {s} {v} {then} {u} a from is fits returns = record {
  relates = returns.relates;
  pc = returns.pc ∙ linked_back a from s is fits;
  value = returns.value;
  kept = KeepsAll-then (units_of g) s (puts_link a s) u here.open_calls
      (KeepsAll-bytes (units_of g) s (puts_link a s) here.open_calls (linked_bytes a s)) returns.kept;
}

-- Where a branch with the link stands, and the words of a function that is defined in the same file stand where it goes and follow it,
-- the branch is a call of that function.
pub Calls-words : (c : Code) (f : Function) (n from : ℕ) (way : Way) → HasInstr c from (jump_instr Linked way) → IsInReach 26 from way →
    length (types_of (function_named (units_of c.given) (function_of f.unit n))) ≤ 30 →
    WordsFollow c (function_of f.unit n) (goes_to from way) → Calls c f from (from + 4) (callee.Function n)
Calls-words c f n from way has reach few words = record {
  follows = λ bound around vs of_calls. record {
    does = λ here now s within relates begins.
        by_work bound around vs of_calls here now s within relates begins now.work refl;
  };
}
  where
    item_of : Site → List Value → Tree Value
    item_of around vs =
        call_item c.given (call_from c.given f (callee.Function n) around vs) (record { function = f; from = from; to = from + 4 })

    by_step : (bound : ℕ) (around : Site) (vs : List Value) → around.calls ≡ calls_at bound → (here : Context) (now : MeaningState)
        (s : State) → now.work ≤ c.reach → Relates c.given here now s → 0 < now.work → here.unit ≡ f.unit → s.pc ≡ from →
        HasArguments c.given now s 0 (types_of (function_named (units_of c.given) (function_of f.unit n))) vs →
        Does c (item_of around vs) here now s
    by_step bound around vs of_calls here now s within relates some unit pc arguments =
        let is_at : IsAt c from s = record { pc = pc; as_loaded = relates.injects.as_loaded; in_range = relates.injects.in_range } in
        let a : ℕ = goes_to from way in
        let leads : step s ≡ Leads (puts_link a s) =
        ap (λ instr. carried_out instr s) (has.is s is_at)
        ∙ jump-taken Linked way s (omega (arith, relates.injects.in_range.pc))
        (subst (λ p. IsInReach 26 p way) (sym pc) reach) refl
        ∙ ap (λ p. Leads (puts_link (goes_to p way) s)) pc in
        let steps : Steps 1 s (puts_link a s) = Steps-one s (puts_link a s) leads in
        let does = (words.follows bound vs).does here now (puts_link a s) within (linked_relates a steps relates) (
          some,
          linked_pc a s,
          arguments_stay c.given now a s 0 (types_of (function_named (units_of c.given) (function_of f.unit n))) vs
              (omega (arith, few)) arguments,
        ) in
        record {
          extra = 0;
          bounded = subst
              (λ q. Bounded (setting c) (later 0 (opened (setting c) now.work)) (λ v. call_room vs) s (Returns c.given (from + 4) here s)
              (outcome_of q))
              (same_run bound around vs of_calls here now unit)
              (after (StepsWithin-one steps (has.inside s is_at))
              (changes (record { least = omega arith; most = omega arith }) (λ v. IsWider-same (call_room vs))
              (λ v then u. returns_behind a from pc (omega (arith, has.below))) does.bounded));
        }
      where
        same_run : (bound : ℕ) (around : Site) (vs : List Value) → around.calls ≡ calls_at bound → (here : Context) (now : MeaningState) →
            here.unit ≡ f.unit →
            unit_then (calls_at bound here (function_of f.unit n) vs) now
            ≡ unit_then (around.calls here (function_of here.unit n) vs) now
        same_run bound around vs of_calls here now unit =
            ap (λ calls. unit_then (calls here (function_of f.unit n) vs) now) (sym of_calls)
            ∙ ap (λ u. unit_then (around.calls here (function_of u n) vs) now) (sym unit)

    -- where no work is left, the call is not made
    by_work : (bound : ℕ) (around : Site) (vs : List Value) → around.calls ≡ calls_at bound → (here : Context) (now : MeaningState)
        (s : State) → now.work ≤ c.reach → Relates c.given here now s → (item_of around vs).Begins here now s → (work : ℕ) →
        now.work ≡ work → Does c (item_of around vs) here now s
    by_work bound around vs of_calls here now s within relates begins zero none = record {
      extra = 0;
      bounded = without_work c (call_effect (record around { here = here }) (callee.Function n) vs) now none
          (record { least = omega arith; most = omega arith }) relates.outside.output;
    }
    by_work bound around vs of_calls here now s within relates begins (suc left) some =
        by_step bound around vs of_calls here now s within relates (omega (arith, some)) begins.0.3 begins.1 begins.2
