-- The calls of `putchar` and `getchar`, which are services (this project's own).
use Rattle.std.specs.Prelude.{◌≡◌, ℕ, ◌+◌, ◌-◌, ◌%◌, ◌^◌, ◌<◌, ◌≤◌, false, List, [], ◌∷◌, ◌++◌, map, Some, None, refl}
use Rattle.std.specs.List.{All}
use Rattle.std.proofs.Common.{arith, ap, sym, subst, ◌∙◌}
use Rattle.std.proofs.lemmas.Bool.Decides.{nat_tests}
use Rattle.std.proofs.lemmas.List.Elements.{All-head, All-tail}
use Rattle.c_ast.specs.declared.int_type.IntType.TheVariants as int
use Rattle.c_type_base.specs.Laws.Opened.{given_types}
use Rattle.a64_code.specs.declared.instr.Instr.{Instr}
use Rattle.a64_code.specs.declared.instr.Instr.TheVariants.{Svc}
use Rattle.a64_code.specs.declared.instr.Reg.{Reg}
use Rattle.a64_code.specs.Effect.{effect}
use Rattle.a64_code.specs.Outside.{Outside, next_number, left_after, one_less, after_next, after_put}
use Rattle.a64_code.specs.State.{State}
use Rattle.a64_code.specs.Stepped.{Leads}
use Rattle.a64_laws.specs.Forms.{x0, puts_register, with_outside}
use Rattle.a64_laws.specs.Laws.Effects.InRange.{IsInRange}
use Rattle.a64_laws.specs.Laws.Fields.{puts_register-value}
use Rattle.a64_laws.specs.Laws.Services.{byte_put, byte_taken}
use Rattle.block_meaning.specs.Expressions.{take_byte, put_byte, first_number}
use Rattle.block_meaning.specs.ExpressionsInOrder.{int_type}
use Rattle.block_meaning.specs.Running.{Goes as Goes', Run, gives, unit_then, Context, State as MeaningState}
use Rattle.block_meaning.specs.declared.value.Value.{Value}
use Rattle.block_meaning.specs.declared.value.Value.TheVariants.{Number, Address, Struct, NoValue}
use Rattle.code_relation.specs.Follows.{setting, HasArguments}
use Rattle.code_relation.specs.Items.{HasInstr}
use Rattle.code_relation.specs.Laws.Keeps.{KeepsFrom-bytes}
use Rattle.code_relation.specs.Laws.Kept.{SameInjected, Injects-with, Injects-same}
use Rattle.code_relation.specs.Laws.Outcomes.{spent}
use Rattle.code_relation.specs.Outcomes.{outcome_of}
use Rattle.code_relation.specs.Relates.{Relates}
use Rattle.code_relation.specs.Sites.{Given, units_of}
use Rattle.code_runs.specs.Bounded.{Account, sparing, later, Bounded}
use Rattle.code_runs.specs.Laws.Bounded.{after}
use Rattle.code_runs.specs.Laws.Ranges.{IsInRange-Steps}
use Rattle.gen_base.specs.Code.{plain}
use Rattle.gen_laws.specs.Computes.{IsOf}
use Rattle.code_follows.specs.Parts.{Result, Gave, On, Goes}
use Rattle.code_follows.specs.Scene.{Scene, IsScene, given_in, Lies}
use Rattle.code_follows.specs.Values.{ValueIs}
use Rattle.code_follows.specs.Laws.Coming.{Came-part, pays}
use Rattle.code_follows.specs.Laws.Going.{Goes-unit, On-at}
use Rattle.code_follows.specs.Laws.Lying.{HasOne, Lies-one}
use Rattle.code_follows.specs.Laws.Operand.{IsAt-on}
use Rattle.code_follows.specs.Laws.Waiting.{never}
use Rattle.code_follows.specs.Laws.Walking.{step_within}

-- ---- states

-- a state with another input left, and with another output
abbrev pub exchanged : List ℕ → List ℕ → MeaningState → MeaningState
exchanged input output now = record now { input = input; output = output }

-- the outside is that of a state of the meaning
record IsOutside (left put : List ℕ) (o : Outside) : Type 0 where
  output : o.output ≡ put
  input : o.answers ≡ map Some left
  bytes : All (λ byte. byte < 256) left
  takes : o.next_failure ≡ None
  puts : o.put_failure ≡ None

abbrev served : ℕ → Outside → State → State
served value o s = puts_register x0 value (with_outside o s)

served_same : (value : ℕ) (o : Outside) (s : State) → SameInjected s (served value o s)
unfolding puts_register with_outside
served_same value o s = record {
  sp = refl;
  base = refl;
  byte = refl;
  tag = refl;
  regions = refl;
  guard = refl;
  choices = refl;
  drawn = refl;
}

served_outside : (value : ℕ) (o : Outside) (s : State) → (served value o s).outside ≡ o
unfolding puts_register with_outside
served_outside value o s = refl

served_pc : (value : ℕ) (o : Outside) (s : State) → (served value o s).pc ≡ (s.pc + 4) % 2 ^ 64
unfolding puts_register with_outside
served_pc value o s = refl

served_value : (value : ℕ) (o : Outside) (s : State) → (served value o s).register 0 ≡ value
served_value value o s = puts_register-value x0 value (with_outside o s)

served_relates : {g : Given} {here : Context} {now : MeaningState} {s : State} (value : ℕ) (o : Outside) (input output : List ℕ) →
    IsOutside input output o → IsInRange (served value o s) → Relates g here now s →
    Relates g here (exchanged input output now) (served value o s)
served_relates {now = now} {s} value o input output is range relates =
    let same : (served value o s).outside ≡ o = served_outside value o s in
    record {
      injects = Injects-same (served_same value o s) range
          (Injects-with (record { work = now.work; input = input; output = output }) relates.injects);
      outside = record {
        output = ap (λ x. x.output) same ∙ is.output;
        input = ap (λ x. x.answers) same ∙ is.input;
        bytes = is.bytes;
        takes = ap (λ x. x.next_failure) same ∙ is.takes;
        puts = ap (λ x. x.put_failure) same ∙ is.puts;
      };
    }

module _ {k : Scene} {first : ℕ} {reg : Reg} {result : Result Value} {s : State} {to leaves : ℕ} where
  -- a service is a step, which exchanges something with the outside
  Goes-serves : {a : Account} {spare from : ℕ} {m n : Run Value} {now : MeaningState} {t : State} (i : Instr) (value : ℕ) (o : Outside)
      (input output : List ℕ) (left : ℕ) → HasInstr k.code from i → effect i t ≡ Leads (served value o t) → IsOutside input output o →
      m now ≡ n (exchanged input output now) → On k first reg false s from a 1 spare now t → 1 + left ≤ spare →
      ((u : State) (c : Account) → u.register 0 ≡ value → On k first reg false s (from + 4) c 0 left (exchanged input output now) u →
      Goes k first reg false result s to leaves c n (exchanged input output now) u) →
      Goes k first reg false result s to leaves a m now t
  Goes-serves {a} {spare} {from} {m} {n} {now} {t} i value o input output left has leads is same on fits more =
      let led = step_within k i has (IsAt-on on) leads in
      let u : State = served value o t in
      let then : MeaningState = exchanged input output now in
      let came : On k first reg false s (from + 4) (later 1 a) 0 left then u = record {
        came = Came-part {sub_first = first} {sub_reg = reg} {sub_alone = false} (omega arith) never (record {
          comes = record {
            relates = served_relates value o input output is (IsInRange-Steps 1 led.steps on.came.comes.relates.injects.in_range)
                on.came.comes.relates;
            pc = omega (arith, served_pc value o t, on.came.comes.pc, has.below);
            kept = KeepsFrom-bytes (units_of (given_in k)) first t u k.here.open_calls (served_same value o t).byte;
          };
          registers = λ alone. never alone;
        }) on.came;
        least = omega (arith, on.least);
        most = omega (arith, on.most, fits);
        within = on.within;
      } in
      record {
        bounded = subst (λ r. Bounded (setting k.code) a (λ v. sparing leaves) t (Gave k first reg false result s to) (outcome_of r))
            (sym same)
            (after led (more u (later 1 a) (served_value value o t) came).bounded);
      }

-- ---- numbers

pub byte_of : (b : ℕ) → b < 256 → IsOf int.Int b
byte_of b below = grind (arith, nat_tests)

byte_is : {g : Given} {now : MeaningState} (b n : ℕ) → b < 256 → n ≡ b → ValueIs g int_type (Number b) now n
unfolding given_types
byte_is b n below is = record { of = byte_of b below; holds = is }

pub end_of : IsOf int.Int (2 ^ 64 - 1)
end_of = grind (arith, nat_tests)

end_is : {g : Given} {now : MeaningState} (n : ℕ) → n ≡ 2 ^ 64 - 1 → ValueIs g int_type (Number (2 ^ 64 - 1)) now n
unfolding given_types
end_is n is = record { of = end_of; holds = is }

-- the number of the argument is in X0
put_number : (g : Given) (now : MeaningState) (s : State) (vs : List Value) → HasArguments g now s 0 (int_type ∷ []) vs →
    first_number vs ≡ s.register 0
unfolding given_types
put_number g now s [] has = absurd has
put_number g now s (v ∷ w ∷ ws) has = absurd (has.2)
put_number g now s (Number n ∷ []) has = sym has.1
put_number g now s (Address p ∷ []) has = absurd (has.0)
put_number g now s (Struct p ∷ []) has = absurd (has.0)
put_number g now s (NoValue ∷ []) has = absurd (has.0)

-- ---- what the meaning takes

pub taken_byte : (now : MeaningState) (b : ℕ) (bs : List ℕ) → now.input ≡ b ∷ bs →
    take_byte now ≡ Goes' (Number b) (exchanged bs now.output now)
taken_byte now b bs is = rw is refl

pub taken_end : (now : MeaningState) → now.input ≡ [] → take_byte now ≡ Goes' (Number (2 ^ 64 - 1)) (exchanged [] now.output now)
taken_end now is = rw is refl

-- ---- the calls

module _ {k : Scene} {first : ℕ} {reg : Reg} {result : Result Value} {s : State} {to leaves : ℕ} (scene : IsScene k) where
  -- a byte is put
  pub Goes-putchar : {a : Account} {spare from middle : ℕ} {now : MeaningState} {t : State} (vs : List Value) →
      Lies k (plain (Svc 1 ∷ [])) from middle → On k first reg false s from a 0 spare now t →
      HasArguments (given_in k) now t 0 (int_type ∷ []) vs →
      ((v : Value) (then : MeaningState) (u : State) (c : Account) → On k first reg false s middle c 0 8 then u →
      ValueIs (given_in k) int_type v then (u.register 0) → Goes k first reg false result s to leaves c (gives v) then u) →
      Goes k first reg false result s to leaves a (unit_then (put_byte (first_number vs))) now t
  Goes-putchar {a} {spare} {from} {middle} {now} {t} vs lies on has more =
      let one = Lies-one (Svc 1) lies in
      let b : ℕ = t.register 0 % 256 in
      let outside = on.came.comes.relates.outside in
      let known : first_number vs ≡ t.register 0 = put_number (given_in k) now t vs has in
      Goes-unit on (λ owing.
      Goes-serves {n = gives (Number b)} (Svc 1) b (after_put b t.outside) now.input (now.output ++ b ∷ []) 8 one.has
      (byte_put t outside.puts)
      (record {
        output = ap (λ o. o ++ b ∷ []) outside.output;
        input = outside.input;
        bytes = outside.bytes;
        takes = outside.takes;
        puts = ap one_less outside.puts;
      })
      (ap (λ n. put_byte n (spent now)) known) owing (omega (arith, pays scene))
      (λ u c holds came. more (Number b) _ u c (On-at (sym one.to_is) came) (byte_is b (u.register 0) (omega arith) holds)))

  -- A byte is taken, or it is told that there is none.
  pub Goes-getchar : {a : Account} {spare from middle : ℕ} {now : MeaningState} {t : State} →
      Lies k (plain (Svc 2 ∷ [])) from middle → On k first reg false s from a 0 spare now t →
      ((v : Value) (then : MeaningState) (u : State) (c : Account) → On k first reg false s middle c 0 8 then u →
      ValueIs (given_in k) int_type v then (u.register 0) → Goes k first reg false result s to leaves c (gives v) then u) →
      Goes k first reg false result s to leaves a (unit_then take_byte) now t
  Goes-getchar {a} {spare} {from} {middle} {now} {t} lies on more =
      Goes-unit on (λ owing. by_input now.input refl owing)
    where
      one : HasOne k (Svc 2) from middle
      one = Lies-one (Svc 2) lies

      by_input : (input : List ℕ) → now.input ≡ input → On k first reg false s from a 1 (spare + k.code.per) (spent now) t →
          Goes k first reg false result s to leaves a take_byte (spent now) t
      by_input [] is owing =
          let outside = on.came.comes.relates.outside in
          let answers : t.outside.answers ≡ [] = outside.input ∙ ap (map Some) is in
          Goes-serves {n = gives (Number (2 ^ 64 - 1))} (Svc 2) (next_number t.outside.answers) (after_next t.outside) [] now.output 8
          one.has
          (byte_taken t outside.takes)
          (record {
            output = outside.output;
            input = ap left_after answers;
            bytes = subst (All (λ byte. byte < 256)) is outside.bytes;
            takes = ap one_less outside.takes;
            puts = outside.puts;
          })
          (taken_end (spent now) is) owing (omega (arith, pays scene))
          (λ u c holds came. more (Number (2 ^ 64 - 1)) _ u c (On-at (sym one.to_is) came)
          (end_is (u.register 0) (holds ∙ ap next_number answers)))
      by_input (b ∷ bs) is owing =
          let outside = on.came.comes.relates.outside in
          let answers : t.outside.answers ≡ map Some (b ∷ bs) = outside.input ∙ ap (map Some) is in
          let bytes : All (λ byte. byte < 256) (b ∷ bs) = subst (All (λ byte. byte < 256)) is outside.bytes in
          Goes-serves {n = gives (Number b)} (Svc 2) (next_number t.outside.answers) (after_next t.outside) bs now.output 8 one.has
          (byte_taken t outside.takes)
          (record {
            output = outside.output;
            input = ap left_after answers;
            bytes = All-tail (λ byte. byte < 256) b bs bytes;
            takes = ap one_less outside.takes;
            puts = outside.puts;
          })
          (taken_byte (spent now) b bs is) owing (omega (arith, pays scene))
          (λ u c holds came. more (Number b) _ u c (On-at (sym one.to_is) came)
          (byte_is b (u.register 0) (All-head (λ byte. byte < 256) b bs bytes) (holds ∙ ap next_number answers)))
