-- A node with one operand: its value comes into the register, a unit of work is spent, and a list of instructions does the rest there (this
-- project's own).
use Rattle.std.specs.Prelude.{◌≡◌, ℕ, ◌+◌, ◌*◌, ◌^◌, ◌<◌, ◌≤◌, Bool, true, List, [], ◌∷◌, length, None, refl}
use Rattle.std.proofs.Common.{arith, sym, subst, ◌∙◌}
use Rattle.a64_code.specs.declared.instr.Instr.{Instr}
use Rattle.a64_code.specs.declared.instr.Reg.{Reg}
use Rattle.a64_code.specs.State.{State}
use Rattle.block_meaning.specs.Running.{Run, Stops, IsUndefined, Undefined, gives, and_then, unit_then}
use Rattle.block_meaning.specs.Running.{State as MeaningState}
use Rattle.block_meaning.specs.declared.value.Value.{Value}
use Rattle.c_type_base.specs.declared.ty.Ty.{Ty}
use Rattle.code_relation.specs.Follows.{setting}
use Rattle.code_relation.specs.Items.{IsAt, HasInstr}
use Rattle.code_relation.specs.Ends.{Reached}
use Rattle.code_relation.specs.Laws.Kept.{Holds-with}
use Rattle.code_relation.specs.Laws.Outcomes.{spent}
use Rattle.code_relation.specs.Outcomes.{outcome_of}
use Rattle.code_relation.specs.Relates.{Relates}
use Rattle.code_relation.specs.Sites.{Given}
use Rattle.code_runs.specs.Bounded.{Account, sparing, Bounded}
use Rattle.code_runs.specs.Laws.Bounded.{finishes}
use Rattle.gen_base.specs.Code.{Code as Items, plain, in_turn}
use Rattle.gen_expr.specs.Coded.{Emits}
use Rattle.gen_laws.specs.Computes.{Computes, all}
use Rattle.code_follows.specs.Leaves.{value_leaves}
use Rattle.code_follows.specs.Parts.{Result, Gave, On, Goes, Part}
use Rattle.code_follows.specs.Scene.{Scene, IsScene, given_in, Lies}
use Rattle.code_follows.specs.Values.{ValueIs}
use Rattle.code_follows.specs.Laws.Coming.{pays, pays-some}
use Rattle.code_follows.specs.Laws.Computing.{Suits-own, Few}
use Rattle.code_follows.specs.Laws.Going.{Goes-same, Goes-unit, Goes-part, Goes-computes, Goes-done, Part-by}
use Rattle.code_follows.specs.Laws.Lying.{LiesBy, Lies-turn, Lies-none, HasInstrs, Lies-plain}
use Rattle.code_follows.specs.Laws.Walking.{are_quiet}

-- ---- where a unit of work was spent

pub ValueIs-spent : {g : Given} {t : Ty} {v : Value} {now : MeaningState} {n : ℕ} → ValueIs g t v now n → ValueIs g t v (spent now) n
ValueIs-spent {g} {t} {v} {now} {n} is = record {
  of = is.of;
  holds = Holds-with g now v n (record { work = (spent now).work; input = now.input; output = now.output }) is.holds;
}

-- ---- code

-- two pieces
pub Lies-two : {k : Scene} {from to : ℕ} (x y : Items) → Lies k (in_turn (x ∷ y ∷ [])) from to → LiesBy k x y from to
Lies-two {k} {from} {to} x y lies = record {
  middle = parts.middle;
  front = parts.front;
  back = record {
    position = rest.front.position;
    place = rest.front.place;
    label_is = rest.front.label_is;
    stands = rest.front.stands;
    from_is = rest.front.from_is;
    to_is = rest.front.to_is ∙ Lies-none rest.back;
  };
}
  where
    parts : LiesBy k x (in_turn (y ∷ [])) from to
    parts = Lies-turn x (y ∷ []) lies

    rest : LiesBy k y (in_turn []) parts.middle to
    rest = Lies-turn y [] parts.back

-- the first instruction of a list
pub record Begins (k : Scene) (from : ℕ) : Type 0 where
  pub instr : Instr
  pub has : HasInstr k.code from instr

pub begins : {k : Scene} {from to : ℕ} (instrs : List Instr) → 1 ≤ length instrs → HasInstrs k instrs from to → Begins k from
begins [] some has = absurd (omega (arith, some))
begins {k} {from} (i ∷ is) some has = record {
  instr = i;
  has = subst (λ (at : ℕ). HasInstr k.code at i) (let e : from + 4 * 0 ≡ from = omega arith in e) (has.each 0 i refl);
}

-- where code has come
pub IsAt-on : {k : Scene} {first : ℕ} {reg : Reg} {alone : Bool} {s : State} {at : ℕ} {a : Account} {owes spare : ℕ} {now : MeaningState}
    {t : State} → On k first reg alone s at a owes spare now t → IsAt k.code at t
IsAt-on on = record {
  pc = on.came.comes.pc;
  as_loaded = on.came.comes.relates.injects.as_loaded;
  in_range = on.came.comes.relates.injects.in_range;
}

-- ---- an undefined step that is no access

pub Goes-undefined : {A : Type 0} {k : Scene} {first : ℕ} {reg : Reg} {alone : Bool} {result : Result A} {s : State}
    {to leaves at : ℕ} {a : Account}
    {owes spare : ℕ} {run : Run A} {now : MeaningState} {t : State} (u : Undefined) → run now ≡ Stops (IsUndefined u) now →
    u.access ≡ None →
    k.code.Inside t → On k first reg alone s at a owes spare now t → owes ≤ 1 → 1 ≤ spare →
    Goes k first reg alone result s to leaves a run now t
Goes-undefined {k = k} {first} {reg} {alone} {result} {s} {to} {leaves} {a = a} {now = now} {t} u is none inside on pays enough = record {
  bounded = subst (λ r. Bounded (setting k.code) a (λ v. sparing leaves) t (Gave k first reg alone result s to) (outcome_of r)) (sym is)
      (finishes (record { least = omega (arith, on.least, pays); most = omega (arith, on.most, enough) })
      (record {
        inside = inside;
        output = on.came.comes.relates.outside.output;
        over = subst (λ access. Reached (given_in k) u now t access) (sym none) tt;
      }));
}

-- ---- the node

-- What a list of instructions does for a run: it computes the number of what the run gives, or the run is undefined, but for no access.
pub data Does {B : Type 0} (result : Result B) (instrs : List Instr) (reg : Reg) (run : Run B) (now : MeaningState) (s : State)
    : Type 0 where
  computes_it : (w : B) (n : ℕ) → run now ≡ gives w now → Computes instrs reg n all s → result w now n → Does result instrs reg run now s
  is_undefined : (u : Undefined) → run now ≡ Stops (IsUndefined u) now → u.access ≡ None → Does result instrs reg run now s

-- the operand is in the register, states are related, and there is room for the list
pub record Operand {A : Type 0} (k : Scene) (result : Result A) (reg : Reg) (v : A) (now : MeaningState) (s : State) : Type 0 where
  pub low : 9 ≤ reg.0
  pub high : reg.0 ≤ 15
  pub is : result v now (s.register reg.0)
  pub relates : Relates (given_in k) k.here now s
  pub room : s.pc < 2 ^ 56

-- instructions that leave memory as it is, one at least and not too many
pub record Listed (instrs : List Instr) : Type 0 where
  pub quiet : are_quiet instrs ≡ true
  pub few : Few 1 32 (length instrs)

-- such a list, for each value of the operand
pub record DoesRest {A B : Type 0} (k : Scene) (given : Result A) (result : Result B) (instrs : Reg → List Instr) (f : A → Run B)
    : Type 0 where
  pub list : (reg : Reg) → Listed (instrs reg)
  pub does : (reg : Reg) (v : A) (now : MeaningState) (s : State) → Operand k given reg v now s → Does result (instrs reg) reg (f v) now s

-- what an operand gives stays where a unit of work is spent
abbrev pub IsKept : {A : Type 0} → Result A → Type 0
IsKept {A} result = (v : A) (now : MeaningState) (n : ℕ) → result v now n → result v (spent now) n

pub Goes-does : {B : Type 0} {k : Scene} {first : ℕ} {reg : Reg} {alone : Bool} {result : Result B} {s : State} {from to : ℕ} {a : Account}
    {owes spare : ℕ} {run : Run B} {now : MeaningState} {t : State} {instrs : List Instr} → HasInstrs k instrs from to →
    Listed instrs → reg.0 < 28 → On k first reg alone s from a owes spare now t → owes ≤ 1 → 39 ≤ spare →
    Does result instrs reg run now t → Goes k first reg alone result s to value_leaves a run now t
Goes-does {reg = reg} {alone} {result} {now = now} {instrs = instrs} has list low on pays enough (computes_it w n is puts holds) =
    Goes-same is
    (Goes-computes value_leaves has list.quiet puts (Suits-own alone reg low) on (omega (arith, pays, list.few.some))
    (omega (arith, list.few.few, enough))
    (λ done. Goes-done w done (omega arith) (subst (λ (m : ℕ). result w now m) (sym puts.holds) holds)))
Goes-does {instrs = instrs} has list low on pays enough (is_undefined u is none) =
    let first = begins instrs list.few.some has in
    Goes-undefined u is none
    (first.has.inside _ (IsAt-on on))
    on pays (omega (arith, enough))

pub operand_part : {A B : Type 0} {k : Scene} {emits : Emits} {needs leaves : ℕ} {alone : Bool} {given : Result A} {result : Result B}
    {m : Run A}
    {f : A → Run B} {instrs : Reg → List Instr} → IsScene k → Part k emits needs leaves alone given m → IsKept given →
    DoesRest k given result instrs f →
    Part k (λ t r. in_turn (emits t r ∷ plain (instrs r) ∷ [])) needs value_leaves alone result (and_then m (λ v. unit_then (f v)))
operand_part {k = k} {emits} {given = given} {instrs = instrs} scene part kept rest = Part-by (λ first reg from to free lies a now s on.
    let pieces = Lies-two (emits first reg) (plain (instrs reg)) lies in
    let has : HasInstrs k (instrs reg) pieces.middle to = Lies-plain (instrs reg) pieces.back in
    Goes-part (part.yields first reg from pieces.middle free pieces.front) (omega arith) (λ is. (refl, is)) (pays-some scene) on
    (λ x then u n after gave.
    Goes-unit after (λ owing.
    Goes-does has (rest.list reg) (omega (arith, free.high)) owing (omega arith) (omega (arith, pays scene))
    (rest.does reg x (spent then) u (record {
      low = free.low;
      high = free.high;
      is = kept x then (u.register reg.0) gave.result_is;
      relates = owing.came.comes.relates;
      room = omega (arith, after.came.comes.pc, (begins (instrs reg) (rest.list reg).few.some has).has.below);
    })))))
