-- What it is that the arguments of a call are stored into the slots of the parameters (this project's own).
use Rattle.std.specs.Prelude.{◌≡◌, ℕ, ◌*◌, ◌≤◌, List, [], ◌∷◌, length, map, refl}
use Rattle.std.proofs.Common.{arith, inr, subst, sym}
use Rattle.a64_code.specs.State.{State}
use Rattle.c_type_base.specs.declared.typed.LocalInfo.{LocalInfo}
use Rattle.block_meaning.specs.declared.value.Value.{Value}
use Rattle.block_meaning.specs.Meaning.{with_arguments}
use Rattle.block_meaning.specs.ProgramsInOrder.{numbered}
use Rattle.block_meaning.specs.Running.{Context, Goes, State as MeaningState}
use Rattle.code_runs.specs.Within.{StepsWithin}
use Rattle.code_runs.specs.Laws.Within.{StepsWithin-none}
use Rattle.code_relation.specs.Follows.{Code, HasArguments}
use Rattle.code_relation.specs.Kept.{KeepsFrom}
use Rattle.code_relation.specs.Relates.{Relates}
use Rattle.code_relation.specs.Sites.{Given, units_of}
use Rattle.code_relation.specs.Laws.Keeps.{KeepsFrom-bytes}
use Rattle.block_meaning.specs.Linkage.{type_of_local}
use Rattle.stmt_follows.specs.Laws.Locals.Entering.{IsInner}

-- so many temps are kept, and at most four steps are taken for each parameter
pub record ArgumentsStored (c : Code) (temps : ℕ) (here : Context) (ls : List LocalInfo) (vs : List Value) (now : MeaningState) (t : State)
    (end : ℕ) : Type 0 where
  pub ready : Context
  pub later : MeaningState
  pub runs : with_arguments here 0 ls vs now ≡ Goes ready later
  pub to : State
  pub steps : ℕ
  pub few : steps ≤ 4 * length ls
  pub led : StepsWithin c.Inside steps t to
  pub pc : to.pc ≡ end
  pub inner : IsInner here (numbered 0 ls) ready
  pub relates : Relates c.given ready later to
  pub work : later.work ≡ now.work
  pub kept : KeepsFrom (units_of c.given) temps t to here.open_calls

-- of a function without parameters none is stored
no_arguments : (g : Given) (now : MeaningState) (t : State) (vs : List Value) → HasArguments g now t 0 [] vs → [] ≡ vs
no_arguments g now t [] has = refl
no_arguments g now t (v ∷ vs) has = absurd has

pub arguments_none : {c : Code} {here : Context} {now : MeaningState} {t : State} (temps : ℕ) (ls : List LocalInfo) (vs : List Value)
    (end : ℕ) → ls ≡ [] → HasArguments c.given now t 0 (map type_of_local ls) vs → Relates c.given here now t → t.pc ≡ end →
    ArgumentsStored c temps here ls vs now t end
arguments_none {c} {here} {now} {t} temps ls vs end none has relates pc =
    subst (λ ls. ArgumentsStored c temps here ls vs now t end) (sym none)
    (subst (λ vs. ArgumentsStored c temps here [] vs now t end)
    (no_arguments c.given now t vs (subst (λ ls. HasArguments c.given now t 0 (map type_of_local ls) vs) none has)) stored)
  where
    stored : ArgumentsStored c temps here [] [] now t end
    stored = record {
      ready = here;
      later = now;
      runs = refl;
      to = t;
      steps = 0;
      few = omega arith;
      led = StepsWithin-none c.Inside t;
      pc = pc;
      inner = record {
        program = refl;
        unit = refl;
        open_calls = refl;
        others = λ j outside. refl;
        only = λ j number is. inr is;
      };
      relates = relates;
      work = refl;
      kept = KeepsFrom-bytes (units_of c.given) temps t t here.open_calls refl;
    }
