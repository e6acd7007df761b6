-- What calls give (this project's own).
use Rattle.std.specs.Prelude.{◌≡◌, ℕ, List, Some}
use Rattle.c_type_base.specs.declared.typed.TFunction.{TFunction}
use Rattle.block_meaning.specs.Linkage.{function_named}
use Rattle.block_meaning.specs.Meaning.{calls_at}
use Rattle.block_meaning.specs.Running.{Function, Program, Context, State as MeaningState}
use Rattle.block_meaning.specs.declared.value.Value.{Value}
use Rattle.code_follows.specs.Later.{AreBytes, Ran}
use Rattle.code_follows.specs.Values.{IsOfType}

-- A call that completes gives a value of the type of the function's result. So it is in programs whose functions are covered as
-- expressions are.
pub record CallsGive (p : Program) (bound : ℕ) : Type 0 where
  pub gives : (here : Context) (f : Function) (g : TFunction) (vs : List Value) (now later : MeaningState) (v : Value) →
      here.program ≡ p → function_named p.units f ≡ Some g → AreBytes now.input →
      Ran (calls_at bound here f vs) now v later → IsOfType g.result v
