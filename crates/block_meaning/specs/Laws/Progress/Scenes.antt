-- Where the parts of a function run safely: its locals in scope have blocks, and calls with less work are safe.
use Rattle.std.proofs.Common.{◌≡◌, ℕ, ◌≤◌, ◌<◌, arith, List, length, Option, Some}
use Rattle.std.specs.List.{All}
use Rattle.std.proofs.lemmas.List.Elements.{All-weaker}
use Rattle.c_type_base.specs.declared.ty.Ty.{Ty}
use Rattle.c_type_base.specs.declared.typed.TFunction.{TFunction}
use Rattle.block_meaning.specs.Expressions.{Calls}
use Rattle.block_meaning.specs.ExpressionsInOrder.{Scope}
use Rattle.block_meaning.specs.Laws.Progress.Fits.{Fits, ValueWithin}
use Rattle.block_meaning.specs.Laws.Progress.Linked.{all_blocks}
use Rattle.block_meaning.specs.Laws.Progress.Safe.{Safe}
use Rattle.block_meaning.specs.Linkage.{function_named, parameter_types}
use Rattle.block_meaning.specs.Locals.{latest}
use Rattle.block_meaning.specs.Running.{Function, Call, Program, Context}
use Rattle.block_meaning.specs.declared.value.Value.{Value}

-- a local has a block
pub record LocalAt (n : ℕ) (local : ℕ → Option ℕ) (k : ℕ) : Type 0 where
  pub block : ℕ
  pub is : local k ≡ Some block
  pub within : block < n

abbrev pub LocalsWithin : ℕ → (ℕ → Option ℕ) → List ℕ → Type 0
LocalsWithin n local = All (LocalAt n local)

pub locals-more : (n k : ℕ) → n ≤ k → (local : ℕ → Option ℕ) (ks : List ℕ) → LocalsWithin n local ks → LocalsWithin k local ks
locals-more n k more local ks = All-weaker (LocalAt n local) (LocalAt k local)
    (λ j at. record { block = at.block; is = at.is; within = omega (arith, more, at.within) }) ks

abbrev pub inside_of : Program → ℕ → List Call → (ℕ → Option ℕ) → Context
inside_of program unit opened local = record { program = program; unit = unit; open_calls = opened; local = local }

-- arguments for parameters of these types
pub record Passed (ts : List Ty) (n : ℕ) (vs : List Value) : Type 0 where
  pub within : All (ValueWithin n) vs
  pub as_many : length vs ≡ length ts

-- calls with less work than so much are safe
pub record SafeCalls (program : Program) (w : ℕ) (calls : Calls) : Type 0 where
  pub safe : {n v : ℕ} → v < w → all_blocks program.units ≤ n → (unit : ℕ) (opened : List Call) (local : ℕ → Option ℕ) (f : Function)
      (g : TFunction) → function_named program.units f ≡ Some g → (vs : List Value) → Passed (parameter_types g) n vs →
      Safe n v (calls (inside_of program unit opened local) f vs) (Fits g.result)

pub record Scene (s : Scope) (n w : ℕ) : Type 0 where
  pub calls : Calls
  pub opened : List Call
  pub local : ℕ → Option ℕ
  -- the call that runs
  pub call : Call
  pub call_is : latest opened ≡ Some call
  pub function_is : function_named s.program.units call.function ≡ Some s.function
  pub of_locals : LocalsWithin n local s.locals
  pub of_calls : SafeCalls s.program w calls
  pub enough : all_blocks s.program.units ≤ n

abbrev pub here_of : {s : Scope} {n w : ℕ} → Scene s n w → Context
here_of {s = s} scene = inside_of s.program s.unit scene.opened scene.local

-- with more blocks
abbrev pub later : {s : Scope} {n w : ℕ} (k : ℕ) → n ≤ k → Scene s n w → Scene s k w
later {s = s} {n = n} k more scene = record {
  calls = scene.calls;
  opened = scene.opened;
  local = scene.local;
  call = scene.call;
  call_is = scene.call_is;
  function_is = scene.function_is;
  of_locals = locals-more n k more scene.local s.locals scene.of_locals;
  of_calls = scene.of_calls;
  enough = omega (arith, more, scene.enough);
}

pub calls-less : {program : Program} {w : ℕ} {calls : Calls} (v : ℕ) → v ≤ w → SafeCalls program w calls → SafeCalls program v calls
calls-less v less of_calls = record {
  safe = λ lower enough unit opened local f g is vs passed.
      of_calls.safe (omega (arith, lower, less)) enough unit opened local f g is vs passed;
}

-- with less work
abbrev pub lower : {s : Scope} {n w : ℕ} (v : ℕ) → v ≤ w → Scene s n w → Scene s n v
lower v less scene = record {
  calls = scene.calls;
  opened = scene.opened;
  local = scene.local;
  call = scene.call;
  call_is = scene.call_is;
  function_is = scene.function_is;
  of_locals = scene.of_locals;
  of_calls = calls-less v less scene.of_calls;
  enough = scene.enough;
}
