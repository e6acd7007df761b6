-- A register other than X28 gets a number: the relation holds on (this project's own).
use Rattle.std.specs.Prelude.{◌≢◌, ℕ, List, refl}
use Rattle.std.proofs.lemmas.Bool.{ne_eqb}
use Rattle.c_type_base.specs.declared.typed.Typed.{Typed}
use Rattle.a64_code.specs.declared.instr.Reg.{Reg}
use Rattle.a64_code.specs.State.{State}
use Rattle.a64_laws.specs.Forms.{puts_register}
use Rattle.a64_laws.specs.Laws.Effects.InRange.{IsInRange}
use Rattle.block_meaning.specs.Running.{Call, Context, State as MeaningState}
use Rattle.tag_plan.specs.Lists.{tagged_base}
use Rattle.code_relation.specs.Kept.{KeepsFrom}
use Rattle.code_relation.specs.Relates.{Relates}
use Rattle.code_relation.specs.Sites.{Given}
use Rattle.code_relation.specs.Laws.Keeps.{KeepsFrom-bytes}
use Rattle.code_relation.specs.Laws.Kept.{SameInjected, Injects-same}

-- what the relation speaks of is the same
pub SameInjected-register : (r : Reg) (value : ℕ) (s : State) → tagged_base.0 ≢ r.0 → SameInjected s (puts_register r value s)
unfolding puts_register
SameInjected-register r value s other = record {
  sp = refl;
  base = rw (ne_eqb tagged_base.0 r.0 other) refl;
  byte = refl;
  tag = refl;
  regions = refl;
  guard = refl;
  choices = refl;
  drawn = refl;
}

-- a step that puts a number into another register than X28 leads to a state that is related too
pub Relates-register : {g : Given} {here : Context} {now : MeaningState} {s : State} (r : Reg) (value : ℕ) → tagged_base.0 ≢ r.0 →
    IsInRange (puts_register r value s) → Relates g here now s → Relates g here now (puts_register r value s)
unfolding puts_register
Relates-register {s = s} r value other range relates = record {
  injects = Injects-same (SameInjected-register r value s other) range relates.injects;
  outside = record {
    output = relates.outside.output;
    input = relates.outside.input;
    bytes = relates.outside.bytes;
    takes = relates.outside.takes;
    puts = relates.outside.puts;
  };
}

-- and keeps what is kept of frames
pub KeepsFrom-register : (units : List Typed) (first : ℕ) (r : Reg) (value : ℕ) (s : State) (cs : List Call) →
    KeepsFrom units first s (puts_register r value s) cs
unfolding puts_register
KeepsFrom-register units first r value s cs = KeepsFrom-bytes units first s (puts_register r value s) cs refl
