-- The stack holds the frames of the open calls, each as it is laid out, and in them the live locals (this project's own).
use Rattle.std.specs.Prelude.{◌≡◌, ℕ, ◌+◌, ◌%◌, ◌≤◌, true, length}
use Rattle.a64_code.specs.State.{State}
use Rattle.block_meaning.specs.declared.kind.Kind.TheVariants.{Local}
use Rattle.block_meaning.specs.Blocks.{Block}
use Rattle.block_meaning.specs.Meaning.{open_bytes}
use Rattle.block_meaning.specs.Running.{Context, State as MeaningState}
use Rattle.code_relation.specs.Calls.{stack_end, LieInOrder, is_among, drawn_by}
use Rattle.code_relation.specs.Sites.{Given, units_of, Lives}

pub record HasFrames (g : Given) (here : Context) (now : MeaningState) (s : State) : Type 0 where
  -- the frame bytes of the open calls fit into the stack
  pub fit : open_bytes here.open_calls ≤ g.program.stack
  -- every live local is one of an open call
  pub owned : (number : ℕ) (b : Block) (call k : ℕ) → Lives now number b → b.kind ≡ Local call k → is_among call here.open_calls ≡ true
  -- SP is that of the innermost frame
  pub sp : s.sp + open_bytes here.open_calls ≡ stack_end
  pub in_order : LieInOrder (units_of g) here.open_calls
  -- so many choices are drawn: those before `main`, and one for each call whose function has a tagged slot
  pub drawn : s.drawn ≡ (g.first + drawn_by (units_of g) now.calls) % length g.loaded.choices
  pub choices : s.choices ≡ g.loaded.choices
