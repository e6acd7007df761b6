-- A pair of states from which code is to follow a tree, and to which it leads (this project's own).
use Rattle.std.specs.Prelude.{◌≡◌, ◌<◌, map, Some, None}
use Rattle.std.specs.List.{All}
use Rattle.a64_code.specs.State.{State}
use Rattle.block_meaning.specs.Running.{Context, State as MeaningState}
use Rattle.code_relation.specs.Injects.{Injects}
use Rattle.code_relation.specs.Sites.{Given}

-- What was put is the same, and what is left of the input, which are bytes; and no call of the outside fails.
pub record SameOutside (now : MeaningState) (s : State) : Type 0 where
  pub output : s.outside.output ≡ now.output
  pub input : s.outside.answers ≡ map Some now.input
  pub bytes : All (λ byte. byte < 256) now.input
  pub takes : s.outside.next_failure ≡ None
  pub puts : s.outside.put_failure ≡ None

pub record Relates (g : Given) (here : Context) (now : MeaningState) (s : State) : Type 0 where
  pub injects : Injects g here now s
  pub outside : SameOutside now s
