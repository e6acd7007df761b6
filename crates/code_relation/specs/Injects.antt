-- The relation between a state of the meaning and one of the machine that code keeps (this project's own, after the memory injections of
-- CompCert). Numbers and values in registers are in `Numbers`.
use Rattle.a64_code.specs.State.{State}
use Rattle.a64_laws.specs.Laws.Effects.InRange.{IsInRange}
use Rattle.block_meaning.specs.Running.{Context, State as MeaningState}
use Rattle.code_relation.specs.Apart.{AreApart}
use Rattle.code_relation.specs.Bases.{HasBases}
use Rattle.code_relation.specs.Cells.{HasCells}
use Rattle.code_relation.specs.Frames.{HasFrames}
use Rattle.code_relation.specs.Loaded.{IsLoaded, FilesLie}
use Rattle.code_relation.specs.Sites.{Given}
use Rattle.code_relation.specs.Stands.{Stands}
use Rattle.code_relation.specs.Tags.{HasTags, IsAsLoaded}

pub record Injects (g : Given) (here : Context) (now : MeaningState) (s : State) : Type 0 where
  -- what is given, and states that may be
  pub loaded : IsLoaded g.program g.loaded
  pub files : FilesLie g
  pub stands : Stands g here now
  pub in_range : IsInRange s
  -- blocks are apart, and the frames hold the locals
  pub apart : AreApart g now
  pub frames : HasFrames g here now s
  -- tags, what is as it was loaded, and bytes
  pub tags : HasTags g now s
  pub as_loaded : IsAsLoaded g s
  pub cells : HasCells g now s
  -- X28 and the base words
  pub bases : HasBases g here now s
