-- What the commands `go` and `run` answer to the run of an image (this project's own).
use Rattle.std.specs.Prelude.{◌≡◌}
use Rattle.a64_code.specs.declared.end.MachineEnd.{MachineEnd}
use Rattle.elf_image.specs.Image.{Image}
use Rattle.mte_machine.specs.Objects.{Objects}
use Rattle.mt_answers.specs.Status.{ended_by}
use Rattle.mt_answers.specs.declared.ended.Ended.{Ended}
use Rattle.mt_words.specs.Jobs.{RunOptions}
use Rattle.tag_startup.specs.Machine.{Launch, RunsImage, launch}

-- the image, with the random tags that are drawn in turn, the bytes of the stack and the most steps
abbrev pub launch_with : Image → RunOptions → Launch
launch_with image options = launch image options.choices options.stack options.steps

-- The image ran so over the input and the output, and this is answered to how its run ended.
pub record RunsTo {S K : Type 0} (image : Image) (options : RunOptions) (before after : Objects S K) (ended : Ended) : Type 0 where
  pub end : MachineEnd
  pub runs : RunsImage (launch_with image options) before after end
  pub answered : ended ≡ ended_by end
