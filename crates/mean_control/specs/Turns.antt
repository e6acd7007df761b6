-- What comes first in a turn of a loop, after its unit of work.
use Rattle.std.specs.Prelude.{List, ◌∷◌}
use Rattle.block_meaning.specs.Running.{Context}
use Rattle.mean_machine.specs.Execution.{value_first, test}
use Rattle.mean_machine.specs.Frames.{Loop, While, DoWhile, For, Execute, Body, Test, Frame, OnFlow, Runs}
use Rattle.mean_machine.specs.Going.{Stand}

abbrev pub turn_after : Context → List Frame → Loop → Stand
turn_after here k (While e s) = value_first here k e (Test (While e s) e)
turn_after here k (DoWhile s e) = Runs (Execute s) here (OnFlow (Body (DoWhile s e)) ∷ k)
turn_after here k (For h s) = test here k (For h s) h.condition (Runs (Execute s) here (OnFlow (Body (For h s)) ∷ k))
