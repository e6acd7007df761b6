-- The walk over a file: what it has found so far is what is said of the parts that it has passed.
use Rattle.std.specs.Prelude.{◌≡◌, [], Option, None}
use Rattle.c_type_expr.specs.declared.walk.Walk.{Walk}
use Rattle.c_type_expr.specs.Least.{first_with}
use Rattle.c_type_expr.specs.Outcomes.{Judged}
use Rattle.c_type_expr.specs.Walked.{env_of}
use Rattle.c_types.specs.declared.file_walk.FileWalk.{FileWalk}
use Rattle.c_types.specs.Recalled.{Recalls}
use Rattle.c_types.specs.Units.{Judgement, with_outcome}

-- between two parts of a file the walk stands where the parts so far lead: it is in no function, and of the faults it keeps the first
pub record Stands (w : Walk) (j : Judgement) : Type 0 where
  pub env_is : env_of w ≡ j.env
  pub texts_are : w.texts ≡ j.texts
  pub locals_are : w.locals ≡ []
  pub first_is : w.first ≡ first_with None j.faults

-- and so does the walk with what the file declares and defines
pub record FileStands (f : FileWalk) (j : Judgement) : Type 0 where
  pub walk_stands : Stands f.walk j
  pub recalls : Recalls f.declared j.declared
  pub globals_are : f.globals ≡ j.globals
  pub functions_are : f.functions ≡ j.functions

-- the walk passes a construct in the file's scope, which is known as said
pub record Passed {A : Type 0} (p : Judged A) (j : Judgement) (after : Walk) (known : Option A) : Type 0 where
  pub stands : Stands after (with_outcome j (p j.env))
  pub known_is : known ≡ (p j.env).known
