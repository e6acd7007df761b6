-- What the code of a parser ensures: it answers as the parser does, if memory is not wanting.
use Rattle.std.specs.Prelude.{◌≡◌, List, [], ◌∷◌, Option, Some, None, Result, Ok, Err}
use Rattle.c_parse_base.specs.declared.fault.Stop.{Stop}
use Rattle.c_parse_base.specs.declared.fault.Stop.TheVariants as stop
use Rattle.c_parse_base.specs.Reading.Answer.{Answer, Read, Stuck}
use Rattle.c_ast.specs.Seen.{Seen as Token}

-- the answer of a parser as the code gives it, with the tokens that its cursor leaves
abbrev pub AnswersAs : {T A : Type 0} → Answer T A → Result A Stop → List T → Type 0
AnswersAs o (Ok a) left = o ≡ Read a left
AnswersAs o (Err (stop.Fault f)) left = o ≡ Stuck f left
AnswersAs o (Err stop.NoMemory) left = Unit {0}

-- likewise, as a fact of its own
pub record Answers {T A : Type 0} (o : Answer T A) (r : Result A Stop) (left : List T) : Type 0 where
  pub is : AnswersAs o r left

-- the next token
abbrev pub next_of : {T : Type 0} → List T → Option T
next_of [] = None
next_of (x ∷ ts) = Some x

-- the tokens behind the next one
abbrev pub rest_of : {T : Type 0} → List T → List T
rest_of [] = []
rest_of (x ∷ ts) = ts

-- an error, of whatever result it is
abbrev pub error : {A : Type 0} → Stop → Result A Stop
error e = Err e

-- the value of the next token, if it has one
abbrev pub next_value : {A : Type 0} → (Token → Option A) → List Token → Option A
next_value pick [] = None
next_value pick (x ∷ ts) = pick x
