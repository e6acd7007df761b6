-- What a program takes from the outside and gives to it, and when the outside fails (this project's own).
use Rattle.std.specs.Prelude.{ℕ, zero, suc, ◌-◌, ◌^◌, Bool, true, false, if◌then◌else◌, List, [], ◌∷◌, ◌++◌, map, Option, Some, None}

pub record Outside : Type 0 where
  -- what the source still answers, one call after another: a byte, or its end. Once none is left it is at its end for ever.
  pub answers : List (Option ℕ)
  -- the bytes that the sink has taken, in their order
  pub output : List ℕ
  -- how many calls of `next`, and of `put`, are answered before the first one that fails, where one fails
  pub next_failure : Option ℕ
  pub put_failure : Option ℕ
  -- whether the put that fails takes its byte all the same
  pub keeps_last : Bool

-- an outside with this input, of which nothing fails and nothing was put
abbrev pub outside_of : List ℕ → Outside
outside_of input = record { answers = map Some input; output = []; next_failure = None; put_failure = None; keeps_last = false }

-- the call that comes now is the one that fails
abbrev pub fails_now : Option ℕ → Bool
fails_now None = false
fails_now (Some zero) = true
fails_now (Some (suc n)) = false

-- the count behind a call that was answered
abbrev pub one_less : Option ℕ → Option ℕ
one_less None = None
one_less (Some n) = Some (n - 1)

-- the number that an answer of the source is: its byte, or all ones at the end
abbrev pub number_of : Option ℕ → ℕ
number_of None = 2 ^ 64 - 1
number_of (Some byte) = byte

-- what a call of `next` tells, by the answers left, and the answers left behind it
abbrev pub next_number : List (Option ℕ) → ℕ
next_number [] = number_of None
next_number (answer ∷ rest) = number_of answer

abbrev pub left_after : List (Option ℕ) → List (Option ℕ)
left_after [] = []
left_after (answer ∷ rest) = rest

-- the outside after a call of `next` that was answered, and after a put of one byte that was
abbrev pub after_next : Outside → Outside
after_next o = record o { answers = left_after o.answers; next_failure = one_less o.next_failure }

abbrev pub after_put : ℕ → Outside → Outside
after_put byte o = record o { output = o.output ++ byte ∷ []; put_failure = one_less o.put_failure }

-- what the sink has taken once a put of one byte has failed
abbrev pub output_at_failure : ℕ → Outside → List ℕ
output_at_failure byte o = if o.keeps_last then o.output ++ byte ∷ [] else o.output
