-- The refusals of the parser (this project's own).
use Rattle.std.specs.Prelude.{ℕ}
use Rattle.c_parse.specs.declared.refusal.ParseRefusal.{ParseRefusal}
use Rattle.c_parse.specs.declared.refusal.ParseRefusal.TheVariants.{Unexpected, TooDeep, NoMemory}

-- the number of each refusal; want of memory, which says nothing of the tokens, has none of them
abbrev pub number_of : ParseRefusal → ℕ
number_of (Unexpected place) = 7
number_of (TooDeep place) = 8
number_of NoMemory = 0

-- how many tokens stand before the one that each refusal names; want of memory names none, which is 0
abbrev pub place_of : ParseRefusal → ℕ
place_of (Unexpected place) = place
place_of (TooDeep place) = place
place_of NoMemory = 0
