-- How two numbers compare, and the conditions that tell it (this project's own).
use Rattle.std.specs.Prelude.{ℕ, ◌==◌, nat_le, nat_lt, int_le, int_lt, Bool, not, if◌then◌else◌}
use Rattle.mt_base.specs.TwosComplement.{to_signed}

-- the last four are of signed numbers
pub data Relation : Type 0 where
  Equal : Relation
  Unequal : Relation
  HigherOrSame : Relation
  Lower : Relation
  Higher : Relation
  LowerOrSame : Relation
  AtLeast : Relation
  Less : Relation
  Greater : Relation
  AtMost : Relation

-- the condition of an instruction, EQ to LE
abbrev pub code_of : Relation → ℕ
code_of Equal = 0
code_of Unequal = 1
code_of HigherOrSame = 2
code_of Lower = 3
code_of Higher = 8
code_of LowerOrSame = 9
code_of AtLeast = 10
code_of Less = 11
code_of Greater = 12
code_of AtMost = 13

-- it holds of two numbers of so many bits
abbrev pub holds : Relation → ℕ → ℕ → ℕ → Bool
holds Equal k x y = x == y
holds Unequal k x y = not (x == y)
holds HigherOrSame k x y = nat_le y x
holds Lower k x y = nat_lt x y
holds Higher k x y = nat_lt y x
holds LowerOrSame k x y = nat_le x y
holds AtLeast k x y = int_le (to_signed k y) (to_signed k x)
holds Less k x y = int_lt (to_signed k x) (to_signed k y)
holds Greater k x y = int_lt (to_signed k y) (to_signed k x)
holds AtMost k x y = int_le (to_signed k x) (to_signed k y)

-- what CSINC of two zeros makes of a condition
abbrev pub with_bool : Bool → ℕ
with_bool condition = if condition then 0 else 1
