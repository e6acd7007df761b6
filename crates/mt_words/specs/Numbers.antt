-- The values of options: digits, and what they write (this project's own).
use Rattle.std.specs.Prelude.{◌≡◌, ◌≤◌, ◌*◌, ◌==◌, ℕ, Bool, true, false, List, [], ◌∷◌, Option, Some, None, length, map}
use Rattle.std.specs.Char.{digit_value}
use Rattle.std.specs.Str.Parse.{AllDigits, digits_value}

-- the number that decimal digits write is this, and not over `most`
pub record IsNumber (digits : List ℕ) (most number : ℕ) : Type 0 where
  pub all : AllDigits 10 digits
  pub value : digits_value 10 digits ≡ number
  pub in_range : number ≤ most

-- steps or units of work: 1 to 20 decimal digits, of a value that 64 bits hold
pub record IsCount (digits : List ℕ) (count : ℕ) : Type 0 where
  pub least : 1 ≤ length digits
  pub most : length digits ≤ 20
  pub number : IsNumber digits 18446744073709551615 count

abbrev pub starts_with_zero : List ℕ → Bool
starts_with_zero [] = false
starts_with_zero (d ∷ ds) = d == 48

-- a stack in bytes: the digits write its KiB, 1 to 65536, in decimal without a leading zero
pub record IsStack (digits : List ℕ) (stack : ℕ) : Type 0 where
  pub kib : ℕ
  pub number : IsNumber digits 65536 kib
  pub no_zero : starts_with_zero digits ≡ false
  pub least : 1 ≤ kib
  pub bytes : stack ≡ kib * 1024

-- random choices: 1 to 4,096 hexadecimal digits, a choice each
pub record AreChoices (digits choices : List ℕ) : Type 0 where
  pub least : 1 ≤ length digits
  pub most : length digits ≤ 4096
  pub all : AllDigits 16 digits
  pub values : choices ≡ map digit_value digits

-- an option's value where it is given, and else the default
abbrev pub OrDefault : {A : Type 0} → (List ℕ → A → Type 0) → A → Option (List ℕ) → A → Type 0
OrDefault Is default None a = a ≡ default
OrDefault Is default (Some digits) a = Is digits a

-- the steps of a run and the work of a meaning, the choices and the stack where the words say nothing
abbrev pub default_count : ℕ
default_count = 100000000

abbrev pub default_choices : List ℕ
default_choices = 5 ∷ []

abbrev pub default_stack : ℕ
default_stack = 1048576
