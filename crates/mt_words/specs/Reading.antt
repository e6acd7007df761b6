-- The simple command as which `clap` reads the words after the program's name, and what it finds in them. The words `App`, `Rule`, `Row`,
-- `first_of`, `all_of`, `matches_of` and `fault_of` are clap's own: the command, an argument, the entry of an argument, its first value
-- (`get_str`), its values (`get_raw`), the entries of a parse, and the kinds of error that it may give.
use Rattle.std.specs.Prelude.{◌≡◌, ℕ, List, [], Option, Some, true, codes, unwrap_or}
use Rattle.clap.specs.Lexer.{usize_max}
use Rattle.clap.specs.Walk.{Row, Rule, all_of, first_of}
use Rattle.clap.specs.Simple.{App, matches_of, new_app, new_rule, on_top, with_rule}
use Rattle.clap.specs.Faults.{fault_of}

-- the positional COMMAND, which is required
abbrev pub command_argument : Rule
command_argument = record (new_rule (codes "COMMAND")) { required = true }

-- the last positional, FILE, with one value or several
abbrev pub file_argument : Rule
file_argument = record (new_rule (codes "FILE")) { range = Some (record { start_inclusive = 1; end_inclusive = usize_max }) }

-- an option with one value and no default, `--name value` or `--name=value`
abbrev pub option_argument : List ℕ → Rule
option_argument name = record (new_rule name) { long = Some name }

-- the words have no program's name in front
abbrev pub nameless : App
nameless = on_top (λ shape. record shape { no_binary_name = true }) (new_app (codes "mtcc"))

abbrev pub with_positionals : App
with_positionals = with_rule (with_rule nameless command_argument) file_argument

abbrev pub with_run_options : App
with_run_options = with_rule (with_rule (with_rule with_positionals (option_argument (codes "tags"))) (option_argument (codes "steps")))
    (option_argument (codes "stack"))

-- the whole command
unfoldable pub mtcc : App
mtcc = with_rule (with_rule with_run_options (option_argument (codes "out"))) (option_argument (codes "work"))

-- the command takes the words: their parse has no fault. A request for help is one.
pub record IsRead (words : List (List ℕ)) : Type 0 where
  pub no_fault : fault_of mtcc words ≡ []

-- the values of the options that were given
pub record Options : Type 0 where
  pub out : Option (List ℕ)
  pub tags : Option (List ℕ)
  pub steps : Option (List ℕ)
  pub stack : Option (List ℕ)
  pub work : Option (List ℕ)

-- what the words hold
pub record Given : Type 0 where
  pub command : Option (List ℕ)
  pub files : List (List ℕ)
  pub options : Options

abbrev pub options_in : List Row → Options
options_in rows = record {
  out = first_of (codes "out") rows;
  tags = first_of (codes "tags") rows;
  steps = first_of (codes "steps") rows;
  stack = first_of (codes "stack") rows;
  work = first_of (codes "work") rows;
}

abbrev pub given_in : List Row → Given
given_in rows = record {
  command = first_of (codes "COMMAND") rows;
  files = unwrap_or (all_of (codes "FILE") rows) [];
  options = options_in rows;
}

-- what words hold that the command takes
unfoldable pub given_by : List (List ℕ) → Given
given_by words = given_in (matches_of mtcc words)
