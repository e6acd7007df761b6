-- Which words have which job: the simple command takes them, and what it finds asks for the job.
use Rattle.std.specs.Prelude.{ℕ, List}
use Rattle.mt_words.specs.Jobs.{Job}
use Rattle.mt_words.specs.Reading.{IsRead, given_by}
use Rattle.mt_words.specs.Asks.{Asks}

pub record HasJob (words : List (List ℕ)) (job : Job) : Type 0 where
  pub read : IsRead words
  pub asks : Asks (given_by words) job

-- words that have no job are a mistake of usage
abbrev pub HasNoJob : List (List ℕ) → Type 0
HasNoJob words = (job : Job) → ¬ HasJob words job
