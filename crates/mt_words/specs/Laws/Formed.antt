-- What holds of every job that words have, for those who do it.
use Rattle.std.specs.Prelude.{◌≡◌, ◌≤◌, ◌<◌, ◌%◌, ◌*◌, ⊤, ℕ, List, [], ◌∷◌, Option, Some, None, length, map}
use Rattle.std.proofs.Common.{zero, suc, refl, sym, ap, subst, arith, lit≤}
use Rattle.std.specs.Char.{digit_value}
use Rattle.std.specs.List.{All}
use Rattle.std.specs.Str.Parse.{AllDigits}
use Rattle.mt_words.specs.Jobs.{RunOptions, MeanOptions, Job, Go, Build, Link, Run, Mean, Dump, Plan}
use Rattle.mt_words.specs.Numbers.{AreChoices, IsCount, IsStack, OrDefault, default_choices, default_count, default_stack}
use Rattle.mt_words.specs.Reading.{Given, Options}
use Rattle.mt_words.specs.Asks.{AskMean, AskRun, Asks, go, build, link, run, mean, dump, plan}
use Rattle.mt_words.specs.HasJob.{HasJob}

-- a stack's bytes: whole KiB, up to 64 MiB
pub record IsStackSize (bytes : ℕ) : Type 0 where
  pub whole : bytes % 1024 ≡ 0
  pub least : 1024 ≤ bytes
  pub most : bytes ≤ 67108864

pub record IsRunFormed (options : RunOptions) : Type 0 where
  pub some : 1 ≤ length options.choices
  pub few : length options.choices ≤ 4096
  pub tags : All (λ tag. tag < 16) options.choices
  pub steps : options.steps ≤ 18446744073709551615
  pub stack : IsStackSize options.stack

pub record IsMeanFormed (options : MeanOptions) : Type 0 where
  pub work : options.work ≤ 18446744073709551615
  pub stack : IsStackSize options.stack

-- a job with files has one at least, and its numbers are in their ranges
abbrev pub IsFormed : Job → Type 0
IsFormed (Go files options) = (1 ≤ length files) × IsRunFormed options
IsFormed (Build files out) = 1 ≤ length files
IsFormed (Link files out) = 1 ≤ length files
IsFormed (Run image options) = IsRunFormed options
IsFormed (Mean files options) = (1 ≤ length files) × IsMeanFormed options
IsFormed (Dump file) = ⊤
IsFormed (Plan file) = ⊤

-- ---- every job is formed so

all_tags : (digits : List ℕ) → AllDigits 16 digits → All (λ tag. tag < 16) (map digit_value digits)
all_tags [] all k d inside = absurd (omega arith)
all_tags (x ∷ xs) all zero d inside = all.0
all_tags (x ∷ xs) all (suc k) d inside = all_tags xs all.1 k d (omega arith)

default_tags : All (λ tag. tag < 16) default_choices
default_tags zero d inside = lit≤ tt
default_tags (suc k) d inside = absurd (omega arith)

length_tags : (digits : List ℕ) → length (map digit_value digits) ≡ length digits
length_tags [] = refl
length_tags (d ∷ ds) = ap suc (length_tags ds)

stack_of_kib : (kib : ℕ) → 1 ≤ kib → kib ≤ 65536 → IsStackSize (kib * 1024)
stack_of_kib kib least most = record { whole = omega arith; least = omega arith; most = omega arith }

is_stack_size : (value : Option (List ℕ)) (stack : ℕ) → OrDefault IsStack default_stack value stack → IsStackSize stack
is_stack_size None stack is = subst IsStackSize (sym is) (stack_of_kib 1024 (lit≤ tt) (lit≤ tt))
is_stack_size (Some digits) stack is = subst IsStackSize (sym is.bytes) (stack_of_kib is.kib is.least is.number.in_range)

is_in_range : (value : Option (List ℕ)) (count : ℕ) → OrDefault IsCount default_count value count → count ≤ 18446744073709551615
is_in_range None count is = subst (λ n. n ≤ 18446744073709551615) (sym is) (lit≤ tt)
is_in_range (Some digits) count is = is.number.in_range

-- the choices of a run
record AreFormed (choices : List ℕ) : Type 0 where
  pub some : 1 ≤ length choices
  pub few : length choices ≤ 4096
  pub tags : All (λ tag. tag < 16) choices

are_formed : (value : Option (List ℕ)) (choices : List ℕ) → OrDefault AreChoices default_choices value choices → AreFormed choices
are_formed None choices is = subst AreFormed (sym is) (record { some = lit≤ tt; few = lit≤ tt; tags = default_tags })
are_formed (Some digits) choices is =
    subst AreFormed (sym is.values)
    (record {
      some = omega (arith, length_tags digits, is.least);
      few = omega (arith, length_tags digits, is.most);
      tags = all_tags digits
          is.all;
    })

run_formed : (options : Options) (how : RunOptions) → AskRun options how → IsRunFormed how
run_formed options how asks =
    let choices = are_formed options.tags how.choices asks.choices in
    record {
      some = choices.some;
      few = choices.few;
      tags = choices.tags;
      steps = is_in_range options.steps how.steps asks.steps;
      stack = is_stack_size options.stack how.stack asks.stack;
    }

mean_formed : (options : Options) (how : MeanOptions) → AskMean options how → IsMeanFormed how
mean_formed options how asks =
    record { work = is_in_range options.work how.work asks.work; stack = is_stack_size options.stack how.stack asks.stack }

pub asks_formed : (given : Given) (job : Job) → Asks given job → IsFormed job
asks_formed given _ (go options name some asks) = (some, run_formed given.options options asks)
asks_formed given _ (build out name some asks) = some
asks_formed given _ (link out name some asks) = some
asks_formed given _ (run image options name one asks) = run_formed given.options options asks
asks_formed given _ (mean options name some asks) = (some, mean_formed given.options options asks)
asks_formed given _ (dump file name one asks) = tt
asks_formed given _ (plan file name one asks) = tt

pub formed : (words : List (List ℕ)) (job : Job) → HasJob words job → IsFormed job
formed words job has = asks_formed _ job has.asks
