-- Words that are written out, and their jobs.
use Rattle.std.proofs.Common.{◌≡◌, ◌≤◌, ℕ, List, [], ◌∷◌, Bool, true, false, Some, None, refl, sym, ap, ◌∙◌, subst, arith, codes, lit≤}
use Rattle.std.specs.Str.{bytes_eq}
use Rattle.std.proofs.lemmas.Bool.{true≢false}
use Rattle.clap.proofs.OnLiterals.{clap_on_literals}
use Rattle.clap.specs.Faults.{fault_of}
use Rattle.clap.specs.Kinds.{Kinds}
use Rattle.clap.specs.Takes.{takes}
use Rattle.clap.specs.declared.error.kind.ErrorKind.{ErrorKind}
use Rattle.clap.specs.declared.error.kind.ErrorKind.TheVariants as kind
use Rattle.std.specs.Prelude.{is_some}
use Rattle.std.proofs.lemmas.Slice.Eq.{bytes_eq-Decides}
use Rattle.mt_words.specs.Jobs.{Job, RunOptions, MeanOptions, Go, Build, Run, Mean}
use Rattle.mt_words.specs.Numbers.{default_choices, default_count, default_stack}
use Rattle.mt_words.specs.Reading.{Given, IsRead, Options, given_by, mtcc}
use Rattle.mt_words.specs.Asks.{Asks, AskRun, AskMean, none_given, only_out, go, build, run, mean}
use Rattle.mt_words.specs.HasJob.{HasJob, HasNoJob}
use Rattle.mt_words.proofs.Table.{no_dump, no_go, no_name}

is_cons : {A : Type 0} → List A → Bool
is_cons [] = false
is_cons (x ∷ xs) = true

cons≢nil : {A : Type 0} {x : A} {xs : List A} → x ∷ xs ≡ [] → ⊥
unfolding is_cons
cons≢nil e = true≢false (ap is_cons e)

some≢none : {x : List ℕ} → Some x ≡ None → ⊥
some≢none e = true≢false (ap is_some e)

-- names that differ
other : (a : List ℕ) {b : List ℕ} → bytes_eq a b ≡ false → ¬ (a ≡ b)
other a {b} apart e = true≢false (sym ((bytes_eq-Decides a b).1 e) ∙ apart)

-- a job of words that are read so
has : (words : List (List ℕ)) (given : Given) (job : Job) → fault_of mtcc words ≡ [] → given_by words ≡ given → Asks given job
    → HasJob words job
has words given job none is asks = record { read = record { no_fault = none }; asks = subst (λ g. Asks g job) (sym is) asks }

-- words that are no job, since the parse has a fault, or since what they hold asks for none
faulty : (words : List (List ℕ)) (fault : ErrorKind) (rest : Kinds) → fault_of mtcc words ≡ fault ∷ rest → HasNoJob words
faulty words fault rest is job has = cons≢nil (sym is ∙ has.read.no_fault)

asks_none : (words : List (List ℕ)) (given : Given) → given_by words ≡ given → ((job : Job) → ¬ Asks given job) → HasNoJob words
asks_none words given is none job has = none job (subst (λ g. Asks g job) is has.asks)

default_run : RunOptions
default_run = record { choices = default_choices; steps = default_count; stack = default_stack }

-- `go a.c`: the defaults
abbrev go_a : List (List ℕ)
go_a = codes "go" ∷ codes "a.c" ∷ []

go_a_read : fault_of mtcc go_a ≡ []
unfolding clap_on_literals mtcc
go_a_read = refl

go_a_given : given_by go_a ≡ record { command = Some (codes "go"); files = codes "a.c" ∷ []; options = none_given }
unfolding clap_on_literals mtcc given_by
go_a_given = refl

go_a_job : HasJob go_a (Go (codes "a.c" ∷ []) default_run)
unfolding default_run
go_a_job = has _ _ _ go_a_read go_a_given
    (go _ refl (lit≤ tt) (record { choices = refl; steps = refl; stack = refl; no_out = refl; no_work = refl }))

-- clap's test of the words that it takes says so too
go_a_taken : takes mtcc go_a ≡ true
unfolding clap_on_literals mtcc
go_a_taken = refl

-- `build --out=x a.c b.c`: an option anywhere, with `=`
abbrev build_ab : List (List ℕ)
build_ab = codes "build" ∷ codes "--out=x" ∷ codes "a.c" ∷ codes "b.c" ∷ []

build_ab_read : fault_of mtcc build_ab ≡ []
unfolding clap_on_literals mtcc
build_ab_read = refl

build_ab_given : given_by build_ab ≡ record {
  command = Some (codes "build");
  files = codes "a.c" ∷ codes "b.c" ∷ [];
  options = only_out
      (codes "x");
}
unfolding clap_on_literals mtcc given_by
build_ab_given = refl

build_ab_job : HasJob build_ab (Build (codes "a.c" ∷ codes "b.c" ∷ []) (codes "x"))
unfolding default_run
build_ab_job = has _ _ _ build_ab_read build_ab_given (build _ refl (lit≤ tt) refl)

-- `run x --steps 0 --tags 1a7`
abbrev run_x : List (List ℕ)
run_x = codes "run" ∷ codes "x" ∷ codes "--steps" ∷ codes "0" ∷ codes "--tags" ∷ codes "1a7" ∷ []

run_x_read : fault_of mtcc run_x ≡ []
unfolding clap_on_literals mtcc
run_x_read = refl

run_x_given : given_by run_x ≡ record {
  command = Some (codes "run");
  files = codes "x" ∷ [];
  options = record none_given
      { tags = Some (codes "1a7"); steps = Some (codes "0") };
}
unfolding clap_on_literals mtcc given_by
run_x_given = refl

run_x_job : HasJob run_x (Run (codes "x") (record { choices = 1 ∷ 10 ∷ 7 ∷ []; steps = 0; stack = default_stack }))
unfolding default_run
run_x_job = has _ _ _ run_x_read run_x_given (run _ _ refl refl (record {
  choices = record { least = lit≤ tt; most = lit≤ tt; all = (lit≤ tt, (lit≤ tt, (lit≤ tt, tt))); values = refl };
  steps = record { least = lit≤ tt; most = lit≤ tt; number = record { all = (lit≤ tt, tt); value = refl; in_range = lit≤ tt } };
  stack = refl;
  no_out = refl;
  no_work = refl;
}))

-- `mean -- --a --stack`: behind `--` all is a file
abbrev mean_a : List (List ℕ)
mean_a = codes "mean" ∷ codes "--" ∷ codes "--a" ∷ codes "--stack" ∷ []

mean_a_read : fault_of mtcc mean_a ≡ []
unfolding clap_on_literals mtcc
mean_a_read = refl

mean_a_given : given_by mean_a ≡ record { command = Some (codes "mean"); files = codes "--a" ∷ codes "--stack" ∷ []; options = none_given }
unfolding clap_on_literals mtcc given_by
mean_a_given = refl

mean_a_job : HasJob mean_a (Mean (codes "--a" ∷ codes "--stack" ∷ []) (record { work = default_count; stack = default_stack }))
unfolding default_run
mean_a_job = has _ _ _ mean_a_read mean_a_given
    (mean _ refl (lit≤ tt) (record { work = refl; stack = refl; no_out = refl; no_tags = refl; no_steps = refl }))

-- `go`: no file
no_files_given : given_by (codes "go" ∷ []) ≡ record { command = Some (codes "go"); files = []; options = none_given }
unfolding clap_on_literals mtcc given_by
no_files_given = refl

no_files_none : ¬ (1 ≤ 0)
no_files_none least = omega arith

no_files : HasNoJob (codes "go" ∷ [])
no_files = asks_none _ _ no_files_given (no_go _ _ (λ how some asks. no_files_none some))

-- `frob a.c`: no command
frob_given : given_by (codes "frob" ∷ codes "a.c" ∷ [])
    ≡ record { command = Some (codes "frob"); files = codes "a.c" ∷ []; options = none_given }
unfolding clap_on_literals mtcc given_by
frob_given = refl

frob : HasNoJob (codes "frob" ∷ codes "a.c" ∷ [])
frob = asks_none _ _ frob_given (no_name _ _ _ (other _ refl) (other _ refl) (other _ refl) (other _ refl) (other _ refl) (other _ refl)
    (other _ refl))

-- `go a.c --help`: a request
help_fault : fault_of mtcc (codes "go" ∷ codes "a.c" ∷ codes "--help" ∷ []) ≡ kind.DisplayHelp ∷ []
unfolding clap_on_literals mtcc
help_fault = refl

help : HasNoJob (codes "go" ∷ codes "a.c" ∷ codes "--help" ∷ [])
help = faulty _ _ _ help_fault

-- no words
no_words_fault : fault_of mtcc [] ≡ kind.MissingRequiredArgument ∷ []
unfolding clap_on_literals mtcc
no_words_fault = refl

no_words : HasNoJob []
no_words = faulty _ _ _ no_words_fault

-- an option twice
twice_fault : fault_of mtcc (codes "go" ∷ codes "a.c" ∷ codes "--steps" ∷ codes "1" ∷ codes "--steps" ∷ codes "1" ∷ [])
    ≡ kind.ArgumentConflict ∷ []
unfolding clap_on_literals mtcc
twice_fault = refl

twice : HasNoJob (codes "go" ∷ codes "a.c" ∷ codes "--steps" ∷ codes "1" ∷ codes "--steps" ∷ codes "1" ∷ [])
twice = faulty _ _ _ twice_fault

-- `dump x --tags 5`: an option that the command does not list
unlisted_given : given_by (codes "dump" ∷ codes "x" ∷ codes "--tags" ∷ codes "5" ∷ []) ≡ record {
  command = Some (codes "dump");
  files = codes "x" ∷ [];
  options = record none_given { tags = Some (codes "5") };
}
unfolding clap_on_literals mtcc given_by
unlisted_given = refl

unlisted : HasNoJob (codes "dump" ∷ codes "x" ∷ codes "--tags" ∷ codes "5" ∷ [])
unlisted = asks_none _ _ unlisted_given (no_dump _ _ (λ file one bare. some≢none (ap (λ (o : Options). o.tags) bare)))
