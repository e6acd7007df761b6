-- The table of the commands, read backwards: what asks for nothing, and that what is given asks for one job.
use Rattle.std.proofs.Common.{◌≡◌, ◌∙◌, ◌≤◌, ℕ, List, [], ◌∷◌, Bool, true, false, Option, Some, None, refl, sym, ap, codes, length}
use Rattle.std.specs.Prelude.{is_some, unwrap_or}
use Rattle.std.specs.Str.{bytes_eq}
use Rattle.std.proofs.lemmas.Bool.{true≢false}
use Rattle.std.proofs.lemmas.Slice.Eq.{bytes_eq-Decides}
use Rattle.mt_words.specs.Jobs.{Job, RunOptions, MeanOptions}
use Rattle.mt_words.specs.Reading.{Given, Options}
use Rattle.mt_words.specs.Asks.{AskMean, AskRun, Asks, none_given, only_out, go, build, link, run, mean, dump, plan}

differ : (a b : List ℕ) → bytes_eq a b ≡ false → Some a ≡ Some b → ⊥
differ a b apart e = true≢false (sym ((bytes_eq-Decides a b).1 (ap (λ o. unwrap_or o []) e)) ∙ apart)

abbrev given : List ℕ → List (List ℕ) → Options → Given
given name files options = record { command = Some name; files = files; options = options }

-- nothing that `go` may be given with
pub no_go : (files : List (List ℕ)) (options : Options) → ((run : RunOptions) → 1 ≤ length files → ¬ AskRun options run) →
    (job : Job) → ¬ Asks (given (codes "go") files options) job
no_go files options none _ (go run_options name some asks) = none run_options some asks
no_go files options none _ (build out name some asks) = differ (codes "go") (codes "build") refl name
no_go files options none _ (link out name some asks) = differ (codes "go") (codes "link") refl name
no_go files options none _ (run image run_options name one asks) = differ (codes "go") (codes "run") refl name
no_go files options none _ (mean mean_options name some asks) = differ (codes "go") (codes "mean") refl name
no_go files options none _ (dump file name one asks) = differ (codes "go") (codes "dump") refl name
no_go files options none _ (plan file name one asks) = differ (codes "go") (codes "plan") refl name

-- nothing that `build` may be given with
pub no_build : (files : List (List ℕ)) (options : Options) → ((out : List ℕ) → 1 ≤ length files → ¬ (options ≡ only_out out)) →
    (job : Job) → ¬ Asks (given (codes "build") files options) job
no_build files options none _ (go run_options name some asks) = differ (codes "build") (codes "go") refl name
no_build files options none _ (build out name some asks) = none out some asks
no_build files options none _ (link out name some asks) = differ (codes "build") (codes "link") refl name
no_build files options none _ (run image run_options name one asks) = differ (codes "build") (codes "run") refl name
no_build files options none _ (mean mean_options name some asks) = differ (codes "build") (codes "mean") refl name
no_build files options none _ (dump file name one asks) = differ (codes "build") (codes "dump") refl name
no_build files options none _ (plan file name one asks) = differ (codes "build") (codes "plan") refl name

-- nothing that `link` may be given with
pub no_link : (files : List (List ℕ)) (options : Options) → ((out : List ℕ) → 1 ≤ length files → ¬ (options ≡ only_out out)) →
    (job : Job) → ¬ Asks (given (codes "link") files options) job
no_link files options none _ (go run_options name some asks) = differ (codes "link") (codes "go") refl name
no_link files options none _ (build out name some asks) = differ (codes "link") (codes "build") refl name
no_link files options none _ (link out name some asks) = none out some asks
no_link files options none _ (run image run_options name one asks) = differ (codes "link") (codes "run") refl name
no_link files options none _ (mean mean_options name some asks) = differ (codes "link") (codes "mean") refl name
no_link files options none _ (dump file name one asks) = differ (codes "link") (codes "dump") refl name
no_link files options none _ (plan file name one asks) = differ (codes "link") (codes "plan") refl name

-- nothing that `run` may be given with
pub no_run : (files : List (List ℕ)) (options : Options)
    → ((image : List ℕ) (run : RunOptions) → files ≡ image ∷ [] → ¬ AskRun options run) →
    (job : Job) → ¬ Asks (given (codes "run") files options) job
no_run files options none _ (go run_options name some asks) = differ (codes "run") (codes "go") refl name
no_run files options none _ (build out name some asks) = differ (codes "run") (codes "build") refl name
no_run files options none _ (link out name some asks) = differ (codes "run") (codes "link") refl name
no_run files options none _ (run image run_options name one asks) = none image run_options one asks
no_run files options none _ (mean mean_options name some asks) = differ (codes "run") (codes "mean") refl name
no_run files options none _ (dump file name one asks) = differ (codes "run") (codes "dump") refl name
no_run files options none _ (plan file name one asks) = differ (codes "run") (codes "plan") refl name

-- nothing that `mean` may be given with
pub no_mean : (files : List (List ℕ)) (options : Options) → ((mean : MeanOptions) → 1 ≤ length files → ¬ AskMean options mean) →
    (job : Job) → ¬ Asks (given (codes "mean") files options) job
no_mean files options none _ (go run_options name some asks) = differ (codes "mean") (codes "go") refl name
no_mean files options none _ (build out name some asks) = differ (codes "mean") (codes "build") refl name
no_mean files options none _ (link out name some asks) = differ (codes "mean") (codes "link") refl name
no_mean files options none _ (run image run_options name one asks) = differ (codes "mean") (codes "run") refl name
no_mean files options none _ (mean mean_options name some asks) = none mean_options some asks
no_mean files options none _ (dump file name one asks) = differ (codes "mean") (codes "dump") refl name
no_mean files options none _ (plan file name one asks) = differ (codes "mean") (codes "plan") refl name

-- nothing that `dump` may be given with
pub no_dump : (files : List (List ℕ)) (options : Options) → ((file : List ℕ) → files ≡ file ∷ [] → ¬ (options ≡ none_given)) →
    (job : Job) → ¬ Asks (given (codes "dump") files options) job
no_dump files options none _ (go run_options name some asks) = differ (codes "dump") (codes "go") refl name
no_dump files options none _ (build out name some asks) = differ (codes "dump") (codes "build") refl name
no_dump files options none _ (link out name some asks) = differ (codes "dump") (codes "link") refl name
no_dump files options none _ (run image run_options name one asks) = differ (codes "dump") (codes "run") refl name
no_dump files options none _ (mean mean_options name some asks) = differ (codes "dump") (codes "mean") refl name
no_dump files options none _ (dump file name one asks) = none file one asks
no_dump files options none _ (plan file name one asks) = differ (codes "dump") (codes "plan") refl name

-- nothing that `plan` may be given with
pub no_plan : (files : List (List ℕ)) (options : Options) → ((file : List ℕ) → files ≡ file ∷ [] → ¬ (options ≡ none_given)) →
    (job : Job) → ¬ Asks (given (codes "plan") files options) job
no_plan files options none _ (go run_options name some asks) = differ (codes "plan") (codes "go") refl name
no_plan files options none _ (build out name some asks) = differ (codes "plan") (codes "build") refl name
no_plan files options none _ (link out name some asks) = differ (codes "plan") (codes "link") refl name
no_plan files options none _ (run image run_options name one asks) = differ (codes "plan") (codes "run") refl name
no_plan files options none _ (mean mean_options name some asks) = differ (codes "plan") (codes "mean") refl name
no_plan files options none _ (dump file name one asks) = differ (codes "plan") (codes "dump") refl name
no_plan files options none _ (plan file name one asks) = none file one asks

-- another name
pub no_name : (name : List ℕ) (files : List (List ℕ)) (options : Options) → ¬ (name ≡ codes "go") → ¬ (name ≡ codes "build")
    → ¬ (name ≡ codes "link") → ¬ (name ≡ codes "run") →
    ¬ (name ≡ codes "mean") → ¬ (name ≡ codes "dump") → ¬ (name ≡ codes "plan") → (job : Job) → ¬ Asks (given name files options) job
no_name name files options not_go not_build not_link not_run not_mean not_dump not_plan _ (go run_options is some asks) = not_go
    (ap (λ o. unwrap_or o name) is)
no_name name files options not_go not_build not_link not_run not_mean not_dump not_plan _ (build out is some asks) = not_build
    (ap (λ o. unwrap_or o name) is)
no_name name files options not_go not_build not_link not_run not_mean not_dump not_plan _ (link out is some asks) = not_link
    (ap (λ o. unwrap_or o name) is)
no_name name files options not_go not_build not_link not_run not_mean not_dump not_plan _ (run image run_options is one asks) = not_run
    (ap (λ o. unwrap_or o name) is)
no_name name files options not_go not_build not_link not_run not_mean not_dump not_plan _ (mean mean_options is some asks) = not_mean
    (ap (λ o. unwrap_or o name) is)
no_name name files options not_go not_build not_link not_run not_mean not_dump not_plan _ (dump file is one asks) = not_dump
    (ap (λ o. unwrap_or o name) is)
no_name name files options not_go not_build not_link not_run not_mean not_dump not_plan _ (plan file is one asks) = not_plan
    (ap (λ o. unwrap_or o name) is)

-- no name
none≢some : (name : List ℕ) → None ≡ Some name → ⊥
none≢some name e = true≢false (sym (ap is_some e))

pub no_command : (files : List (List ℕ)) (options : Options) (job : Job)
    → ¬ Asks (record { command = None; files = files; options = options }) job
no_command files options _ (go run_options is some asks) = none≢some _ is
no_command files options _ (build out is some asks) = none≢some _ is
no_command files options _ (link out is some asks) = none≢some _ is
no_command files options _ (run image run_options is one asks) = none≢some _ is
no_command files options _ (mean mean_options is some asks) = none≢some _ is
no_command files options _ (dump file is one asks) = none≢some _ is
no_command files options _ (plan file is one asks) = none≢some _ is
