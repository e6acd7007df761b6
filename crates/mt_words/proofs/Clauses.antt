-- What the parts of `job_of` find, from what their own parts find.
use Rattle.std.proofs.Common.{
  ◌≡◌,
  ◌∙◌,
  ◌≤◌,
  ◌||◌,
  ℕ,
  suc,
  List,
  [],
  ◌∷◌,
  Bool,
  true,
  false,
  Option,
  Some,
  None,
  refl,
  sym,
  ap,
  subst,
  arith,
  codes,
  length,
  slice_index_or,
}
use Rattle.std.specs.Prelude.{IfNone, IfSome, is_some, map}
use Rattle.std.specs.Borrow.{Bor}
use Rattle.std.proofs.lemmas.Bool.{true≢false}
use Rattle.mt_words.specs.declared.given.Options.{Options as OptionsValue}
use Rattle.mt_words.specs.declared.job.Job.{Job as JobValue}
use Rattle.mt_words.specs.Reading.{Given, IsRead, Options, given_by}
use Rattle.mt_words.specs.HasJob.{HasJob, HasNoJob}
use Rattle.mt_words.specs.Laws.Formed.{IsFormed, asks_formed}
use Rattle.mt_words.specs.Asks.{Asks, none_given}
use Rattle.mt_words.specs.Found.{Finds, FindsFile, FindsOne, FindsOut, given_as, given_with, is_any_given}
use Rattle.mt_words.specs.Held.{options_are, text_is}
use Rattle.mt_words.specs.Model.{job_is, texts}
use Rattle.mt_words.proofs.Table.{no_go, no_mean}

-- ---- options that are given, or not

-- an option that is given is not left out
pub is_given : (value : Option (Bor (List ℕ))) → is_some value ≡ true → ¬ (text_is value ≡ None)
is_given None e none = true≢false (sym e)
is_given (Some x) e none = true≢false (ap is_some none)

pub not_given : (value : Option (Bor (List ℕ))) → is_some value ≡ false → text_is value ≡ None
not_given None e = refl
not_given (Some x) e = absurd (true≢false e)

any : (a b c d : Option (Bor (List ℕ))) → Bool
any a b c d = is_some a || (is_some b || (is_some c || is_some d))

none_of : (out : Option (List ℕ)) (a b c d : Option (Bor (List ℕ))) → any a b c d ≡ false →
    ◌≡◌ {A = Options} (record { out = out; tags = text_is a; steps = text_is b; stack = text_is c; work = text_is d })
    (record none_given { out = out })
unfolding any
none_of out None None None None e = refl
none_of out (Some x) b c d e = absurd (true≢false e)
none_of out None (Some x) c d e = absurd (true≢false e)
none_of out None None (Some x) d e = absurd (true≢false e)
none_of out None None None (Some x) e = absurd (true≢false e)

one_of : (a b c d : Option (Bor (List ℕ))) → any a b c d ≡ true → text_is a ≡ None → text_is b ≡ None → text_is c ≡ None
    → ¬ (text_is d ≡ None)
unfolding any
one_of None None None None e no_a no_b no_c no_d = true≢false (sym e)
one_of (Some x) b c d e no_a no_b no_c no_d = true≢false (ap is_some no_a)
one_of None (Some x) c d e no_a no_b no_c no_d = true≢false (ap is_some no_b)
one_of None None (Some x) d e no_a no_b no_c no_d = true≢false (ap is_some no_c)
one_of None None None (Some x) e no_a no_b no_c no_d = true≢false (ap is_some no_d)

-- but for `--out` none is given
pub no_others : (options : OptionsValue) → is_any_given options ≡ false → options_are options
    ≡ record none_given { out = text_is options.out }
unfolding any
no_others options e = none_of (text_is options.out) options.tags options.steps options.stack options.work e

-- but for `--out` one is given
pub some_other : (options : OptionsValue) (out : Option (List ℕ)) → is_any_given options ≡ true
    → ¬ (options_are options ≡ record none_given { out = out })
unfolding any
some_other options out e none =
    one_of options.tags options.steps options.stack options.work e (ap (λ o. o.tags) none) (ap (λ o. o.steps) none) (ap (λ o. o.stack) none)
    (ap (λ o. o.work) none)

-- ---- files

length_texts : (xs : List (Bor (List ℕ))) → length (texts xs) ≡ length xs
length_texts [] = refl
length_texts (x ∷ xs) = ap suc (length_texts xs)

-- a file at least
pub some_texts : (xs : List (Bor (List ℕ))) → 1 ≤ length xs → 1 ≤ length (texts xs)
some_texts xs least = omega (arith, length_texts xs)

pub texts_some : (xs : List (Bor (List ℕ))) → 1 ≤ length (texts xs) → 1 ≤ length xs
texts_some xs least = omega (arith, length_texts xs)

-- no file
pub no_texts : (xs : List (Bor (List ℕ))) → length xs ≡ 0 → ¬ (1 ≤ length (texts xs))
no_texts xs none least = omega (arith, length_texts xs)

-- ---- what the parts find

pub file_from : (files : List (List ℕ)) (options : Options) (found : Option (Bor (List ℕ))) → options ≡ none_given → FindsOne files found →
    FindsFile files options found
file_from files options None bare one = record { some = tt; none = λ file is _. one.none file is }
file_from files options (Some x) bare one = record { some = (one.some, bare); none = tt }

pub out_from : (files : ℕ) (options : OptionsValue) → 1 ≤ files → is_any_given options ≡ false
    → FindsOut files (options_are options) options.out
out_from files options least others = finds options.out (no_others options others)
  where
    finds : (out : Option (Bor (List ℕ))) → options_are options ≡ record none_given { out = text_is out }
        → FindsOut files (options_are options) out
    finds None is = record { some = tt; none = λ out _ same. true≢false (sym (ap (λ (o : Options). is_some o.out) (sym is ∙ same))) }
    finds (Some x) is = record { some = (least, is); none = tt }

module _ (files : List (Bor (List ℕ))) (options : OptionsValue) where
  pub nothing_to_go : length files ≡ 0 → Finds (given_as (codes "go") files options) None
  nothing_to_go none = record { some = tt; none = no_go _ _ (λ how some asks. no_texts files none some) }

  pub nothing_to_mean : length files ≡ 0 → Finds (given_as (codes "mean") files options) None
  nothing_to_mean none = record { some = tt; none = no_mean _ _ (λ how some asks. no_texts files none some) }

-- ---- one file

pub first_text : (xs ys : List (Bor (List ℕ))) (d : Bor (List ℕ)) → ys ≡ xs → length ys ≡ 1 → texts xs ≡ (slice_index_or ys 0 d).now ∷ []
first_text xs ys d same one = subst (λ zs. texts zs ≡ (slice_index_or ys 0 d).now ∷ []) same (first ys one)
  where
    first : (zs : List (Bor (List ℕ))) → length zs ≡ 1 → texts zs ≡ (slice_index_or zs 0 d).now ∷ []
    first [] e = absurd (omega arith)
    first (z ∷ []) e = refl
    first (z ∷ w ∷ ws) e = absurd (omega arith)

pub other_texts : (xs ys : List (Bor (List ℕ))) (file : List ℕ) → ys ≡ xs → ¬ (length ys ≡ 1) → ¬ (texts xs ≡ file ∷ [])
other_texts xs ys file same other is = other
    (subst (λ zs. length zs ≡ 1) (sym same)
    (let n : length (texts xs) ≡ 1 = ap length is in omega (arith, length_texts xs)))

-- what is given with the one file
pub run_given : (files : List (Bor (List ℕ))) (file : List ℕ) (options : OptionsValue) → texts files ≡ file ∷ [] →
    given_as (codes "run") files options ≡ given_with (codes "run") file options
run_given files file options one = ap {B = Given}
    (λ fs. record { command = Some (codes "run"); files = fs; options = options_are options }) one

-- what the words have, from what is found
pub some_job : (words : List (List ℕ)) (given : Given) (found : Option JobValue) → IsRead words → given ≡ given_by words
    → Finds given found →
    IfSome found (λ job. HasJob words (job_is job))
some_job words given None read is finds = tt
some_job words given (Some job) read is finds = record { read = read; asks = subst (λ g. Asks g (job_is job)) is finds.some }

pub no_job : (words : List (List ℕ)) (given : Given) (found : Option JobValue) → given ≡ given_by words → Finds given found →
    IfNone found (HasNoJob words)
no_job words given None is finds = λ job has. finds.none job (subst (λ g. Asks g job) (sym is) has.asks)
no_job words given (Some job) is finds = tt

pub formed_job : (given : Given) (found : Option JobValue) → Finds given found → IfSome found (λ job. IsFormed (job_is job))
formed_job given None finds = tt
formed_job given (Some job) finds = asks_formed given (job_is job) finds.some
