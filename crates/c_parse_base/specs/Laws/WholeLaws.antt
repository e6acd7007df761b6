-- From the answer of a parser's code on a whole list to what it says of the list.
use Rattle.std.specs.Prelude.{◌≡◌, ℕ, suc, ◌≤◌, Bool, List, [], ◌∷◌, Ok, refl}
use Rattle.std.proofs.Common.{sym, ◌∙◌, subst}
use Rattle.c_parse_base.specs.declared.fault.Fault.{Fault}
use Rattle.c_parse_base.specs.declared.fault.Fault.TheVariants.{Unexpected}
use Rattle.c_parse_base.specs.declared.fault.Stop.{Stop}
use Rattle.c_parse_base.specs.declared.fault.Stop.TheVariants as stop
use Rattle.c_parse_base.specs.Reading.Answer.{Answer, Parser, Stuck}
use Rattle.c_parse_base.specs.Reading.Good.{Language, Good}
use Rattle.c_parse_base.specs.Laws.Deeper.{Grows}
use Rattle.c_parse_base.specs.Reading.Exact.{finish, ended, Exact}
use Rattle.c_parse_base.specs.Laws.ExactLaws.{exact, read_whole}
use Rattle.c_parse_base.specs.Reading.Answers.{Answers, error}

module _ {T A : Type 0} (p : ℕ → Parser T A) (L : Language T A) (height : A → ℕ) {first : T → Bool} {goes_on : A → T → Bool}
    (good : (d : ℕ) → Good (p d) L (λ a. height a ≤ d) first goes_on) (grows : (d : ℕ) → Grows (p d) (p (suc d))) where
  abbrev Says : ℕ → List T → Answer T A → Type 0
  Says d ts o = Exact L height d ts o

  -- a value that is read is the tokens'
  pub gives_read : (d : ℕ) (ts us : List T) (a : A) → Answers (ended (p d) ts) (Ok a) us → L a ts × (height a ≤ d)
  gives_read d ts us a h = let e = subst (λ o. Says d ts o) h.is (exact p L height good grows d ts) in (e.1, e.2)

  -- a stop is at its place
  pub gives_stop : (d : ℕ) (ts us : List T) (f : Fault) → Answers (ended (p d) ts) (error {A = A} (stop.Fault f)) us →
      Says d ts (Stuck f us)
  gives_stop d ts us f h = subst (λ o. Says d ts o) h.is (exact p L height good grows d ts)

  -- a word within the limit is read, if memory is not wanting
  pub all_read : (d : ℕ) (ts us : List T) (a b : A) → L a ts → height a ≤ d → Answers (ended (p d) ts) (Ok b) us → b ≡ a
  all_read d ts us a b l low h = let e = sym h.is ∙ read_whole p L height good grows d a ts l low in cc

  pub none_refused : (d : ℕ) (ts us : List T) (a : A) (s : Stop) → L a ts → height a ≤ d →
      Answers (ended (p d) ts) (error {A = A} s) us → s ≡ stop.NoMemory
  none_refused d ts us a (stop.Fault f) l low h = let e = sym h.is ∙ read_whole p L height good grows d a ts l low in absurd (cc)
  none_refused d ts us a stop.NoMemory l low h = refl
