use Rattle.std.proofs.Common.{◌≡◌, ◌∙◌, sym, ap, subst, inr, Some, None, List, ℕ}
use Rattle.std.specs.Option.{option_copied}
use Rattle.linker.specs.declared.refusal.LinkRefusal.TheVariants.{Undefined}
use Rattle.mean_link.specs.LinkFault.{LinkFault, no_main, missing, first_missing}
use Rattle.mean_link.proofs.judge.judge.Goals as goal

pub returns-then-not-main_is_there-clause-refused : goal.returns-then-not-main_is_there-clause-refused
returns-then-not-main_is_there-clause-refused c =
    inr (no_main c.requires.few c.in_ok-known.ensures.once (sym c.main_is_there.ensures ∙ c.if-not-main_is_there.true))

pub returns-in-Some-clause-refused : goal.returns-in-Some-clause-refused
returns-in-Some-clause-refused c =
    let fs = c.args.files.now in
    let found : first_missing fs ≡ Some c.in-Some.missing.now = sym c.first_missing.ensures ∙ ap option_copied c.in-Some.is in
    inr (subst (λ (n : List ℕ). LinkFault fs (Undefined n)) (sym c.in_ok-name.ensures.same)
    (missing c.requires.few c.in_ok-known.ensures.once (sym c.main_is_there.ensures ∙ c.if-not-main_is_there.false) found))

pub returns-clause-linked : goal.returns-clause-linked
returns-clause-linked c = record {
  few = c.requires.few;
  once = c.in_ok-known.ensures.once;
  main = sym c.main_is_there.ensures ∙ c.if-not-main_is_there.false;
  defined = sym c.first_missing.ensures ∙ ap option_copied c.in_default.is;
}
