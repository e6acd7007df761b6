use Rattle.std.proofs.Common.{◌≡◌, ◌∙◌, sym, ap, subst, find, inr, Some, None, List, ℕ, refl}
use Rattle.std.specs.Option.{option_copied}
use Rattle.linker.specs.declared.refusal.LinkRefusal.TheVariants.{Duplicate}
use Rattle.mean_link.specs.LinkFault.{LinkFault, repeated, first_repeated}
use Rattle.mean_link.specs.Names.{is_among}
use Rattle.mean_link.proofs.Turns.{repeats_here, repeats_later, known_more, all_known, none_repeated}
use Rattle.mean_link.proofs.judge.defined.Goals as goal

pub returns-in-Some-clause-refused : goal.returns-in-Some-clause-refused
returns-in-Some-clause-refused c =
    let fs = c.args.files.now in
    let known = c.loop-file.known in
    let found : find (is_among known) c.file-item.result.defined ≡ Some c.in-Some.repeated.now =
    ap (find (is_among known)) (sym c.as_slice.ensures) ∙ sym c.first_known.ensures ∙ ap option_copied c.in-Some.is in
    let first : first_repeated fs ≡ Some c.in-Some.repeated.now =
    repeats_here fs c.loop-file.file-index c.file-item.result c.loop-file-test.true c.file-item.is known c.in-Some.repeated.now
    c.loop-file.invariant.known found c.loop-file.invariant.once in
    inr (subst (λ (n : List ℕ). LinkFault fs (Duplicate n)) (sym c.in_ok-name.ensures.same) (repeated c.requires.few first))

pub loop-file-preserved : goal.loop-file-preserved
loop-file-preserved c =
    let fs = c.args.files.now in
    let known = c.loop-file.known in
    let found : find (is_among known) c.file-item.result.defined ≡ None =
    ap (find (is_among known)) (sym c.as_slice.ensures) ∙ sym c.first_known.ensures ∙ ap option_copied c.in_default.is in
    record {
      known = known_more fs c.loop-file.file-index c.file-item.result c.loop-file-test.true c.file-item.is known c.add_all.new.known
          c.loop-file.invariant.known (rw c.as_slice-in-loop-file.ensures at c.in_ok-add_all.ensures);
      once = repeats_later fs c.loop-file.file-index c.file-item.result c.loop-file-test.true c.file-item.is known
          c.loop-file.invariant.known found c.loop-file.invariant.once;
    }

pub returns-clause-known : goal.returns-clause-known
returns-clause-known c =
    all_known c.args.files.now c.loop-file.file-index c.loop-file-test.false c.loop-file.known c.loop-file.invariant.known

pub returns-clause-once : goal.returns-clause-once
returns-clause-once c = none_repeated c.args.files.now c.loop-file.file-index c.loop-file-test.false c.loop-file.invariant.once
