use Rattle.std.proofs.Common.{◌≤◌, ◌∙◌, sym, subst, inr, length, List, ℕ, arith}
use Rattle.linker.specs.declared.refusal.LinkRefusal.TheVariants.{TooManyObjects}
use Rattle.mean_link.specs.LinkFault.{LinkFault, too_many}
use Rattle.mean_link.specs.Names.{names_in}
use Rattle.mean_link.specs.declared.names.FileNames.{FileNames}
use Rattle.mean_link.proofs.Turns.{length-names_in}
use Rattle.mean_link.proofs.files.link.Goals as goal

pub returns-then-units-gt-MOST_FILES-clause-refused : goal.returns-then-units-gt-MOST_FILES-clause-refused
returns-then-units-gt-MOST_FILES-clause-refused c =
    let ps = c.args.programs.now in
    let us = c.args.units.now in
    let long = length-names_in ps us c.requires in
    inr (subst (λ (n : ℕ). LinkFault (names_in ps us) (TooManyObjects n)) long
    (too_many (omega (arith, long, c.if-units-gt-MOST_FILES.true))))

pub judge-requires : goal.judge-requires
judge-requires c =
    let ps = c.args.programs.now in
    let us = c.args.units.now in
    let long = length-names_in ps us c.requires in
    record {
      few = subst (λ (l : List FileNames). length l ≤ 16) (sym (c.as_slice.ensures ∙ c.in_ok-files.ensures))
          (omega (arith, long, c.if-units-gt-MOST_FILES.false));
    }
