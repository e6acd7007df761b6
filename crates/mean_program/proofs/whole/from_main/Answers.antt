use Rattle.std.proofs.Common.{◌≡◌, sym, subst, Some}
use Rattle.std.specs.Prelude.{codes, IfSome}
use Rattle.block_meaning.specs.Linkage.{AFunction, function_of, defined}
use Rattle.block_meaning.specs.Meaning.{before}
use Rattle.mean_program.proofs.whole.from_main.Goals as goal

pub returns-in-Some : goal.returns-in-Some
returns-in-Some c = λ program input units files stack.
    let f = c.in-Some.main in
    let is = subst (λ o. IfSome o (λ f. defined c.args.units.now (codes "main") ≡ Some (AFunction (function_of f.unit f.number))))
    c.in-Some.is c.in_ok-main.ensures in
    c.begin-answer.ensures program (before program input c.args.work)
    (c.before-process.ensures program input files stack (c.in_ok-memory.ensures program files))
    (subst (λ u. defined u (codes "main") ≡ Some (AFunction (function_of f.unit f.number))) (sym units) is)
