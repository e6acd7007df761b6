use Rattle.std.proofs.Common.{◌≡◌, ◌==◌, ◌-◌, ◌∙◌, drop, take, length, sym, ap, bit_and}
use Rattle.std.proofs.Math.Seq.{take-length}
use Rattle.std.proofs.lemmas.List.{length-drop}
use Rattle.std.specs.List.{find}
use Rattle.a64_code.specs.declared.rows.TheConstants.{ROWS}
use Rattle.a64_code.proofs.find.first_from.Goals as goal

-- To the end of the table is all that is left of it.
pub returns : goal.returns
returns c =
    let rest = drop c.args.start ROWS in
    let whole : take (length ROWS - c.args.start) rest ≡ rest =
    ap (λ n. take n rest) (sym (length-drop c.args.start ROWS)) ∙ take-length rest in
    c.first_of.ensures ∙ ap (find (λ r. bit_and c.args.word r.fixed == r.base)) whole
