use Rattle.std.proofs.Common.{◌≤◌, ◌^◌, arith, refl}
use Rattle.c_lex.proofs.NumeralLaws.{first_type-none}
use Rattle.c_lex.proofs.numeral.typed_number.Goals as goal

pub returns-in-None : goal.returns-in-None
returns-in-None c = λ n h.
    let over = rw c.in-None.is at h in
    let large : 2 ^ 64 ≤ n = omega (arith, over) in
    rw (first_type-none n c.args.types.now large) refl
