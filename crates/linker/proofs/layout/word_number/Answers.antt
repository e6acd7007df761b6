use Rattle.std.proofs.Common.{Bool, ◌&&◌, ◌==◌, ◌∙◌, refl}
use Rattle.linker.specs.declared.names.Numbers.{Numbers}
use Rattle.linker.specs.Got.{got}
use Rattle.linker.proofs.Firsts.{place_is, found_place, no_place}
use Rattle.linker.proofs.layout.word_number.Goals as goal

-- numbers are compared field by field
abbrev equal : Numbers → Numbers → Bool
equal a b = a.object == b.object && a.number == b.number

pub returns-in-Some-clause-number : goal.returns-in-Some-clause-number
returns-in-Some-clause-number c = λ objects e is numbers.
    found_place c.args.table.now.keys (equal c.args.numbers) c.in-Some.index c.in-Some.ensures.index
    ∙ place_is c.args.table.now.keys (got objects) e c.args.numbers equal (λ a b. refl) is numbers

pub returns-in-None-clause-number : goal.returns-in-None-clause-number
returns-in-None-clause-number c = λ objects e is numbers.
    c.len.ensures.len ∙ no_place c.args.table.now.keys (equal c.args.numbers) c.in-None.ensures.index
    ∙ place_is c.args.table.now.keys (got objects) e c.args.numbers equal (λ a b. refl) is numbers
