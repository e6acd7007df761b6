use Rattle.std.proofs.Common.{drop}
use Rattle.tag_plan.specs.Effects.{AreNumbers}
use Rattle.gen_unit.proofs.scopes.are_numbers.Given as goal

-- if those that are left are numbers from here on, all of them are
abbrev pub invariant-loop-number : goal.invariant-loop-number
invariant-loop-number l = AreNumbers l.slots l.next (drop l.number-index l.numbers) → AreNumbers l.slots 0 l.numbers
