use Rattle.std.proofs.Common.{◌≡◌, ◌<◌, ◌≤◌, ℕ, true}
use Rattle.tag_pages.specs.Parts.{has_number}
use Rattle.tag_pages.proofs.numbers.add_numbers.Given as goal

-- the numbers up to here were added
pub record AreAdded (l : goal.Live-loop-number) : Type 0 where
  pub kept : (n : ℕ) → has_number l.initial.numbers.items n ≡ true → has_number l.numbers.items n ≡ true
  pub added : (n : ℕ) → l.first ≤ n → n < l.number → has_number l.numbers.items n ≡ true

abbrev pub invariant-loop-number : goal.invariant-loop-number
invariant-loop-number l = AreAdded l
