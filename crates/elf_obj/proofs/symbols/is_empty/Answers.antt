use Rattle.std.proofs.Common.{◌≡◌, ℕ, suc, false, List, [], ◌∷◌, length, refl, arith}
use Rattle.std.proofs.lemmas.Bool.Decides.{nat_tests}
use Rattle.std.specs.Prelude.{◌==◌}
use Rattle.elf_obj.specs.Rules.{is_empty}
use Rattle.elf_obj.proofs.symbols.is_empty.Goals as goal

more : (n : ℕ) → (suc n == 0) ≡ false
more n = grind (arith, nat_tests)

by_length : (bs : List ℕ) → (length bs == 0) ≡ is_empty bs
by_length [] = refl
by_length (b ∷ bs) = more (length bs)

pub returns : goal.returns
returns c = by_length c.args.bytes.now
