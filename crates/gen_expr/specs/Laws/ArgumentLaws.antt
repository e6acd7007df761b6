-- The arguments of a call come into their registers by their number alone.
use Rattle.std.proofs.Common.{◌≡◌, refl, ap, ℕ, zero, suc, List, [], ◌∷◌, ◌++◌, length}
use Rattle.a64_code.specs.declared.instr.Instr.{Instr}
use Rattle.gen_base.specs.Registers.{argument}
use Rattle.gen_base.specs.Waiting.{fetch}
use Rattle.gen_expr.specs.Coded.{Coded}
use Rattle.gen_expr.specs.Nodes.{fetch_arguments}

-- so many of them, from a temp and a number on
abbrev pub fetches : ℕ → ℕ → ℕ → List Instr
fetches t k zero = []
fetches t k (suc n) = fetch t (argument k) ++ fetches (suc t) (suc k) n

pub fetch_arguments-is : (t k : ℕ) (es : List Coded) → fetch_arguments t k es ≡ fetches t k (length es)
fetch_arguments-is t k [] = refl
fetch_arguments-is t k (e ∷ es) = ap (λ is. fetch t (argument k) ++ is) (fetch_arguments-is (suc t) (suc k) es)
