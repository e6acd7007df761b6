-- What a run asks of the choices and the stack, from what a job has of them.
use Rattle.std.proofs.Common.{◌≡◌, ◌≢◌, ◌≤◌, ℕ, List, [], ◌∷◌, length, arith}
use Rattle.mt_words.specs.Laws.Formed.{IsStackSize}
use Rattle.tag_startup.specs.Parts.{IsStack}

pub not_empty : {A : Type 0} (xs : List A) → 1 ≤ length xs → xs ≢ []
not_empty [] some = λ e. absurd (omega (arith, some))
not_empty (x ∷ xs) some = λ e. cc

pub stack_of : (bytes : ℕ) → IsStackSize bytes → IsStack bytes
stack_of bytes size = record { whole = size.whole; least = size.least; most = size.most }
