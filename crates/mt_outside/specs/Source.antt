-- What the call of a source answers, and what it leaves.
use Rattle.std.specs.Prelude.{◌≡◌, ℕ, List, [], ◌∷◌}
use Rattle.mt_outside.specs.declared.source.NextAnswer.{NextAnswer}
use Rattle.mt_outside.specs.declared.source.NextAnswer.TheVariants.{Byte, End, Failed}

-- the bytes left before and after an answer
abbrev pub NextGives : NextAnswer → List ℕ → List ℕ → Type 0
NextGives (Byte byte) before after = before ≡ byte ∷ after
NextGives End before after = (before ≡ []) × (after ≡ [])
NextGives Failed before after = after ≡ before
