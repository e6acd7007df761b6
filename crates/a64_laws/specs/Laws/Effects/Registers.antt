-- What is read from registers after a write (this project's own).
use Rattle.std.specs.Prelude.{◌≡◌, ◌≢◌, ℕ, refl}
use Rattle.std.proofs.Common.{eq-eqb}
use Rattle.std.proofs.lemmas.Bool.{ne_eqb}
use Rattle.a64_code.specs.State.{with_value}

pub with_value-same : (f : ℕ → ℕ) (place value : ℕ) → with_value f place value place ≡ value
with_value-same f place value = rw (eq-eqb place place refl) refl

pub with_value-other : (f : ℕ → ℕ) (place value i : ℕ) → i ≢ place → with_value f place value i ≡ f i
with_value-other f place value i other = rw (ne_eqb i place other) refl
