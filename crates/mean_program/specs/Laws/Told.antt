-- What a source and a sink that tell show after a call.
use Rattle.std.proofs.Common.{◌≡◌, refl, subst, Option, Some, None}
use Rattle.mt_outside.specs.Told.{WhereTold}

-- what an object told goes on
pub record Tells {A : Type 0} (after : Option A) (Holds : A → Type 0) : Type 0 where
  pub now : A
  pub is : after ≡ Some now
  pub holds : Holds now

told_on : {A : Type 0} (x : A) (after : Option A) (H : A → A → Type 0) → WhereTold (Some x) after H → Tells after (H x)
told_on x None H told = absurd told
told_on x (Some y) H told = record { now = y; is = refl; holds = told }

pub tells : {A : Type 0} (before after : Option A) (H : A → A → Type 0) (x : A) → before ≡ Some x → WhereTold before after H →
    Tells after (H x)
tells before after H x same told = told_on x after H (subst (λ b. WhereTold b after H) same told)
