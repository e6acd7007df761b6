-- Why texts are not built, as the program holds it.
use Rattle.std.specs.Prelude.{◌≡◌, ◌⊎◌, ℕ, List}
use Rattle.mt_compile.specs.declared.refused.Refused.{Refused}
use Rattle.mt_answers.specs.declared.refusal.BuildRefusal.{BuildRefusal}
use Rattle.mt_answers.specs.declared.refusal.BuildRefusal.TheVariants as build
use Rattle.mt_pipeline.specs.Built.{RefusesTexts}

-- memory is wanting, or the texts are refused so
abbrev pub IsCause : List (List ℕ) → Refused BuildRefusal → Type 0
IsCause texts unbuilt = (unbuilt.refusal ≡ build.NoMemory) ⊎ RefusesTexts texts unbuilt.refusal unbuilt.place
