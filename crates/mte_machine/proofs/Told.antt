-- What is known of an outside by what a source and a sink tell of their content.
use Rattle.std.proofs.Common.{◌≡◌, ◌≤◌, ◌-◌, ◌^◌, ℕ, zero, suc, Bool, true, false, List, [], ◌∷◌, ◌++◌, map, take, Option, Some, None}
use Rattle.std.proofs.Common.{refl, sym, ap, ◌∙◌, arith}
use Rattle.std.specs.Prelude.{if◌then◌else◌}
use Rattle.std.proofs.lemmas.List.{append-nil}
use Rattle.mt_outside.specs.Told.{WhereTold}
use Rattle.mt_outside.specs.declared.source.NextAnswer.TheVariants.{Byte, End, Failed as NextFailed}
use Rattle.mt_outside.specs.declared.sink.PutAnswer.TheVariants.{Done, Failed}
use Rattle.mt_outside.specs.Source.{NextGives}
use Rattle.mt_outside.specs.Sink.{PutGives}
use Rattle.a64_code.specs.Outside.{next_number, left_after}
use Rattle.mte_machine.specs.Objects.{MayAnswer, MayHaveTaken}

-- some answers that a source with this content may give
abbrev pub some_answers : Option (List ℕ) → List (Option ℕ)
some_answers None = []
some_answers (Some bytes) = map Some bytes

pub some_answers-may : (input : Option (List ℕ)) → MayAnswer input (some_answers input)
some_answers-may None = tt
some_answers-may (Some bytes) = refl

-- some bytes that a sink with this content may have taken
abbrev pub some_taken : Option (List ℕ) → List ℕ
some_taken None = []
some_taken (Some bytes) = bytes

pub some_taken-may : (output : Option (List ℕ)) → MayHaveTaken output (some_taken output)
some_taken-may None = tt
some_taken-may (Some bytes) = refl

-- what tells goes on telling, whatever else holds
pub goes_telling : (before after : Option (List ℕ)) (Holds : List ℕ → List ℕ → Type 0) → WhereTold before after Holds →
    WhereTold before after (λ _ _. Unit {0})
goes_telling None None Holds told = tt
goes_telling (Some b) (Some a) Holds told = tt
goes_telling None (Some a) Holds told = told
goes_telling (Some b) None Holds told = told

pub tells_still : (told : Option (List ℕ)) → WhereTold told told (λ _ _. Unit {0})
tells_still None = tt
tells_still (Some bytes) = tt

pub tells_then : (before between after : Option (List ℕ)) → WhereTold before between (λ _ _. Unit {0}) →
    WhereTold between after (λ _ _. Unit {0}) → WhereTold before after (λ _ _. Unit {0})
tells_then None None None first second = tt
tells_then None None (Some a) first second = second
tells_then None (Some c) after first second = absurd first
tells_then (Some b) None after first second = absurd first
tells_then (Some b) (Some c) None first second = second
tells_then (Some b) (Some c) (Some a) first second = tt

-- ---- a sink

pub told_put : (before after : Option (List ℕ)) (taken put : List ℕ) → WhereTold before after (PutGives put Done) →
    MayHaveTaken before taken → MayHaveTaken after (taken ++ put)
told_put None None taken put told may = tt
told_put None (Some a) taken put told may = absurd told
told_put (Some b) None taken put told may = absurd told
told_put (Some b) (Some a) taken put told may = ap (λ (t : List ℕ). t ++ put) may ∙ sym told

-- whether a put of one byte that failed took it
pub record Kept (after : Option (List ℕ)) (taken : List ℕ) (byte : ℕ) : Type 0 where
  pub keeps : Bool
  pub may : MayHaveTaken after (if keeps then taken ++ byte ∷ [] else taken)

kept_some : (b a taken : List ℕ) (byte count : ℕ) → count ≤ 1 → a ≡ b ++ take count (byte ∷ []) → taken ≡ b → Kept (Some a) taken byte
kept_some b a taken byte zero few is may = record { keeps = false; may = may ∙ sym (is ∙ append-nil b) }
kept_some b a taken byte (suc zero) few is may = record { keeps = true; may = ap (λ (t : List ℕ). t ++ byte ∷ []) may ∙ sym is }
kept_some b a taken byte (suc (suc count)) few is may = absurd (omega arith)

pub told_failed : (before after : Option (List ℕ)) (taken : List ℕ) (byte : ℕ) → WhereTold before after (PutGives (byte ∷ []) Failed) →
    MayHaveTaken before taken → Kept after taken byte
told_failed None None taken byte told may = record { keeps = false; may = tt }
told_failed None (Some a) taken byte told may = absurd told
told_failed (Some b) None taken byte told may = absurd told
told_failed (Some b) (Some a) taken byte (count, few, is) may = kept_some b a taken byte count few is may

-- ---- a source

-- answers of which the first is this number, and the others are these
pub record Gives (before : Option (List ℕ)) (answers : List (Option ℕ)) (number : ℕ) : Type 0 where
  pub from : List (Option ℕ)
  pub may : MayAnswer before from
  pub tells : next_number from ≡ number
  pub left : left_after from ≡ answers

pub told_byte : (before after : Option (List ℕ)) (byte : ℕ) (answers : List (Option ℕ)) → WhereTold before after (NextGives (Byte byte)) →
    MayAnswer after answers → Gives before answers byte
told_byte None None byte answers told may = record { from = Some byte ∷ answers; may = tt; tells = refl; left = refl }
told_byte None (Some a) byte answers told may = absurd told
told_byte (Some b) None byte answers told may = absurd told
told_byte (Some b) (Some a) byte answers told may = record {
  from = Some byte ∷ answers;
  may = ap (λ (rest : List (Option ℕ)). Some byte ∷ rest) may ∙ sym (ap (λ (bytes : List ℕ). map Some bytes) told);
  tells = refl;
  left = refl;
}

pub told_end : (before after : Option (List ℕ)) (answers : List (Option ℕ)) → WhereTold before after (NextGives End) →
    MayAnswer after answers → Gives before answers (2 ^ 64 - 1)
told_end None None answers told may = record { from = None ∷ answers; may = tt; tells = refl; left = refl }
told_end None (Some a) answers told may = absurd told
told_end (Some b) None answers told may = absurd told
told_end (Some b) (Some a) answers told may = record {
  from = [];
  may = sym (ap (λ (bytes : List ℕ). map Some bytes) told.0);
  tells = refl;
  left = sym (may ∙ ap (λ (bytes : List ℕ). map Some bytes) told.1);
}

pub told_same : (before after : Option (List ℕ)) (answers : List (Option ℕ)) → WhereTold before after (NextGives NextFailed) →
    MayAnswer before answers → MayAnswer after answers
told_same None None answers told may = tt
told_same None (Some a) answers told may = absurd told
told_same (Some b) None answers told may = absurd told
told_same (Some b) (Some a) answers told may = may ∙ sym (ap (λ (bytes : List ℕ). map Some bytes) told)
