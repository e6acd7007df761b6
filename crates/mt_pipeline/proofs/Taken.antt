-- What texts say of the refusal that is their cause.
use Rattle.std.proofs.Common.{◌≡◌, ◌⊎◌, ℕ, List, [], ◌∷◌, sym, subst, inl, inr}
use Rattle.mt_compile.specs.Laws.OneRefusal.{no_constant}
use Rattle.mt_compile.specs.Source.{ReturnsConstant}
use Rattle.mt_pipeline.specs.Agrees.{Return}
use Rattle.mt_pipeline.specs.Built.{RefusesTexts, source, link}
use Rattle.mt_pipeline.specs.Laws.OneBuild.{one_build_refusal}
use Rattle.mt_pipeline.specs.Unbuilt.{IsCause}
use Rattle.mt_answers.specs.declared.refusal.BuildRefusal.{BuildRefusal}
use Rattle.mt_answers.specs.declared.refusal.BuildRefusal.TheVariants.{NoMemory}
use Rattle.mt_compile.specs.declared.refused.Refused.{Refused}
use Rattle.mt_pipeline.proofs.BuildRefused.{one_front, one_links}

-- a text alone that returns a constant has no refusal
one_returns : (text : List ℕ) (n : ℕ) (refusal : BuildRefusal) (place : ℕ) → ReturnsConstant text n →
    RefusesTexts (text ∷ []) refusal place → ⊥
one_returns text n _ _ returns (source {text = found} front back objects parts compiled refuses) =
    no_constant refuses n (subst (λ t. ReturnsConstant t n) (sym (one_front text front back found parts).1) returns)
one_returns text n _ _ returns (link {refusal} objects compiled refuses) = one_links text objects refusal compiled refuses

returns_none : (texts : List (List ℕ)) (n : ℕ) (refusal : BuildRefusal) (place : ℕ) → Return texts n → RefusesTexts texts refusal place → ⊥
returns_none texts n refusal place r refuses =
    one_returns r.text n refusal place r.returns (subst (λ ts. RefusesTexts ts refusal place) r.one refuses)

-- it is not built for want of memory alone
pub constant_taken : (texts : List (List ℕ)) (unbuilt : Refused BuildRefusal) (n : ℕ) → IsCause texts unbuilt → Return texts n →
    unbuilt.refusal ≡ NoMemory
constant_taken texts unbuilt n (inl wanting) r = wanting
constant_taken texts unbuilt n (inr refuses) r = absurd (returns_none texts n unbuilt.refusal unbuilt.place r refuses)

-- and texts that have a refusal are refused so, or for want of memory
pub refused_once : (texts : List (List ℕ)) (unbuilt : Refused BuildRefusal) (other : BuildRefusal) (place : ℕ) →
    IsCause texts unbuilt → RefusesTexts texts other place →
    (unbuilt.refusal ≡ other) ⊎ (unbuilt.refusal ≡ NoMemory)
refused_once texts unbuilt other place (inl wanting) refuses = inr wanting
refused_once texts unbuilt other place (inr found) refuses =
    inl (one_build_refusal texts unbuilt.refusal other unbuilt.place place found refuses).0

pub with_place : (texts : List (List ℕ)) (unbuilt : Refused BuildRefusal) → IsCause texts unbuilt →
    (unbuilt.refusal ≡ NoMemory) ⊎ ((place : ℕ) × RefusesTexts texts unbuilt.refusal place)
with_place texts unbuilt (inl wanting) = inl wanting
with_place texts unbuilt (inr refuses) = inr (unbuilt.place, refuses)
