-- Why texts are not built, as a cause of the build and of the commands.
use Rattle.std.proofs.Common.{◌≡◌, ◌⊎◌, ℕ, List, [], ◌∷◌, ◌++◌, length, refl, sym, ap, subst, inl, inr, arith}
use Rattle.mt_compile.specs.Refused.{ReadRefuses, faulty, too_long, unexpected, too_deep}
use Rattle.mt_compile.specs.Refused.{Refuses, IsCause as IsSourceCause, unread, not_yet}
use Rattle.mt_compile.specs.declared.refusal.CompileRefusal.{CompileRefusal}
use Rattle.mt_compile.specs.declared.refusal.CompileRefusal.TheVariants as compile
use Rattle.mt_compile.specs.declared.refused.Refused.{Refused}
use Rattle.mt_pipeline.specs.Built.{AreCompiled, RefusesLink, too_many, twice, no_main, RefusesTexts, source, link}
use Rattle.mt_answers.specs.Refusals.{of_source, of_link}
use Rattle.mt_pipeline.specs.Unbuilt.{IsCause}
use Rattle.mt_answers.specs.declared.refusal.BuildRefusal.TheVariants as build
use Rattle.linker.specs.declared.refusal.LinkRefusal.{LinkRefusal}
use Rattle.linker.specs.declared.refusal.LinkRefusal.TheVariants as linking

-- ---- of the build

source_refuses : (texts front back objects : List (List ℕ)) (text : List ℕ) (file byte : ℕ) (refusal : CompileRefusal) →
    texts ≡ front ++ text ∷ back → AreCompiled front objects →
    length front ≡ file → Refuses text refusal byte → ¬ (refusal ≡ compile.NoMemory) → IsCause texts (of_source file refusal byte)
source_refuses texts front back objects text file byte (compile.Lex r) parts compiled at refuses differ =
    inr (subst (λ n. RefusesTexts texts (of_source n (compile.Lex r) byte).refusal byte) at
    (source front back objects parts compiled refuses))
source_refuses texts front back objects text file byte (compile.Parse r) parts compiled at refuses differ =
    inr (subst (λ n. RefusesTexts texts (of_source n (compile.Parse r) byte).refusal byte) at
    (source front back objects parts compiled refuses))
source_refuses texts front back objects text file byte (compile.Types r) parts compiled at refuses differ =
    inr (subst (λ n. RefusesTexts texts (of_source n (compile.Types r) byte).refusal byte) at
    (source front back objects parts compiled refuses))
source_refuses texts front back objects text file byte (compile.Plan r) parts compiled at refuses differ =
    inr (subst (λ n. RefusesTexts texts (of_source n (compile.Plan r) byte).refusal byte) at
    (source front back objects parts compiled refuses))
source_refuses texts front back objects text file byte compile.NotYet parts compiled at refuses differ =
    inr (subst (λ n. RefusesTexts texts (of_source n compile.NotYet byte).refusal byte) at
    (source front back objects parts compiled refuses))
source_refuses texts front back objects text file byte compile.NoMemory parts compiled at refuses differ = absurd (differ refl)

wants : (texts : List (List ℕ)) (file byte : ℕ) (refusal : CompileRefusal) → refusal ≡ compile.NoMemory →
    IsCause texts (of_source file refusal byte)
wants texts file byte refusal is = subst (λ r. IsCause texts (of_source file r byte)) (sym is) (inl refl)

read_not_memory : (text : List ℕ) (refusal : CompileRefusal) (byte : ℕ) → ReadRefuses text refusal byte → ¬ (refusal ≡ compile.NoMemory)
read_not_memory text _ _ (faulty within first) is = cc
read_not_memory text _ _ (too_long long) is = cc
read_not_memory text _ _ (unexpected held first) is = cc
read_not_memory text _ _ (too_deep held first) is = cc

not_memory : (text : List ℕ) (refusal : CompileRefusal) (byte : ℕ) → Refuses text refusal byte → ¬ (refusal ≡ compile.NoMemory)
not_memory text refusal byte (unread refuses) is = read_not_memory text refusal byte refuses is
not_memory text _ _ (not_yet program spelled none) is = cc

-- the first text that is refused, behind others that have code
pub source_cause : (texts front back objects : List (List ℕ)) (text : List ℕ) (file : ℕ) (refused : Refused CompileRefusal) →
    texts ≡ front ++ text ∷ back → AreCompiled front objects →
    length front ≡ file → IsSourceCause text refused → IsCause texts (of_source file refused.refusal refused.place)
source_cause texts front back objects text file refused parts compiled at (inl wanting) =
    wants texts file refused.place refused.refusal wanting
source_cause texts front back objects text file refused parts compiled at (inr refuses) =
    source_refuses texts front back objects text file refused.place refused.refusal parts compiled at refuses
    (not_memory text refused.refusal refused.place refuses)

-- code that is not linked
pub link_cause : (texts objects : List (List ℕ)) (refusal : LinkRefusal) → AreCompiled texts objects →
    (refusal ≡ linking.NoMemory) ⊎ RefusesLink objects refusal → IsCause texts (of_link refusal)
link_cause texts objects refusal compiled (inl wanting) = subst (λ r. IsCause texts (of_link r)) (sym wanting) (inl refl)
link_cause texts objects _ compiled (inr (too_many more)) = inr (link objects compiled (too_many more))
link_cause texts objects _ compiled (inr (twice two most)) = inr (link objects compiled (twice two most))
link_cause texts objects _ compiled (inr (no_main none)) = inr (link objects compiled (no_main none))

-- ---- of one text

pub one_front : (text : List ℕ) (front back : List (List ℕ)) (found : List ℕ) → text ∷ [] ≡ front ++ found ∷ back →
    (front ≡ []) × (found ≡ text)
one_front text [] back found e = (refl, cc)
one_front text (f ∷ []) back found e = absurd (cc)
one_front text (f ∷ g ∷ front) back found e = absurd (cc)

one_object : (text : List ℕ) (objects : List (List ℕ)) → AreCompiled (text ∷ []) objects → length objects ≡ 1
one_object text [] compiled = absurd compiled
one_object text (o ∷ []) compiled = refl
one_object text (o ∷ p ∷ os) compiled = absurd compiled.1

pub one_links : (text : List ℕ) (objects : List (List ℕ)) (refusal : LinkRefusal) → AreCompiled (text ∷ []) objects →
    RefusesLink objects refusal → ⊥
one_links text objects _ compiled (too_many more) = omega (arith, more, one_object text objects compiled)
one_links text objects _ compiled (twice two most) = omega (arith, two, one_object text objects compiled)
one_links text objects _ compiled (no_main none) = omega (arith, ap length none, one_object text objects compiled)
