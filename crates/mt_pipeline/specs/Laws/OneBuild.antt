-- Texts are built into one image, or have one refusal, and not both: each is compiled in turn, and then their code is linked.
use Rattle.std.proofs.Common.{◌≡◌, ℕ, suc, ◌+◌, List, [], ◌∷◌, ◌++◌, length, refl, sym, ap, ◌∙◌, subst, arith}
use Rattle.elf_image.specs.Image.{Image}
use Rattle.elf_image.specs.Constant.{constant_code}
use Rattle.mt_compile.specs.Compiled.{Compiled}
use Rattle.mt_compile.specs.Refused.{Refuses}
use Rattle.mt_compile.specs.Laws.OneRefusal.{no_constant, one_refusal}
use Rattle.mt_compile.specs.Laws.OneWay.{OneWay, GoesOn, Stops, at_first, behind, in_turn, ToldBy, told_by}
use Rattle.mt_compile.specs.declared.refusal.CompileRefusal.{CompileRefusal}
use Rattle.mt_answers.specs.Each.{file_number}
use Rattle.mt_pipeline.specs.Built.{AreCompiled, Builds, RefusesTexts, source, link}
use Rattle.mt_pipeline.specs.Laws.OneLink.{LinkGives, LinkStops, linking, link_gives, link_stops}
use Rattle.mt_answers.specs.declared.refusal.BuildRefusal.{BuildRefusal}
use Rattle.mt_answers.specs.declared.refusal.BuildRefusal.TheVariants.{Compile, Link}

-- ---- one text

one_code : (text words other : List ℕ) → Compiled text words → Compiled text other → words ≡ other
one_code text words other first second =
    first.is ∙ ap constant_code (second.returns.only first.constant first.returns.returns) ∙ sym second.is

one_cause : (text : List ℕ) (r s : CompileRefusal) (p q : ℕ) → Refuses text r p → Refuses text s q → (r ≡ s) × (p ≡ q)
one_cause text r s p q x y = let one = one_refusal x y in (one.same, one.there)

pub compiling : (text : List ℕ) → OneWay (Compiled text) (Refuses text)
compiling text = record {
  gives_one = one_code text;
  refuses_one = one_cause text;
  never_both = λ words r p compiled refuses. no_constant refuses compiled.constant compiled.returns.returns;
}

-- ---- the texts in turn

-- the code of a text, with that of the texts behind it
record InFront (Rest : List (List ℕ) → Type 0) (words : List ℕ) (objects : List (List ℕ)) : Type 0 where
  rest : List (List ℕ)
  is : objects ≡ words ∷ rest
  gives : Rest rest

in_front : {R : Type 0} {Rest : List (List ℕ) → Type 0} {Refuses : R → ℕ → Type 0} (words : List ℕ) → OneWay Rest Refuses →
    OneWay (InFront Rest words) Refuses
in_front words way = record {
  gives_one = λ b c x y. x.is ∙ ap (λ r. words ∷ r) (way.gives_one x.rest y.rest x.gives y.gives) ∙ sym y.is;
  refuses_one = way.refuses_one;
  never_both = λ b r p x. way.never_both x.rest r p x.gives;
}

TextsGive : List (List ℕ) → List (List ℕ) → Type 0
TextsGive [] = λ objects. objects ≡ []
TextsGive (t ∷ ts) = GoesOn (Compiled t) (InFront (TextsGive ts))

-- the first of them has this number
TextsStop : List (List ℕ) → ℕ → BuildRefusal → ℕ → Type 0
TextsStop [] n = λ r p. ⊥
TextsStop (t ∷ ts) n = Stops (Compiled t) (ToldBy (Compile (file_number n)) (Refuses t)) (λ _. TextsStop ts (suc n))

compiling_all : (texts : List (List ℕ)) (n : ℕ) → OneWay (TextsGive texts) (TextsStop texts n)
unfolding TextsGive TextsStop
compiling_all [] n = record {
  gives_one = λ b c x y. x ∙ sym y;
  refuses_one = λ r s p q x y. absurd x;
  never_both = λ b r p x y. y;
}
compiling_all (t ∷ ts) n =
    in_turn (Compiled t) (ToldBy (Compile (file_number n)) (Refuses t)) (InFront (TextsGive ts)) (λ _. TextsStop ts (suc n))
    (told_by (Compile (file_number n)) (compiling t)) (λ words. in_front words (compiling_all ts (suc n)))

texts_give : (texts objects : List (List ℕ)) → AreCompiled texts objects → TextsGive texts objects
unfolding TextsGive
texts_give [] [] compiled = refl
texts_give [] (o ∷ os) compiled = absurd compiled
texts_give (t ∷ ts) [] compiled = absurd compiled
texts_give (t ∷ ts) (o ∷ os) compiled =
    record { between = o; first = compiled.0; second = record { rest = os; is = refl; gives = texts_give ts os compiled.1 } }

texts_stop : (front back objects : List (List ℕ)) (text : List ℕ) (n k : ℕ) (refusal : CompileRefusal) (byte : ℕ) →
    length front + n ≡ k → AreCompiled front objects → Refuses text refusal byte →
    TextsStop (front ++ text ∷ back) n (Compile (file_number k) refusal) byte
unfolding TextsStop
texts_stop [] back [] text n k refusal byte at compiled refuses =
    let same : k ≡ n = omega (arith, at) in
    at_first (record { reason = refusal; refuses = refuses; is = ap (λ m. Compile (file_number m) refusal) same })
texts_stop [] back (o ∷ os) text n k refusal byte at compiled refuses = absurd compiled
texts_stop (f ∷ front) back [] text n k refusal byte at compiled refuses = absurd compiled
texts_stop (f ∷ front) back (o ∷ os) text n k refusal byte at compiled refuses =
    behind o compiled.0 (texts_stop front back os text (suc n) k refusal byte (omega (arith, at)) compiled.1 refuses)

-- ---- and the link

abbrev LinkTold : List (List ℕ) → BuildRefusal → ℕ → Type 0
LinkTold objects = ToldBy Link (LinkStops objects)

abbrev BuildGives : List (List ℕ) → Image → Type 0
BuildGives texts = GoesOn (TextsGive texts) LinkGives

abbrev BuildStops : List (List ℕ) → BuildRefusal → ℕ → Type 0
BuildStops texts = Stops (TextsGive texts) (TextsStop texts 0) LinkTold

building : (texts : List (List ℕ)) → OneWay (BuildGives texts) (BuildStops texts)
building texts =
    in_turn (TextsGive texts) (TextsStop texts 0) LinkGives LinkTold (compiling_all texts 0) (λ objects. told_by Link (linking objects))

build_stops : {texts : List (List ℕ)} {refusal : BuildRefusal} {place : ℕ} → RefusesTexts texts refusal place →
    BuildStops texts refusal place
build_stops (source {text} {refusal} {byte} front back objects parts compiled refuses) =
    at_first (subst (λ ts. TextsStop ts 0 (Compile (file_number (length front)) refusal) byte) (sym parts)
    (texts_stop front back objects text 0 (length front) refusal byte (omega arith) compiled refuses))
build_stops {texts} (link {refusal} objects compiled refuses) =
    behind objects (texts_give texts objects compiled)
    (record { reason = refusal; refuses = link_stops objects refuses; is = refl })

-- ---- the two laws

-- Texts that are refused are built into no image.
pub no_build : (texts : List (List ℕ)) (image : Image) (refusal : BuildRefusal) (place : ℕ) → Builds texts image →
    RefusesTexts texts refusal place → ⊥
no_build texts image refusal place builds refuses =
    let gives : BuildGives texts image =
    record {
      between = builds.objects;
      first = texts_give texts builds.objects builds.compiled;
      second = link_gives builds.objects builds.linked;
    } in
    (building texts).never_both image refusal place gives (build_stops refuses)

-- Two refusals of the same texts are the same, at the same byte.
pub one_build_refusal : (texts : List (List ℕ)) (refusal other : BuildRefusal) (byte place : ℕ) → RefusesTexts texts refusal byte →
    RefusesTexts texts other place → (refusal ≡ other) × (byte ≡ place)
one_build_refusal texts refusal other byte place first second =
    (building texts).refuses_one refusal other byte place (build_stops first) (build_stops second)
