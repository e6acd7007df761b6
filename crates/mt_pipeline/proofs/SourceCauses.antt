-- What is built of the sources of a job, or why nothing is: one image, or one reason, where the files are told and no read failed.
use Rattle.std.proofs.Common.{◌≡◌, ◌⊎◌, ℕ, List, [], ◌∷◌, refl, sym, ap, ◌∙◌, subst, inl, inr}
use Rattle.elf_image.specs.Constant.{constant_code, constant_image}
use Rattle.elf_image.specs.Image.{Image}
use Rattle.mt_compile.specs.Compiled.{Compiled}
use Rattle.mt_compile.specs.Refused.{Refuses, number_of}
use Rattle.mt_compile.specs.Source.{ReturnsConstant}
use Rattle.mt_compile.specs.Laws.OneRefusal.{returns_only}
use Rattle.mt_compile.specs.declared.refusal.CompileRefusal.{CompileRefusal}
use Rattle.mt_compile.specs.declared.refusal.CompileRefusal.TheVariants as compile
use Rattle.mt_answers.specs.Answer.{IsAnswerTo, ended_of}
use Rattle.mt_answers.specs.Counted.{IsReadFault}
use Rattle.mt_answers.specs.Each.{Hold, AreMadeOf}
use Rattle.mt_answers.specs.Laws.Answering.{stop_not_usage}
use Rattle.mt_answers.specs.Laws.EachLaws.{GoesOneWay, one_each, never_stops, one_stop, one_hold}
use Rattle.mt_answers.specs.Refusals.{answer_to_link, answer_to_source}
use Rattle.mt_answers.specs.Seen.{FilesSeen, IsTold, ReadFailed}
use Rattle.mt_answers.specs.declared.ended.Why.{Why}
use Rattle.mt_answers.specs.declared.ended.Why.TheVariants.{Link, Refused, Usage}
use Rattle.linker.specs.Refusal.{number_of as link_number}
use Rattle.linker.specs.declared.refusal.LinkRefusal.{LinkRefusal}
use Rattle.linker.specs.declared.refusal.LinkRefusal.TheVariants as link
use Rattle.mt_pipeline.specs.Agrees.{Return}
use Rattle.mt_pipeline.specs.Built.{AreCompiled, Builds, Linked, RefusesLink, too_many, twice, no_main}
use Rattle.mt_pipeline.specs.Laws.BuiltLaws.{of_constant, only_constant}
use Rattle.mt_pipeline.specs.Laws.OneBuild.{compiling}
use Rattle.mt_pipeline.specs.Laws.OneLink.{linking, link_gives, link_stops}
use Rattle.mt_pipeline.specs.Sources.{RefusesSource, source, compiled, IsBuiltOf, NotBuilt, no_code, no_link}
use Rattle.mt_pipeline.proofs.BuiltRuns.{linked_builds}

-- ---- one source

refused_once : (number : ℕ) (text : List ℕ) (why other : Why) → RefusesSource number text why → RefusesSource number text other →
    why ≡ other
refused_once number text _ _ (source {refusal} {byte} first) (source {refusal = last} {byte = place} second) =
    let one = (compiling text).refuses_one refusal last byte place first second in
    λ i. Refused number (number_of (one.0 i)) (one.1 i)

never_both : (number : ℕ) (text words : List ℕ) (why : Why) → Compiled text words → RefusesSource number text why → ⊥
never_both number text words _ has (source {refusal} {byte} refuses) = (compiling text).never_both words refusal byte has refuses

pub compiled_way : GoesOneWay compiled
compiled_way = record {
  makes_one = λ text words other first second. (compiling text).gives_one words other first second;
  refuses_one = refused_once;
  never_both = λ number text words why has refuses. never_both number text words why has refuses;
}

-- ---- the texts that files hold

-- these are the texts of which code was made
record AreTexts (seen : FilesSeen) (files objects : List (List ℕ)) : Type 0 where
  texts : List (List ℕ)
  held : Hold seen files texts
  are : AreCompiled texts objects

texts_of_made : (seen : FilesSeen) (files objects : List (List ℕ)) → AreMadeOf compiled seen files objects → AreTexts seen files objects
texts_of_made seen [] [] made = record { texts = []; held = tt; are = tt }
texts_of_made seen [] (o ∷ os) made = absurd made
texts_of_made seen (f ∷ fs) [] made = absurd made
texts_of_made seen (f ∷ fs) (o ∷ os) made =
    let rest = texts_of_made seen fs os made.1 in
    record {
      texts = made.0.bytes ∷ rest.texts;
      held = (made.0.holds, rest.held);
      are = (made.0.makes, rest.are);
    }

made_of_texts : (seen : FilesSeen) (files texts objects : List (List ℕ)) → Hold seen files texts → AreCompiled texts objects →
    AreMadeOf compiled seen files objects
made_of_texts seen [] [] [] held are = tt
made_of_texts seen [] [] (o ∷ os) held are = absurd are
made_of_texts seen [] (t ∷ ts) objects held are = absurd held
made_of_texts seen (f ∷ fs) [] objects held are = absurd held
made_of_texts seen (f ∷ fs) (t ∷ ts) [] held are = absurd are
made_of_texts seen (f ∷ fs) (t ∷ ts) (o ∷ os) held are =
    (record { bytes = t; holds = held.0; makes = are.0 }, made_of_texts seen fs ts os held.1 are.1)

-- ---- an image, or a reason

pub linked_of : (seen : FilesSeen) (files objects : List (List ℕ)) (image : Image) → AreMadeOf compiled seen files objects →
    Linked objects image → IsBuiltOf files seen image
linked_of seen files objects image made linked =
    let of = texts_of_made seen files objects made in
    record { texts = of.texts; held = of.held; builds = linked_builds of.texts objects image of.are linked }

module _ (files : List (List ℕ)) (before after : FilesSeen) (told : IsTold before) (no_fault : ¬ ReadFailed before after) where
  pub built_or_not : (image : Image) (why : Why) → IsBuiltOf files before image → NotBuilt files before after why → ⊥
  built_or_not image why is (no_code stops) =
      never_stops compiled before after compiled_way told no_fault 0 files is.builds.objects why
      (made_of_texts before files is.texts is.builds.objects is.held is.builds.compiled) stops
  built_or_not image _ is (no_link objects refusal made refuses) =
      let same : is.builds.objects ≡ objects =
      one_each compiled before after compiled_way told no_fault files is.builds.objects objects
      (made_of_texts before files is.texts is.builds.objects is.held is.builds.compiled) made in
      (linking objects).never_both image refusal 0 (link_gives objects (subst (λ os. Linked os image) same is.builds.linked))
      (link_stops objects refuses)

  pub one_reason : (why other : Why) → NotBuilt files before after why → NotBuilt files before after other → why ≡ other
  one_reason why other (no_code stops) (no_code also) =
      one_stop compiled before after compiled_way told no_fault 0 files why other stops also
  one_reason why _ (no_code stops) (no_link objects refusal made refuses) =
      absurd (never_stops compiled before after compiled_way told no_fault 0 files objects why made stops)
  one_reason _ other (no_link objects refusal made refuses) (no_code also) =
      absurd (never_stops compiled before after compiled_way told no_fault 0 files objects other made also)
  one_reason _ _ (no_link objects refusal made refuses) (no_link others last too also) =
      let same : others ≡ objects = one_each compiled before after compiled_way told no_fault files others objects too made in
      let one = (linking objects).refuses_one refusal last 0 0 (link_stops objects refuses)
      (link_stops objects (subst (λ os. RefusesLink os last) same also)) in
      ap (λ r. Link (link_number r)) one.0

-- ---- the text of a constant

-- the code of a text that returns a constant is that of the constant
constant_compiled : (text : List ℕ) (n : ℕ) → ReturnsConstant text n → Compiled text (constant_code n)
constant_compiled text n r = record { constant = n; returns = returns_only r.spelled r.constant; is = refl }

returns_builds : (text : List ℕ) (n : ℕ) → ReturnsConstant text n → Builds (text ∷ []) (constant_image n)
returns_builds text n r =
    linked_builds (text ∷ []) (constant_code n ∷ []) (constant_image n) (constant_compiled text n r, tt)
    (record { words = constant_code n; one = refl; is = refl })

-- files that hold it are built into its image
pub return_built : (seen : FilesSeen) (files texts : List (List ℕ)) (n : ℕ) → Hold seen files texts → Return texts n →
    IsBuiltOf files seen (constant_image n)
return_built seen files texts n held r = record {
  texts = texts;
  held = held;
  builds = subst (λ ts. Builds ts (constant_image n)) (sym r.one) (returns_builds r.text n r.returns);
}

-- and into no other
pub return_image : (seen : FilesSeen) (files texts : List (List ℕ)) (n : ℕ) (image : Image) → IsTold seen → Hold seen files texts →
    Return texts n → IsBuiltOf files seen image → image ≡ constant_image n
return_image seen files texts n image told held r is =
    let of = of_constant is.texts is.builds.objects image is.builds.compiled is.builds.linked in
    let same : texts ≡ is.texts = one_hold seen files texts is.texts told held is.held in
    of.is ∙ ap constant_image (sym (only_constant is.texts image n of (subst (λ ts. Return ts n) same r)))

-- ---- answers

-- a refusal of a source
pub source_answer : (number : ℕ) (text : List ℕ) (refusal : CompileRefusal) (place : ℕ) →
    (refusal ≡ compile.NoMemory) ⊎ Refuses text refusal place →
    IsAnswerTo (RefusesSource number text) (answer_to_source number refusal place)
source_answer number text compile.NoMemory place cause = inl refl
source_answer number text refusal place (inr refuses) = inr (_, refl, source refuses)
source_answer number text refusal place (inl none) = cc

-- a refusal of the link
pub link_answer : (files objects : List (List ℕ)) (before after : FilesSeen) (refusal : LinkRefusal) →
    AreMadeOf compiled before files objects → (refusal ≡ link.NoMemory) ⊎ RefusesLink objects refusal →
    IsAnswerTo (NotBuilt files before after) (answer_to_link refusal)
link_answer files objects before after refusal made (inl wanting) =
    subst (λ r. IsAnswerTo (NotBuilt files before after) (answer_to_link r)) (sym wanting) (inl refl)
link_answer files objects before after _ made (inr (too_many more)) = inr (_, refl, no_link objects _ made (too_many more))
link_answer files objects before after _ made (inr (twice two most)) = inr (_, refl, no_link objects _ made (twice two most))
link_answer files objects before after _ made (inr (no_main none)) = inr (_, refl, no_link objects _ made (no_main none))

-- no such reason is usage
source_not_usage : (number : ℕ) (text : List ℕ) (why : Why) → RefusesSource number text why → why ≡ Usage → ⊥
source_not_usage number text _ (source refuses) is = cc

pub built_not_usage : (files : List (List ℕ)) (before after : FilesSeen) (why : Why) → NotBuilt files before after why → why ≡ Usage → ⊥
built_not_usage files before after why (no_code stops) is =
    stop_not_usage compiled before after (λ number text w refuses. source_not_usage number text w refuses) 0 files why stops is
built_not_usage files before after _ (no_link objects refusal made refuses) is = cc

-- a refusal of a source is no fault of a read
pub source_not_read : (number : ℕ) (refusal : CompileRefusal) (place : ℕ) →
    ¬ IsReadFault (ended_of (answer_to_source number refusal place)).why
source_not_read number compile.NoMemory place = λ fault. fault
source_not_read number refusal place = λ fault. fault
