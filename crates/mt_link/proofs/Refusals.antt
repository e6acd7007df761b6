-- What is answered to the refusals of an object and of a link.
use Rattle.std.proofs.Common.{◌≡◌, ◌⊎◌, ℕ, List, [], ◌∷◌, refl, inl, inr}
use Rattle.std.specs.List.{AllByRecursion}
use Rattle.elf_obj.specs.Object.{Object}
use Rattle.elf_obj.specs.ObjectFault.{ObjectFault}
use Rattle.elf_obj.specs.ObjectFile.{IsValid}
use Rattle.elf_obj.specs.declared.refusal.ObjectRefusal.{ObjectRefusal}
use Rattle.elf_obj.specs.declared.refusal.ObjectRefusal.TheVariants as object
use Rattle.linker.specs.LinkFault.{LinkFault}
use Rattle.linker.specs.declared.refusal.LinkRefusal.{LinkRefusal}
use Rattle.linker.specs.declared.refusal.LinkRefusal.TheVariants as link
use Rattle.mt_answers.specs.Answer.{IsAnswerTo, ended_of}
use Rattle.mt_answers.specs.Counted.{IsReadFault}
use Rattle.mt_answers.specs.Refusals.{answer_to_link, answer_to_object}
use Rattle.mt_answers.specs.Seen.{FilesSeen}
use Rattle.mt_link.specs.Link.{AreObjects, RefusesObject, bad_object, NotLinked, no_image}

-- a refusal of an object
pub object_answer : (number : ℕ) (bytes : List ℕ) (refusal : ObjectRefusal) → (refusal ≡ object.NoMemory) ⊎ ObjectFault bytes refusal →
    IsAnswerTo (RefusesObject number bytes) (answer_to_object number refusal)
object_answer number bytes object.NoMemory cause = inl refl
object_answer number bytes refusal (inr fault) = inr (_, refl, bad_object refusal fault)
object_answer number bytes refusal (inl none) = cc

-- it is no fault of a read
pub object_not_read : (number : ℕ) (refusal : ObjectRefusal) → ¬ IsReadFault (ended_of (answer_to_object number refusal)).why
object_not_read number object.NoMemory = λ fault. fault
object_not_read number refusal = λ fault. fault

-- objects of files are valid
pub all_valid : (seen : FilesSeen) (files : List (List ℕ)) (objects : List Object) → AreObjects seen files objects →
    AllByRecursion IsValid objects
all_valid seen [] [] are = tt
all_valid seen [] (o ∷ os) are = absurd are
all_valid seen (f ∷ fs) [] are = absurd are
all_valid seen (f ∷ fs) (o ∷ os) are = (are.0.makes.is_file.valid, all_valid seen fs os are.1)

-- a refusal of the link
pub link_answer : (files : List (List ℕ)) (objects : List Object) (before after : FilesSeen) (refusal : LinkRefusal) →
    AreObjects before files objects → (refusal ≡ link.NoMemory) ⊎ LinkFault objects refusal →
    IsAnswerTo (NotLinked files before after) (answer_to_link refusal)
link_answer files objects before after link.NoMemory are cause = inl refl
link_answer files objects before after refusal are (inr fault) = inr (_, refl, no_image objects refusal are fault)
link_answer files objects before after refusal are (inl none) = cc
