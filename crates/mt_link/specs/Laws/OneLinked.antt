-- Of files one image is linked or nothing is, for one reason, where the files are told and no read failed.
use Rattle.std.specs.Prelude.{◌≡◌, ℕ, List}
use Rattle.std.proofs.Common.{ap, sym, subst}
use Rattle.elf_obj.specs.Object.{Object}
use Rattle.elf_obj.specs.ObjectFile.{IsFileOf}
use Rattle.elf_obj.specs.Refusal.{number_of as object_number, place_of as object_place}
use Rattle.elf_obj.specs.Laws.OneFile.{one_fault as one_object_fault}
use Rattle.elf_obj.specs.Laws.OneObject.{one_object, not_both}
use Rattle.elf_obj.specs.declared.refusal.ObjectRefusal.{ObjectRefusal}
use Rattle.elf_image.specs.Image.{Image}
use Rattle.linker.specs.LinkFault.{LinkFault}
use Rattle.linker.specs.Laws.OneFault.{one_fault as one_link_fault}
use Rattle.linker.specs.Refusal.{number_of as link_number}
use Rattle.linker.specs.declared.refusal.LinkRefusal.{LinkRefusal}
use Rattle.mt_answers.specs.Laws.EachLaws.{GoesOneWay, one_each, never_stops, one_stop}
use Rattle.mt_answers.specs.Seen.{FilesSeen, IsTold, ReadFailed}
use Rattle.mt_answers.specs.declared.ended.Why.{Why}
use Rattle.mt_answers.specs.declared.ended.Why.TheVariants.{Link, BadImage}
use Rattle.mt_link.specs.Link.{RefusesObject, bad_object, object_step, AreObjects, AreAccepted, IsLinkedOf, NotLinked, no_object, no_image}

-- ---- one file

refuses_one : (number : ℕ) (bytes : List ℕ) (why other : Why) → RefusesObject number bytes why → RefusesObject number bytes other →
    why ≡ other
refuses_one number bytes _ _ (bad_object a h) (bad_object b g) =
    ap (λ (r : ObjectRefusal). BadImage number (object_number r) (object_place r)) (one_object_fault bytes a b h g)

never_both : (number : ℕ) (bytes : List ℕ) (made : Object) (why : Why) → IsFileOf made bytes → RefusesObject number bytes why → ⊥
never_both number bytes made _ is (bad_object a h) = not_both made bytes a is h

-- a file is that of one object or has one fault
pub one_way : GoesOneWay object_step
one_way = record {
  makes_one = λ bytes made other. one_object made other bytes;
  refuses_one = refuses_one;
  never_both = never_both;
}

-- ---- all of them

module _ (files : List (List ℕ)) (before after : FilesSeen) (told : IsTold before) (no_fault : ¬ ReadFailed before after) where
  -- what a condition refuses is not accepted
  pub accepted_or_not : (objects : List Object) (why : Why) → AreObjects before files objects → AreAccepted objects →
      NotLinked files before after why → ⊥
  accepted_or_not objects why are accepted (no_object stops) =
      never_stops object_step before after one_way told no_fault 0 files objects why are stops
  accepted_or_not objects _ are accepted (no_image others refusal these fault) =
      let same : others ≡ objects = one_each object_step before after one_way told no_fault files others objects these are in
      accepted refusal (subst (λ os. LinkFault os refusal) same fault)

  pub linked_or_not : (image : Image) (why : Why) → IsLinkedOf files before image → NotLinked files before after why → ⊥
  linked_or_not image why is not = accepted_or_not is.objects why is.are is.linked.accepted not

  pub one_reason : (why other : Why) → NotLinked files before after why → NotLinked files before after other → why ≡ other
  one_reason why other (no_object stops) (no_object also) =
      one_stop object_step before after one_way told no_fault 0 files why other stops also
  one_reason why _ (no_object stops) (no_image objects refusal are fault) =
      absurd (never_stops object_step before after one_way told no_fault 0 files objects why are stops)
  one_reason _ other (no_image objects refusal are fault) (no_object also) =
      absurd (never_stops object_step before after one_way told no_fault 0 files objects other are also)
  one_reason _ _ (no_image objects refusal are fault) (no_image others last these also) =
      let same : others ≡ objects = one_each object_step before after one_way told no_fault files others objects these are in
      ap (λ (r : LinkRefusal). Link (link_number r))
      (one_link_fault objects refusal last fault (subst (λ os. LinkFault os last) same also))
