-- An image has one list of objects where it starts, or one refusal, and never both.
use Rattle.std.proofs.Common.{◌≡◌, ◌⊎◌, ℕ, List, Option, Some, None, refl, sym, ap, ◌∙◌, inl, inr}
use Rattle.elf_image.specs.Image.{Image}
use Rattle.memtag_desc.specs.declared.interval.Interval.{Interval}
use Rattle.memtag_desc.specs.Descriptors.{Describes}
use Rattle.memtag_desc.specs.Laws.OneAnswer.{one_list, no_fault, one_fault, one_or_other}
use Rattle.memtag_desc.specs.Laws.ReadNumber.{IsBytes}
use Rattle.tag_startup.specs.declared.refusal.StartRefusal.{StartRefusal}
use Rattle.tag_startup.specs.declared.refusal.StartRefusal.TheVariants.{Descriptors, Outside}
use Rattle.tag_startup.specs.Starts.{AreObjects, Starts, StartFault, descriptors, outside, first_outside}

pub one_list_of : (image : Image) (xs ys : List Interval) → AreObjects image xs → AreObjects image ys → xs ≡ ys
one_list_of image xs ys one other = one_list xs ys image.descriptors one.described other.described

pub one_start : (image : Image) (one other : Starts image) → one.intervals ≡ other.intervals
one_start image one other = one_list_of image one.intervals other.intervals one.objects other.objects

some_none : (n : ℕ) → ◌≡◌ {A = Option ℕ} (Some n) None → ⊥
some_none n e = cc

some_is : (n m : ℕ) → ◌≡◌ {A = Option ℕ} (Some n) (Some m) → n ≡ m
some_is n m e = cc

not_both : (image : Image) (intervals : List Interval) (fault : StartRefusal) → AreObjects image intervals → StartFault image fault → ⊥
not_both image intervals fault are (descriptors refusal is) = no_fault intervals image.descriptors refusal are.described is
not_both image intervals fault are (outside others index described is) =
    some_none index (sym is
    ∙ ap (first_outside image) (one_list others intervals image.descriptors described are.described) ∙ are.inside)

-- an image that starts has no refusal
pub starts_not_refused : (image : Image) (fault : StartRefusal) → Starts image → StartFault image fault → ⊥
starts_not_refused image fault starts is = not_both image starts.intervals fault starts.objects is

-- the refusal is one
pub one_start_fault : (image : Image) (one other : StartRefusal) → StartFault image one → StartFault image other → one ≡ other
one_start_fault image one other (descriptors refusal is) (descriptors second also) =
    ap Descriptors (one_fault image.descriptors refusal second is also)
one_start_fault image one other (descriptors refusal is) (outside intervals index described also) =
    absurd (no_fault intervals image.descriptors refusal described is)
one_start_fault image one other (outside intervals index described is) (descriptors refusal also) =
    absurd (no_fault intervals image.descriptors refusal described also)
one_start_fault image one other (outside intervals index described is) (outside others second also there) =
    ap Outside (some_is index second (sym is
    ∙ ap (first_outside image) (one_list intervals others image.descriptors described also) ∙ there))

-- an image starts or has a refusal
judged : (image : Image) (intervals : List Interval) (found : Option ℕ) → Describes intervals image.descriptors →
    first_outside image intervals ≡ found → Starts image ⊎ ((fault : StartRefusal) × StartFault image fault)
judged image intervals None described is =
    inl (record { intervals = intervals; objects = record { described = described; inside = is } })
judged image intervals (Some index) described is = inr (Outside index, outside intervals index described is)

pub starts_or_refused : (image : Image) → IsBytes image.descriptors → Starts image ⊎ ((fault : StartRefusal) × StartFault image fault)
starts_or_refused image bytes = elim (one_or_other image.descriptors bytes) [
  | inl found ↦ judged image found.0 (first_outside image found.0) found.1 refl
  | inr fault ↦ inr (Descriptors fault.0, descriptors fault.0 fault.1)
]
