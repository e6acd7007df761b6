use Rattle.std.proofs.Common.{◌≡◌, ◌⊎◌, ◌∙◌, Some, sym, ap, subst, inr, arith}
use Rattle.elf_image.specs.Image.{image_of}
use Rattle.memtag_desc.specs.declared.refusal.DescRefusal.TheVariants as desc
use Rattle.memtag_desc.specs.Descriptors.{Describes}
use Rattle.memtag_desc.specs.Faults.{HasFault}
use Rattle.tag_startup.specs.Starts.{first_outside, outside}
use Rattle.tag_startup.specs.Refusal.{of_descriptors}
use Rattle.tag_startup.proofs.Judged.{index_fits, refused_by, descriptors_cause}
use Rattle.tag_startup.proofs.judge.objects_of.Goals as goal

pub returns-in_err-objects-clause-refused : goal.returns-in_err-objects-clause-refused
returns-in_err-objects-clause-refused c =
    let e = c.in_err-objects.field-0.0 in
    refused_by (image_of c.args.image.now) c.from_residual.result (of_descriptors e) c.from_residual.ensures.1
    (descriptors_cause (image_of c.args.image.now) e
    (subst (λ bytes. (e ≡ desc.NoMemory) ⊎ HasFault bytes e) c.as_slice.ensures c.in_err-objects.ensures.refused))

-- the objects that were read, and the first that is outside
described : (c : goal.In-Some) → Describes c.in_ok-objects.objects.items (image_of c.args.image.now).descriptors
described c = subst (Describes c.in_ok-objects.objects.items) c.as_slice.ensures c.in_ok-objects.ensures.found

first_is : (c : goal.In-Some) → first_outside (image_of c.args.image.now) c.in_ok-objects.objects.items ≡ Some c.in-Some.index
first_is c = sym (c.in-Some.ensures ∙ ap (first_outside (image_of c.args.image.now)) c.deref.ensures.value)

pub overflow_cast-result : goal.overflow_cast-result
overflow_cast-result c =
    let image = image_of c.args.image.now in
    omega (arith, index_fits image c.in_ok-objects.objects.items c.in-Some.index c.requires (described c) (first_is c))

pub returns-in-Some-clause-refused : goal.returns-in-Some-clause-refused
returns-in-Some-clause-refused c =
    let image = image_of c.args.image.now in
    let objects = c.in_ok-objects.objects.items in
    let are : Describes objects image.descriptors =
    subst (Describes objects) c.as_slice.ensures c.in_ok-objects.ensures.found in
    let is : first_outside image objects ≡ Some c.in-Some.index =
    sym (c.in-Some.ensures ∙ ap (first_outside image) c.deref.ensures.value) in
    inr (outside objects c.in-Some.index are is)
