use Rattle.std.proofs.Common.{List, map, sym, subst}
use Rattle.std.specs.List.{AllByRecursion}
use Rattle.elf_image.specs.Image.{image_of}
use Rattle.elf_obj.specs.Object.{object_of}
use Rattle.elf_obj.specs.ObjectFile.{IsValid}
use Rattle.elf_obj.specs.declared.parts.ObjectParts.{ObjectParts}
use Rattle.linker.specs.Known.{objects_of, Refuses}
use Rattle.linker.specs.Linked.{Linked}
use Rattle.mt_answers.specs.Answer.{IsAnswerTo}
use Rattle.mt_answers.specs.Each.{names_of}
use Rattle.mt_answers.specs.Laws.Answering.{because}
use Rattle.mt_answers.specs.Laws.EachLaws.{seen_made, seen_stop}
use Rattle.mt_answers.specs.Seen.{files_seen}
use Rattle.mt_answers.specs.declared.answer.Answer.{Answer}
use Rattle.mt_link.specs.Link.{NotLinked, no_object, object_step}
use Rattle.mt_link.proofs.Refusals.{all_valid, link_answer}
use Rattle.mt_link.proofs.linked.link_files.Goals as goal

-- one of them gives no object
pub returns-in-Err-clause-unlinked : goal.returns-in-Err-clause-unlinked
returns-in-Err-clause-unlinked g c =
    let before = files_seen g.F.Files c.args.files.now in
    let after = files_seen g.F.Files c.make_each.new.files in
    because {answer = c.in-Err.answer}
    (λ why stops. no_object (seen_stop object_of object_step before after 0 (names_of c.args.names.now) why stops))
    c.in-Err.ensures.stops

-- the objects of files are valid
pub link-requires : goal.link-requires
link-requires g c =
    let before = files_seen g.F.Files c.args.files.now in
    let after = files_seen g.F.Files c.make_each.new.files in
    subst (λ (parts : List ObjectParts). AllByRecursion IsValid (objects_of parts)) (sym c.deref.ensures.value)
    (all_valid before (names_of c.args.names.now) (map object_of c.in-Ok.objects.items)
    (seen_made object_of object_step before after (names_of c.args.names.now) c.in-Ok.objects.items c.in-Ok.ensures.made))

-- they are linked
pub returns-in-Ok-link-clause-linked : goal.returns-in-Ok-link-clause-linked
returns-in-Ok-link-clause-linked g c =
    let before = files_seen g.F.Files c.args.files.now in
    let after = files_seen g.F.Files c.make_each.new.files in
    record {
      objects = map object_of c.in-Ok.objects.items;
      are = seen_made object_of object_step before after (names_of c.args.names.now) c.in-Ok.objects.items c.in-Ok.ensures.made;
      linked = subst (λ (parts : List ObjectParts). Linked (objects_of parts) (image_of c.in-Ok-link.parts)) c.deref.ensures.value
          c.in-Ok-link.ensures.image;
    }

-- or not
pub returns-clause-unlinked : goal.returns-clause-unlinked
returns-clause-unlinked g c =
    let before = files_seen g.F.Files c.args.files.now in
    let after = files_seen g.F.Files c.make_each.new.files in
    subst (λ (a : Answer). IsAnswerTo (NotLinked (names_of c.args.names.now) before after) a) (sym c.of_link.ensures)
    (link_answer (names_of c.args.names.now) (map object_of c.in-Ok.objects.items) before after c.in-Err-link.refusal
    (seen_made object_of object_step before after (names_of c.args.names.now) c.in-Ok.objects.items c.in-Ok.ensures.made)
    (subst (λ (parts : List ObjectParts). Refuses (objects_of parts) c.in-Err-link.refusal) c.deref.ensures.value
    c.in-Err-link.ensures.refused))
