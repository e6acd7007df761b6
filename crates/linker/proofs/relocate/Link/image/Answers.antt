use Rattle.std.proofs.Common.{◌≡◌, ℕ, ◌%◌, ◌^◌, List, [], map, sym, ap, subst, ◌∙◌, arith}
use Rattle.elf_base.specs.Laying.{put_all}
use Rattle.elf_obj.specs.Object.{Object}
use Rattle.memtag_desc.specs.Descriptors.{Describes}
use Rattle.linker.specs.declared.bases.Bases.{Bases}
use Rattle.linker.specs.declared.plan.Plan.{Plan}
use Rattle.linker.specs.declared.spans.Span.{Span}
use Rattle.linker.specs.Code.{code_pieces}
use Rattle.linker.specs.Relocations.{relocations}
use Rattle.linker.specs.Known.{objects_of}
use Rattle.linker.specs.Totals.{totals_of, filled_by}
use Rattle.linker.specs.Spans.{at_place, AreApart}
use Rattle.linker.specs.Planned.{bases_by}
use Rattle.linker.specs.Laws.FewestLaws.{filled_whole}
use Rattle.linker.specs.Laws.MadeLaws.{made_linked}
use Rattle.linker.proofs.Staged.{same_bases_by, AreSized, sized_parts, spans_near}
use Rattle.linker.proofs.relocate.Link.image.Goals as goal

pub overflow_cast-plan : goal.overflow_cast-plan
overflow_cast-plan c =
    let low = (sized_parts (objects_of c.args.self.now.objects.now) c.args.plan.now c.requires.accepted).filled_low in omega arith

pub filled-requires-clause-size : goal.filled-requires-clause-size
filled-requires-clause-size c = (sized_parts (objects_of c.args.self.now.objects.now) c.args.plan.now c.requires.accepted).filled

pub descriptors-requires-clause-whole : goal.descriptors-requires-clause-whole
descriptors-requires-clause-whole c =
    ap (λ (b : Bases). b.filled % 16) c.requires.places ∙ filled_whole c.args.plan.now.totals c.args.plan.now.count

pub descriptors-requires-clause-apart : goal.descriptors-requires-clause-apart
descriptors-requires-clause-apart c =
    subst (λ (l : List Span). AreApart 0 (2 ^ 32) l) (sym c.deref.ensures.value)
    (spans_near (objects_of c.args.self.now.objects.now) c.args.plan.now c.requires.accepted)

pub overflow_cast-result : goal.overflow_cast-result
overflow_cast-result c =
    let low = (sized_parts (objects_of c.args.self.now.objects.now) c.args.plan.now c.requires.accepted).zeros_low in omega arith

pub returns-clause-image : goal.returns-clause-image
returns-clause-image c =
    let os : List Object = objects_of c.args.self.now.objects.now in
    let p : Plan = c.args.plan.now in
    let a = c.requires.accepted in
    let bases : c.args.self.now.layout.bases ≡ bases_by (totals_of os) p.count = c.requires.places ∙ same_bases_by os p a.plan in
    let sizes : AreSized os p = sized_parts os p a in
    let D : List ℕ = c.in_ok-descriptors.descriptors.items in
    let place : c.args.self.now.layout.bases.filled ≡ filled_by (totals_of os) p.count = ap (λ (b : Bases). b.filled) bases in
    let one : Describes (map (at_place c.args.self.now.layout.bases.filled) p.spans.items) D =
    subst (λ (l : List Span). Describes (map (at_place c.args.self.now.layout.bases.filled) l) D) c.deref.ensures.value
    c.in_ok-descriptors.ensures.described in
    let two : Describes (map (at_place (filled_by (totals_of os) p.count)) p.spans.items) D =
    subst (λ (x : ℕ). Describes (map (at_place x) p.spans.items) D) place one in
    let described : Describes (map (at_place (filled_by (totals_of os) p.count)) p.spans.items) c.new.result =
    subst (λ (b : List ℕ). Describes (map (at_place (filled_by (totals_of os) p.count)) p.spans.items) b) (sym c.new.ensures) two in
    made_linked os p.count p.spans.items _ a.bound a.plan.fewest a.fits a.plan.spans
    (record {
      entry = ap (λ (b : Bases). b.code) bases;
      relocs = c.in_ok-relocs.ensures.places ∙ ap (λ (b : Bases). relocations os b) bases;
      descriptors = described;
      rodata = c.new-2.ensures ∙ c.in_ok-rodata.ensures.bytes;
      words = c.in_ok-words.ensures.words ∙ ap (λ (b : Bases). put_all (code_pieces os b) []) bases;
      filled = c.new-3.ensures ∙ c.in_ok-filled.ensures.bytes;
      zero_bytes = sizes.zeros;
    })
