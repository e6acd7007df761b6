use Rattle.std.proofs.Common.{◌∙◌, ap, ◌/◌, ◌*◌}
use Rattle.mt_base.specs.Memory.{is_mapped}
use Rattle.tag_mem.specs.Answers.{write_answer}
use Rattle.tag_mem.specs.Regions.{extents_of, span_of}
use Rattle.tag_mem.proofs.Judged.{tagged_mapped}
use Rattle.tag_mem.proofs.flat.FlatMemoryTagMemory.set_tag.Goals as goal

-- the sixteen bytes of the granule are in regions
pub put_tag-requires-clause-mapped : goal.put_tag-requires-clause-mapped
put_tag-requires-clause-mapped c =
    ap (λ rs. is_mapped (extents_of rs) c.args.at) c.deref-in-Done.ensures.value
    ∙ tagged_mapped (extents_of c.args.self.now.regions.items) (span_of c.args.self.now.guard) c.args.at
    (c.in-Done.ensures ∙ ap (λ rs. write_answer (extents_of rs) (span_of c.args.self.now.guard) (c.args.at / 16 * 16) 16)
    c.deref.ensures.value)
