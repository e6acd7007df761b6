use Rattle.std.proofs.Common.{ℕ, ◌/◌, List, slice_set, slice_index, ap, ◌∙◌}
use Rattle.elf_obj.specs.Object.{Object}
use Rattle.linker.specs.declared.fields.Site.{Site}
use Rattle.linker.specs.Fields.{relocated}
use Rattle.linker.specs.Known.{objects_of}
use Rattle.linker.proofs.Relocated.{relocates_at}
use Rattle.linker.proofs.relocate.Link.relocate.Goals as goal

pub returns : goal.returns
returns c = λ o there.
    let os : List Object = objects_of c.args.self.now.objects.now in
    let j : ℕ = c.args.reloc.now.offset / 4 in
    let is = c.relocated.ensures ∙ ap (λ (s : Site). relocated s (slice_index c.args.words.now j)) (c.site-site.ensures o there) in
    relocates_at os c.args.self.now.layout.bases c.args.object o c.args.reloc.now c.args.words.now c.args.out.now
    (slice_set c.args.out.now j c.relocated.result) c.if-reloc-ne0.false c.if-reloc-words.false (ap (slice_set c.args.out.now j) is)
