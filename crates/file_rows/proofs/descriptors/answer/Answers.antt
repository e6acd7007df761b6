-- Intervals that were read have a description.
use Rattle.std.proofs.Common.{subst, sym}
use Rattle.memtag_desc.specs.Descriptors.{HaveDescription}
use Rattle.memtag_desc.specs.Laws.OneSpelling.{have_description}
use Rattle.file_rows.proofs.descriptors.answer.Goals as goal

pub encode-requires : goal.encode-requires
encode-requires c =
    subst (HaveDescription 0) (sym c.deref.ensures.value)
    (have_description c.in-Ok.intervals.items c.args.bytes.now c.in-Ok.ensures.found)
