use Rattle.std.proofs.Common.{◌≡◌, ℕ, ◌+◌, ◌<◌, length, sym, subst, ◌∙◌}
use Rattle.std.specs.Prelude.{IsTrue}
use Rattle.elf_image.specs.declared.refusal.ImageRefusal.TheVariants.{BadSegment}
use Rattle.elf_image.specs.MemtagEntries.{MemtagFault, no_dynamic, dynamic_cut}
use Rattle.elf_image.proofs.Reading.{past_end}
use Rattle.elf_image.proofs.memtag.dynamic_segment.Goals as goal

pub returns-in_default-clause-refused : goal.returns-in_default-clause-refused
returns-in_default-clause-refused c =
    subst (λ (n : ℕ). MemtagFault c.args.bytes.now (BadSegment n)) (sym c.requires.are.count)
    (no_dynamic c.requires.are.there (sym c.first_dynamic.ensures ∙ c.in_default.is))

pub returns-else-are_there-clause-refused : goal.returns-else-are_there-clause-refused
returns-else-are_there-clause-refused c =
    let short : length c.args.bytes.now < c.in-Some.segment.offset + c.in-Some.segment.filesz
    = past_end c.in-Some.segment.offset c.in-Some.segment.filesz (length c.args.bytes.now)
    (λ within. let is : IsTrue c.are_there.result = c.are_there.ensures.1 within in cc) in
    subst (MemtagFault c.args.bytes.now) (sym c.cut.ensures)
    (dynamic_cut c.in-Some.segment c.requires.are.there (sym c.first_dynamic.ensures ∙ c.in-Some.is) short)
