use Rattle.std.proofs.Common.{◌≡◌, Option, inr, ap, subst, ◌∙◌}
use Rattle.elf_image.specs.declared.memtag.Found.{Found}
use Rattle.elf_image.specs.MemtagFile.{entries_of, first_of}
use Rattle.elf_image.specs.MemtagEntries.{AreDescriptors, Entries, size_tag, value_of}
use Rattle.elf_image.specs.Laws.ReadMemtag.{no_fault, one_info}
use Rattle.elf_image.proofs.Reading.{IsRefused, IsFound, refused_by, found_by, only, refuses, not_held}
use Rattle.elf_image.proofs.memtag.read_memtag.Goals as goal

pub returns-in_err-headers-clause-refuses : goal.returns-in_err-headers-clause-refuses
returns-in_err-headers-clause-refuses c =
    refuses c.args.bytes.now c.from_residual.result
    (found_by c.args.bytes.now c.from_residual.result c.in_err-headers.field-0.0 c.from_residual.ensures.1)
    (refused_by c.args.bytes.now c.from_residual.result c.in_err-headers.field-0.0 c.from_residual.ensures.1
    (inr c.in_err-headers.ensures.refused))

pub returns-in_err-segment-clause-only : goal.returns-in_err-segment-clause-only
returns-in_err-segment-clause-only c =
    only c.args.bytes.now c.from_residual-in_err-segment.result
    (found_by c.args.bytes.now c.from_residual-in_err-segment.result c.in_err-segment.field-0.0 c.from_residual-in_err-segment.ensures.1)
    (refused_by c.args.bytes.now c.from_residual-in_err-segment.result c.in_err-segment.field-0.0 c.from_residual-in_err-segment.ensures.1
    (inr c.in_err-segment.ensures.refused))

pub returns-in_err-segment-clause-refuses : goal.returns-in_err-segment-clause-refuses
returns-in_err-segment-clause-refuses c =
    refuses c.args.bytes.now c.from_residual-in_err-segment.result
    (found_by c.args.bytes.now c.from_residual-in_err-segment.result c.in_err-segment.field-0.0 c.from_residual-in_err-segment.ensures.1)
    (refused_by c.args.bytes.now c.from_residual-in_err-segment.result c.in_err-segment.field-0.0 c.from_residual-in_err-segment.ensures.1
    (inr c.in_err-segment.ensures.refused))

-- no descriptors, for want of memory or of a segment
refused : (c : goal.After-from_residual-in_err-descriptors) → IsRefused c.args.bytes.now c.from_residual-in_err-descriptors.result
refused c =
    refused_by c.args.bytes.now c.from_residual-in_err-descriptors.result c.in_err-descriptors.field-0.0
    c.from_residual-in_err-descriptors.ensures.1
    (not_held c.args.bytes.now c.in_ok-segment.segment c.first_entry-globals.result c.first_entry-size.result
    c.in_err-descriptors.field-0.0 c.in_ok-segment.ensures.found c.first_entry-globals.ensures c.first_entry-size.ensures
    c.in_err-descriptors.ensures.refused)

found : (c : goal.After-from_residual-in_err-descriptors) → IsFound c.args.bytes.now c.from_residual-in_err-descriptors.result
found c =
    found_by c.args.bytes.now c.from_residual-in_err-descriptors.result c.in_err-descriptors.field-0.0
    c.from_residual-in_err-descriptors.ensures.1

pub returns-in_err-descriptors-clause-only : goal.returns-in_err-descriptors-clause-only
returns-in_err-descriptors-clause-only c =
    only c.args.bytes.now c.from_residual-in_err-descriptors.result (found c) (refused c)

pub returns-in_err-descriptors-clause-refused : goal.returns-in_err-descriptors-clause-refused
returns-in_err-descriptors-clause-refused c = refused c

pub returns-in_err-descriptors-clause-refuses : goal.returns-in_err-descriptors-clause-refuses
returns-in_err-descriptors-clause-refuses c =
    refuses c.args.bytes.now c.from_residual-in_err-descriptors.result (found c) (refused c)

-- what was read
entries : (c : goal.After-value_of-3) → Entries c.args.bytes.now (record {
  mode = c.value_of.result;
  heap = c.value_of-2.result;
  stack = c.value_of-3.result;
  descriptors = c.in_ok-descriptors.descriptors;
})
entries c = record {
  segment = c.in_ok-segment.segment;
  dynamic = c.in_ok-segment.ensures.found;
  mode = c.value_of.ensures ∙ ap value_of c.first_entry.ensures;
  heap = c.value_of-2.ensures ∙ ap value_of c.first_entry-2.ensures;
  stack = c.value_of-3.ensures ∙ ap value_of c.first_entry-3.ensures;
  descriptors = subst
      (λ (g : Option Found). AreDescriptors c.args.bytes.now g (first_of size_tag (entries_of c.args.bytes.now c.in_ok-segment.segment))
      c.in_ok-descriptors.descriptors)
      c.first_entry-globals.ensures
      (subst (λ (s : Option Found). AreDescriptors c.args.bytes.now c.first_entry-globals.result s c.in_ok-descriptors.descriptors)
      c.first_entry-size.ensures c.in_ok-descriptors.ensures.found);
}

pub returns-clause-found : goal.returns-clause-found
returns-clause-found c = entries c

pub returns-clause-only : goal.returns-clause-only
returns-clause-only c = λ info h. one_info c.args.bytes.now _ info (entries c) h

pub returns-clause-refuses : goal.returns-clause-refuses
returns-clause-refuses c = λ fault h. no_fault c.args.bytes.now _ fault (entries c) h
