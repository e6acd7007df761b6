use Rattle.std.proofs.Common.{◌≡◌, ◌+◌, ◌*◌, ◌<◌, ◌≤◌, length, refl, subst, sym, ap, ◌∙◌, arith}
use Rattle.std.specs.Prelude.{IsTrue}
use Rattle.elf_base.specs.declared.header.Ehdr.{Ehdr}
use Rattle.elf_image.specs.MemtagFile.{BeginsElf, header_of, HasHeader}
use Rattle.elf_image.specs.MemtagEntries.{MemtagFault, not_elf, no_header, other_machine, other_headers, headers_cut}
use Rattle.elf_image.proofs.Reading.{past_end}
use Rattle.elf_image.proofs.memtag.headers_of.Goals as goal

pub returns-then-not-begins_elf-clause-refused : goal.returns-then-not-begins_elf-clause-refused
returns-then-not-begins_elf-clause-refused c =
    not_elf (λ begins. let is : IsTrue c.begins_elf.result = c.begins_elf.ensures.1 begins in cc)

pub returns-in_default-clause-refused : goal.returns-in_default-clause-refused
returns-in_default-clause-refused c =
    subst (MemtagFault c.args.bytes.now) (sym c.cut.ensures)
    (no_header (c.begins_elf.ensures.0 c.if-not-begins_elf.false) c.in_default.ensures.none)

pub returns-then-header-ne-MACHINE-clause-refused : goal.returns-then-header-ne-MACHINE-clause-refused
returns-then-header-ne-MACHINE-clause-refused c =
    let same : c.in-Some.header ≡ header_of c.args.bytes.now = c.in-Some.ensures.some.0 in
    other_machine (c.begins_elf.ensures.0 c.if-not-begins_elf.false) c.in-Some.ensures.some.1
    (λ is. c.if-header-ne-MACHINE.true (ap (λ (h : Ehdr). h.machine) same ∙ is))

pub returns-then-header-ne-HEADER_BYTES-clause-refused : goal.returns-then-header-ne-HEADER_BYTES-clause-refused
returns-then-header-ne-HEADER_BYTES-clause-refused c =
    let same : c.in-Some.header ≡ header_of c.args.bytes.now = c.in-Some.ensures.some.0 in
    let header : HasHeader c.args.bytes.now = record {
      begins = c.begins_elf.ensures.0 c.if-not-begins_elf.false;
      whole = c.in-Some.ensures.some.1;
      machine = sym (ap (λ (h : Ehdr). h.machine) same) ∙ c.if-header-ne-MACHINE.false;
    } in
    other_headers header (λ is. c.if-header-ne-HEADER_BYTES.true (ap (λ (h : Ehdr). h.phentsize) same ∙ is))

pub returns-else-are_there-clause-refused : goal.returns-else-are_there-clause-refused
returns-else-are_there-clause-refused c =
    let same : c.in-Some.header ≡ header_of c.args.bytes.now = c.in-Some.ensures.some.0 in
    let header : HasHeader c.args.bytes.now = record {
      begins = c.begins_elf.ensures.0 c.if-not-begins_elf.false;
      whole = c.in-Some.ensures.some.1;
      machine = sym (ap (λ (h : Ehdr). h.machine) same) ∙ c.if-header-ne-MACHINE.false;
    } in
    let place : c.in-Some.header.phoff ≡ (header_of c.args.bytes.now).phoff = ap (λ (h : Ehdr). h.phoff) same in
    let count : c.from.result ≡ (header_of c.args.bytes.now).phnum = c.from.ensures ∙ ap (λ (h : Ehdr). h.phnum) same in
    let short : length c.args.bytes.now < c.in-Some.header.phoff + 56 * c.from.result
    = past_end c.in-Some.header.phoff (56 * c.from.result) (length c.args.bytes.now)
    (λ within. let is : IsTrue c.are_there.result = c.are_there.ensures.1 within in cc) in
    subst (MemtagFault c.args.bytes.now) (sym c.cut-else-are_there.ensures)
    (headers_cut header (sym (ap (λ (h : Ehdr). h.phentsize) same) ∙ c.if-header-ne-HEADER_BYTES.false) (omega arith))
