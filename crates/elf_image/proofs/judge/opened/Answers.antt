use Rattle.std.proofs.Common.{◌≡◌, ap, sym, ◌∙◌, arith, Result, Ok}
use Rattle.elf_base.specs.declared.header.Ehdr.{Ehdr}
use Rattle.elf_base.specs.declared.place.Short.{Short}
use Rattle.elf_base.specs.Standing.{ehdr_at}
use Rattle.elf_base.specs.Laws.Standing.{reads_ehdr}
use Rattle.elf_image.specs.Heads.{heads_of}
use Rattle.elf_image.proofs.Judging.{Headed, long_enough, other_machine, headers_cut, headers_there}
use Rattle.elf_image.proofs.judge.opened.Goals as goal

abbrev read : Ehdr → Result Ehdr Short
read h = Ok h

same : (h g : Ehdr) → read h ≡ read g → h ≡ g
same h g e = cc

pub returns-then-not-header : goal.returns-then-not-header
returns-then-not-header c =
    let headed : Headed c.args.bytes.now c.in-Ok.header = record {
      agrees = sym c.agrees.ensures ∙ c.if-not-agrees.false;
      long = long_enough c.args.bytes.now c.read_ehdr.result c.in-Ok.header c.in-Ok.is c.read_ehdr.ensures.short;
      header = same c.in-Ok.header (ehdr_at 0 c.args.bytes.now) (sym c.in-Ok.is
          ∙ reads_ehdr c.args.bytes.now 0 c.read_ehdr.result (λ i. omega (arith, c.type_inv.bytes i))
          (long_enough c.args.bytes.now c.read_ehdr.result c.in-Ok.header c.in-Ok.is c.read_ehdr.ensures.short) c.read_ehdr.ensures.only);
    } in
    other_machine c.args.bytes.now c.in-Ok.header headed c.if-not-header.either

pub returns-then-not-ends_by : goal.returns-then-not-ends_by
returns-then-not-ends_by c =
    let headed : Headed c.args.bytes.now c.in-Ok.header = record {
      agrees = sym c.agrees.ensures ∙ c.if-not-agrees.false;
      long = long_enough c.args.bytes.now c.read_ehdr.result c.in-Ok.header c.in-Ok.is c.read_ehdr.ensures.short;
      header = same c.in-Ok.header (ehdr_at 0 c.args.bytes.now) (sym c.in-Ok.is
          ∙ reads_ehdr c.args.bytes.now 0 c.read_ehdr.result (λ i. omega (arith, c.type_inv.bytes i))
          (long_enough c.args.bytes.now c.read_ehdr.result c.in-Ok.header c.in-Ok.is c.read_ehdr.ensures.short) c.read_ehdr.ensures.only);
    } in
    headers_cut c.args.bytes.now c.in-Ok.header headed c.if-not-header.false.0 c.if-not-header.false.1
    (sym c.ends_by.ensures ∙ c.if-not-ends_by.true)

pub returns : goal.returns
returns c =
    let headed : Headed c.args.bytes.now c.in-Ok.header = record {
      agrees = sym c.agrees.ensures ∙ c.if-not-agrees.false;
      long = long_enough c.args.bytes.now c.read_ehdr.result c.in-Ok.header c.in-Ok.is c.read_ehdr.ensures.short;
      header = same c.in-Ok.header (ehdr_at 0 c.args.bytes.now) (sym c.in-Ok.is
          ∙ reads_ehdr c.args.bytes.now 0 c.read_ehdr.result (λ i. omega (arith, c.type_inv.bytes i))
          (long_enough c.args.bytes.now c.read_ehdr.result c.in-Ok.header c.in-Ok.is c.read_ehdr.ensures.short) c.read_ehdr.ensures.only);
    } in (
      c.heads_of.ensures ∙ ap (λ (h : Ehdr). heads_of h c.args.bytes.now) headed.header,
      headers_there c.args.bytes.now c.in-Ok.header headed c.if-not-header.false.0 c.if-not-header.false.1
          (sym c.ends_by.ensures ∙ c.if-not-ends_by.false),
    )
