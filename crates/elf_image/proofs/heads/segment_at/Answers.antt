use Rattle.std.proofs.Common.{◌≡◌, sym, ◌∙◌, arith, Result, Ok}
use Rattle.elf_base.specs.declared.segment.Phdr.{Phdr}
use Rattle.elf_base.specs.declared.place.Short.{Short}
use Rattle.elf_base.specs.Standing.{phdr_at}
use Rattle.elf_base.specs.Laws.Standing.{reads_phdr}
use Rattle.elf_image.proofs.heads.segment_at.Goals as goal

abbrev read : Phdr → Result Phdr Short
read p = Ok p

same : (p q : Phdr) → read p ≡ read q → p ≡ q
same p q e = cc

pub returns : goal.returns
returns c = same c.in-Ok.segment (phdr_at c.args.at c.args.bytes.now) (sym c.in-Ok.is
    ∙ reads_phdr c.args.bytes.now c.args.at c.read_phdr.result (λ i. omega (arith, c.type_inv.bytes i))
    (omega arith) c.read_phdr.ensures.only)
