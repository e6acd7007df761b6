use Rattle.std.proofs.Common.{◌≡◌, ◌≤◌, ◌<◌, length, Ok, arith, inl, inr}
use Rattle.std.specs.Prelude.{IsErr}
use Rattle.std.proofs.lemmas.Bool.{cases_lt}
use Rattle.elf_base.specs.declared.header.Ehdr.{Ehdr}
use Rattle.elf_base.specs.declared.place.Short.{Short}
use Rattle.elf_base.specs.Standing.{ehdr_at}
use Rattle.elf_base.specs.Laws.Standing.{reads_ehdr}
use Rattle.elf_image.proofs.memtag.header_of.Goals as goal

pub returns-in-Ok-clause-some : goal.returns-in-Ok-clause-some
returns-in-Ok-clause-some c =
    let whole : 64 ≤ length c.args.bytes.now = elim (cases_lt (length c.args.bytes.now) 64) [
      | inr within ↦ within
      | inl short ↦ let never : IsErr {T = Ehdr} {E = Short} (Ok c.in-Ok.header) = c.in-Ok.ensures.short.1 short in cc
    ] in
    let same : Ok c.in-Ok.header ≡ Ok (ehdr_at 0 c.args.bytes.now)
    = reads_ehdr c.args.bytes.now 0 (Ok c.in-Ok.header) (λ i. omega (arith, c.type_inv.bytes i)) whole c.in-Ok.ensures.only in
    let is : c.in-Ok.header ≡ ehdr_at 0 c.args.bytes.now = cc in
    (is, whole)
