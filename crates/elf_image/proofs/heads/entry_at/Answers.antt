use Rattle.std.proofs.Common.{◌≡◌, ℕ, ◌+◌, ◌*◌, sym, ap, ◌∙◌, arith, Result, Ok}
use Rattle.elf_base.specs.declared.dynamic.Dyn.{Dyn}
use Rattle.elf_base.specs.declared.place.Short.{Short}
use Rattle.elf_base.specs.Standing.{dyn_at}
use Rattle.elf_base.specs.Laws.Standing.{reads_dyn}
use Rattle.elf_image.proofs.heads.entry_at.Goals as goal

abbrev read : Dyn → Result Dyn Short
read d = Ok d

same : (d e : Dyn) → read d ≡ read e → d ≡ e
same d e h = cc

pub returns : goal.returns
returns c =
    let offset = c.args.heads.now.dynamic.offset in
    let place : offset + 16 * c.from.result ≡ offset + 16 * c.args.i = omega arith in
    let is : c.in-Ok.entry ≡ dyn_at (offset + 16 * c.from.result) c.args.bytes.now =
    same c.in-Ok.entry (dyn_at (offset + 16 * c.from.result) c.args.bytes.now) (sym c.in-Ok.is
    ∙ reads_dyn c.args.bytes.now (offset + 16 * c.from.result) c.read_dyn.result (λ i. omega (arith, c.type_inv.bytes i)) (omega arith)
    c.read_dyn.ensures.only) in
    is ∙ ap (λ (k : ℕ). dyn_at k c.args.bytes.now) place
