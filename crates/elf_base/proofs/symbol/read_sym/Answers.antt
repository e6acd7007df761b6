use Rattle.std.proofs.Common.{◌≡◌, refl, ap, arith, Ok}
use Rattle.elf_base.specs.declared.symbol.Sym.{Sym}
use Rattle.elf_base.specs.Records.{sym_fields}
use Rattle.elf_base.specs.Laws.Reads.{fields_like, is_found, is_only, is_within}
use Rattle.elf_base.specs.Laws.Same.{same_sym}
use Rattle.elf_base.proofs.symbol.read_sym.Goals as goal

pub returns-in_err-part-clause-only : goal.returns-in_err-part-clause-only
returns-in_err-part-clause-only c = λ s fits stands.
    absurd (is_within c.args.bytes.now c.args.at 24 (sym_fields s) refl fits stands (omega arith) (c.in_err-part.ensures.short.0 refl))

pub returns-clause-found : goal.returns-clause-found
returns-clause-found c =
    let read : Sym =
    record {
      name = c.u32_at.result;
      info = c.u8_at.result;
      other = c.u8_at-2.result;
      shndx = c.u16_at.result;
      value = c.u64_at.result;
      size = c.u64_at-2.result;
    } in
    let like : sym_fields read ≡ fields_like (sym_fields read) 0 c.in_ok-part.part.now =
    rw (c.u32_at.ensures, c.u8_at.ensures, c.u8_at-2.ensures, c.u16_at.ensures, c.u64_at.ensures, c.u64_at-2.ensures) refl in
    is_found c.args.bytes.now c.args.at 24 c.in_ok-part.part.now (sym_fields read) (λ i. omega (arith, c.type_inv.bytes i))
    c.in_ok-part.ensures.found refl like

pub returns-clause-only : goal.returns-clause-only
returns-clause-only c = λ s fits stands.
    let read : Sym =
    record {
      name = c.u32_at.result;
      info = c.u8_at.result;
      other = c.u8_at-2.result;
      shndx = c.u16_at.result;
      value = c.u64_at.result;
      size = c.u64_at-2.result;
    } in
    let like : sym_fields read ≡ fields_like (sym_fields s) 0 c.in_ok-part.part.now =
    rw (c.u32_at.ensures, c.u8_at.ensures, c.u8_at-2.ensures, c.u16_at.ensures, c.u64_at.ensures, c.u64_at-2.ensures) refl in
    ap Ok (same_sym read s (is_only c.args.bytes.now c.args.at 24 c.in_ok-part.part.now (sym_fields s) (sym_fields read)
    c.in_ok-part.ensures.found refl fits stands like))
