use Rattle.std.proofs.Common.{◌≡◌, ◌<◌, ◌^◌, ℕ, ℤ, List, [], ◌∷◌, refl, ap, ◌∙◌, arith, Ok}
use Rattle.std.specs.Int.{w64, cast_signed, cast_unsigned}
use Rattle.elf_base.specs.declared.relocation.Rela.{Rela}
use Rattle.elf_base.specs.Field.{Field, signed, number}
use Rattle.elf_base.specs.Place.{number_at}
use Rattle.elf_base.specs.Records.{rela_fields}
use Rattle.elf_base.specs.Laws.Reads.{fields_like, is_found, is_only, is_within, cast_signed-twice}
use Rattle.elf_base.specs.Laws.Same.{same_rela}
use Rattle.elf_base.proofs.relocation.read_rela.Goals as goal

-- the fields of a relocation that was read
abbrev read_fields : ℕ → ℕ → ℤ → List Field
read_fields offset info addend = number 8 offset ∷ number 8 info ∷ signed addend ∷ []

-- the relocation whose fields are what was read
rela_like : (part : List ℕ) (first second third : ℕ) (z : ℤ) → first ≡ number_at 8 0 part → second ≡ number_at 8 8 part
    → third ≡ number_at 8 16 part → third < 2 ^ 64 → z ≡ cast_signed w64 third
    → read_fields first second (cast_signed w64 (cast_unsigned w64 z))
    ≡ read_fields (number_at 8 0 part) (number_at 8 8 part) (cast_signed w64 (number_at 8 16 part))
rela_like part first second third z a b d fits s =
    let t : cast_signed w64 (cast_unsigned w64 z) ≡ cast_signed w64 (number_at 8 16 part) =
    ap (λ (y : ℤ). cast_signed w64 (cast_unsigned w64 y)) s ∙ cast_signed-twice third fits ∙ ap (cast_signed w64) d in
    cc

pub returns-in_err-part-clause-only : goal.returns-in_err-part-clause-only
returns-in_err-part-clause-only c = λ r fits stands.
    absurd (is_within c.args.bytes.now c.args.at 24 (rela_fields r) refl fits stands (omega arith) (c.in_err-part.ensures.short.0 refl))

pub returns-clause-found : goal.returns-clause-found
returns-clause-found c =
    let r : Rela = record {
      offset = c.u64_at.result;
      info = c.u64_at-2.result;
      addend = cast_signed w64 (cast_unsigned w64 c.cast_signed.result);
    } in
    let like : rela_fields r ≡ fields_like (rela_fields r) 0 c.in_ok-part.part.now =
    rela_like c.in_ok-part.part.now c.u64_at.result c.u64_at-2.result c.u64_at-3.result c.cast_signed.result c.u64_at.ensures
    c.u64_at-2.ensures
    c.u64_at-3.ensures c.u64_at-3.type_inv c.cast_signed.ensures in
    is_found c.args.bytes.now c.args.at 24 c.in_ok-part.part.now (rela_fields r) (λ i. omega (arith, c.type_inv.bytes i))
    c.in_ok-part.ensures.found refl like

pub returns-clause-only : goal.returns-clause-only
returns-clause-only c = λ r fits stands.
    let e : Rela = record {
      offset = c.u64_at.result;
      info = c.u64_at-2.result;
      addend = cast_signed w64 (cast_unsigned w64 c.cast_signed.result);
    } in
    let like : rela_fields e ≡ fields_like (rela_fields r) 0 c.in_ok-part.part.now =
    rela_like c.in_ok-part.part.now c.u64_at.result c.u64_at-2.result c.u64_at-3.result c.cast_signed.result c.u64_at.ensures
    c.u64_at-2.ensures
    c.u64_at-3.ensures c.u64_at-3.type_inv c.cast_signed.ensures in
    ap Ok (same_rela e r (is_only c.args.bytes.now c.args.at 24 c.in_ok-part.part.now (rela_fields r) (rela_fields e)
    c.in_ok-part.ensures.found refl fits stands like))
