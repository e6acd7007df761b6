use Rattle.std.proofs.Common.{◌≡◌, ◌<◌, ◌^◌, ℕ, ℤ, List, [], ◌∷◌, refl, ap, ◌∙◌, arith, Ok}
use Rattle.std.specs.Int.{w64, cast_signed, cast_unsigned}
use Rattle.elf_base.specs.declared.dynamic.Dyn.{Dyn}
use Rattle.elf_base.specs.Field.{signed, number}
use Rattle.elf_base.specs.Place.{number_at}
use Rattle.elf_base.specs.Records.{dyn_fields}
use Rattle.elf_base.specs.Laws.Reads.{fields_like, is_found, is_only, is_within, cast_signed-twice}
use Rattle.elf_base.specs.Laws.Same.{same_dyn}
use Rattle.elf_base.proofs.dynamic.read_dyn.Goals as goal

-- the entry whose fields are what was read
entry_like : (part : List ℕ) (first second : ℕ) (z : ℤ) → first ≡ number_at 8 0 part → first < 2 ^ 64 → z ≡ cast_signed w64 first
    → second ≡ number_at 8 8 part
    → (signed (cast_signed w64 (cast_unsigned w64 z)) ∷ number 8 second ∷ [])
    ≡ (signed (cast_signed w64 (number_at 8 0 part)) ∷ number 8 (number_at 8 8 part) ∷ [])
entry_like part first second z a fits b d =
    let t : cast_signed w64 (cast_unsigned w64 z) ≡ cast_signed w64 (number_at 8 0 part) =
    ap (λ (y : ℤ). cast_signed w64 (cast_unsigned w64 y)) b ∙ cast_signed-twice first fits ∙ ap (cast_signed w64) a in
    cc

pub returns-in_err-part-clause-only : goal.returns-in_err-part-clause-only
returns-in_err-part-clause-only c = λ d fits stands.
    absurd (is_within c.args.bytes.now c.args.at 16 (dyn_fields d) refl fits stands (omega arith) (c.in_err-part.ensures.short.0 refl))

pub returns-clause-found : goal.returns-clause-found
returns-clause-found c =
    let d : Dyn = record { tag = cast_signed w64 (cast_unsigned w64 c.cast_signed.result); value = c.u64_at-2.result } in
    let like : dyn_fields d ≡ fields_like (dyn_fields d) 0 c.in_ok-part.part.now =
    entry_like c.in_ok-part.part.now c.u64_at.result c.u64_at-2.result c.cast_signed.result c.u64_at.ensures c.u64_at.type_inv
    c.cast_signed.ensures c.u64_at-2.ensures in
    is_found c.args.bytes.now c.args.at 16 c.in_ok-part.part.now (dyn_fields d)
    (λ i. omega (arith, c.type_inv.bytes i)) c.in_ok-part.ensures.found refl like

pub returns-clause-only : goal.returns-clause-only
returns-clause-only c = λ d fits stands.
    let e : Dyn = record { tag = cast_signed w64 (cast_unsigned w64 c.cast_signed.result); value = c.u64_at-2.result } in
    let like : dyn_fields e ≡ fields_like (dyn_fields d) 0 c.in_ok-part.part.now =
    entry_like c.in_ok-part.part.now c.u64_at.result c.u64_at-2.result c.cast_signed.result c.u64_at.ensures c.u64_at.type_inv
    c.cast_signed.ensures c.u64_at-2.ensures in
    let same : dyn_fields e ≡ dyn_fields d = is_only c.args.bytes.now c.args.at 16 c.in_ok-part.part.now (dyn_fields d)
    (dyn_fields e) c.in_ok-part.ensures.found refl fits stands like in
    ap Ok (same_dyn e d same)
