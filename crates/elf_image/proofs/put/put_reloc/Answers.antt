use Rattle.std.proofs.Common.{◌≡◌, ◌++◌, [], List, ℕ, ap, ◌∙◌, rules, sym, append_assoc}
use Rattle.std.proofs.lemmas.List.{append-nil}
use Rattle.std.specs.Prelude.{FitsSigned}
use Rattle.std.specs.Int.{w64, cast_unsigned}
use Rattle.std.proofs.lemmas.Int.{to_z-of_z}
use Rattle.elf_base.specs.Field.{field_bytes, signed, number}
use Rattle.elf_base.specs.Laws.Lengths.{field_bytes-signed}
use Rattle.elf_image.proofs.put.put_reloc.Goals as goal

regroup : (o a b c : List ℕ) → ((o ++ a) ++ b) ++ c ≡ o ++ (a ++ (b ++ (c ++ [])))
regroup o a b c = simp (append_assoc, append-nil)

pub returns : goal.returns
returns c =
    let fits : FitsSigned w64 c.args.reloc.now.addend = search rules in
    let addend : field_bytes (number 8 c.cast_unsigned.result) ≡ field_bytes (signed c.args.reloc.now.addend) = ap (λ n. field_bytes
    (number 8 n)) (c.cast_unsigned.ensures ∙ ap (cast_unsigned w64) (to_z-of_z w64 c.args.reloc.now.addend fits)) ∙ sym
    (field_bytes-signed c.args.reloc.now.addend) in
    rw (c.in_ok-push_u64-3.ensures, c.in_ok-push_u64-2.ensures, c.in_ok-push_u64.ensures, addend) (regroup c.args.out.now.items
    (field_bytes (number 8 c.args.reloc.now.place)) (field_bytes (number 8 1027)) (field_bytes (signed c.args.reloc.now.addend)))
