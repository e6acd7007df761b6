use Rattle.std.proofs.Common.{◌≡◌, ℕ, ◌+◌, ◌*◌, ◌<◌, ◌≤◌, ◌^◌, List, length, sym, ap, subst, ◌∙◌, arith}
use Rattle.elf_obj.specs.declared.parts.Reloc.{Reloc}
use Rattle.elf_obj.specs.Object.{Object}
use Rattle.elf_obj.specs.ObjectFile.{AllCounted}
use Rattle.elf_obj.specs.Claimed.{claimed}
use Rattle.elf_obj.specs.Laws.ClaimsFit.{ClaimsFit, claims_fit}
use Rattle.elf_obj.proofs.read.judge_code.Goals as goal

pub judge_relocs-requires-clause-within : goal.judge_relocs-requires-clause-within
judge_relocs-requires-clause-within c =
    let file : List ℕ = c.args.file.now in
    let short : length file < 2 ^ 63 = omega arith in
    let fit : ClaimsFit file = claims_fit file (λ i. omega (arith, c.type_inv.file i)) short c.requires.held in
    let is : c.deref.result.now ≡ (claimed file).text_relocs =
    c.deref.ensures.value ∙ ap (λ (o : Object). o.text_relocs) c.requires.parts in
    subst (λ (rs : List Reloc). c.offset_of.result + 24 * length rs ≤ length file) (sym is) (rw c.offset_of.ensures fit.text_relocs)

pub judge_relocs-requires-clause-counted : goal.judge_relocs-requires-clause-counted
judge_relocs-requires-clause-counted c =
    let file : List ℕ = c.args.file.now in
    let short : length file < 2 ^ 63 = omega arith in
    let fit : ClaimsFit file = claims_fit file (λ i. omega (arith, c.type_inv.file i)) short c.requires.held in
    let is : c.deref.result.now ≡ (claimed file).text_relocs =
    c.deref.ensures.value ∙ ap (λ (o : Object). o.text_relocs) c.requires.parts in
    subst AllCounted (sym is) fit.text_counted
