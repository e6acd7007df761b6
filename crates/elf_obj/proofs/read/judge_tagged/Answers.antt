use Rattle.std.proofs.Common.{◌≡◌, ℕ, ◌+◌, ◌*◌, ◌<◌, ◌≤◌, ◌^◌, List, length, sym, ap, subst, ◌∙◌, arith}
use Rattle.elf_obj.specs.Object.{Object}
use Rattle.elf_obj.specs.ObjectFile.{AllNumbered}
use Rattle.elf_obj.specs.Claimed.{claimed}
use Rattle.elf_obj.specs.Laws.ClaimsFit.{ClaimsFit, claims_fit}
use Rattle.elf_obj.proofs.read.judge_tagged.Goals as goal

pub judge_tags-requires-clause-within : goal.judge_tags-requires-clause-within
judge_tags-requires-clause-within c =
    let file : List ℕ = c.args.file.now in
    let short : length file < 2 ^ 63 = omega arith in
    let fit : ClaimsFit file = claims_fit file (λ i. omega (arith, c.type_inv.file i)) short c.requires.held in
    let is : c.deref-2.result.now ≡ (claimed file).tagged = c.deref-2.ensures.value ∙ ap (λ (o : Object). o.tagged) c.requires.parts in
    subst (λ (rs : List ℕ). c.offset_of.result + 24 * length rs ≤ length file) (sym is) (rw c.offset_of.ensures fit.tagged)

pub judge_tags-requires-clause-numbered : goal.judge_tags-requires-clause-numbered
judge_tags-requires-clause-numbered c =
    let file : List ℕ = c.args.file.now in
    let short : length file < 2 ^ 63 = omega arith in
    let fit : ClaimsFit file = claims_fit file (λ i. omega (arith, c.type_inv.file i)) short c.requires.held in
    let is : c.deref-2.result.now ≡ (claimed file).tagged = c.deref-2.ensures.value ∙ ap (λ (o : Object). o.tagged) c.requires.parts in
    subst AllNumbered (sym is) fit.numbered

pub judge_tags-requires-clause-first_low : goal.judge_tags-requires-clause-first_low
judge_tags-requires-clause-first_low c =
    let file : List ℕ = c.args.file.now in
    let short : length file < 2 ^ 63 = omega arith in
    let fit : ClaimsFit file = claims_fit file (λ i. omega (arith, c.type_inv.file i)) short c.requires.held in
    let text : length c.args.parts.now.text_relocs.items ≡ length (claimed file).text_relocs =
    ap (λ (o : Object). length o.text_relocs) c.requires.parts in
    let init : length c.args.parts.now.init_relocs.items ≡ length (claimed file).init_relocs =
    ap (λ (o : Object). length o.init_relocs) c.requires.parts in
    omega (arith, c.len.ensures, c.len-2.ensures, text, init, fit.text_relocs, fit.init_relocs, short)
