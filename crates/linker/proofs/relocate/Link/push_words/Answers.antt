use Rattle.std.proofs.Common.{ℕ, ◌<◌, ◌≤◌, ◌+◌, ◌++◌, ◌∷◌, drop, [], List, length, ap, sym, ◌∙◌, arith}
use Rattle.std.proofs.lemmas.List.{length-map, drop_all, append-nil}
use Rattle.elf_obj.specs.Object.{Object}
use Rattle.elf_image.specs.declared.parts.RelativeReloc.{RelativeReloc}
use Rattle.linker.specs.Names.{NumberedSymbol}
use Rattle.linker.specs.Sections.{each_from}
use Rattle.linker.specs.Got.{got}
use Rattle.linker.specs.Relocations.{got_reloc}
use Rattle.linker.specs.Known.{objects_of, numbers_of}
use Rattle.linker.specs.Ready.{blank_symbol}
use Rattle.linker.proofs.Recorded.{each_left}
use Rattle.linker.proofs.relocate.Link.push_words.Goals as goal

pub loop-index-preserved : goal.loop-index-preserved
loop-index-preserved c =
    let os : List Object = objects_of c.args.self.now.objects.now in
    let bases = c.args.self.now.layout.bases in
    let i : ℕ = c.loop-index.index in
    let within : i < length (got os) =
    omega (arith, c.loop-index-test.true, ap length c.requires.words, length-map (got os) numbers_of, c.len-index-end.ensures.len) in
    let pushed = c.in_ok-push.ensures.items ∙ ap (λ (r : RelativeReloc). c.loop-index.out.items ++ r ∷ []) c.word_reloc.ensures in
    ap (λ (l : List RelativeReloc). l ++ each_from (i + 1) (got_reloc os bases) (drop (i + 1) (got os))) pushed
    ∙ each_left (got_reloc os bases) (got os) i blank_symbol c.loop-index.out.items within ∙ c.loop-index.invariant

pub returns-clause-words : goal.returns-clause-words
returns-clause-words c =
    let os : List Object = objects_of c.args.self.now.objects.now in
    let bases = c.args.self.now.layout.bases in
    let i : ℕ = c.loop-index.index in
    let past : length (got os) ≤ i =
    omega (arith, c.loop-index-test.false, ap length c.requires.words, length-map (got os) numbers_of, c.len-index-end.ensures.len) in
    sym (append-nil c.loop-index.out.items)
    ∙ sym (ap (λ (l : List NumberedSymbol). c.loop-index.out.items ++ each_from i (got_reloc os bases) l) (drop_all i (got os) past))
    ∙ c.loop-index.invariant
