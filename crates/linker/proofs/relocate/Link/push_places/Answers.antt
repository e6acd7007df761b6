use Rattle.std.proofs.Common.{ℕ, pos, ◌+◌, ◌++◌, ◌∷◌, [], List, map, drop, ap, sym, ◌∙◌}
use Rattle.std.proofs.lemmas.List.{drop_all, append-nil}
use Rattle.elf_obj.specs.declared.parts.Reloc.{Reloc}
use Rattle.elf_obj.specs.Object.{Object}
use Rattle.elf_image.specs.declared.parts.RelativeReloc.{RelativeReloc}
use Rattle.linker.specs.Relocations.{data_reloc}
use Rattle.linker.specs.Known.{objects_of}
use Rattle.linker.proofs.Recorded.{map_left}
use Rattle.linker.proofs.relocate.Link.push_places.Goals as goal

-- what an index past the end reads as
abbrev no_reloc : Reloc
no_reloc = record { offset = 0; kind = 0; symbol = 0; addend = pos 0 }

pub loop-reloc-preserved : goal.loop-reloc-preserved
loop-reloc-preserved c = λ o there.
    let os : List Object = objects_of c.args.self.now.objects.now in
    let i : ℕ = c.loop-reloc.reloc-index in
    let rs : List Reloc = c.args.relocs.now in
    let f : Reloc → RelativeReloc = data_reloc os c.args.self.now.layout.bases c.args.object o in
    let pushed = c.in_ok-push.ensures.items ∙ ap (λ (r : RelativeReloc). c.loop-reloc.out.items ++ r ∷ []) (c.data_reloc.ensures o there) in
    ap (λ (l : List RelativeReloc). l ++ map f (drop (i + 1) rs)) pushed
    ∙ map_left f rs i no_reloc c.loop-reloc.out.items c.loop-reloc-test.true
    ∙ c.loop-reloc.invariant o there

pub returns-clause-places : goal.returns-clause-places
returns-clause-places c = λ o there.
    let os : List Object = objects_of c.args.self.now.objects.now in
    let i : ℕ = c.loop-reloc.reloc-index in
    let rs : List Reloc = c.args.relocs.now in
    let f : Reloc → RelativeReloc = data_reloc os c.args.self.now.layout.bases c.args.object o in
    sym (append-nil c.loop-reloc.out.items)
    ∙ sym (ap (λ (l : List Reloc). c.loop-reloc.out.items ++ map f l) (drop_all i rs c.loop-reloc-test.false))
    ∙ c.loop-reloc.invariant o there
