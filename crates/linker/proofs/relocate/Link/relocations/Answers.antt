use Rattle.std.proofs.Common.{◌≡◌, ℕ, ◌+◌, ◌<◌, ◌^◌, ◌++◌, ◌∷◌, List, Some, map, drop, length, get_or, slice_get}
use Rattle.std.proofs.Common.{subst, ap, sym, ◌∙◌, arith}
use Rattle.std.specs.List.{AllByRecursion}
use Rattle.std.proofs.lemmas.List.{append-nil, length-map, get_or_default}
use Rattle.std.proofs.lemmas.Option.{slice_get-get_or}
use Rattle.elf_obj.specs.declared.parts.ObjectParts.{ObjectParts}
use Rattle.elf_obj.specs.declared.parts.Reloc.{Reloc}
use Rattle.elf_obj.specs.Object.{Object, object_of}
use Rattle.elf_obj.specs.ObjectFile.{IsValid}
use Rattle.elf_image.specs.declared.parts.RelativeReloc.{RelativeReloc}
use Rattle.linker.specs.Relocations.{data_reloc, data_relocs_from}
use Rattle.linker.specs.Known.{objects_of}
use Rattle.linker.proofs.Knowing.{left_is}
use Rattle.linker.proofs.Binding.{none_left}
use Rattle.linker.proofs.Listed.{blank, object_is}
use Rattle.linker.proofs.Recorded.{all_at, offsets_near, places_left}
use Rattle.linker.proofs.relocate.Link.relocations.Goals as goal

pub loop-object-preserved : goal.loop-object-preserved
loop-object-preserved c =
    let ps : List ObjectParts = c.args.self.now.objects.now in
    let os : List Object = objects_of ps in
    let bases = c.args.self.now.layout.bases in
    let k : ℕ = c.loop-object.object in
    let within : k < length os = omega (arith, c.loop-object-test.true, length-map ps object_of) in
    let o : Object = get_or os k blank in
    let there : slice_get os k ≡ Some o = slice_get-get_or os k blank within in
    let left : drop k os ≡ o ∷ drop (k + 1) os = left_is os k o within (get_or_default os k blank o within) in
    let relocs : c.deref.result.now ≡ o.init_relocs =
    c.deref.ensures.value ∙ ap (λ (x : Object). x.init_relocs)
    (object_is ps k o c.index-self-object.result c.loop-object-test.true there) in
    let new = c.in_ok-push_places.ensures.places o there
    ∙ ap (λ (l : List Reloc). c.loop-object.out.items ++ map (data_reloc os bases k o) l) relocs in
    ap (λ (l : List RelativeReloc). l ++ data_relocs_from os bases (k + 1) (drop (k + 1) os)) new
    ∙ places_left os bases k o (drop (k + 1) os) c.loop-object.out.items
    ∙ sym (ap (λ (l : List Object). c.loop-object.out.items ++ data_relocs_from os bases k l) left)
    ∙ c.loop-object.invariant

pub returns-clause-places : goal.returns-clause-places
returns-clause-places c =
    let ps : List ObjectParts = c.args.self.now.objects.now in
    let bases = c.args.self.now.layout.bases in
    let k : ℕ = c.loop-object.object in
    sym (append-nil c.loop-object.out.items)
    ∙ sym (ap (λ (l : List Object). c.loop-object.out.items ++ data_relocs_from (objects_of ps) bases k l)
    (none_left ps k c.loop-object-test.false))
    ∙ c.loop-object.invariant

pub push_places-requires-clause-near : goal.push_places-requires-clause-near
push_places-requires-clause-near c =
    let ps : List ObjectParts = c.args.self.now.objects.now in
    let os : List Object = objects_of ps in
    let k : ℕ = c.loop-object.object in
    let within : k < length os = omega (arith, c.loop-object-test.true, length-map ps object_of) in
    let o : Object = get_or os k blank in
    let there : slice_get os k ≡ Some o = slice_get-get_or os k blank within in
    let relocs : c.deref.result.now ≡ o.init_relocs =
    c.deref.ensures.value ∙ ap (λ (x : Object). x.init_relocs)
    (object_is ps k o c.index-self-object.result c.loop-object-test.true there) in
    subst (AllByRecursion (λ (r : Reloc). r.offset < 2 ^ 63)) (sym relocs)
    (offsets_near o (all_at IsValid os k blank c.requires.valid within))
