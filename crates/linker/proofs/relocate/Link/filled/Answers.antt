use Rattle.std.proofs.Common.{◌≡◌, ℕ, ◌+◌, ◌<◌, List, ◌∷◌, Some, drop, length, get_or, slice_get, refl, sym, ap, ◌∙◌, arith}
use Rattle.std.proofs.lemmas.List.{length-map, get_or_default}
use Rattle.std.proofs.lemmas.Option.{slice_get-get_or}
use Rattle.elf_base.specs.Layout.{piece}
use Rattle.elf_base.specs.Laying.{put, put_all}
use Rattle.elf_obj.specs.declared.parts.ObjectParts.{ObjectParts}
use Rattle.elf_obj.specs.Object.{Object, object_of}
use Rattle.linker.specs.Sections.{laid, each_from}
use Rattle.linker.specs.Data.{object_bytes}
use Rattle.linker.specs.Known.{objects_of}
use Rattle.linker.specs.Laws.FilledLaws.{filled_so_far, filled_more}
use Rattle.linker.proofs.Knowing.{left_is}
use Rattle.linker.proofs.Listed.{blank}
use Rattle.linker.proofs.relocate.Link.filled.Goals as goal

pub loop-object-preserved : goal.loop-object-preserved
loop-object-preserved c =
    let ps : List ObjectParts = c.args.self.now.objects.now in
    let os : List Object = objects_of ps in
    let k : ℕ = c.loop-object.object in
    let within : k < length os = omega (arith, c.loop-object-test.true, length-map ps object_of) in
    let o : Object = get_or os k blank in
    let there : slice_get os k ≡ Some o = slice_get-get_or os k blank within in
    let left : drop k os ≡ o ∷ drop (k + 1) os = left_is os k o within (get_or_default os k blank o within) in
    let old : List ℕ = c.loop-object.out.items in
    let rest : List (List ℕ) = each_from (k + 1) (object_bytes os) (drop (k + 1) os) in
    let bytes = c.as_slice-slice.ensures.value ∙ c.in_ok-bytes.ensures.bytes o there in
    let new = c.in_ok-put_bytes.ensures ∙ (λ j. put (piece c.init_start-place.result (bytes j)) old) in
    ap (λ (l : List ℕ). put_all (laid 16 (filled_so_far os (k + 1)) rest) l) new
    ∙ filled_more os k o blank rest old c.init_start-place.result within refl
    (c.init_start-place.ensures os c.requires.ready.starts)
    ∙ sym (ap (λ (l : List Object). put_all (laid 16 (filled_so_far os k) (each_from k (object_bytes os) l)) old) left)
    ∙ c.loop-object.invariant
