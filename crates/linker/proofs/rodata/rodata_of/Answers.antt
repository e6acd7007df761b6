use Rattle.std.proofs.Common.{ℕ, ◌+◌, List, map, drop, length, sym, ap, ◌∙◌}
use Rattle.elf_base.specs.Layout.{piece}
use Rattle.elf_base.specs.Laying.{put, put_all}
use Rattle.elf_obj.specs.declared.parts.ObjectParts.{ObjectParts}
use Rattle.elf_obj.specs.Object.{Object}
use Rattle.linker.specs.Sections.{round_up, laid}
use Rattle.linker.specs.Known.{objects_of}
use Rattle.linker.specs.Laws.LaidLaws.{laid_more, round_up_16}
use Rattle.linker.proofs.Binding.{objects_left}
use Rattle.linker.proofs.rodata.rodata_of.Goals as goal

pub loop-parts-preserved : goal.loop-parts-preserved
loop-parts-preserved c =
    let ps : List ObjectParts = c.args.objects.now in
    let i : ℕ = c.loop-parts.parts-index in
    let p : ObjectParts = c.parts-item.result in
    let old : List ℕ = c.loop-parts.out.items in
    let rest : List (List ℕ) = map (λ (o : Object). o.rodata) (drop (i + 1) (objects_of ps)) in
    let left = objects_left ps i p c.loop-parts-test.true c.parts-item.is in
    let place = c.next_place-place.ensures ∙ ap (λ (l : List ℕ). round_up 16 (length l)) c.as_slice-so_far.ensures.value in
    let new = c.in_ok-put_bytes.ensures ∙ (λ j. put (piece (place j) (c.as_slice-bytes.ensures j)) old) in
    ap (λ (l : List ℕ). put_all (laid 16 (length l) rest) l) new ∙ sym (laid_more 16 p.rodata rest old round_up_16)
    ∙ sym (ap (λ (l : List Object). put_all (laid 16 (length old) (map (λ o. o.rodata) l)) old) left) ∙ c.loop-parts.invariant
