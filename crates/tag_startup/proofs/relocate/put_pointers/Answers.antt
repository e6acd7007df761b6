use Rattle.std.proofs.Common.{◌≡◌, ◌+◌, ◌∙◌, get_or, length, pos, ap, sym}
use Rattle.std.proofs.lemmas.List.{drop_all}
use Rattle.mt_base.specs.Memory.{store, store_bytes}
use Rattle.tag_mem.specs.declared.access.Access.TheVariants.{Done}
use Rattle.tag_mem.specs.Answers.{write_answer}
use Rattle.tag_mem.specs.Laws.Bytes.{bytes_of_8}
use Rattle.elf_image.specs.declared.parts.RelativeReloc.{RelativeReloc}
use Rattle.tag_startup.specs.Memory.{CanBeRelocated}
use Rattle.tag_startup.proofs.Storing.{pointer_stored, pointers_put, relocatable}
use Rattle.tag_startup.proofs.relocate.put_pointers.Goals as goal

pub loop-i-preserved : goal.loop-i-preserved
loop-i-preserved g c =
    let d : RelativeReloc = record { place = 0; addend = pos 0 } in
    let now = c.loop-i.memory in
    let r = get_or c.args.relocs.now c.loop-i.i d in
    let at = 268435456 + r.place in
    let can : CanBeRelocated (g.M.TagMemory.regions now) (g.M.TagMemory.guard now) r =
    relocatable (g.M.TagMemory.regions c.args.memory.now) (g.M.TagMemory.regions now)
    (g.M.TagMemory.guard c.args.memory.now) (g.M.TagMemory.guard now) r c.loop-i.invariant.regions c.loop-i.invariant.guard
    (c.requires.places c.loop-i.i d c.loop-i-test.true) in
    let done : c.write.result ≡ Done =
    c.write.ensures.answer
    ∙ ap (λ n. write_answer (g.M.TagMemory.regions now) (g.M.TagMemory.guard now) at n) (ap length c.to_le_bytes.ensures)
    ∙ can.write in
    let bytes : g.M.TagMemory.byte c.write.new.self ≡ store 8 (g.M.TagMemory.byte now) at (get_or c.args.pointers.now c.loop-i.i 0) =
    c.write.ensures.done done
    ∙ ap (store_bytes (g.M.TagMemory.byte now) at) (c.to_le_bytes.ensures ∙ sym (bytes_of_8 (get_or c.args.pointers.now c.loop-i.i 0))) in
    pointer_stored g.M.TagMemory c.args.memory.now now c.write.new.self c.args.relocs.now c.args.pointers.now c.loop-i.i d
    c.requires.same c.loop-i-test.true c.loop-i.invariant (record {
      byte = bytes;
      tags = c.write.ensures.same_tags;
      regions = c.write.ensures.same_regions;
      guard = c.write.ensures.same_guard;
    })

pub returns : goal.returns
returns g c =
    pointers_put g.M.TagMemory c.args.memory.now c.loop-i.memory c.args.relocs.now _ c.args.pointers.now _
    (drop_all c.loop-i.i c.args.relocs.now c.loop-i-test.false) c.loop-i.invariant
