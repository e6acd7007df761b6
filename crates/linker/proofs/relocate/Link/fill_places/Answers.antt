use Rattle.std.proofs.Common.{◌≡◌, ℕ, pos, ◌-◌, List, drop, get_or, sym, ap, ◌∙◌, arith}
use Rattle.elf_obj.specs.declared.parts.Reloc.{Reloc}
use Rattle.elf_obj.specs.Object.{Object}
use Rattle.linker.specs.Sections.{each_from}
use Rattle.linker.specs.Known.{objects_of}
use Rattle.linker.specs.Ready.{with_bytes}
use Rattle.linker.proofs.Placed.{byte_by, places_first, places_more}
use Rattle.linker.proofs.relocate.Link.fill_places.Goals as goal

-- what an index past the end reads as
abbrev no_reloc : Reloc
no_reloc = record { offset = 0; kind = 0; symbol = 0; addend = pos 0 }

pub loop-left-init : goal.loop-left-init
loop-left-init c = record {
  within = omega arith;
  done = λ o there. sym (places_first (objects_of c.args.self.now.objects.now) c.args.object o c.args.relocs.now c.args.out.now);
}

pub loop-left-preserved : goal.loop-left-preserved
loop-left-preserved c =
    let some = c.loop-left-test.true in
    let within = c.loop-left.invariant.within in record {
      within = omega arith;
      done = λ o there.
          let os : List Object = objects_of c.args.self.now.objects.now in
          let r : Reloc = get_or c.args.relocs.now (c.loop-left.left - 1) no_reloc in
          c.put_number.ensures
          ∙ (λ i. each_from 0 (with_bytes r.offset (c.content.ensures o there i) 8) (c.loop-left.invariant.done o there i))
          ∙ places_more os c.args.object o c.args.relocs.now c.loop-left.left no_reloc c.args.out.now (omega arith) within;
    }

pub returns : goal.returns
returns c = λ o there bytes relocs.
    let os : List Object = objects_of c.args.self.now.objects.now in
    let none : c.loop-left.left ≡ 0 = let end = c.loop-left-test.false in omega arith in
    c.loop-left.invariant.done o there
    ∙ ap (λ (m : ℕ). each_from 0 (byte_by os c.args.object o (drop m c.args.relocs.now)) c.args.out.now) none
    ∙ (λ i. each_from 0 (byte_by os c.args.object o (relocs i)) (bytes i))
