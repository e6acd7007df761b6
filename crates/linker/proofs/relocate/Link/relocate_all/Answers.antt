use Rattle.std.proofs.Common.{◌≡◌, ℕ, pos, List, drop, sym, ap, ◌∙◌, arith}
use Rattle.elf_obj.specs.declared.parts.Reloc.{Reloc}
use Rattle.elf_obj.specs.Object.{Object}
use Rattle.linker.specs.Sections.{each_from}
use Rattle.linker.specs.Known.{objects_of}
use Rattle.linker.proofs.Relocated.{word_by, words_first, words_more}
use Rattle.linker.proofs.relocate.Link.relocate_all.Goals as goal

-- what an index past the end reads as
abbrev no_reloc : Reloc
no_reloc = record { offset = 0; kind = 0; symbol = 0; addend = pos 0 }

pub loop-left-init : goal.loop-left-init
loop-left-init c = record {
  within = omega arith;
  done = λ o there.
      c.requires.same
      ∙ sym (words_first (objects_of c.args.self.now.objects.now) c.args.self.now.layout.bases c.args.object o c.args.relocs.now
      c.args.words.now);
}

pub loop-left-preserved : goal.loop-left-preserved
loop-left-preserved c =
    let some = c.loop-left-test.true in
    let within = c.loop-left.invariant.within in record {
      within = omega arith;
      done = λ o there.
          words_more (objects_of c.args.self.now.objects.now) c.args.self.now.layout.bases c.args.object o c.args.relocs.now
          c.loop-left.left no_reloc
          c.args.words.now c.loop-left.out c.relocate.new.out (omega arith) within (c.loop-left.invariant.done o there)
          (c.relocate.ensures o there);
    }

pub returns : goal.returns
returns c = λ o there words relocs.
    let os : List Object = objects_of c.args.self.now.objects.now in
    let none : c.loop-left.left ≡ 0 = let end = c.loop-left-test.false in omega arith in
    c.loop-left.invariant.done o there
    ∙ ap (λ (m : ℕ). each_from 0 (word_by os c.args.self.now.layout.bases c.args.object o (drop m c.args.relocs.now)) c.args.words.now)
    none
    ∙ (λ i. each_from 0 (word_by os c.args.self.now.layout.bases c.args.object o (relocs i)) (words i))
