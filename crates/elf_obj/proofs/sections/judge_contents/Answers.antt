use Rattle.std.proofs.Common.{◌≡◌, ℕ, ◌+◌, ◌<◌, ◌≤◌, ◌^◌, Bool, true, false, List, length, drop, sym, ap, subst, ◌∙◌, refl, arith}
use Rattle.std.specs.Prelude.{◌&&◌}
use Rattle.mt_base.specs.Granules.{round16}
use Rattle.elf_base.specs.Laws.Tests.{both}
use Rattle.elf_base.specs.Conditions.{first_fault}
use Rattle.elf_obj.specs.declared.section.Section.{Section}
use Rattle.elf_obj.specs.Sections.{sections}
use Rattle.elf_obj.specs.ObjectFault.{fixed_parts, is_section, section_conditions, contents_conditions}
use Rattle.elf_obj.specs.Laws.Held.{reaches, section_ends}
use Rattle.elf_obj.proofs.Faults.{section-holds, section-fails}
use Rattle.elf_obj.proofs.sections.judge_contents.Goals as goal

pub loop-index-init : goal.loop-index-init
unfolding contents_conditions
loop-index-init c = record { low = omega arith; rest = refl }

pub overflow_add-end : goal.overflow_add-end
overflow_add-end c =
    let s : Section = c.section_at-section.result in
    let i : ℕ = c.loop-index.index in
    let file : List ℕ = c.args.file.now in
    let good : (is_section file c.loop-index.end (i + 1) s && c.is_fixed-fixed.result) ≡ true =
    ap (λ (b : Bool). b && c.is_fixed-fixed.result) (sym c.is_section-here.ensures) ∙ sym c.both-good.ensures ∙ c.if-not-good.false in
    let short : length file < 2 ^ 63 = omega arith in
    let low : round16 c.loop-index.end + s.bytes ≤ 2 ^ 63 =
    section_ends file c.loop-index.end i s (reaches file c.requires.held c.args.sizes.now i s c.section_at-section.ensures.is)
    (both _ _ good).0 c.loop-index.invariant.low
    c.section_at-section.ensures.size short in
    omega (arith, low, c.round16.ensures.value)

pub loop-index-preserved : goal.loop-index-preserved
loop-index-preserved c =
    let s : Section = c.section_at-section.result in
    let i : ℕ = c.loop-index.index in
    let file : List ℕ = c.args.file.now in
    let good : (is_section file c.loop-index.end (i + 1) s && c.is_fixed-fixed.result) ≡ true =
    ap (λ (b : Bool). b && c.is_fixed-fixed.result) (sym c.is_section-here.ensures) ∙ sym c.both-good.ensures ∙ c.if-not-good.false in
    let short : length file < 2 ^ 63 = omega arith in
    let low : round16 c.loop-index.end + s.bytes ≤ 2 ^ 63 =
    section_ends file c.loop-index.end i s (reaches file c.requires.held c.args.sizes.now i s c.section_at-section.ensures.is)
    (both _ _ good).0 c.loop-index.invariant.low
    c.section_at-section.ensures.size short in
    record {
      low = rw c.round16.ensures.value low;
      rest = rw c.round16.ensures.value (sym (section-holds file c.loop-index.end (i + 1) i (sections c.args.sizes.now)
          (fixed_parts file) s c.is_fixed-fixed.result
          c.section_at-section.ensures.is c.is_fixed-fixed.ensures good) ∙ c.loop-index.invariant.rest);
    }

pub returns-then-not-good : goal.returns-then-not-good
returns-then-not-good c =
    let s : Section = c.section_at-section.result in
    let i : ℕ = c.loop-index.index in
    let file : List ℕ = c.args.file.now in
    let bad : (is_section file c.loop-index.end (i + 1) s && c.is_fixed-fixed.result) ≡ false =
    ap (λ (b : Bool). b && c.is_fixed-fixed.result) (sym c.is_section-here.ensures) ∙ sym c.both-good.ensures ∙ c.if-not-good.true in
    sym c.loop-index.invariant.rest
    ∙ section-fails file c.loop-index.end (i + 1) i (sections c.args.sizes.now)
    (fixed_parts file) s c.is_fixed-fixed.result c.section_at-section.ensures.is c.is_fixed-fixed.ensures bad

pub returns : goal.returns
returns c =
    let file : List ℕ = c.args.file.now in
    let done : c.loop-index.index ≡ 11 = omega arith in
    sym (subst (λ (n : ℕ). first_fault (section_conditions file c.loop-index.end (n + 1) (drop n (sections c.args.sizes.now))
    (drop n (fixed_parts file))) ≡ first_fault
    (contents_conditions file c.args.sizes.now)) done c.loop-index.invariant.rest)
