use Rattle.std.proofs.Common.{◌≡◌, ap, sym, ◌∙◌}
use Rattle.elf_base.specs.Conditions.{first_fault}
use Rattle.elf_image.specs.declared.heads.Heads.{Heads}
use Rattle.elf_image.specs.Faults.{after_opening}
use Rattle.elf_image.proofs.Judging.{fault_opening, fault_behind}
use Rattle.elf_image.proofs.judge.judge.Goals as goal

pub returns-in-Err : goal.returns-in-Err
returns-in-Err c = fault_opening c.args.bytes.now c.in-Err.fault c.in-Err.ensures

pub returns-in-Some : goal.returns-in-Some
returns-in-Some c =
    fault_behind c.args.bytes.now c.in-Ok.ensures.1
    ∙ ap (λ (h : Heads). first_fault (after_opening c.args.bytes.now h)) (sym c.in-Ok.ensures.0)
    ∙ sym c.rest_fault.ensures ∙ c.in-Some.is

pub returns-in-None : goal.returns-in-None
returns-in-None c = (
  c.in-Ok.ensures.0,
  fault_behind c.args.bytes.now c.in-Ok.ensures.1
      ∙ ap (λ (h : Heads). first_fault (after_opening c.args.bytes.now h)) (sym c.in-Ok.ensures.0)
      ∙ sym c.rest_fault.ensures ∙ c.in-None.is,
)
