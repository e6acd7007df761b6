use Rattle.std.proofs.Common.{◌<◌, ◌^◌, length, subst, sym, ◌∙◌, arith}
use Rattle.std.proofs.lemmas.Result.{err_from_is_err_and}
use Rattle.elf_base.specs.Laws.Conditions.{first_passes, first_stops}
use Rattle.elf_obj.specs.Small.{IsSmall}
use Rattle.elf_obj.specs.Claimed.{claimed}
use Rattle.elf_obj.specs.ObjectFault.{all_section_conditions, object_conditions}
use Rattle.elf_obj.specs.Laws.ClaimsFit.{claims_fit}
use Rattle.elf_obj.proofs.read.judge.Goals as goal

pub sizes_of-sizes-requires : goal.sizes_of-sizes-requires
sizes_of-sizes-requires c =
    let short : length c.args.file.now < 2 ^ 63 = omega arith in
    subst IsSmall (sym c.requires.parts) (claims_fit c.args.file.now (λ i. omega (arith, c.type_inv.file i)) short c.requires.held).small

pub returns-in_err-judge_sections : goal.returns-in_err-judge_sections
returns-in_err-judge_sections c =
    let p = err_from_is_err_and c.from_residual.result c.from_residual.ensures.1 in
    rw (p.1, p.2) (first_stops (all_section_conditions c.args.file.now)
    (object_conditions c.args.file.now (claimed c.args.file.now)) _ c.in_err-judge_sections.ensures)

pub returns-in_err-judge_records : goal.returns-in_err-judge_records
returns-in_err-judge_records c =
    let p = err_from_is_err_and c.from_residual-in_err-judge_records.result c.from_residual-in_err-judge_records.ensures.1 in
    rw (p.1, p.2) (first_passes (all_section_conditions c.args.file.now)
    (object_conditions c.args.file.now (claimed c.args.file.now)) c.in_ok-judge_sections.ensures
    ∙ c.in_err-judge_records.ensures)

pub returns : goal.returns
returns c =
    first_passes (all_section_conditions c.args.file.now)
    (object_conditions c.args.file.now (claimed c.args.file.now)) c.in_ok-judge_sections.ensures
    ∙ c.in_ok-judge_records.ensures
