use Rattle.std.proofs.Common.{sym, ◌∙◌}
use Rattle.mte_machine.proofs.Widths.{of_width_small}
use Rattle.mte_machine.proofs.machine.Machine.add_number.Goals as goal

pub returns-in-AddImm : goal.returns-in-AddImm
returns-in-AddImm g c = λ w. let y = sym
    (of_width_small c.in-AddImm.wide c.shifted_immediate-y.result c.shifted_immediate-y.ensures.below
    ∙ c.shifted_immediate-y.ensures.value) in
    rw (c.in-AddImm.is, ← c.general_or_sp.ensures w, y, ← c.add.ensures.value) (c.put_or_sp.ensures w)

pub returns-in-SubImm : goal.returns-in-SubImm
returns-in-SubImm g c = λ w. let y = sym
    (of_width_small c.in-SubImm.wide c.shifted_immediate-y-in-SubImm.result c.shifted_immediate-y-in-SubImm.ensures.below
    ∙ c.shifted_immediate-y-in-SubImm.ensures.value) in
    rw (c.in-SubImm.is, ← c.general_or_sp-in-SubImm.ensures w, y, ← c.subtract.ensures.value) (c.put_or_sp-in-SubImm.ensures w)

pub returns-in-SubsImm : goal.returns-in-SubsImm
returns-in-SubsImm g c = λ w. let y = sym
    (of_width_small c.in-SubsImm.wide c.shifted_immediate-y-in-SubsImm.result c.shifted_immediate-y-in-SubsImm.ensures.below
    ∙ c.shifted_immediate-y-in-SubsImm.ensures.value) in
    rw (c.in-SubsImm.is, ← c.general_or_sp-in-SubsImm.ensures w, y) (c.put_difference.ensures w)
