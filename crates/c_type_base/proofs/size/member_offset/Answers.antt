-- A member that is there has its recorded place, and the place of one that is not there is 0.
use Rattle.std.proofs.Common.{sym, ◌∙◌, ap}
use Rattle.std.specs.Prelude.{option_map, unwrap_or}
use Rattle.c_type_base.specs.Layout.{offset_in}
use Rattle.c_type_base.specs.Laws.StructLaws.{recorded-place}
use Rattle.c_type_base.proofs.size.member_offset.Goals as goal

pub returns-in-Some-get : goal.returns-in-Some-get
returns-in-Some-get c =
    ap (λ o. unwrap_or (option_map offset_in o) 0) (rw c.in-Some-get.is at c.get.ensures.value)
    ∙ recorded-place c.args.structs.now c.requires c.args.which c.in-Some.info.now (sym (rw c.in-Some.is at c.at.ensures)) c.args.member

pub returns-in-None-get : goal.returns-in-None-get
returns-in-None-get c =
    ap (λ o. unwrap_or (option_map offset_in o) 0) (rw c.in-None-get.is at c.get.ensures.value)
    ∙ recorded-place c.args.structs.now c.requires c.args.which c.in-Some.info.now (sym (rw c.in-Some.is at c.at.ensures)) c.args.member
