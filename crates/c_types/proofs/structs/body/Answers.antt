use Rattle.std.proofs.Common.{rules, refl, ap}
use Rattle.c_types.proofs.TagLaws.{body_stands}
use Rattle.c_types.proofs.structs.body.Goals as goal

pub returns : goal.returns
returns c =
    let passed = c.members.new.walk in
    let asked = c.ask_both.new.self in
    body_stands c.args.d.now c.args.number c.args.decls.now c.in_ok-members.members.items c.in_ok-info.info _ _ c.args.walk.now passed
    (record passed { locals = c.new.result }) asked (record asked { structs = c.set.new.self }) c.in_ok-members.ensures
    (ap (λ l. record passed { locals = l }) c.new.ensures) (search rules) (search rules) refl c.ask_both.ensures
    (ap (λ s. record asked { structs = s }) c.set.ensures)
