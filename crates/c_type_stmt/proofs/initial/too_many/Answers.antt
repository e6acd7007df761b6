use Rattle.c_type_stmt.proofs.InitialLaws.{spare_behind}
use Rattle.c_type_stmt.proofs.initial.too_many.Goals as goal

pub returns : goal.returns
returns c =
    spare_behind c.args.inits.now c.first-item.result c.args.walk.now c.loose.new.walk c.ask.new.self c.loose_all.new.walk
    c.in_ok-loose.field-0 c.in_ok-loose_all.field-0 c.in-len1-up.len_at_least (rw (← c.first-item.is) c.in_ok-loose.ensures)
    (rw (← c.first-item.is, ← c.span_of.ensures) c.ask.ensures) c.in_ok-loose_all.ensures
