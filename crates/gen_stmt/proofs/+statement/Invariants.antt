use Rattle.std.proofs.Common.{◌≡◌, ◌+◌, ◌*◌, ◌≤◌, ◌++◌, length, drop, map, sum}
use Rattle.frame_layout.specs.StatementNeeds.{item_need, most}
use Rattle.gen_stmt.specs.Statements.{body_code}
use Rattle.gen_stmt.proofs.Weight.{stmt_weight, item_weight}
use Rattle.gen_stmt.proofs.+statement.Given as goal

abbrev pub decreases-statements::statement : goal.decreases-statements::statement
decreases-statements::statement l = 8 * stmt_weight l.stmt.now

abbrev pub decreases-statements::block : goal.decreases-statements::block
decreases-statements::block l = 8 * sum (map item_weight l.items.now) + 7

abbrev pub decreases-statements::body : goal.decreases-statements::body
decreases-statements::body l = 8 * sum (map item_weight l.items.now) + 6

abbrev pub decreases-statements::item : goal.decreases-statements::item
decreases-statements::item l = 8 * item_weight l.part.now

abbrev pub decreases-branches::branch : goal.decreases-branches::branch
decreases-branches::branch l = 8 * stmt_weight l.then.now + 1

abbrev pub decreases-branches::branches : goal.decreases-branches::branches
decreases-branches::branches l = 8 * (stmt_weight l.then.now + stmt_weight l.other.now) + 1

abbrev pub decreases-loops::turn : goal.decreases-loops::turn
decreases-loops::turn l = 8 * stmt_weight l.body.now + 1

abbrev pub decreases-loops::while_loop : goal.decreases-loops::while_loop
decreases-loops::while_loop l = 8 * stmt_weight l.body.now + 2

abbrev pub decreases-loops::do_loop : goal.decreases-loops::do_loop
decreases-loops::do_loop l = 8 * stmt_weight l.body.now + 2

abbrev pub decreases-loops::turns : goal.decreases-loops::turns
decreases-loops::turns l = 8 * stmt_weight l.body.now + 2

abbrev pub decreases-for_loop::parts : goal.decreases-for_loop::parts
decreases-for_loop::parts l = 8 * stmt_weight l.body.now + 3

abbrev pub decreases-for_loop::for_loop : goal.decreases-for_loop::for_loop
decreases-for_loop::for_loop l = 8 * stmt_weight l.body.now + 4

-- the parts that are left come from here on, and there are temps for them
abbrev pub invariant-statements::body-loop-part : goal.invariant-statements::body-loop-part
invariant-statements::body-loop-part l = record {
  room : most (map item_need (drop l.part-index l.items)) ≤ 32765;
  code :
      l.code.items.items
      ++ body_code l.unit.structs l.frame (drop l.part-index l.items) l.around (length l.code.items.items)
      ≡ l.initial.code.items.items
      ++ body_code l.unit.structs l.frame l.items l.around (length l.initial.code.items.items);
}
