use Rattle.std.proofs.Common.{arith}
use Rattle.slot_safety.specs.Statements.{decl_harms}
use Rattle.slot_safety.specs.Laws.MarkedLaws.{marked_turn}
use Rattle.slot_safety.proofs.statement.spread_decls.Goals as goal

pub loop-decl-preserved : goal.loop-decl-preserved
loop-decl-preserved c =
    marked_turn (λ ks. ks) (decl_harms c.args.structs.now) c.args.decls.now c.loop-decl.decl-index c.decl-item.result
    c.args.kinds.now c.loop-decl.kinds c.spread_decl.new.kinds
    (omega arith) c.decl-item.is c.loop-decl.invariant c.spread_decl.ensures
