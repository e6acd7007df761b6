use Rattle.std.proofs.Common.{arith}
use Rattle.mean_link.specs.Uses.{decl_uses}
use Rattle.mean_link.specs.Laws.UseLaws.{put_turn}
use Rattle.mean_link.proofs.statements.use_decls.Goals as goal

pub loop-decl-preserved : goal.loop-decl-preserved
loop-decl-preserved c =
    put_turn decl_uses c.args.decls.now c.loop-decl.decl-index c.decl-item.result
    c.args.used.now c.loop-decl.used c.use_decl.new.used
    (omega arith) c.decl-item.is c.loop-decl.invariant c.use_decl.ensures
