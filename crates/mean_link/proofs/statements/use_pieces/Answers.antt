use Rattle.mean_link.specs.Uses.{piece_uses}
use Rattle.mean_link.specs.Laws.UseLaws.{put_turn_at}
use Rattle.mean_link.proofs.statements.use_pieces.Goals as goal

pub loop-piece-preserved : goal.loop-piece-preserved
loop-piece-preserved c =
    put_turn_at piece_uses c.args.pieces.now c.loop-piece.piece-index _ c.args.used.now c.loop-piece.used c.use_value.new.used
    c.loop-piece-test.true c.loop-piece.invariant c.use_value.ensures
