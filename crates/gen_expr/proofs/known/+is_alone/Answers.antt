use Rattle.gen_expr.proofs.Operands.{alone-paren, alone-unary, alone-cast, alone-read, alone-decay, alone-convert}
use Rattle.gen_expr.proofs.known.+is_alone.Goals as goal

pub returns-in-Paren : goal.returns-in-Paren
returns-in-Paren t c =
    alone-paren c.args.expr.now c.in-Paren.inner _ c.get.ensures c.is_alone.result c.is_alone.ensures c.in-Paren.is

pub returns-in-Unary : goal.returns-in-Unary
returns-in-Unary t c =
    alone-unary c.args.expr.now c.in-Unary.operand _ c.get.ensures c.is_alone-in-Unary.result c.is_alone-in-Unary.ensures _ c.in-Unary.is

pub returns-in-Cast : goal.returns-in-Cast
returns-in-Cast t c =
    alone-cast c.args.expr.now c.in-Cast.operand _ c.get.ensures c.is_alone-in-Cast.result c.is_alone-in-Cast.ensures _ c.in-Cast.is

pub returns-in-Read : goal.returns-in-Read
returns-in-Read t c =
    alone-read c.args.expr.now c.in-Read.object _ c.get.ensures c.is_alone-in-Read.result c.is_alone-in-Read.ensures c.in-Read.is

pub returns-in-Decay : goal.returns-in-Decay
returns-in-Decay t c =
    alone-decay c.args.expr.now c.in-Decay.array _ c.get.ensures c.is_alone-in-Decay.result c.is_alone-in-Decay.ensures c.in-Decay.is

pub returns-in-Convert : goal.returns-in-Convert
returns-in-Convert t c =
    alone-convert c.args.expr.now c.in-Convert.operand _ c.get.ensures c.is_alone-in-Convert.result c.is_alone-in-Convert.ensures
    c.in-Convert.is
