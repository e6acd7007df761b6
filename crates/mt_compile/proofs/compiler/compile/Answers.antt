use Rattle.mt_compile.specs.Laws.ConstantTrees.{constant_in_range}
use Rattle.mt_compile.proofs.compiler.compile.Goals as goal

-- the constant is of type int
pub words_of-requires : goal.words_of-requires
words_of-requires c = constant_in_range c.in-Ok.ensures.constant.returns
