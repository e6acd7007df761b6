use Rattle.std.proofs.Common.{◌≡◌, take}
use Rattle.c_ast.proofs.copying.declaration.+init.Given as goal

-- the initialisers passed are copied
abbrev pub invariant-copy_inits-loop-init : goal.invariant-copy_inits-loop-init
invariant-copy_inits-loop-init l = l.copied ≡ take l.init-index l.inits
