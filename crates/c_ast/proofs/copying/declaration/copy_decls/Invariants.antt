use Rattle.std.proofs.Common.{◌≡◌, take}
use Rattle.c_ast.proofs.copying.declaration.copy_decls.Given as goal

-- the declarations passed are copied
abbrev pub invariant-loop-decl : goal.invariant-loop-decl
invariant-loop-decl l = l.copied ≡ take l.decl-index l.decls
