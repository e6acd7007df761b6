use Rattle.std.proofs.Common.{◌≡◌, ◌++◌, flat_map, take}
use Rattle.c_print.specs.Declarations.{member_of}
use Rattle.c_print.proofs.declaration.print_members.Given as goal

-- the members passed are printed
abbrev pub invariant-loop-decl : goal.invariant-loop-decl
invariant-loop-decl l = l.out.items ≡ l.initial.out.items ++ flat_map member_of (take l.decl-index l.decls)
