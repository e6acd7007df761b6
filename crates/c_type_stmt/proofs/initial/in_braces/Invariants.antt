use Rattle.std.proofs.Common.{◌≡◌, ◌++◌, map, length}
use Rattle.std.specs.Prelude.{flat_map}
use Rattle.c_type_stmt.specs.Initials.{tree_of, pieces_of}
use Rattle.c_type_stmt.proofs.initial.in_braces.Given as goal

-- the trees and the pieces passed are in the lists, and those of the rest follow
abbrev pub invariant-loop-one : goal.invariant-loop-one
invariant-loop-one l = record {
  trees : map tree_of l.fn.fitted.items ≡ l.trees ++ map tree_of l.one-iterator.rest.items;
  pieces : flat_map pieces_of l.fn.fitted.items ≡ l.pieces ++ flat_map pieces_of l.one-iterator.rest.items;
  count : length l.one-iterator.rest.items ≡ l.one-iterator.rest.len;
}
