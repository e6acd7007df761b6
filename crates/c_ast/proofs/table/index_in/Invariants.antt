use Rattle.std.proofs.Common.{◌≡◌, ◌+◌, length, map}
use Rattle.std.specs.List.{position_from}
use Rattle.std.specs.Str.{bytes_eq}
use Rattle.c_ast.proofs.table.index_in.Given as goal

-- the search goes on from the place reached, in what is left of the table
abbrev pub invariant-loop-table : goal.invariant-loop-table
invariant-loop-table l =
    (position_from (λ spelled. bytes_eq spelled l.bytes) l.place (map (λ spelled. spelled.now) l.table)
    ≡ position_from (λ spelled. bytes_eq spelled l.bytes) 0 (map (λ spelled. spelled.now) l.initial.table))
    × (l.place + length l.table ≡ length l.initial.table)

abbrev pub decreases-loop-table : goal.decreases-loop-table
decreases-loop-table l = length l.table
