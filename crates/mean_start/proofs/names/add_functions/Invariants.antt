-- The functions passed are there.
use Rattle.std.proofs.Common.{◌≡◌, ℕ, List, Option, take}
use Rattle.std.specs.List.{position_from}
use Rattle.c_type_base.specs.declared.typed.Typed.{Typed}
use Rattle.block_meaning.specs.Linkage.{Definition, code_block, or_definition, function_at, is_function_named}
use Rattle.mean_start.specs.Known.{Knows}
use Rattle.mean_start.proofs.names.add_functions.Given as goal

abbrev pub invariant-loop-number : goal.invariant-loop-number
invariant-loop-number l =
    (units : List Typed) (found : List ℕ → Option Definition) → l.first ≡ code_block units l.unit 0 → Knows l.fn.names units found →
    Knows l.names units (λ n. or_definition (found n)
    (function_at l.unit (position_from (is_function_named n) 0 (take l.number l.functions))))
