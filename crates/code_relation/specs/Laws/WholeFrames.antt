-- The frames of the open calls are whole granules, so the innermost one starts at a granule (this project's own).
use Rattle.std.specs.Prelude.{◌≡◌, ◌%◌, ◌≤◌, List, [], ◌∷◌, Option, Some, None, refl}
use Rattle.std.proofs.Common.{arith, subst}
use Rattle.c_type_base.specs.declared.typed.TFunction.{TFunction}
use Rattle.c_type_base.specs.declared.typed.Typed.{Typed}
use Rattle.c_type_base.specs.Laws.LayoutLaws.{round_up-multiple}
use Rattle.frame_layout.specs.Frames.{first_tagged, tagged_end}
use Rattle.frame_layout.specs.Parts.{parts}
use Rattle.frame_layout.specs.StatementNeeds.{stmt_need}
use Rattle.block_meaning.specs.Linkage.{structs_of, function_named}
use Rattle.block_meaning.specs.Locals.{latest}
use Rattle.block_meaning.specs.Meaning.{open_bytes}
use Rattle.block_meaning.specs.Running.{Function, Call}
use Rattle.code_relation.specs.Calls.{stack_end, lowest, frame_by, frame_of, LieInOrder}

frame_whole : (units : List Typed) (f : Function) → (frame_of units f).bytes % 16 ≡ 0
frame_whole units f = by_function (function_named units f)
  where
    by_function : (function : Option TFunction) → (frame_by units f.unit function).bytes % 16 ≡ 0
    by_function None = refl
    by_function (Some function) =
        round_up-multiple (tagged_end (first_tagged (stmt_need function.body) (parts (structs_of units f.unit) function))
        (parts (structs_of units f.unit) function)) 16

pub open_whole : (units : List Typed) (cs : List Call) → LieInOrder units cs → open_bytes cs % 16 ≡ 0
open_whole units [] lie = refl
open_whole units (c ∷ cs) lie = omega (arith, lie.0, open_whole units cs lie.1, frame_whole units c.function)

pub lowest_whole : (c : Call) (cs : List Call) → latest cs ≡ Some c → open_bytes cs % 16 ≡ 0 → open_bytes cs ≤ stack_end →
    lowest c % 16 ≡ 0
lowest_whole c [] is whole fit = absurd (cc)
lowest_whole c (d ∷ ds) is whole fit =
    let same : d ≡ c = cc in
    subst (λ (x : Call). lowest x % 16 ≡ 0) same (omega (arith, whole, fit))
