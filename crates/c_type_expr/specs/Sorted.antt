-- What the tables ask of an operand's type, as the code says it.
use Rattle.std.specs.Prelude.{List, [], ◌∷◌, ◌++◌, Option, Some, None}
use Rattle.std.specs.Global.{Vec}
use Rattle.c_type_expr.specs.declared.rows.operand.Operand.{Operand}
use Rattle.c_type_expr.specs.declared.rows.operand.Operand.TheVariants as operand
use Rattle.c_type_expr.specs.Operators.{Sort, Integer, Points, Neither}

abbrev pub sort_seen : Operand → Sort
sort_seen (operand.Integer t) = Integer t
sort_seen (operand.Points t) = Points t.now
sort_seen operand.Neither = Neither

-- the elements of a vector, if it is there
abbrev pub listed_items : {A : Type 0} → Option (Vec A) → Option (List A)
listed_items None = None
listed_items (Some v) = Some v.items

-- one more at the end, if all are known
abbrev pub with_known : {A : Type 0} → Option (List A) → Option A → Option (List A)
with_known None a = None
with_known (Some as') None = None
with_known (Some as') (Some a) = Some (as' ++ a ∷ [])
