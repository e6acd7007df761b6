-- Which parameters and locals live until their call ends: the parameters, and the locals of the function's outermost block
-- (ISO C11 6.2.4 paragraph 6). All others are of an inner scope.
use Rattle.std.specs.Prelude.{ℕ, Bool, true, false, List, [], flat_map, map, ltb, if◌then◌else◌}
use Rattle.c_type_base.specs.declared.statement.TDecl.{TDecl}
use Rattle.c_type_base.specs.declared.statement.TItem.{TItem, out-TItem}
use Rattle.c_type_base.specs.declared.statement.TStmt.{TStmt, out-TStmt}
use Rattle.c_type_base.specs.declared.statement.TItem.TheOpen.{TItem-F, TStmt-F}
use Rattle.c_type_base.specs.declared.typed.TFunction.{TFunction}
use Rattle.slot_safety.specs.Kinds.{among}

abbrev pub number_of : TDecl → ℕ
number_of d = d.local

abbrev pub declared_by : TItem-F TItem TStmt → List ℕ
declared_by (TItem-F.Local ds) = map number_of ds
declared_by (TItem-F.Stmt s) = []

abbrev pub declared : TItem → List ℕ
declared i = declared_by (out-TItem i)

abbrev pub outermost_in : TStmt-F TItem TStmt → List ℕ
outermost_in (TStmt-F.Block is) = flat_map declared is
outermost_in _ = []

-- the locals that the outermost block of a body declares
abbrev pub outermost : TStmt → List ℕ
outermost body = outermost_in (out-TStmt body)

-- it is neither a parameter nor one of the outermost block
abbrev pub inner_by : Bool → Bool → Bool
inner_by parameter outer = (if parameter then false else (if outer then false else true))

-- the parameter or local of this number is one of an inner scope
abbrev pub is_inner : TFunction → ℕ → Bool
is_inner f k = inner_by (ltb k f.params) (among k (outermost f.body))

abbrev pub as_told : Bool → Bool
as_told b = b
