-- What is known of an expression, its value and its value in another type are covered where they are plain (this project's own).
use Rattle.std.specs.Prelude.{◌≡◌, Bool, true, false, ◌≤◌, Option, Some, None, refl, if◌then◌else◌}
use Rattle.std.proofs.Common.{arith}
use Rattle.c_ast.specs.declared.int_type.IntType.{IntType}
use Rattle.c_type_base.specs.Known.{read, value_by, value, as_type, converted}
use Rattle.c_type_base.specs.Laws.Opened.{given_types}
use Rattle.c_type_base.specs.Laws.SameLaws.{one-type}
use Rattle.c_type_base.specs.Types.{same_type, element_of, int_of}
use Rattle.c_type_base.specs.declared.expr.TExpr.{TExpr}
use Rattle.c_type_base.specs.declared.known.Known.{Known}
use Rattle.c_type_base.specs.declared.ty.Ty.{Ty}
use Rattle.c_type_base.specs.declared.ty.Ty.TheVariants as ty
use Rattle.code_follows.specs.Leaves.{value_leaves}
use Rattle.well_typed_covered.specs.Laws.Trees.{Covers, converted_leaves, read-covers, decay-covers, convert-covers}

-- no conversion stands around it
abbrev pub KnownCovers : Known → Type 0
KnownCovers k = Covers value_leaves k.tree

-- one at most does
abbrev pub ConvertedCovers : Known → Type 0
ConvertedCovers k = Covers converted_leaves k.tree

read_by : (k : Known) (b : Bool) → KnownCovers k → KnownCovers (if b then read k else k)
read_by k true known = read-covers k.tree.span k.tree.ty k.tree known
read_by k false known = known

value_by_covers : (k : Known) (o : Option Ty) → KnownCovers k → KnownCovers (value_by o k)
value_by_covers k (Some element) known = decay-covers k.tree.span (ty.Pointer element) k.tree known
value_by_covers k None known = read_by k k.lvalue known

pub value-covers : (k : Known) → KnownCovers k → KnownCovers (value k)
value-covers k known = value_by_covers k (element_of k.tree.ty) known

pub covers-less : (e : TExpr) → Covers value_leaves e → Covers converted_leaves e
covers-less e known =
    record { covers = known.covers; least = let most : 7 ≤ _ = known.least in omega (arith, most) }

converted_by : (t : Ty) (k : Known) (b : Bool) → KnownCovers k → ConvertedCovers (if b then k else as_type t k)
converted_by t k true known = covers-less k.tree known
converted_by t k false known = convert-covers k.tree.span t k.tree known

pub converted-covers : (t : Ty) (k : Known) → KnownCovers k → ConvertedCovers (converted t k)
converted-covers t k known = converted_by t k (same_type k.tree.ty t) known

-- ---- types

type_by : (t : Ty) (k : Known) (b : Bool) → same_type k.tree.ty t ≡ b → (if b then k else as_type t k).tree.ty ≡ t
type_by t k true same = one-type k.tree.ty t same
type_by t k false same = refl

pub converted-type : (t : Ty) (k : Known) → (converted t k).tree.ty ≡ t
converted-type t k = type_by t k (same_type k.tree.ty t) refl

pub int-is : (i : IntType) → int_of (ty.Int i) ≡ Some i
unfolding given_types
int-is i = refl
