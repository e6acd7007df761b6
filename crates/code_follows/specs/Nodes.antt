-- What has to be shown of each node: that its code does what it means, where that of its parts does (this project's own).
use Rattle.std.specs.Prelude.{◌≡◌, ℕ, ◌<◌, ◌≤◌, true, ◌||◌, List, [], ◌∷◌, length, slice_get, Some, None}
use Rattle.std.specs.List.{Contains}
use Rattle.c_ast.specs.declared.int_type.IntType.{IntType}
use Rattle.c_ast.specs.declared.int_type.IntType.TheVariants as int
use Rattle.c_ast.specs.declared.operator.AssignOperator.{AssignOperator}
use Rattle.c_ast.specs.declared.operator.BinaryOperator.{BinaryOperator}
use Rattle.c_ast.specs.declared.operator.Step.{Step}
use Rattle.c_ast.specs.declared.operator.UnaryOperator.{UnaryOperator}
use Rattle.c_ast.specs.declared.operator.UnaryOperator.TheVariants as unary
use Rattle.c_type_base.specs.Types.{is_integer, is_scalar, is_struct, is_void, target_of, element_of}
use Rattle.c_type_base.specs.declared.expr.Callee.{Callee}
use Rattle.c_type_base.specs.declared.expr.TExpr.{TExpr}
use Rattle.c_type_base.specs.declared.expr.TNode.TheOpen.{TNode-F}
use Rattle.c_type_base.specs.declared.ty.Ty.{Ty}
use Rattle.c_type_base.specs.declared.ty.Ty.TheVariants as ty
use Rattle.c_type_base.specs.declared.typed.ExternInfo.{ExternInfo}
use Rattle.c_type_base.specs.declared.typed.GlobalInfo.{GlobalInfo}
use Rattle.c_type_base.specs.declared.typed.LocalInfo.{LocalInfo}
use Rattle.block_meaning.specs.ExpressionsInOrder.{file_of, global_of, IsDefined, int_type, Logical, group_of, is_sign, BinaryTypes}
use Rattle.block_meaning.specs.ExpressionsInOrder.{CompoundTypes, Converts, Callable, Arguments}
use Rattle.block_meaning.specs.Linkage.{extern_at}
use Rattle.block_meaning.specs.Locals.{text_of}
use Rattle.gen_laws.specs.Computes.{IsOf}
use Rattle.code_follows.specs.Covered.{computes_in, operates_in, combines_in, leaves}
use Rattle.code_follows.specs.Leaves.{bare_leaves}
use Rattle.code_follows.specs.Parts.{ValueFollows, PlaceFollows, ValueNode, PlaceNode}
use Rattle.code_follows.specs.Scene.{Scene}

-- the code of each of some expressions does what it means
abbrev pub AllFollow : Scene → ℕ → List TExpr → Type 0
AllFollow k depth [] = Unit {0}
AllFollow k depth (e ∷ es) = ValueFollows k depth e × AllFollow k depth es

-- the nodes that have a value, one a constructor of `HasValue`, with so many levels below them
pub record ValueNodes (k : Scene) (depth : ℕ) : Type 0 where
  pub constant : (n : ℕ) (i : IntType) → IsOf i n → ValueNode k depth (ty.Int i) (TNode-F.Constant n i)
  pub paren : (e : TExpr) → ValueFollows k depth e → ValueNode k depth e.ty (TNode-F.Paren e)
  pub address : (e : TExpr) → PlaceFollows k depth e → ValueNode k depth (ty.Pointer e.ty) (TNode-F.Unary unary.AddressOf e)
  pub denied : (e : TExpr) → ValueFollows k depth e → is_scalar e.ty ≡ true → ValueNode k depth int_type (TNode-F.Unary unary.Not e)
  pub signed : (o : UnaryOperator) (e : TExpr) → is_sign o ≡ true → ValueFollows k depth e → is_integer e.ty ≡ true →
      computes_in e.ty ≡ true → ValueNode k depth e.ty (TNode-F.Unary o e)
  pub logical : (o : BinaryOperator) (a b : TExpr) → group_of o ≡ Logical → ValueFollows k depth a → is_scalar a.ty ≡ true →
      ValueFollows k depth b → is_scalar b.ty ≡ true → ValueNode k depth int_type (TNode-F.Binary o a b)
  pub operated : (o : BinaryOperator) (a b : TExpr) (t : Ty) → ValueFollows k depth a → ValueFollows k depth b →
      BinaryTypes o a.ty b.ty t → operates_in a.ty b.ty ≡ true → ValueNode k depth t (TNode-F.Binary o a b)
  pub assigned : (a b : TExpr) → PlaceFollows k depth a → ValueFollows k depth b → b.ty ≡ a.ty → is_scalar a.ty ≡ true →
      ValueNode k depth a.ty (TNode-F.Assign None a b)
  pub compound : (o : AssignOperator) (a b : TExpr) → PlaceFollows k depth a → ValueFollows k depth b → CompoundTypes o a.ty b.ty →
      combines_in o a.ty b.ty ≡ true → ValueNode k depth a.ty (TNode-F.Assign (Some o) a b)
  pub chosen : (c a b : TExpr) (t : Ty) → ValueFollows k depth c → is_scalar c.ty ≡ true → ValueFollows k depth a → a.ty ≡ t →
      ValueFollows k depth b → b.ty ≡ t → ValueNode k depth t (TNode-F.Cond c a b)
  pub cast : (t : Ty) (e : TExpr) → ValueFollows k depth e → Converts e.ty t → ValueNode k depth t (TNode-F.Cast t e)
  pub cast_to_void : (t : Ty) (e : TExpr) → ValueFollows k depth e → is_void t ≡ true → ValueNode k depth t (TNode-F.Cast t e)
  pub size_of : (e : TExpr) → ValueNode k depth (ty.Int int.ULong) (TNode-F.SizeofExpr e)
  pub size_of_type : (t : Ty) → ValueNode k depth (ty.Int int.ULong) (TNode-F.SizeofName t)
  pub call : (f : Callee) (es : List TExpr) (ts : List Ty) (t : Ty) → Callable k.scope f ts t → Arguments k.scope es ts →
      length es ≤ 8 → AllFollow k depth es → ValueNode k depth t (TNode-F.Call f es)
  pub step : (o : Step) (e : TExpr) → PlaceFollows k depth e → is_scalar e.ty ≡ true → ValueNode k depth e.ty (TNode-F.Step o e)
  pub read : (e : TExpr) → PlaceFollows k depth e → (is_scalar e.ty || is_struct e.ty) ≡ true → ValueNode k depth e.ty (TNode-F.Read e)
  pub decay : (e : TExpr) (t : Ty) → PlaceFollows k depth e → element_of e.ty ≡ Some t → ValueNode k depth (ty.Pointer t) (TNode-F.Decay e)
  pub convert : (e : TExpr) (t : Ty) → ValueFollows k depth e → Converts e.ty t → bare_leaves < leaves e →
      ValueNode k depth t (TNode-F.Convert e)

-- and those that designate an object, one a constructor of `Designates`
pub record PlaceNodes (k : Scene) (depth : ℕ) : Type 0 where
  pub text : (n : ℕ) (bytes : List ℕ) → text_of (file_of k.scope) n ≡ Some bytes →
      PlaceNode k depth (ty.Array (ty.Int int.Char) (length bytes)) (TNode-F.Text n)
  pub local : (n : ℕ) (l : LocalInfo) → Contains k.scope.locals n → slice_get k.scope.function.locals n ≡ Some l →
      PlaceNode k depth l.ty (TNode-F.Local n)
  pub global : (n : ℕ) (g : GlobalInfo) → global_of (file_of k.scope) n ≡ Some g → PlaceNode k depth g.ty (TNode-F.Global n)
  pub extern_object : (n : ℕ) (e : ExternInfo) (t : Ty) → extern_at k.scope.program.units k.scope.unit n ≡ Some e → e.object ≡ Some t →
      IsDefined k.scope.program.units e.name → PlaceNode k depth t (TNode-F.Extern n)
  pub paren : (e : TExpr) → PlaceFollows k depth e → PlaceNode k depth e.ty (TNode-F.Paren e)
  pub target : (e : TExpr) (t : Ty) → ValueFollows k depth e → target_of e.ty ≡ Some t →
      PlaceNode k depth t (TNode-F.Unary unary.Dereference e)
  pub element : (a i : TExpr) (t : Ty) → ValueFollows k depth a → target_of a.ty ≡ Some t → ValueFollows k depth i →
      is_integer i.ty ≡ true → PlaceNode k depth t (TNode-F.Index a i)
  pub element_of_second : (i a : TExpr) (t : Ty) → ValueFollows k depth i → is_integer i.ty ≡ true → ValueFollows k depth a →
      target_of a.ty ≡ Some t → PlaceNode k depth t (TNode-F.Index i a)

-- all of them, with any number of levels below
pub record Nodes (k : Scene) : Type 0 where
  pub values : (depth : ℕ) → ValueNodes k depth
  pub places : (depth : ℕ) → PlaceNodes k depth
