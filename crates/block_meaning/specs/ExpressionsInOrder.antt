-- When a typed expression is in order: its type agrees with those of its operands, and its numbers name what is there (ISO C11 6.5, as a
-- typed tree shows it). One constructor a node. What stands below `sizeof` does not run, and may be anything.
use Rattle.std.specs.Prelude.{◌≡◌, ℕ, Bool, true, false, ◌||◌, List, [], ◌∷◌, ◌++◌, length, slice_get, Option, Some, None}
use Rattle.std.specs.List.{Contains}
use Rattle.c_ast.specs.declared.int_type.IntType.{IntType}
use Rattle.c_ast.specs.declared.int_type.IntType.TheVariants as int
use Rattle.c_ast.specs.declared.operator.UnaryOperator.{UnaryOperator}
use Rattle.c_ast.specs.declared.operator.UnaryOperator.TheVariants as unary
use Rattle.c_ast.specs.declared.operator.BinaryOperator.{BinaryOperator}
use Rattle.c_ast.specs.declared.operator.BinaryOperator.TheVariants as binary
use Rattle.c_ast.specs.declared.operator.AssignOperator.{AssignOperator}
use Rattle.c_ast.specs.declared.operator.AssignOperator.TheVariants as assign
use Rattle.c_ast.specs.declared.operator.Step.{Step}
use Rattle.c_type_base.specs.declared.ty.Ty.{Ty}
use Rattle.c_type_base.specs.declared.ty.Ty.TheVariants as ty
use Rattle.c_type_base.specs.declared.expr.TExpr.{TExpr}
use Rattle.c_type_base.specs.declared.expr.TNode.{out-TNode}
use Rattle.c_type_base.specs.declared.expr.TNode.TheOpen.{TNode-F}
use Rattle.c_type_base.specs.declared.expr.Callee.{Callee}
use Rattle.c_type_base.specs.declared.expr.Callee.TheVariants as callee
use Rattle.c_type_base.specs.declared.typed.Typed.{Typed}
use Rattle.c_type_base.specs.declared.typed.ExternInfo.{ExternInfo}
use Rattle.c_type_base.specs.declared.typed.GlobalInfo.{GlobalInfo}
use Rattle.c_type_base.specs.declared.typed.LocalInfo.{LocalInfo}
use Rattle.c_type_base.specs.declared.typed.MemberInfo.{MemberInfo}
use Rattle.c_type_base.specs.declared.typed.TFunction.{TFunction}
use Rattle.c_type_base.specs.Layout.{members_of}
use Rattle.c_type_base.specs.Types.{is_integer, is_pointer, is_scalar, is_struct, is_void, target_of, element_of, struct_of}
use Rattle.block_meaning.specs.Expressions.{NodeLayer}
use Rattle.block_meaning.specs.Linkage.{Definition, defined, extern_at, function_of, function_named, parameter_types, structs_of}
use Rattle.block_meaning.specs.Locals.{text_of}
use Rattle.block_meaning.specs.Running.{Program}

-- where a tree stands: in which function of which file, and which of its parameters and locals are in scope
pub record Scope : Type 0 where
  pub program : Program
  pub unit : ℕ
  pub function : TFunction
  pub locals : List ℕ

-- a scope inside, which declares some locals
abbrev pub within : Scope → List ℕ → Scope
within s ks = record s { locals = ks ++ s.locals }

abbrev pub file_of : Scope → Option Typed
file_of s = slice_get s.program.units s.unit

-- ---- what numbers name

abbrev pub global_of : Option Typed → ℕ → Option GlobalInfo
global_of None k = None
global_of (Some u) k = slice_get u.globals k

-- some file defines the name
pub record IsDefined (units : List Typed) (name : List ℕ) : Type 0 where
  pub definition : Definition
  pub is : defined units name ≡ Some definition

-- a struct's type, and a member of it by its number
pub record HasMember (s : Scope) (t : Ty) (k : ℕ) (m : MemberInfo) : Type 0 where
  pub number : ℕ
  pub is_struct : struct_of t ≡ Some number
  pub member : slice_get (members_of (slice_get (structs_of s.program.units s.unit) number)) k ≡ Some m

-- ---- operators: the types of the operands, and that of the result

abbrev pub int_type : Ty
int_type = ty.Int int.Int

pub data Group : Type 0 where
  Arithmetic Shift Comparison Logical : Group

abbrev pub group_of : BinaryOperator → Group
group_of binary.ShiftLeft = Shift
group_of binary.ShiftRight = Shift
group_of binary.Less = Comparison
group_of binary.LessEqual = Comparison
group_of binary.Greater = Comparison
group_of binary.GreaterEqual = Comparison
group_of binary.Equal = Comparison
group_of binary.NotEqual = Comparison
group_of binary.And = Logical
group_of binary.Or = Logical
group_of _ = Arithmetic

-- both integers in one type, but for shifts; pointers that are compared, or subtracted, have one type (6.5.5 to 6.5.12)
pub data BinaryTypes : BinaryOperator → Ty → Ty → Ty → Type 0 where
  arithmetic : {o : BinaryOperator} {t : Ty} → group_of o ≡ Arithmetic → is_integer t ≡ true → BinaryTypes o t t t
  shift : {o : BinaryOperator} {s t : Ty} → group_of o ≡ Shift → is_integer s ≡ true → is_integer t ≡ true → BinaryTypes o s t s
  comparison : {o : BinaryOperator} {t : Ty} → group_of o ≡ Comparison → is_scalar t ≡ true → BinaryTypes o t t int_type
  added : {s t : Ty} → is_pointer s ≡ true → is_integer t ≡ true → BinaryTypes binary.Add s t s
  added_to : {s t : Ty} → is_integer s ≡ true → is_pointer t ≡ true → BinaryTypes binary.Add s t t
  taken : {s t : Ty} → is_pointer s ≡ true → is_integer t ≡ true → BinaryTypes binary.Subtract s t s
  distance : {t : Ty} → is_pointer t ≡ true → BinaryTypes binary.Subtract t t (ty.Int int.Long)

-- operators with `=` (6.5.16.2)
pub data CompoundTypes : AssignOperator → Ty → Ty → Type 0 where
  computes : {o : AssignOperator} {s t : Ty} → is_integer s ≡ true → is_integer t ≡ true → CompoundTypes o s t
  adds : {s t : Ty} → is_pointer s ≡ true → is_integer t ≡ true → CompoundTypes assign.Add s t
  takes : {s t : Ty} → is_pointer s ≡ true → is_integer t ≡ true → CompoundTypes assign.Subtract s t

-- `+ - ~`
abbrev pub is_sign : UnaryOperator → Bool
is_sign unary.Plus = true
is_sign unary.Minus = true
is_sign unary.Complement = true
is_sign _ = false

-- a value of the one type in the other (6.3.1.3, 6.3.2.3); the integer that a pointer is made of is the null constant
pub data Converts : Ty → Ty → Type 0 where
  integers : {s t : Ty} → is_integer s ≡ true → is_integer t ≡ true → Converts s t
  pointers : {s t : Ty} → is_pointer s ≡ true → is_pointer t ≡ true → Converts s t
  null_constant : {s t : Ty} → is_integer s ≡ true → is_pointer t ≡ true → Converts s t

-- what is called, by the types of its parameters and of its result
pub data Callable (s : Scope) : Callee → List Ty → Ty → Type 0 where
  function : {k : ℕ} {f : TFunction} → function_named s.program.units (function_of s.unit k) ≡ Some f →
      Callable s (callee.Function k) (parameter_types f) f.result
  extern : {k : ℕ} {e : ExternInfo} → extern_at s.program.units s.unit k ≡ Some e → e.object ≡ None → IsDefined s.program.units e.name →
      Callable s (callee.Extern k) e.params e.result
  putchar : Callable s callee.Putchar (int_type ∷ []) int_type
  getchar : Callable s callee.Getchar [] int_type

-- ---- expressions

mutual
  -- one that has a value of a type
  pub data HasValue (s : Scope) : Ty → NodeLayer → Type 0 where
    constant : {n : ℕ} {i : IntType} → HasValue s (ty.Int i) (TNode-F.Constant n i)
    paren : {e : TExpr} → HasValue s e.ty (out-TNode e.node) → HasValue s e.ty (TNode-F.Paren e)
    address : {e : TExpr} → Designates s e.ty (out-TNode e.node) → HasValue s (ty.Pointer e.ty) (TNode-F.Unary unary.AddressOf e)
    denied : {e : TExpr} → HasValue s e.ty (out-TNode e.node) → is_scalar e.ty ≡ true → HasValue s int_type (TNode-F.Unary unary.Not e)
    signed : {o : UnaryOperator} {e : TExpr} → is_sign o ≡ true → HasValue s e.ty (out-TNode e.node) → is_integer e.ty ≡ true →
        HasValue s e.ty (TNode-F.Unary o e)
    logical : {o : BinaryOperator} {a b : TExpr} → group_of o ≡ Logical →
        HasValue s a.ty (out-TNode a.node) → is_scalar a.ty ≡ true → HasValue s b.ty (out-TNode b.node) → is_scalar b.ty ≡ true →
        HasValue s int_type (TNode-F.Binary o a b)
    operated : {o : BinaryOperator} {a b : TExpr} {t : Ty} →
        HasValue s a.ty (out-TNode a.node) → HasValue s b.ty (out-TNode b.node) → BinaryTypes o a.ty b.ty t →
        HasValue s t (TNode-F.Binary o a b)
    assigned : {a b : TExpr} → Designates s a.ty (out-TNode a.node) → HasValue s b.ty (out-TNode b.node) → b.ty ≡ a.ty →
        HasValue s a.ty (TNode-F.Assign None a b)
    compound : {o : AssignOperator} {a b : TExpr} →
        Designates s a.ty (out-TNode a.node) → HasValue s b.ty (out-TNode b.node) → CompoundTypes o a.ty b.ty →
        HasValue s a.ty (TNode-F.Assign (Some o) a b)
    chosen : {c a b : TExpr} {t : Ty} → HasValue s c.ty (out-TNode c.node) → is_scalar c.ty ≡ true →
        HasValue s a.ty (out-TNode a.node) → a.ty ≡ t → HasValue s b.ty (out-TNode b.node) → b.ty ≡ t →
        HasValue s t (TNode-F.Cond c a b)
    cast : {t : Ty} {e : TExpr} → HasValue s e.ty (out-TNode e.node) → Converts e.ty t → HasValue s t (TNode-F.Cast t e)
    cast_to_void : {t : Ty} {e : TExpr} → HasValue s e.ty (out-TNode e.node) → is_void t ≡ true → HasValue s t (TNode-F.Cast t e)
    size_of : {e : TExpr} → HasValue s (ty.Int int.ULong) (TNode-F.SizeofExpr e)
    size_of_type : {t : Ty} → HasValue s (ty.Int int.ULong) (TNode-F.SizeofName t)
    call : {f : Callee} {es : List TExpr} {ts : List Ty} {t : Ty} → Callable s f ts t → Arguments s es ts →
        HasValue s t (TNode-F.Call f es)
    step : {o : Step} {e : TExpr} → Designates s e.ty (out-TNode e.node) → is_scalar e.ty ≡ true → HasValue s e.ty (TNode-F.Step o e)
    read : {e : TExpr} → Designates s e.ty (out-TNode e.node) → (is_scalar e.ty || is_struct e.ty) ≡ true →
        HasValue s e.ty (TNode-F.Read e)
    decay : {e : TExpr} {t : Ty} → Designates s e.ty (out-TNode e.node) → element_of e.ty ≡ Some t →
        HasValue s (ty.Pointer t) (TNode-F.Decay e)
    convert : {e : TExpr} {t : Ty} → HasValue s e.ty (out-TNode e.node) → Converts e.ty t → HasValue s t (TNode-F.Convert e)
    -- of a struct that was assigned
    member_value : {e : TExpr} {k : ℕ} {m : MemberInfo} → Designates s e.ty (out-TNode e.node) → HasMember s e.ty k m →
        (is_scalar m.ty || is_struct m.ty) ≡ true → HasValue s m.ty (TNode-F.Member e k)

  -- one that designates an object of a type, or is a struct that was assigned
  pub data Designates (s : Scope) : Ty → NodeLayer → Type 0 where
    text : {k : ℕ} {bytes : List ℕ} → text_of (file_of s) k ≡ Some bytes →
        Designates s (ty.Array (ty.Int int.Char) (length bytes)) (TNode-F.Text k)
    local : {k : ℕ} {l : LocalInfo} → Contains s.locals k → slice_get s.function.locals k ≡ Some l → Designates s l.ty (TNode-F.Local k)
    global : {k : ℕ} {g : GlobalInfo} → global_of (file_of s) k ≡ Some g → Designates s g.ty (TNode-F.Global k)
    extern_object : {k : ℕ} {e : ExternInfo} {t : Ty} → extern_at s.program.units s.unit k ≡ Some e → e.object ≡ Some t →
        IsDefined s.program.units e.name → Designates s t (TNode-F.Extern k)
    paren_place : {e : TExpr} → Designates s e.ty (out-TNode e.node) → Designates s e.ty (TNode-F.Paren e)
    target : {e : TExpr} {t : Ty} → HasValue s e.ty (out-TNode e.node) → target_of e.ty ≡ Some t →
        Designates s t (TNode-F.Unary unary.Dereference e)
    element : {a i : TExpr} {t : Ty} → HasValue s a.ty (out-TNode a.node) → target_of a.ty ≡ Some t →
        HasValue s i.ty (out-TNode i.node) → is_integer i.ty ≡ true → Designates s t (TNode-F.Index a i)
    element_of_second : {i a : TExpr} {t : Ty} → HasValue s i.ty (out-TNode i.node) → is_integer i.ty ≡ true →
        HasValue s a.ty (out-TNode a.node) → target_of a.ty ≡ Some t → Designates s t (TNode-F.Index i a)
    member : {e : TExpr} {k : ℕ} {m : MemberInfo} → Designates s e.ty (out-TNode e.node) → HasMember s e.ty k m →
        Designates s m.ty (TNode-F.Member e k)
    arrow : {e : TExpr} {k : ℕ} {t : Ty} {m : MemberInfo} → HasValue s e.ty (out-TNode e.node) → target_of e.ty ≡ Some t →
        HasMember s t k m → Designates s m.ty (TNode-F.Arrow e k)
    struct_assigned : {a b : TExpr} → Designates s a.ty (out-TNode a.node) → HasValue s b.ty (out-TNode b.node) → b.ty ≡ a.ty →
        is_struct a.ty ≡ true → Designates s a.ty (TNode-F.Assign None a b)

  -- arguments of the types of parameters
  pub data Arguments (s : Scope) : List TExpr → List Ty → Type 0 where
    no_argument : Arguments s [] []
    argument : {e : TExpr} {es : List TExpr} {ts : List Ty} → HasValue s e.ty (out-TNode e.node) → Arguments s es ts →
        Arguments s (e ∷ es) (e.ty ∷ ts)

-- an expression with its type
abbrev pub ValueInOrder : Scope → TExpr → Type 0
ValueInOrder s e = HasValue s e.ty (out-TNode e.node)

-- a condition (6.8.4.1 paragraph 1, 6.8.5 paragraph 2)
pub record ConditionInOrder (s : Scope) (e : TExpr) : Type 0 where
  pub value : ValueInOrder s e
  pub scalar : is_scalar e.ty ≡ true
