-- Parameters and locals: how their blocks come and go (ISO C11 6.2.4 paragraph 6), and their initialisers (6.7.9). A parameter and a local
-- of a function's outermost block live until the call ends, any other from the entry of its block, or of its `for`, until that is left.
use Rattle.std.specs.Prelude.{ℕ, zero, suc, ◌+◌, ◌*◌, Bool, true, false, ◌||◌, List, [], ◌∷◌, ◌++◌, length, map, take, slice_get, nat_eq}
use Rattle.std.specs.Prelude.{Option, Some, None, if◌then◌else◌}
use Rattle.c_type_base.specs.declared.ty.Ty.{out-Ty}
use Rattle.c_type_base.specs.declared.ty.Ty.TheOpen.{Ty-F}
use Rattle.c_type_base.specs.declared.expr.TExpr.{TExpr}
use Rattle.c_type_base.specs.declared.expr.TNode.{out-TNode}
use Rattle.c_type_base.specs.declared.expr.TNode.TheOpen.{TNode-F}
use Rattle.c_type_base.specs.declared.statement.TInit.{TInit, out-TInit}
use Rattle.c_type_base.specs.declared.statement.TInit.TheOpen.{TInit-F}
use Rattle.c_type_base.specs.declared.statement.TDecl.{TDecl}
use Rattle.c_type_base.specs.declared.typed.Typed.{Typed}
use Rattle.c_type_base.specs.declared.typed.TFunction.{TFunction}
use Rattle.c_type_base.specs.declared.typed.LocalInfo.{LocalInfo}
use Rattle.c_type_base.specs.declared.typed.MemberInfo.{MemberInfo}
use Rattle.c_type_base.specs.Types.{TyLayer, is_struct, is_array}
use Rattle.c_type_base.specs.Layout.{members_of}
use Rattle.block_meaning.specs.declared.cell.Cell.TheVariants.{Byte}
use Rattle.block_meaning.specs.declared.value.Pointer.{Pointer}
use Rattle.block_meaning.specs.declared.kind.Kind.TheVariants.{Local}
use Rattle.block_meaning.specs.Blocks.{Block, pointer, moved, fresh, ended, with_block, stored}
use Rattle.block_meaning.specs.Expressions.{NodeLayer, ExprParts, value_of}
use Rattle.block_meaning.specs.Linkage.{function_named}
use Rattle.block_meaning.specs.Memory.{Object, object, structs_at, bytes_of, write, copy_struct}
use Rattle.block_meaning.specs.Opening.{zero_cells}
use Rattle.block_meaning.specs.Running.{Call, Goes, Run, gives, stuck, and_then, unit_then, with_blocks, with_some, Context}
use Rattle.block_meaning.specs.Values.{pointer_in}

-- ---- the locals of the call that runs

abbrev pub latest : List Call → Option Call
latest [] = None
latest (c ∷ cs) = Some c

abbrev pub local_in : Option TFunction → ℕ → Option LocalInfo
local_in None k = None
local_in (Some f) k = slice_get f.locals k

-- a parameter or local of the function that runs
abbrev pub local_info : Context → Call → ℕ → Option LocalInfo
local_info here c k = local_in (function_named here.program.units c.function) k

abbrev pub with_local : ℕ → ℕ → Context → Context
with_local k block here = record here { local = λ j. (if nat_eq j k then Some block else here.local j) }

-- a new block, which has the next number, for a local
abbrev pub new_block : Context → ℕ → Block → Run Context
new_block here k b now = Goes (with_local k (length now.blocks) here) (record now { blocks = now.blocks ++ b ∷ [] })

-- a block for a local, whose cells were never written
abbrev pub new_local : Context → ℕ → Call → Run Context
new_local here k c =
    with_some (local_info here c k) (λ l. new_block here k (fresh (Local c.number k) (bytes_of here l.ty)))

abbrev pub new_locals : Context → List ℕ → Run Context
new_locals here [] = gives here
new_locals here (k ∷ ks) = and_then (with_some (latest here.open_calls) (new_local here k)) (λ inner. new_locals inner ks)

-- the lives of some locals end
abbrev pub end_locals : Context → List ℕ → Run (Unit {0})
end_locals here [] = gives tt
end_locals here (k ∷ ks) =
    and_then (with_some (here.local k) (λ b. with_blocks (with_block b ended))) (λ _. end_locals here ks)

-- A scope inside a function's outermost block: where it declares a local, its entry spends a unit of work first.
abbrev pub scoped : {A : Type 0} → Context → List ℕ → (Context → Run A) → Run A
scoped here [] body = body here
scoped here (k ∷ ks) body =
    unit_then (and_then (new_locals here (k ∷ ks)) (λ inner.
    and_then (body inner) (λ a. and_then (end_locals inner (k ∷ ks)) (λ _. gives a))))

-- ---- initialisers

-- how the initialiser of a local runs
pub record InitParts : Type 0 where
  pub here : Context
  pub parts : ExprParts
  -- how those in a list are stored
  pub fill : Object → TInit → Run (Unit {0})

abbrev pub text_of : Option Typed → ℕ → Option (List ℕ)
text_of None n = None
text_of (Some u) n = slice_get u.texts n

abbrev pub text_at : Context → ℕ → Option (List ℕ)
text_at here n = text_of (slice_get here.program.units here.unit) n

-- an expression whose value is not stored
abbrev pub only_run : ExprParts → TExpr → Run (Unit {0})
only_run parts e = and_then (value_of parts e) (λ _. gives tt)

-- a text fills an array of so many chars, as far as it goes; any other expression is the 0 of `{0}`, and the array is zero already
abbrev pub fill_array : InitParts → ℕ → Pointer → TExpr → NodeLayer → Run (Unit {0})
fill_array init n p e (TNode-F.Text text) =
    unit_then (with_some (text_at init.here text) (λ bytes. with_blocks (stored p (map Byte (take n bytes)))))
fill_array init n p e _ = only_run init.parts e

-- a struct is copied; a number is the 0 of `{0}`
abbrev pub fill_struct : InitParts → Object → TExpr → Bool → Run (Unit {0})
fill_struct init o e false = only_run init.parts e
fill_struct init o e true = and_then (value_of init.parts e) (λ v. copy_struct init.here (record {
  source = object o.ty (pointer_in v);
  target = o;
  source_span = e.span;
  target_span = e.span;
  span = e.span;
}))

-- an expression as the initialiser of an object
abbrev pub fill_one : InitParts → Object → TExpr → TyLayer → Run (Unit {0})
fill_one init o e (Ty-F.Array t n) = fill_array init n o.at e (out-TNode e.node)
fill_one init o e (Ty-F.Struct number) = fill_struct init o e (is_struct e.ty)
fill_one init o e _ = and_then (value_of init.parts e) (λ v. write init.here e.span o v)

-- the elements of an array of a type, from a number on
abbrev pub fill_elements : InitParts → Object → ℕ → List TInit → Run (Unit {0})
fill_elements init first k [] = gives tt
fill_elements init first k (i ∷ is) =
    and_then (init.fill (object first.ty (moved first.at (k * bytes_of init.here first.ty))) i) (λ _. fill_elements init first (k + 1) is)

abbrev pub fill_members : InitParts → Pointer → List MemberInfo → List TInit → Run (Unit {0})
fill_members init p ms [] = gives tt
fill_members init p [] (i ∷ is) = stuck
fill_members init p (m ∷ ms) (i ∷ is) = and_then (init.fill (object m.ty (moved p m.offset)) i) (λ _. fill_members init p ms is)

-- a list, in order: each is stored before the next runs
abbrev pub fill_list : InitParts → Object → List TInit → TyLayer → Run (Unit {0})
fill_list init o is (Ty-F.Array t n) = fill_elements init (object t o.at) 0 is
fill_list init o is (Ty-F.Struct number) = fill_members init o.at (members_of (slice_get (structs_at init.here) number)) is
fill_list init o is _ = stuck

abbrev pub fill_node : InitParts → Object → TInit-F TInit → Run (Unit {0})
fill_node init o (TInit-F.One e) = fill_one init o e (out-Ty o.ty)
fill_node init o (TInit-F.List is span) = fill_list init o is (out-Ty o.ty)

-- an initialiser, with so many levels below it at most
abbrev pub fill_at : Context → ExprParts → ℕ → Object → TInit → Run (Unit {0})
fill_at here parts zero o i = stuck
fill_at here parts (suc depth) o i =
    fill_node (record { here = here; parts = parts; fill = fill_at here parts depth }) o (out-TInit i)

abbrev pub is_list : TInit-F TInit → Bool
is_list (TInit-F.One e) = false
is_list (TInit-F.List is span) = true

abbrev pub after_zero : Context → Object → Bool → Run (Unit {0}) → Run (Unit {0})
after_zero here o false m = m
after_zero here o true m = and_then (with_blocks (stored o.at (zero_cells (structs_at here) o.ty))) (λ _. m)

-- the initialiser of a local: a list or a text first makes the whole object zero
abbrev pub initialised : Context → ExprParts → ℕ → Object → TInit → Run (Unit {0})
initialised here parts depth o i = after_zero here o (is_list (out-TInit i) || is_array o.ty) (fill_at here parts depth o i)

abbrev pub init_local : Context → ExprParts → ℕ → TDecl → TInit → Call → Run (Unit {0})
init_local here parts depth d i c =
    with_some (local_info here c d.local) (λ l. with_some (here.local d.local) (λ block.
    initialised here parts depth (object l.ty (pointer block 0)) i))

abbrev pub declared_with : Context → ExprParts → ℕ → TDecl → Option TInit → Run (Unit {0})
declared_with here parts depth d None = gives tt
declared_with here parts depth d (Some i) = unit_then (with_some (latest here.open_calls) (init_local here parts depth d i))

-- a declaration is reached: with an initialiser it spends a unit of work first
abbrev pub declaration : Context → ExprParts → ℕ → TDecl → Run (Unit {0})
declaration here parts depth d = declared_with here parts depth d d.init

abbrev pub declarations : Context → ExprParts → ℕ → List TDecl → Run (Unit {0})
declarations here parts depth [] = gives tt
declarations here parts depth (d ∷ ds) = and_then (declaration here parts depth d) (λ _. declarations here parts depth ds)
