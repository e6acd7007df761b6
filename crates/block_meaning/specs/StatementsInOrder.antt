-- When a typed statement is in order (ISO C11 6.7.9 and 6.8, as a typed tree shows it). One constructor a statement.
use Rattle.std.specs.Prelude.{◌≡◌, ℕ, true, ◌||◌, List, [], ◌∷◌, map, slice_get, Option, Some, None, IfSome}
use Rattle.std.specs.List.{All, Contains}
use Rattle.c_ast.specs.declared.token.Span.{Span}
use Rattle.c_type_base.specs.declared.ty.Ty.{Ty}
use Rattle.c_type_base.specs.declared.expr.TExpr.{TExpr}
use Rattle.c_type_base.specs.declared.expr.TNode.{out-TNode}
use Rattle.c_type_base.specs.declared.expr.TNode.TheOpen.{TNode-F}
use Rattle.c_type_base.specs.declared.statement.TInit.{TInit, out-TInit}
use Rattle.c_type_base.specs.declared.statement.TInit.TheOpen.{TInit-F}
use Rattle.c_type_base.specs.declared.statement.TDecl.{TDecl}
use Rattle.c_type_base.specs.declared.statement.TItem.{TItem, out-TItem}
use Rattle.c_type_base.specs.declared.statement.TItem.TheOpen.{TItem-F, TStmt-F}
use Rattle.c_type_base.specs.declared.statement.TStmt.{TStmt, out-TStmt}
use Rattle.c_type_base.specs.declared.typed.LocalInfo.{LocalInfo}
use Rattle.c_type_base.specs.declared.typed.MemberInfo.{MemberInfo}
use Rattle.c_type_base.specs.Layout.{members_of}
use Rattle.c_type_base.specs.Types.{is_array, is_integer, is_scalar, is_struct, is_void, element_of, struct_of}
use Rattle.block_meaning.specs.ExpressionsInOrder.{Scope, within, file_of, ValueInOrder, ConditionInOrder}
use Rattle.block_meaning.specs.Linkage.{structs_of}
use Rattle.block_meaning.specs.Locals.{text_of}
use Rattle.block_meaning.specs.Statements.{StmtLayer, ItemLayer, local_of, declared}

-- ---- initialisers

mutual
  -- of an object of a type
  pub data Initialises (s : Scope) : Ty → TInit-F TInit → Type 0 where
    scalar : {t : Ty} {e : TExpr} → is_scalar t ≡ true → ValueInOrder s e → e.ty ≡ t → Initialises s t (TInit-F.One e)
    struct_value : {t : Ty} {e : TExpr} → is_struct t ≡ true → ValueInOrder s e → e.ty ≡ t → Initialises s t (TInit-F.One e)
    text : {t element : Ty} {e : TExpr} {k : ℕ} {bytes : List ℕ} → element_of t ≡ Some element → out-TNode e.node ≡ TNode-F.Text k →
        text_of (file_of s) k ≡ Some bytes → Initialises s t (TInit-F.One e)
    -- the 0 of `{0}` for an element or member that is an array or a struct itself
    zero_of_list : {t : Ty} {e : TExpr} → (is_array t || is_struct t) ≡ true → ValueInOrder s e → is_integer e.ty ≡ true →
        Initialises s t (TInit-F.One e)
    elements : {t element : Ty} {is : List TInit} {span : Span} → element_of t ≡ Some element → Elements s element is →
        Initialises s t (TInit-F.List is span)
    members : {t : Ty} {number : ℕ} {is : List TInit} {span : Span} → struct_of t ≡ Some number →
        Members s (members_of (slice_get (structs_of s.program.units s.unit) number)) is → Initialises s t (TInit-F.List is span)

  -- of the elements of an array
  pub data Elements (s : Scope) : Ty → List TInit → Type 0 where
    no_element : {t : Ty} → Elements s t []
    element : {t : Ty} {i : TInit} {is : List TInit} → Initialises s t (out-TInit i) → Elements s t is → Elements s t (i ∷ is)

  -- of the first members of a struct
  pub data Members (s : Scope) : List MemberInfo → List TInit → Type 0 where
    no_member : {ms : List MemberInfo} → Members s ms []
    member : {m : MemberInfo} {ms : List MemberInfo} {i : TInit} {is : List TInit} →
        Initialises s m.ty (out-TInit i) → Members s ms is → Members s (m ∷ ms) (i ∷ is)

-- the declaration of a local, which is in scope in its own initialiser
pub record DeclarationInOrder (s : Scope) (d : TDecl) : Type 0 where
  pub info : LocalInfo
  pub info_is : slice_get s.function.locals d.local ≡ Some info
  pub in_scope : Contains s.locals d.local
  pub init : IfSome d.init (λ i. Initialises s info.ty (out-TInit i))

-- ---- statements

mutual
  pub data StatementInOrder : Scope → StmtLayer → Type 0 where
    block : {s : Scope} {is : List TItem} → Items (within s (declared is)) is → StatementInOrder s (TStmt-F.Block is)
    expression : {s : Scope} {e : TExpr} → ValueInOrder s e → StatementInOrder s (TStmt-F.Expr e)
    empty : {s : Scope} → StatementInOrder s TStmt-F.Empty
    if_alone : {s : Scope} {e : TExpr} {st : TStmt} → ConditionInOrder s e → StatementInOrder s (out-TStmt st) →
        StatementInOrder s (TStmt-F.If e st None)
    if_else : {s : Scope} {e : TExpr} {st other : TStmt} → ConditionInOrder s e → StatementInOrder s (out-TStmt st) →
        StatementInOrder s (out-TStmt other) → StatementInOrder s (TStmt-F.If e st (Some other))
    while : {s : Scope} {e : TExpr} {st : TStmt} → ConditionInOrder s e → StatementInOrder s (out-TStmt st) →
        StatementInOrder s (TStmt-F.While e st)
    do_while : {s : Scope} {e : TExpr} {st : TStmt} → StatementInOrder s (out-TStmt st) → ConditionInOrder s e →
        StatementInOrder s (TStmt-F.DoWhile st e)
    for : {s : Scope} {ds : List TDecl} {first condition next : Option TExpr} {st : TStmt} →
        All (DeclarationInOrder (within s (map local_of ds))) ds → IfSome first (ValueInOrder (within s (map local_of ds))) →
        IfSome condition (ConditionInOrder (within s (map local_of ds))) → IfSome next (ValueInOrder (within s (map local_of ds))) →
        StatementInOrder (within s (map local_of ds)) (out-TStmt st) → StatementInOrder s (TStmt-F.For ds first condition next st)
    -- a value is returned exactly from a function that is not void (6.8.6.4)
    return : {s : Scope} {span : Span} → is_void s.function.result ≡ true → StatementInOrder s (TStmt-F.Return None span)
    return_value : {s : Scope} {e : TExpr} {span : Span} → ValueInOrder s e → e.ty ≡ s.function.result →
        StatementInOrder s (TStmt-F.Return (Some e) span)
    break : {s : Scope} {span : Span} → StatementInOrder s (TStmt-F.Break span)
    continue : {s : Scope} {span : Span} → StatementInOrder s (TStmt-F.Continue span)

  pub data ItemInOrder : Scope → ItemLayer → Type 0 where
    declarations : {s : Scope} {ds : List TDecl} → All (DeclarationInOrder s) ds → ItemInOrder s (TItem-F.Local ds)
    statement : {s : Scope} {st : TStmt} → StatementInOrder s (out-TStmt st) → ItemInOrder s (TItem-F.Stmt st)

  -- the parts of a block
  pub data Items : Scope → List TItem → Type 0 where
    no_item : {s : Scope} → Items s []
    item : {s : Scope} {i : TItem} {is : List TItem} → ItemInOrder s (out-TItem i) → Items s is → Items s (i ∷ is)
