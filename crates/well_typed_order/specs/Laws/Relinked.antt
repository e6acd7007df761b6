-- What is in order in one program is so in another that has the same file, where the externs that it uses are defined there.
use Rattle.std.proofs.Common.{◌≡◌, refl, sym, ◌∙◌, ap, subst, ℕ, zero, suc, arith, List, [], ◌∷◌, ◌++◌, map, slice_get}
use Rattle.std.proofs.Common.{Option, Some, None}
use Rattle.std.specs.Prelude.{IfSome}
use Rattle.std.specs.List.{All}
use Rattle.c_type_base.specs.Layout.{members_of}
use Rattle.c_type_base.specs.Types.{is_void}
use Rattle.c_type_base.specs.declared.ty.Ty.{Ty}
use Rattle.c_type_base.specs.declared.expr.Callee.{Callee}
use Rattle.c_type_base.specs.declared.expr.TExpr.{TExpr}
use Rattle.c_type_base.specs.declared.expr.TNode.TheOpen.{TNode-F}
use Rattle.c_type_base.specs.declared.statement.TDecl.{TDecl}
use Rattle.c_type_base.specs.declared.statement.TInit.{TInit, out-TInit}
use Rattle.c_type_base.specs.declared.statement.TInit.TheOpen.{TInit-F}
use Rattle.c_type_base.specs.declared.statement.TItem.{TItem}
use Rattle.c_type_base.specs.declared.statement.TStmt.{out-TStmt}
use Rattle.c_type_base.specs.declared.typed.ExternInfo.{ExternInfo}
use Rattle.c_type_base.specs.declared.typed.MemberInfo.{MemberInfo}
use Rattle.c_type_base.specs.declared.typed.TFunction.{TFunction}
use Rattle.block_meaning.specs.Expressions.{NodeLayer}
use Rattle.block_meaning.specs.ExpressionsInOrder as order
use Rattle.block_meaning.specs.ExpressionsInOrder.{Scope, within, HasValue, Designates, Arguments, HasMember, Callable, IsDefined}
use Rattle.block_meaning.specs.ExpressionsInOrder.{global_of}
use Rattle.block_meaning.specs.ExpressionsInOrder.{ValueInOrder, ConditionInOrder}
use Rattle.block_meaning.specs.Linkage.{extern_in, extern_at, function_in, structs_in}
use Rattle.block_meaning.specs.Locals.{text_of}
use Rattle.block_meaning.specs.ProgramsInOrder.{FunctionInOrder}
use Rattle.block_meaning.specs.Running.{Program}
use Rattle.block_meaning.specs.Statements.{StmtLayer, ItemLayer, local_of, declared}
use Rattle.block_meaning.specs.StatementsInOrder as statements
use Rattle.block_meaning.specs.StatementsInOrder.{Initialises, Elements, Members, DeclarationInOrder, StatementInOrder, ItemInOrder, Items}
use Rattle.well_typed_order.specs.Uses as uses
use Rattle.well_typed_order.specs.Uses.{Uses, AnyUses, ExprUses, InitUses, AnyInitUses, MayUse, DeclUses, AnyDeclUses, StmtUses, ItemUses}
use Rattle.well_typed_order.specs.Uses.{AnyItemUses}

module _ (old new : Program) (unit : ℕ) (same : slice_get old.units unit ≡ slice_get new.units unit) where
  -- the name of an extern is defined in the other program
  abbrev Linked : ℕ → Type 0
  Linked k = (e : ExternInfo) → extern_at old.units unit k ≡ Some e → IsDefined new.units e.name

  abbrev from : TFunction → List ℕ → Scope
  from f ks = record { program = old; unit = unit; function = f; locals = ks }

  abbrev into : TFunction → List ℕ → Scope
  into f ks = record { program = new; unit = unit; function = f; locals = ks }

  module _ (f : TFunction) (ks : List ℕ) where
    member_moves : {t : Ty} {k : ℕ} {m : MemberInfo} → HasMember (from f ks) t k m → HasMember (into f ks) t k m
    member_moves {k = k} {m = m} has = record {
      number = has.number;
      is_struct = has.is_struct;
      member = subst (λ o. slice_get (members_of (slice_get (structs_in o) has.number)) k ≡ Some m) same has.member;
    }

    callable_moves : (g : Callee) (es : List TExpr) (ts : List Ty) (t : Ty) → Callable (from f ks) g ts t →
        ((k : ℕ) → Uses (TNode-F.Call g es) k → Linked k) → Callable (into f ks) g ts t
    callable_moves g es ts t (order.function {k = k} {f = h} is) linked =
        order.function (subst (λ o. function_in o k ≡ Some h) same is)
    callable_moves g es ts t (order.extern {k} {e} is its defines) linked =
        order.extern (subst (λ o. extern_in o k ≡ Some e) same is) its (linked k uses.called e is)
    callable_moves g es ts t order.putchar linked = order.putchar
    callable_moves g es ts t order.getchar linked = order.getchar

    mutual
      value_moves : {t : Ty} {n : NodeLayer} → HasValue (from f ks) t n → ((k : ℕ) → Uses n k → Linked k) → HasValue (into f ks) t n
      value_moves order.constant linked = order.constant
      value_moves (order.paren e) linked = order.paren (value_moves e (λ k u. linked k (uses.paren u)))
      value_moves (order.address e) linked = order.address (place_moves e (λ k u. linked k (uses.unary u)))
      value_moves (order.denied e is) linked = order.denied (value_moves e (λ k u. linked k (uses.unary u))) is
      value_moves (order.signed sign e is) linked = order.signed sign (value_moves e (λ k u. linked k (uses.unary u))) is
      value_moves (order.logical group a is b its) linked = order.logical group (value_moves a (λ k u. linked k (uses.first u))) is
          (value_moves b (λ k u. linked k (uses.second u))) its
      value_moves (order.operated a b types) linked = order.operated (value_moves a (λ k u. linked k (uses.first u)))
          (value_moves b (λ k u. linked k (uses.second u))) types
      value_moves (order.assigned a b is) linked = order.assigned (place_moves a (λ k u. linked k (uses.target u)))
          (value_moves b (λ k u. linked k (uses.source u))) is
      value_moves (order.compound a b types) linked = order.compound (place_moves a (λ k u. linked k (uses.target u)))
          (value_moves b (λ k u. linked k (uses.source u))) types
      value_moves (order.chosen c is a one b two) linked = order.chosen (value_moves c (λ k u. linked k (uses.condition u))) is
          (value_moves a (λ k u. linked k (uses.first_arm u))) one (value_moves b (λ k u. linked k (uses.second_arm u))) two
      value_moves (order.cast e types) linked = order.cast (value_moves e (λ k u. linked k (uses.cast u))) types
      value_moves (order.cast_to_void e is) linked = order.cast_to_void (value_moves e (λ k u. linked k (uses.cast u))) is
      value_moves order.size_of linked = order.size_of
      value_moves order.size_of_type linked = order.size_of_type
      value_moves (order.call {f = g} {es = es} {ts = ts} {t = t} callable arguments) linked = order.call (callable_moves g es ts t
          callable linked)
          (arguments_move arguments (λ k u. linked k (uses.argument u)))
      value_moves (order.step e is) linked = order.step (place_moves e (λ k u. linked k (uses.step u))) is
      value_moves (order.read e is) linked = order.read (place_moves e (λ k u. linked k (uses.read u))) is
      value_moves (order.decay e is) linked = order.decay (place_moves e (λ k u. linked k (uses.decay u))) is
      value_moves (order.convert e types) linked = order.convert (value_moves e (λ k u. linked k (uses.convert u))) types
      value_moves (order.member_value e has is) linked =
          order.member_value (place_moves e (λ k u. linked k (uses.member u))) (member_moves has) is

      place_moves : {t : Ty} {n : NodeLayer} → Designates (from f ks) t n → ((k : ℕ) → Uses n k → Linked k) → Designates (into f ks) t n
      place_moves (order.text {k} {bytes} is) linked = order.text (subst (λ o. text_of o k ≡ Some bytes) same is)
      place_moves (order.local contains is) linked = order.local contains is
      place_moves (order.global {k} {g} is) linked = order.global (subst (λ o. global_of o k ≡ Some g) same is)
      place_moves (order.extern_object {k} {e} is its defines) linked =
          order.extern_object (subst (λ o. extern_in o k ≡ Some e) same is) its (linked k uses.named e is)
      place_moves (order.paren_place e) linked = order.paren_place (place_moves e (λ k u. linked k (uses.paren u)))
      place_moves (order.target e is) linked = order.target (value_moves e (λ k u. linked k (uses.unary u))) is
      place_moves (order.element a is i its) linked = order.element (value_moves a (λ k u. linked k (uses.array u))) is
          (value_moves i (λ k u. linked k (uses.index u))) its
      place_moves (order.element_of_second i is a its) linked = order.element_of_second (value_moves i (λ k u. linked k (uses.array u))) is
          (value_moves a (λ k u. linked k (uses.index u))) its
      place_moves (order.member e has) linked = order.member (place_moves e (λ k u. linked k (uses.member u))) (member_moves has)
      place_moves (order.arrow e is has) linked = order.arrow (value_moves e (λ k u. linked k (uses.arrow u))) is (member_moves has)
      place_moves (order.struct_assigned a b is its) linked = order.struct_assigned (place_moves a (λ k u. linked k (uses.target u)))
          (value_moves b (λ k u. linked k (uses.source u))) is its

      arguments_move : {es : List TExpr} {ts : List Ty} → Arguments (from f ks) es ts → ((k : ℕ) → AnyUses es k → Linked k) →
          Arguments (into f ks) es ts
      arguments_move order.no_argument linked = order.no_argument
      arguments_move (order.argument e rest) linked = order.argument (value_moves e (λ k u. linked k (uses.here u)))
          (arguments_move rest (λ k u. linked k (uses.there u)))

    -- ---- initialisers

    mutual
      init_moves : {t : Ty} {i : TInit-F TInit} → Initialises (from f ks) t i → ((k : ℕ) → InitUses i k → Linked k) →
          Initialises (into f ks) t i
      init_moves (statements.scalar is e its) linked = statements.scalar is (value_moves e (λ k u. linked k (uses.one u))) its
      init_moves (statements.struct_value is e its) linked = statements.struct_value is (value_moves e (λ k u. linked k (uses.one u))) its
      init_moves (statements.text {k = k} {bytes = bytes} is node_is there) linked =
          statements.text is node_is (subst (λ o. text_of o k ≡ Some bytes) same there)
      init_moves (statements.zero_of_list is e its) linked = statements.zero_of_list is (value_moves e (λ k u. linked k (uses.one u))) its
      init_moves (statements.elements is all) linked = statements.elements is (elements_move all (λ k u. linked k (uses.list u)))
      init_moves (statements.members {number = number} {is = is} there all) linked =
          statements.members there (subst (λ o. Members (into f ks) (members_of (slice_get (structs_in o) number)) is) same
          (members_move all (λ k u. linked k (uses.list u))))

      elements_move : {t : Ty} {is : List TInit} → Elements (from f ks) t is → ((k : ℕ) → AnyInitUses is k → Linked k) →
          Elements (into f ks) t is
      elements_move statements.no_element linked = statements.no_element
      elements_move (statements.element i rest) linked = statements.element (init_moves i (λ k u. linked k (uses.here u)))
          (elements_move rest (λ k u. linked k (uses.there u)))

      members_move : {ms : List MemberInfo} {is : List TInit} → Members (from f ks) ms is → ((k : ℕ) → AnyInitUses is k → Linked k) →
          Members (into f ks) ms is
      members_move statements.no_member linked = statements.no_member
      members_move (statements.member i rest) linked = statements.member (init_moves i (λ k u. linked k (uses.here u)))
          (members_move rest (λ k u. linked k (uses.there u)))

    some_init : (t : Ty) (o : Option TInit) → IfSome o (λ i. Initialises (from f ks) t (out-TInit i)) →
        ((k : ℕ) → MayUse (λ i k. InitUses (out-TInit i) k) o k → Linked k) → IfSome o (λ i. Initialises (into f ks) t (out-TInit i))
    some_init t None init linked = tt
    some_init t (Some i) init linked = init_moves init linked

    declaration_moves : (d : TDecl) → DeclarationInOrder (from f ks) d → ((k : ℕ) → DeclUses d k → Linked k) →
        DeclarationInOrder (into f ks) d
    declaration_moves d in_order linked = record {
      info = in_order.info;
      info_is = in_order.info_is;
      in_scope = in_order.in_scope;
      init = some_init in_order.info.ty d.init in_order.init linked;
    }

    declarations_move : (ds : List TDecl) → All (DeclarationInOrder (from f ks)) ds → ((k : ℕ) → AnyDeclUses ds k → Linked k) →
        All (DeclarationInOrder (into f ks)) ds
    declarations_move [] all linked k d less = absurd (omega (arith, less))
    declarations_move (x ∷ ds) all linked zero d less =
        declaration_moves x (all zero d less) (λ k u. linked k (uses.here u))
    declarations_move (x ∷ ds) all linked (suc k) d less =
        declarations_move ds (λ k d less. all (suc k) d (omega (arith, less))) (λ k u. linked k (uses.there u)) k d (omega (arith, less))

    some_value : (o : Option TExpr) → IfSome o (ValueInOrder (from f ks)) → ((k : ℕ) → MayUse ExprUses o k → Linked k) →
        IfSome o (ValueInOrder (into f ks))
    some_value None value linked = tt
    some_value (Some e) value linked = value_moves value linked

    condition_moves : (e : TExpr) → ConditionInOrder (from f ks) e → ((k : ℕ) → ExprUses e k → Linked k) → ConditionInOrder (into f ks) e
    condition_moves e condition linked = record { value = value_moves condition.value linked; scalar = condition.scalar }

    some_condition : (o : Option TExpr) → IfSome o (ConditionInOrder (from f ks)) → ((k : ℕ) → MayUse ExprUses o k → Linked k) →
        IfSome o (ConditionInOrder (into f ks))
    some_condition None condition linked = tt
    some_condition (Some e) condition linked = condition_moves e condition linked

  -- ---- statements

  mutual
    statement_moves : {s : Scope} {l : StmtLayer} → StatementInOrder s l → (f : TFunction) (ks : List ℕ) → s ≡ from f ks →
        ((k : ℕ) → StmtUses l k → Linked k) → StatementInOrder (into f ks) l
    statement_moves (statements.block {is = is} items) f ks here linked = statements.block
        (items_move items f (declared is ++ ks) (ap (λ s. within s (declared is)) here) (λ k u. linked k (uses.block u)))
    statement_moves (statements.expression {e = e} value) f ks here linked = statements.expression
        (value_moves f ks (subst (λ s. ValueInOrder s e) here value) (λ k u. linked k (uses.expression u)))
    statement_moves statements.empty f ks here linked = statements.empty
    statement_moves (statements.if_alone {e = e} condition first) f ks here linked = statements.if_alone
        (condition_moves f ks e (subst (λ s. ConditionInOrder s e) here condition) (λ k u. linked k (uses.if_condition u)))
        (statement_moves first f ks here (λ k u. linked k (uses.if_first u)))
    statement_moves (statements.if_else {e = e} condition first second) f ks here linked = statements.if_else
        (condition_moves f ks e (subst (λ s. ConditionInOrder s e) here condition) (λ k u. linked k (uses.if_condition u)))
        (statement_moves first f ks here (λ k u. linked k (uses.if_first u)))
        (statement_moves second f ks here (λ k u. linked k (uses.if_second u)))
    statement_moves (statements.while {e = e} condition body) f ks here linked = statements.while
        (condition_moves f ks e (subst (λ s. ConditionInOrder s e) here condition) (λ k u. linked k (uses.while_condition u)))
        (statement_moves body f ks here (λ k u. linked k (uses.while_body u)))
    statement_moves (statements.do_while {e = e} body condition) f ks here linked = statements.do_while
        (statement_moves body f ks here (λ k u. linked k (uses.do_body u)))
        (condition_moves f ks e (subst (λ s. ConditionInOrder s e) here condition) (λ k u. linked k (uses.do_condition u)))
    statement_moves (statements.for {ds = ds} {first = a} {condition = c} {next = n} declarations first condition next body) f ks here
        linked =
        let js = map local_of ds ++ ks in
        let inner = ap (λ s. within s (map local_of ds)) here in
        statements.for
        (declarations_move f js ds (subst (λ s. All (DeclarationInOrder s) ds) inner declarations) (λ k u. linked k (uses.for_declared u)))
        (some_value f js a (subst (λ s. IfSome a (ValueInOrder s)) inner first) (λ k u. linked k (uses.for_first u)))
        (some_condition f js c (subst (λ s. IfSome c (ConditionInOrder s)) inner condition) (λ k u. linked k (uses.for_condition u)))
        (some_value f js n (subst (λ s. IfSome n (ValueInOrder s)) inner next) (λ k u. linked k (uses.for_next u)))
        (statement_moves body f js inner (λ k u. linked k (uses.for_body u)))
    statement_moves (statements.return is) f ks here linked =
        statements.return (ap (λ (s : Scope). is_void s.function.result) (sym here) ∙ is)
    statement_moves (statements.return_value {e = e} value is) f ks here linked = statements.return_value
        (value_moves f ks (subst (λ s. ValueInOrder s e) here value) (λ k u. linked k (uses.return u)))
        (is ∙ ap (λ (s : Scope). s.function.result) here)
    statement_moves statements.break f ks here linked = statements.break
    statement_moves statements.continue f ks here linked = statements.continue

    item_moves : {s : Scope} {l : ItemLayer} → ItemInOrder s l → (f : TFunction) (ks : List ℕ) → s ≡ from f ks →
        ((k : ℕ) → ItemUses l k → Linked k) → ItemInOrder (into f ks) l
    item_moves (statements.declarations {ds = ds} all) f ks here linked = statements.declarations
        (declarations_move f ks ds (subst (λ s. All (DeclarationInOrder s) ds) here all) (λ k u. linked k (uses.declarations u)))
    item_moves (statements.statement statement) f ks here linked =
        statements.statement (statement_moves statement f ks here (λ k u. linked k (uses.statement u)))

    items_move : {s : Scope} {is : List TItem} → Items s is → (f : TFunction) (ks : List ℕ) → s ≡ from f ks →
        ((k : ℕ) → AnyItemUses is k → Linked k) → Items (into f ks) is
    items_move statements.no_item f ks here linked = statements.no_item
    items_move (statements.item i rest) f ks here linked = statements.item (item_moves i f ks here (λ k u. linked k (uses.here u)))
        (items_move rest f ks here (λ k u. linked k (uses.there u)))

  -- a function
  pub function-moves : (f : TFunction) → FunctionInOrder old unit f → ((k : ℕ) → StmtUses (out-TStmt f.body) k → Linked k) →
      FunctionInOrder new unit f
  function-moves f in_order linked = record {
    result = in_order.result;
    items = in_order.items;
    body_is = in_order.body_is;
    body = items_move in_order.body f _ refl (λ k u. linked k (subst (λ l. StmtUses l k) (sym in_order.body_is) (uses.block u)));
  }
