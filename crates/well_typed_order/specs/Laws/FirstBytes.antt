-- Expressions that initialise objects, and the first bytes of objects that live from the start: what keeps all rules fits.
use Rattle.std.proofs.Common.{◌≡◌, refl, sym, ap, subst, ℕ, ◌+◌, arith, Bool, true, false, ◌&&◌, ◌||◌, List, [], ◌∷◌, ◌++◌}
use Rattle.std.proofs.Common.{map, Option, Some, None}
use Rattle.std.specs.List.{AllByRecursion}
use Rattle.std.proofs.lemmas.Option.{same_Some}
use Rattle.c_ast.specs.Laws.Opened.{given_trees}
use Rattle.c_ast.specs.Tree.{NodeLayer}
use Rattle.c_ast.specs.declared.token.Span.{Span}
use Rattle.c_ast.specs.declared.int_type.IntType.{IntType}
use Rattle.c_ast.specs.declared.expr.CType.TheOpen.{Node-F}
use Rattle.c_ast.specs.declared.expr.CType.TheFolds.{fold-Node, fold-roll-Node, fold_out-Expr}
use Rattle.c_ast.specs.declared.expr.Expr.{Expr}
use Rattle.c_ast.specs.declared.expr.Node.{Node, out-Node, roll-Node, roll-out-Node}
use Rattle.c_type_base.specs.Laws.Opened.{given_typed}
use Rattle.c_type_base.specs.declared.ty.Ty.{Ty, out-Ty}
use Rattle.c_type_base.specs.declared.ty.Ty.TheOpen.{Ty-F}
use Rattle.c_type_base.specs.declared.expr.TNode.{out-TNode}
use Rattle.c_type_base.specs.declared.expr.TNode.TheOpen.{TNode-F}
use Rattle.c_type_base.specs.declared.statement.TInit.{out-TInit}
use Rattle.c_type_base.specs.declared.statement.TInit.TheOpen.{TInit-F}
use Rattle.c_type_base.specs.declared.typed.InitPiece.{InitPiece}
use Rattle.c_type_base.specs.declared.typed.InitValue.{InitValue}
use Rattle.c_type_base.specs.declared.typed.InitValue.TheVariants as initial
use Rattle.c_type_base.specs.declared.typed.Target.{Target}
use Rattle.c_type_base.specs.declared.known.Constancy.{Constancy}
use Rattle.c_type_base.specs.declared.known.Constancy.TheVariants.{Varies, DividesByZero, Is}
use Rattle.c_type_base.specs.declared.known.Fixed.{Fixed}
use Rattle.c_type_base.specs.declared.known.Known.{Known}
use Rattle.c_type_base.specs.declared.known.Written.{Written}
use Rattle.c_type_base.specs.Known.{value, assignable, is_value, is_null}
use Rattle.c_type_base.specs.Types.{TyLayer, element_of_level, is_char_type, is_scalar}
use Rattle.c_type_base.specs.Types.{is_integer, is_pointer, is_struct, same_type, element_of}
use Rattle.c_type_expr.specs.Expressions.{node_step, expr_step, expression}
use Rattle.c_type_expr.specs.Faults.{rule}
use Rattle.c_type_expr.specs.Operators.{breaks}
use Rattle.c_type_expr.specs.Outcomes.{Judged, both, either, asked}
use Rattle.c_type_expr.specs.Said.{Said, NodeSaid, type_step, text}
use Rattle.c_type_stmt.specs.declared.fitted.Fitted.{Fitted}
use Rattle.c_type_stmt.specs.Initials.{moved_piece, number_piece, address_value, address_piece, pointer_piece, scalar_piece}
use Rattle.c_type_stmt.specs.Initials.{byte_pieces, first_of}
use Rattle.c_type_stmt.specs.Initials.{spelled, array_by, assigned, may_begin, may_fit, expression_for}
use Rattle.block_meaning.specs.ExpressionsInOrder.{Scope, file_of}
use Rattle.block_meaning.specs.Locals.{text_of}
use Rattle.block_meaning.specs.StatementsInOrder as order
use Rattle.block_meaning.specs.StatementsInOrder.{Initialises}
use Rattle.well_typed_order.specs.Standing.{Good, TargetIn, AddressIn, FixedIn}
use Rattle.well_typed_order.specs.Standing.{ValueIn}
use Rattle.well_typed_order.specs.Laws.Binary.{never-kept, kept-first, kept-rest}
use Rattle.well_typed_order.specs.Laws.Expressions.{expression-good}
use Rattle.well_typed_order.specs.Laws.Good.{good-on}
use Rattle.well_typed_order.specs.Laws.Good.{good-either, good-never}
use Rattle.well_typed_order.specs.Laws.Known.{Into, assignable-in, value-in}
use Rattle.well_typed_order.specs.Laws.Types.{and_first}

module _ (s : Scope) where
  -- ---- a text alone

  pub record IsText (bytes : List ℕ) (k : Known) : Type 0 where
    pub number : ℕ
    pub node_is : out-TNode k.tree.node ≡ TNode-F.Text number
    pub there : text_of (file_of s) number ≡ Some bytes

  pub text_is : (bytes : List ℕ) (span : Span) → Good s (IsText bytes) (text bytes span)
  unfolding given_typed
  text_is bytes span = record {
    silent = λ env. refl;
    holds = λ env inside kept texts.
        let same : env.texts + 0 ≡ env.texts = omega arith in
        record { number = env.texts; node_is = refl; there = subst (λ n. text_of (file_of s) n ≡ Some bytes) same (texts 0 bytes refl) };
  }

  abbrev pub said_node : Node → NodeSaid
  said_node = fold-Node (Span → Judged Written) NodeSaid Said type_step node_step expr_step

  abbrev pub TextGood : NodeSaid → Type 0
  TextGood n = (bytes : List ℕ) → n.text ≡ Some bytes → (span : Span) → Good s (IsText bytes) (n.judged span)

  pub text_node : (d : Node-F (Span → Judged Written) NodeSaid Said) → TextGood (node_step d)
  text_node (Node-F.Text bytes) other is span =
      subst (λ b. Good s (IsText b) (text (bytes ++ 0 ∷ []) span)) (same_Some (bytes ++ 0 ∷ []) other is) (text_is (bytes ++ 0 ∷ []) span)
  text_node _ other is span = absurd cc

  pub text_rolled : (d : NodeLayer) → TextGood (said_node (roll-Node d))
  text_rolled d = subst TextGood (sym (fold-roll-Node (Span → Judged Written) NodeSaid Said type_step node_step expr_step d)) (text_node _)

  pub text_said : (n : Node) → TextGood (said_node n)
  text_said n = subst (λ n. TextGood (said_node n)) (roll-out-Node n) (text_rolled (out-Node n))

  pub said_is : (e : Expr) → expression e ≡ expr_step (record { span = e.span; node = said_node e.node })
  unfolding given_trees
  said_is e = fold_out-Expr (Span → Judged Written) NodeSaid Said type_step node_step expr_step e

  -- an expression that is a text alone
  pub text-good : (e : Expr) (bytes : List ℕ) → (expression e).text ≡ Some bytes → Good s (IsText bytes) (expression e).judged
  text-good e bytes is = subst (λ (x : Said). x.text ≡ Some bytes → Good s (IsText bytes) x.judged) (sym (said_is e))
      (λ is. text_said e.node bytes is e.span) is

  -- ---- what an object is initialised with

  -- the first bytes of an object that lives from the start: what an address is of is there
  abbrev pub InitialIn : InitValue → Type 0
  InitialIn (initial.Number n bytes) = Unit {0}
  InitialIn (initial.Address t offset) = TargetIn (file_of s) t

  abbrev pub PieceIn : InitPiece → Type 0
  PieceIn p = InitialIn p.value

  pub record FitsIn (t : Ty) (f : Fitted) : Type 0 where
    pub tree : Initialises s t (out-TInit f.tree)
    pub pieces : AllByRecursion PieceIn f.pieces

  pub bytes_in : (offset : ℕ) (bs : List ℕ) → AllByRecursion PieceIn (byte_pieces offset bs)
  bytes_in offset [] = tt
  bytes_in offset (b ∷ bs) = (tt, bytes_in (offset + 1) bs)

  pub number_in : (t : IntType) (c : Constancy) → AllByRecursion PieceIn (number_piece t c)
  number_in t Varies = tt
  number_in t DividesByZero = tt
  number_in t (Is n) = (tt, tt)

  pub address_in : (t : Option Target) (offset : ℕ) → AddressIn s t → InitialIn (address_value t offset)
  address_in None offset is = tt
  address_in (Some t) offset is = is

  pub fixed_in : (o : Option Fixed) → FixedIn s o → AllByRecursion PieceIn (address_piece o)
  fixed_in None is = tt
  fixed_in (Some f) is = (address_in f.target f.offset is, tt)

  pub pointer_in : (null : Bool) (o : Option Fixed) → FixedIn s o → AllByRecursion PieceIn (pointer_piece null o)
  pointer_in true o is = (tt, tt)
  pointer_in false o is = fixed_in o is

  pub scalar_in : (l : TyLayer) (k : Known) → FixedIn s k.fixed → AllByRecursion PieceIn (scalar_piece l k)
  scalar_in Ty-F.Void k is = tt
  scalar_in (Ty-F.Int t) k is = number_in t k.constant
  scalar_in (Ty-F.Pointer t) k is = pointer_in (is_null k) k.fixed is
  scalar_in (Ty-F.Array t n) k is = tt
  scalar_in (Ty-F.Struct n) k is = tt

  pub moved_in : (by : ℕ) (ps : List InitPiece) → AllByRecursion PieceIn ps → AllByRecursion PieceIn (map (moved_piece by) ps)
  moved_in by [] all = tt
  moved_in by (p ∷ ps) all = (all.0, moved_in by ps all.1)

  pub joined_in : (ps qs : List InitPiece) → AllByRecursion PieceIn ps → AllByRecursion PieceIn qs → AllByRecursion PieceIn (ps ++ qs)
  joined_in [] qs all more = more
  joined_in (p ∷ ps) qs all more = (all.0, joined_in ps qs all.1 more)

  pub spelled_good : (span : Span) (t element : Ty) (n : ℕ) (bytes : List ℕ) → element_of t ≡ Some element → (k : Known) → IsText bytes k →
      Good s (FitsIn t) (spelled span n bytes k)
  unfolding given_typed
  spelled_good span t element n bytes is k text = record {
    silent = λ env. refl;
    holds = λ env inside kept texts.
        record { tree = order.text is text.node_is text.there; pieces = bytes_in 0 (first_of n bytes) };
  }

  pub array_good : (span : Span) (t element : Ty) (n : ℕ) → element_of t ≡ Some element → (e : Expr) (o : Option (List ℕ)) →
      (expression e).text ≡ o → (b : Bool) → Good s (FitsIn t) (array_by span (expression e).judged o b n)
  array_good span t element n is e (Some bytes) text true = good-on (expression e).judged (spelled span n bytes) (text-good e bytes text)
      (λ k env. refl) (spelled_good span t element n bytes is)
  array_good span t element n is e (Some bytes) text false = good-either (expression e).judged (breaks 16 span) _ (expression-good s e)
      (λ env. refl) (λ k env. refl)
      (λ k known. good-never (asked span (rule 12 (is_value k) ∷ rule 16 false ∷ [])) (λ env. refl)
      (λ env kept. never-kept span 12 16 (is_value k) kept))
  array_good span t element n is e None text b = good-either (expression e).judged (breaks 16 span) _ (expression-good s e)
      (λ env. refl) (λ k env. refl)
      (λ k known. good-never (asked span (rule 12 (is_value k) ∷ rule 16 false ∷ [])) (λ env. refl)
      (λ env kept. never-kept span 12 16 (is_value k) kept))

  -- ---- an expression for a scalar or a struct

  pub or_kinds : (a b c d e f : Bool) → ((a && d) || (b && e) || (c && f)) ≡ true → ((a || b) || c) ≡ true
  or_kinds true b c d e f is = refl
  or_kinds false true c d e f is = refl
  or_kinds false false true d e f is = refl
  or_kinds false false false d e f is = absurd cc

  pub one_init : (t : Ty) (k : Known) (b : Bool) → is_scalar t ≡ b → Into s t k → (b || is_struct t) ≡ true →
      Initialises s t (TInit-F.One k.tree)
  one_init t k true is into kinds = order.scalar is into.value.has into.is
  one_init t k false is into kinds = order.struct_value kinds into.value.has into.is

  pub assigned_good : (span : Span) (b : Bool) (t : Ty) (k : Known) → ValueIn s k → Good s (FitsIn t) (assigned span b t k)
  unfolding given_typed
  assigned_good span b t k value = record {
    silent = λ env. refl;
    holds = λ env inside kept texts.
        let rules = rule 16 (assignable t k && may_begin b t k) ∷ [] in
        let both = kept-first span 16 (assignable t k && may_begin b t k) [] (kept-rest span 12 (is_value k) rules kept) in
        let fits = and_first (assignable t k) (may_begin b t k) both in
        record {
          tree = one_init t _ (is_scalar t) refl (assignable-in k t value fits)
              (or_kinds (is_integer t) (is_pointer t) (is_struct t) (is_integer k.tree.ty)
              (same_type t k.tree.ty || is_null k) (same_type t k.tree.ty) fits);
          pieces = scalar_in (out-Ty t) k value.fixed;
        };
  }

  pub plain_good : (e : Expr) (b : Bool) (t : Ty) (l : TyLayer) → Good s (FitsIn t)
      (either (expression e).judged (asked (expression e).span (rule 16 (may_fit b (expression e).computes l) ∷ []))
      (λ k. assigned (expression e).span b t (value k)))
  plain_good e b t l = good-either (expression e).judged _ _ (expression-good s e) (λ env. refl)
      (λ k env. refl) (λ k known. assigned_good (expression e).span b t (value k) (value-in k known))

  pub expression_for_good : (e : Expr) (b : Bool) (t : Ty) (l : TyLayer) → out-Ty t ≡ l →
      Good s (FitsIn t) (expression_for (expression e) b t l)
  expression_for_good e b t (Ty-F.Array element n) is =
      array_good (expression e).span t element n (ap element_of_level is) e (expression e).text refl (is_char_type element)
  expression_for_good e b t Ty-F.Void is = plain_good e b t Ty-F.Void
  expression_for_good e b t (Ty-F.Int i) is = plain_good e b t (Ty-F.Int i)
  expression_for_good e b t (Ty-F.Pointer u) is = plain_good e b t (Ty-F.Pointer u)
  expression_for_good e b t (Ty-F.Struct n) is = plain_good e b t (Ty-F.Struct n)
