-- An expression that keeps all rules is in order, where the names in scope mean what is there.
use Rattle.std.proofs.Common.{◌≡◌, refl, sym, subst, ℕ, ◌+◌, arith, false, List, [], ◌∷◌, ◌++◌, length, map}
use Rattle.std.proofs.Common.{Option, Some, None}
use Rattle.std.specs.List.{AllByRecursion}
use Rattle.std.proofs.lemmas.Option.{same_Some}
use Rattle.c_ast.specs.Laws.Opened.{given_trees}
use Rattle.c_ast.specs.Tree.{TypeLayer, NodeLayer, expr}
use Rattle.c_ast.specs.declared.token.Span.{Span}
use Rattle.c_ast.specs.declared.int_type.IntType.{IntType}
use Rattle.c_ast.specs.declared.int_type.IntType.TheVariants as int
use Rattle.c_ast.specs.declared.operator.Step.{Step}
use Rattle.c_ast.specs.declared.operator.UnaryOperator.{UnaryOperator}
use Rattle.c_ast.specs.declared.operator.BinaryOperator.{BinaryOperator}
use Rattle.c_ast.specs.declared.operator.AssignOperator.{AssignOperator}
use Rattle.c_ast.specs.declared.expr.CType.{CType, roll-CType, map-CType}
use Rattle.c_ast.specs.declared.expr.CType.TheOpen.{CType-F, Node-F, Expr-F}
use Rattle.c_ast.specs.declared.expr.CType.TheFolds.{fold-Node, fold-roll-CType, fold-roll-Node, fold_out-Expr, ind-CType, ind-Expr}
use Rattle.c_ast.specs.declared.expr.Expr.{Expr, roll-Expr, map-Expr}
use Rattle.c_ast.specs.declared.expr.Node.{Node, roll-Node, map-Node}
use Rattle.c_type_base.specs.Laws.Opened.{given_types, given_typed}
use Rattle.c_type_base.specs.declared.ty.Ty.{Ty}
use Rattle.c_type_base.specs.declared.ty.Ty.TheVariants as ty
use Rattle.c_type_base.specs.declared.expr.Callee.{Callee}
use Rattle.c_type_base.specs.declared.known.Known.{Known}
use Rattle.c_type_base.specs.declared.known.Written.{Written}
use Rattle.c_type_base.specs.declared.known.Written.TheVariants.{Whole, Open}
use Rattle.c_type_base.specs.declared.typed.Target.{Target}
use Rattle.c_type_base.specs.declared.typed.Target.TheVariants as target
use Rattle.c_type_base.specs.declared.typed.Typed.{Typed}
use Rattle.c_type_base.specs.Known.{value}
use Rattle.c_type_base.specs.Types.{is_void, int_of, struct_of}
use Rattle.c_type_expr.specs.Faults.{rule}
use Rattle.c_type_expr.specs.declared.scopes.Binding.{Binding}
use Rattle.c_type_expr.specs.declared.scopes.Called.{Called}
use Rattle.c_type_expr.specs.declared.scopes.Meaning.{Meaning}
use Rattle.c_type_expr.specs.declared.scopes.Meaning.TheVariants as means
use Rattle.c_type_expr.specs.declared.scopes.Signature.{Signature}
use Rattle.c_type_expr.specs.Environment.{Env, target_at, in_scopes}
use Rattle.c_type_expr.specs.Expressions.{unary_row, cast_row, assign_row, step_row, in_parentheses, sizeof_row, sizeof_type}
use Rattle.c_type_expr.specs.Expressions.{index_of, arrow_of, node_step, expr_step, expression, written}
use Rattle.c_type_expr.specs.Operators.{sort_of, binary_judged, cond_judged}
use Rattle.c_type_expr.specs.Outcomes.{Judged, sure, both, each, on}
use Rattle.c_type_expr.specs.Postfix.{member_row, call_row, call_known, all_values, not_called_row, not_called, function_in, call_by}
use Rattle.c_type_expr.specs.Postfix.{meaning_by}
use Rattle.c_type_expr.specs.Postfix.{argument}
use Rattle.c_type_expr.specs.Said.{Said, NodeSaid, type_step, judged_length, length_known, pointer_to, array_of, whole}
use Rattle.c_type_expr.specs.Said.{constant_known, fixed_at, is_length, length_in, tag_of, object_known, eof_value, meaning_of, name_row}
use Rattle.c_type_expr.specs.Said.{variable, text_known, text}
use Rattle.block_meaning.specs.ExpressionsInOrder as order
use Rattle.block_meaning.specs.ExpressionsInOrder.{Scope, file_of}
use Rattle.block_meaning.specs.Locals.{text_of}
use Rattle.well_typed_order.specs.Standing.{Inside, NoMore, MeansIn, EnvIn, TextsIn, Silent, Good, There, TargetIn, AddressIn, FixedIn}
use Rattle.well_typed_order.specs.Standing.{KnownIn, ValueIn}
use Rattle.well_typed_order.specs.Laws.Binary.{Keeps, never-kept, binary-in, int-integer}
use Rattle.well_typed_order.specs.Laws.Good.{silent-on, good-on, good-both}
use Rattle.well_typed_order.specs.Laws.Good.{good-sure}
use Rattle.well_typed_order.specs.Laws.Good.{get-within, good-none, good-more, good-either, good-never}
use Rattle.well_typed_order.specs.Laws.Known.{known_by, int-plain, value-in}
use Rattle.well_typed_order.specs.Laws.Postfix.{index-in, member-in, arrow-in, call-in}
use Rattle.well_typed_order.specs.Laws.Silent.{binary-silent, unary-silent, assign-silent, step-silent, cond-silent, index-silent}
use Rattle.well_typed_order.specs.Laws.Silent.{member-silent}
use Rattle.well_typed_order.specs.Laws.Silent.{arrow-silent, name-silent, pointer-silent, array-silent, tag-silent, whole-silent}
use Rattle.well_typed_order.specs.Laws.Unary.{lvalue-in, if-kept, unary-in, cast-in, sizeof-in, sizeof-name-in, assign-in, step-in, cond-in}

abbrev TypeSaid : Type 0
TypeSaid = Span → Judged Written

module _ (s : Scope) where
  -- a type that is written adds no name, and is known
  abbrev pub TypeGood : TypeSaid → Type 0
  TypeGood t = (span : Span) → Good s (λ (w : Written). Unit {0}) (t span)

  abbrev NodeGood : NodeSaid → Type 0
  NodeGood n = (span : Span) → Good s (KnownIn s) (n.judged span)

  abbrev SaidGood : Said → Type 0
  SaidGood e = Good s (KnownIn s) e.judged

  -- a row that keeps expressions in order
  keeps_good : (p : Judged Known) → Silent p → ((env : Env) → EnvIn env s → Keeps s (p env)) → Good s (KnownIn s) p
  keeps_good p silent keeps = record { silent = silent; holds = λ env inside kept texts. keeps env inside.here kept }

  -- ---- types

  tag_holds : (span : Span) (next : ℕ) (o : Option ℕ) (env : Env) → (tag_of span next o env).faults ≡ [] →
      There (tag_of span next o env).known (λ (w : Written). Unit {0})
  tag_holds span next None env kept = tt
  tag_holds span next (Some number) env kept = tt

  struct_good : (tag : List ℕ) → TypeGood (type_step (CType-F.Struct tag))
  struct_good tag span = record {
    silent = λ env. tag-silent span _ _ env;
    holds = λ env inside kept texts. tag_holds span _ _ env kept;
  }

  pointer_row : (span : Span) (w : Written) → Good s (λ (w : Written). Unit {0}) (pointer_to span w)
  pointer_row span (Open t) = good-never (pointer_to span (Open t)) (pointer-silent span (Open t)) (λ env is. absurd cc)
  pointer_row span (Whole t) =
      record { silent = pointer-silent span (Whole t); holds = λ env inside kept texts. tt }

  array_row : (span : Span) (n : Option ℕ) (w : Written) → Good s (λ (w : Written). Unit {0}) (array_of span n w)
  array_row span n (Open t) = good-never (array_of span n (Open t)) (array-silent span n (Open t)) (λ env is. absurd cc)
  array_row span None (Whole t) = record { silent = array-silent span None (Whole t); holds = λ env inside kept texts. tt }
  array_row span (Some n) (Whole t) = record { silent = array-silent span (Some n) (Whole t); holds = λ env inside kept texts. tt }

  whole_row : (span : Span) (w : Written) → Good s (λ (t : Ty). Unit {0}) (whole span w)
  whole_row span (Whole t) = good-sure t tt
  whole_row span (Open t) = good-never (whole span (Open t)) (whole-silent span (Open t)) (λ env is. absurd cc)

  pointer_good : (t : TypeSaid) → TypeGood t → TypeGood (type_step (CType-F.Pointer t))
  pointer_good t good span = good-on (t span) (pointer_to span) (good span) (pointer-silent span) (λ w known. pointer_row span w)

  open_good : (t : TypeSaid) → TypeGood t → TypeGood (type_step (CType-F.Array t None))
  open_good t good span = good-on (t span) (array_of span None) (good span) (array-silent span None) (λ w known. array_row span None w)

  length_good : (e : Said) → SaidGood e → Good s (λ (n : ℕ). Unit {0}) (judged_length e)
  length_good e good = good-either e.judged _ (length_known e.span) good (λ env. refl) (λ k env. refl)
      (λ k known. record {
        silent = λ env. refl;
        holds = λ env inside kept texts. if-kept (λ (n : ℕ). Unit {0}) e.span
            (rule 12 (is_length (int_of k.tree.ty) k.constant) ∷ []) (length_in k.constant) kept tt;
      })

  array_good : (t : TypeSaid) (e : Said) → TypeGood t → SaidGood e → TypeGood (type_step (CType-F.Array t (Some e)))
  array_good t e good length span = good-on (both (judged_length e) (t span)) _
      (good-both (judged_length e) (t span) (length_good e length) (good span)) (λ v. array-silent span (Some v.0) v.1)
      (λ v known. array_row span (Some v.0) v.1)

  whole_good : (t : TypeSaid) → TypeGood t → (span : Span) → Good s (λ (t : Ty). Unit {0}) (on (t span) (whole span))
  whole_good t good span = good-on (t span) (whole span) (good span) (whole-silent span) (λ w known. whole_row span w)

  -- ---- names, constants and texts

  constant_in : (span : Span) (n : ℕ) (t : IntType) → KnownIn s (constant_known span n t)
  unfolding given_typed
  constant_in span n t = known_by (constant_known span n t) refl order.constant (int-plain t) (λ m is. int-integer t)

  constant_good : (n : ℕ) (t : IntType) → NodeGood (node_step (Node-F.Constant n t))
  constant_good n t span = good-sure (constant_known span n t) (constant_in span n t)

  char_array_object : (n : ℕ) → is_void (ty.Array (ty.Int int.Char) n) ≡ false
  unfolding given_types
  char_array_object n = refl

  text_there : (o : Option Typed) (number : ℕ) (bytes : List ℕ) → text_of o number ≡ Some bytes → TargetIn o (target.Text number)
  text_there None number bytes is = absurd cc
  text_there (Some u) number bytes is = get-within u.texts number bytes is

  text_in : (span : Span) (bytes : List ℕ) (number : ℕ) → text_of (file_of s) number ≡ Some bytes →
      KnownIn s (text_known span (length bytes) number)
  unfolding given_typed
  text_in span bytes number is =
      lvalue-in (text_known span (length bytes) number) refl refl (text_there (file_of s) number bytes is) (order.text is)
      (char_array_object (length bytes))

  text_good : (bytes : List ℕ) (span : Span) → Good s (KnownIn s) (text bytes span)
  text_good bytes span = record {
    silent = λ env. refl;
    holds = λ env inside kept texts.
        let same : env.texts + 0 ≡ env.texts = omega arith in
        text_in span bytes env.texts (subst (λ n. text_of (file_of s) n ≡ Some bytes) same (texts 0 bytes refl));
  }

  fixed_there : (o : Option Target) → AddressIn s o → FixedIn s (fixed_at o)
  fixed_there None is = tt
  fixed_there (Some t) is = is

  object_in : (span : Span) (place : _) (t : Ty) → MeansIn s (means.Object place (Some t)) → KnownIn s (object_known span place t)
  object_in span place t is =
      lvalue-in (object_known span place t) refl refl (fixed_there (target_at place) is.address) is.designates is.object

  name_holds : (span : Span) (o : Option Binding) (env : Env) → ((b : Binding) → o ≡ Some b → MeansIn s b.means) →
      Keeps s (name_row span (meaning_of o) env)
  name_holds span None env means_in kept = absurd cc
  name_holds span (Some b) env means_in kept = meaning_holds b.means (means_in b refl) kept
    where
      meaning_holds : (m : Meaning) → MeansIn s m → Keeps s (name_row span (Some m) env)
      meaning_holds (means.Object place (Some t)) is kept = object_in span place t is
      meaning_holds (means.Object place None) is kept = absurd is
      meaning_holds (means.Function callee signature) is kept = absurd cc
      meaning_holds means.Eof is kept = constant_in span eof_value int.Int

  variable_good : (name : List ℕ) (span : Span) → Good s (KnownIn s) (variable name span)
  variable_good name span = record {
    silent = λ env. name-silent span (meaning_of (in_scopes name env.scopes)) env;
    holds = λ env inside kept texts. name_holds span (in_scopes name env.scopes) env (λ b is. inside.here.names name b is) kept;
  }

  -- ---- nodes with parts

  paren_in : (span : Span) (k : Known) → KnownIn s k → KnownIn s (in_parentheses span k)
  unfolding given_typed
  paren_in span k known = record {
    place = λ is. order.paren_place (known.place is);
    gives = λ is plain. order.paren (known.gives is plain);
    object = known.object;
    integer = known.integer;
    fixed = known.fixed;
  }

  paren_good : (e : Said) → SaidGood e → NodeGood (node_step (Node-F.Paren e))
  paren_good e good span = good-on e.judged (λ k. sure (in_parentheses span k)) good (λ k env. refl)
      (λ k known. good-sure (in_parentheses span k) (paren_in span k known))

  unary_good : (o : UnaryOperator) (e : Said) → SaidGood e → NodeGood (node_step (Node-F.Unary o e))
  unary_good o e good span = good-on e.judged (unary_row o span) good (unary-silent span o)
      (λ k known. keeps_good (unary_row o span k) (unary-silent span o k) (λ env inside. unary-in o span k env known))

  binary_good : (o : BinaryOperator) (a b : Said) → SaidGood a → SaidGood b → NodeGood (node_step (Node-F.Binary o a b))
  binary_good o a b of_a of_b span = good-on (both a.judged b.judged) _ (good-both a.judged b.judged of_a of_b)
      (λ v. binary-silent span o (value v.0) (value v.1)) (λ v known.
      keeps_good (binary_judged o span (value v.0) (value v.1)) (binary-silent span o (value v.0) (value v.1)) (λ env inside.
      binary-in o span (value v.0) (value v.1) env (value-in v.0 known.0) (value-in v.1 known.1)))

  assign_good : (o : Option AssignOperator) (a b : Said) → SaidGood a → SaidGood b → NodeGood (node_step (Node-F.Assign o a b))
  assign_good o a b of_a of_b span = good-on (both a.judged b.judged) _ (good-both a.judged b.judged of_a of_b)
      (λ v. assign-silent span o v.0 v.1) (λ v known. keeps_good (assign_row o span v.0 v.1) (assign-silent span o v.0 v.1) (λ env inside.
      assign-in o span v.0 v.1 env known.0 known.1))

  cond_good : (c a b : Said) → SaidGood c → SaidGood a → SaidGood b → NodeGood (node_step (Node-F.Cond c a b))
  cond_good c a b of_c of_a of_b span = good-on (both c.judged (both a.judged b.judged)) _
      (good-both c.judged (both a.judged b.judged) of_c (good-both a.judged b.judged of_a of_b))
      (λ v. cond-silent span (value v.0) (value v.1.0) (value v.1.1)) (λ v known.
      keeps_good (cond_judged span (value v.0) (value v.1.0) (value v.1.1)) (cond-silent span (value v.0) (value v.1.0) (value v.1.1))
      (λ env inside. cond-in span (value v.0) (value v.1.0) (value v.1.1) env (value-in v.0 known.0) (value-in v.1.0 known.1.0)
      (value-in v.1.1 known.1.1)))

  cast_good : (t : TypeSaid) (e : Said) → TypeGood t → SaidGood e → NodeGood (node_step (Node-F.Cast t e))
  cast_good t e of_t of_e span = good-on (both (on (t span) (whole span)) e.judged) _
      (good-both (on (t span) (whole span)) e.judged (whole_good t of_t span) of_e) (λ v env. refl)
      (λ v known. keeps_good (cast_row span v.0 (value v.1)) (λ env. refl) (λ env inside.
      cast-in span v.0 (value v.1) env (value-in v.1 known.1)))

  sizeof_good : (e : Said) → SaidGood e → NodeGood (node_step (Node-F.SizeofExpr e))
  sizeof_good e good span = good-on e.judged (sizeof_row span) good (λ k env. refl)
      (λ k known. keeps_good (sizeof_row span k) (λ env. refl) (λ env inside. sizeof-in s span k env))

  sizeof_name_good : (t : TypeSaid) → TypeGood t → NodeGood (node_step (Node-F.SizeofName t))
  sizeof_name_good t good span = good-on (on (t span) (whole span)) (sizeof_type span)
      (whole_good t good span) (λ t env. refl)
      (λ t known. keeps_good (sizeof_type span t) (λ env. refl) (λ env inside. sizeof-name-in s span t env))

  index_good : (a i : Said) → SaidGood a → SaidGood i → NodeGood (node_step (Node-F.Index a i))
  index_good a i of_a of_i span = good-on (both a.judged i.judged) _ (good-both a.judged i.judged of_a of_i)
      (λ v. index-silent span (value v.0) (value v.1) _ _) (λ v known.
      keeps_good (index_of span v.0 v.1) (index-silent span (value v.0) (value v.1) _ _) (λ env inside.
      index-in span (value v.0) (value v.1) env (value-in v.0 known.0) (value-in v.1 known.1) _ _ refl refl))

  member_good : (e : Said) (name : List ℕ) → SaidGood e → NodeGood (node_step (Node-F.Member e name))
  member_good e name good span = good-on e.judged (λ k. member_row span k name (struct_of k.tree.ty)) good
      (λ k. member-silent span k name _) (λ k known.
      keeps_good (member_row span k name (struct_of k.tree.ty)) (member-silent span k name _) (λ env inside.
      member-in inside.table span k name known _ refl))

  arrow_good : (e : Said) (name : List ℕ) → SaidGood e → NodeGood (node_step (Node-F.Arrow e name))
  arrow_good e name good span = good-on e.judged (λ k. arrow_of span k name) good (λ k. arrow-silent span (value k) name _) (λ k known.
      keeps_good (arrow_of span k name) (arrow-silent span (value k) name _) (λ env inside.
      arrow-in inside.table span (value k) name (value-in k known) _ refl))

  step_good : (o : Step) (e : Said) → SaidGood e → NodeGood (node_step (Node-F.Step o e))
  step_good o e good span = good-on e.judged (λ k. step_row o span k (sort_of k)) good (λ k. step-silent span o k _) (λ k known.
      keeps_good (step_row o span k (sort_of k)) (step-silent span o k _) (λ env inside. step-in o span k env known _ refl))

  -- ---- calls

  argument_good : (e : Said) → SaidGood e → Good s (ValueIn s) (argument e)
  argument_good e good = good-on e.judged (λ k. sure (value k)) good (λ k env. refl) (λ k known. good-sure (value k) (value-in k known))

  arguments_good : (es : List Said) → AllByRecursion SaidGood es → Good s (AllByRecursion (ValueIn s)) (each (map argument es))
  arguments_good [] all = good-none
  arguments_good (e ∷ es) all = good-more (argument e) (map argument es) (argument_good e all.0) (arguments_good es all.1)

  row_silent : (span : Span) (f : Callee) (sig : Option Signature) (ks : List Known) → Silent (call_row span f sig ks)
  row_silent span f None ks env = refl
  row_silent span f (Some sig) ks env = refl

  row_good : (span : Span) (f : Callee) (sig : Option Signature) → MeansIn s (means.Function f sig) → (ks : List Known) →
      AllByRecursion (ValueIn s) ks → Good s (KnownIn s) (call_row span f sig ks)
  row_good span f None is ks all = absurd is
  row_good span f (Some sig) is ks all =
      keeps_good (call_known span f sig ks) (λ env. refl) (λ env inside. call-in span f sig ks env is.callable is.plain all)

  called_good : (span : Span) (called : Called) (es : List Said) → AllByRecursion SaidGood es →
      MeansIn s (means.Function called.callee called.signature) →
      Good s (KnownIn s) (on (each (map argument es)) (call_row span called.callee called.signature))
  called_good span called es all is = good-on (each (map argument es)) (call_row span called.callee called.signature)
      (arguments_good es all) (row_silent span called.callee called.signature) (row_good span called.callee called.signature is)

  not_called_good : (span : Span) (f : Said) (es : List Said) → SaidGood f → AllByRecursion SaidGood es →
      Good s (KnownIn s) (not_called span f.judged (each (map argument es)))
  not_called_good span f es good all = good-on (both f.judged (each (map argument es))) _
      (good-both f.judged (each (map argument es)) good (arguments_good es all)) (λ v env. refl)
      (λ v known. good-never (not_called_row span v.0 v.1) (λ env. refl) (λ env kept. never-kept span 12 13 (all_values v.1) kept))

  function_means : (o : Option Binding) → ((b : Binding) → o ≡ Some b → MeansIn s b.means) → (called : Called) →
      function_in (meaning_of o) ≡ Some called → MeansIn s (means.Function called.callee called.signature)
  function_means None each called is = absurd cc
  function_means (Some b) each called is = by_meaning b.means (each b refl) is
    where
      by_meaning : (m : Meaning) → MeansIn s m → function_in (Some m) ≡ Some called →
          MeansIn s (means.Function called.callee called.signature)
      by_meaning (means.Function callee signature) holds is =
          let made : Called = record { callee = callee; signature = signature } in
          subst (λ (c : Called). MeansIn s (means.Function c.callee c.signature)) (same_Some made called is) holds
      by_meaning (means.Object place t) holds is = absurd cc
      by_meaning means.Eof holds is = absurd cc

  called_means : (name : Option (List ℕ)) (env : Env) → EnvIn env s → (called : Called) → function_in (meaning_by name env) ≡ Some called →
      MeansIn s (means.Function called.callee called.signature)
  called_means None env inside called is = absurd cc
  called_means (Some name) env inside called is =
      function_means (in_scopes name env.scopes) (λ b there. inside.names name b there) called is

  call_silent : (span : Span) (f : Said) (es : List Said) → SaidGood f → AllByRecursion SaidGood es → (o : Option Called) →
      Silent (call_by span o f.judged (each (map argument es)))
  call_silent span f es good all None = (not_called_good span f es good all).silent
  call_silent span f es good all (Some called) = silent-on (each (map argument es)) (call_row span called.callee called.signature)
      (arguments_good es all).silent (row_silent span called.callee called.signature)

  call_holds : (span : Span) (f : Said) (es : List Said) → SaidGood f → AllByRecursion SaidGood es → (env : Env) → Inside NoMore env s →
      (o : Option Called) → function_in (meaning_by f.name env) ≡ o →
      let p = call_by span o f.judged (each (map argument es)) in
      (p env).faults ≡ [] → TextsIn s env.texts (p env).texts → There (p env).known (KnownIn s)
  call_holds span f es good all env inside None is kept texts = (not_called_good span f es good all).holds env inside kept texts
  call_holds span f es good all env inside (Some called) is kept texts =
      (called_good span called es all (called_means f.name env inside.here called is)).holds env inside kept texts

  call_good : (f : Said) (es : List Said) → SaidGood f → AllByRecursion SaidGood es → NodeGood (node_step (Node-F.Call f es))
  call_good f es good all span = record {
    silent = λ env. call_silent span f es good all (function_in (meaning_by f.name env)) env;
    holds = λ env inside kept texts. call_holds span f es good all env inside (function_in (meaning_by f.name env)) refl kept texts;
  }

  -- ---- all of them

  abbrev said_node : Node → NodeSaid
  said_node = fold-Node TypeSaid NodeSaid Said type_step node_step expr_step

  abbrev WithType : Type 0
  WithType = (t : CType) × TypeGood (written t)

  abbrev WithNode : Type 0
  WithNode = (n : Node) × NodeGood (said_node n)

  abbrev WithExpr : Type 0
  WithExpr = (e : Expr) × SaidGood (expression e)

  types_with : CType-F WithType WithNode WithExpr → TypeLayer
  types_with = map-CType WithType WithNode WithExpr CType Node Expr (λ e. e.0) (λ e. e.0) (λ e. e.0)

  nodes_with : Node-F WithType WithNode WithExpr → NodeLayer
  nodes_with = map-Node WithType WithNode WithExpr CType Node Expr (λ e. e.0) (λ e. e.0) (λ e. e.0)

  exprs_with : Expr-F WithType WithNode WithExpr → Expr-F CType Node Expr
  exprs_with = map-Expr WithType WithNode WithExpr CType Node Expr (λ e. e.0) (λ e. e.0) (λ e. e.0)

  type_is : (d : TypeLayer) → TypeGood (type_step (map-CType CType Node Expr TypeSaid NodeSaid Said written said_node expression d)) →
      TypeGood (written (roll-CType d))
  type_is d good = subst TypeGood (sym (fold-roll-CType TypeSaid NodeSaid Said type_step node_step expr_step d)) good

  node_is : (d : NodeLayer) → NodeGood (node_step (map-Node CType Node Expr TypeSaid NodeSaid Said written said_node expression d)) →
      NodeGood (said_node (roll-Node d))
  node_is d good = subst NodeGood (sym (fold-roll-Node TypeSaid NodeSaid Said type_step node_step expr_step d)) good

  type_good : (y : CType-F WithType WithNode WithExpr) → TypeGood (written (roll-CType (types_with y)))
  unfolding types_with
  type_good CType-F.Void = type_is CType-F.Void (λ span. good-sure (Whole ty.Void) tt)
  type_good (CType-F.Int t) = type_is (CType-F.Int t) (λ span. good-sure (Whole (ty.Int t)) tt)
  type_good (CType-F.Struct tag) = type_is (CType-F.Struct tag) (struct_good tag)
  type_good (CType-F.Pointer t) = type_is (CType-F.Pointer t.0) (pointer_good (written t.0) t.1)
  type_good (CType-F.Array t None) = type_is (CType-F.Array t.0 None) (open_good (written t.0) t.1)
  type_good (CType-F.Array t (Some e)) = type_is (CType-F.Array t.0 (Some e.0)) (array_good (written t.0) (expression e.0) t.1 e.1)

  each_good : (es : List WithExpr) → AllByRecursion SaidGood (map expression (map (λ e. e.0) es))
  each_good [] = tt
  each_good (e ∷ es) = (e.1, each_good es)

  node_good : (y : Node-F WithType WithNode WithExpr) → NodeGood (said_node (roll-Node (nodes_with y)))
  unfolding nodes_with
  node_good (Node-F.Constant n t) = node_is (Node-F.Constant n t) (constant_good n t)
  node_good (Node-F.Text bytes) = node_is (Node-F.Text bytes) (λ span. text_good (bytes ++ 0 ∷ []) span)
  node_good (Node-F.Variable name) = node_is (Node-F.Variable name) (variable_good name)
  node_good (Node-F.Paren e) = node_is (Node-F.Paren e.0) (paren_good (expression e.0) e.1)
  node_good (Node-F.Unary o e) = node_is (Node-F.Unary o e.0) (unary_good o (expression e.0) e.1)
  node_good (Node-F.Binary o a b) = node_is (Node-F.Binary o a.0 b.0) (binary_good o (expression a.0) (expression b.0) a.1 b.1)
  node_good (Node-F.Assign o a b) = node_is (Node-F.Assign o a.0 b.0) (assign_good o (expression a.0) (expression b.0) a.1 b.1)
  node_good (Node-F.Cond c a b) =
      node_is (Node-F.Cond c.0 a.0 b.0) (cond_good (expression c.0) (expression a.0) (expression b.0) c.1 a.1 b.1)
  node_good (Node-F.Cast t e) = node_is (Node-F.Cast t.0 e.0) (cast_good (written t.0) (expression e.0) t.1 e.1)
  node_good (Node-F.SizeofExpr e) = node_is (Node-F.SizeofExpr e.0) (sizeof_good (expression e.0) e.1)
  node_good (Node-F.SizeofName t) = node_is (Node-F.SizeofName t.0) (sizeof_name_good (written t.0) t.1)
  node_good (Node-F.Call f es) =
      node_is (Node-F.Call f.0 (map (λ e. e.0) es)) (call_good (expression f.0) (map expression (map (λ e. e.0) es)) f.1 (each_good es))
  node_good (Node-F.Index a i) = node_is (Node-F.Index a.0 i.0) (index_good (expression a.0) (expression i.0) a.1 i.1)
  node_good (Node-F.Member e name) = node_is (Node-F.Member e.0 name) (member_good (expression e.0) name e.1)
  node_good (Node-F.Arrow e name) = node_is (Node-F.Arrow e.0 name) (arrow_good (expression e.0) name e.1)
  node_good (Node-F.Step o e) = node_is (Node-F.Step o e.0) (step_good o (expression e.0) e.1)

  said_by : (span : Span) (n : Node) → expression (expr span n) ≡ expr_step (record { span = span; node = said_node n })
  unfolding given_trees
  said_by span n = fold_out-Expr TypeSaid NodeSaid Said type_step node_step expr_step (expr span n)

  expr_good : (span : Span) (n : Node) → NodeGood (said_node n) → SaidGood (expression (expr span n))
  expr_good span n good = subst SaidGood (sym (said_by span n)) (good span)

  types_good : (x : TypeLayer) (y : CType-F WithType WithNode WithExpr) → types_with y ≡ x → TypeGood (written (roll-CType x))
  types_good x y is = subst (λ x. TypeGood (written (roll-CType x))) is (type_good y)

  nodes_good : (x : NodeLayer) (y : Node-F WithType WithNode WithExpr) → nodes_with y ≡ x → NodeGood (said_node (roll-Node x))
  nodes_good x y is = subst (λ x. NodeGood (said_node (roll-Node x))) is (node_good y)

  exprs_good : (x : Expr-F CType Node Expr) (y : Expr-F WithType WithNode WithExpr) → exprs_with y ≡ x → SaidGood (expression (roll-Expr x))
  unfolding exprs_with given_trees
  exprs_good x y is = subst (λ x. SaidGood (expression (roll-Expr x))) is (expr_good y.span y.node.0 y.node.1)

  -- an expression without a fault is in order
  pub expression-good : (e : Expr) → Good s (KnownIn s) (expression e).judged
  unfolding types_with nodes_with exprs_with
  expression-good = ind-Expr (λ t. TypeGood (written t)) (λ n. NodeGood (said_node n)) (λ e. SaidGood (expression e)) types_good nodes_good
      exprs_good

  -- and a type that is written is known
  pub written-good : (t : CType) (span : Span) → Good s (λ (w : Written). Unit {0}) (written t span)
  unfolding types_with nodes_with exprs_with
  written-good = ind-CType (λ t. TypeGood (written t)) (λ n. NodeGood (said_node n)) (λ e. SaidGood (expression e)) types_good nodes_good
      exprs_good

  -- one without open brackets
  pub whole-good : (t : CType) (span : Span) → Good s (λ (t : Ty). Unit {0}) (on (written t span) (whole span))
  whole-good t span = whole_good (written t) (written-good t) span
