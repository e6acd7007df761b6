-- The machine computes expressions, where it computes the calls in them.
use Rattle.std.proofs.Common.{◌≡◌, refl, sym, subst, ℕ, zero, suc, Bool, true, false, List, [], ◌∷◌, ◌++◌, map}
use Rattle.std.proofs.Common.{append_assoc, append-nil, Option, Some, None}
use Rattle.c_ast.specs.declared.token.Span.{Span}
use Rattle.c_ast.specs.declared.operator.UnaryOperator.{UnaryOperator}
use Rattle.c_ast.specs.declared.operator.UnaryOperator.TheVariants as unary
use Rattle.c_ast.specs.declared.operator.BinaryOperator.{BinaryOperator}
use Rattle.c_ast.specs.declared.operator.BinaryOperator.TheVariants as binary
use Rattle.c_ast.specs.declared.operator.AssignOperator.{AssignOperator}
use Rattle.c_type_base.specs.declared.expr.TExpr.{TExpr}
use Rattle.c_type_base.specs.declared.expr.TNode.{out-TNode}
use Rattle.c_type_base.specs.declared.expr.TNode.TheOpen.{TNode-F}
use Rattle.c_type_base.specs.declared.expr.Callee.{Callee}
use Rattle.c_type_base.specs.declared.expr.Callee.TheVariants as callee
use Rattle.block_meaning.specs.declared.value.Pointer.{Pointer}
use Rattle.block_meaning.specs.Expressions.{NodeLayer, ExprParts, Calls, Site, site, value_of, unary_node, logical_node, same_truth}
use Rattle.block_meaning.specs.Expressions.{binary_node, cond_node, assign_node, if_agrees, call_effect, place_node, value_node}
use Rattle.block_meaning.specs.Expressions.{parts_at}
use Rattle.block_meaning.specs.Linkage.{extern_at, definition_of, called_as}
use Rattle.block_meaning.specs.Running.{Function, Result, Goes, Stops, Run, goes_on, gives, and_then, unit_then, all_of, Context}
use Rattle.block_meaning.specs.declared.value.Value.{Value}
use Rattle.block_meaning.specs.Values.{pointer_in}
use Rattle.mean_machine.specs.Frames.{Evaluate, Locate, OperandFrame, Unary, LogicalFirst, LogicalSecond, BinaryLeft, BinaryRight}
use Rattle.mean_machine.specs.Frames.{AssignRight, Condition, CastTo, ConvertTo, Argument, PointerIn, Dereferenced, IndexLeft, IndexRight}
use Rattle.mean_machine.specs.Frames.{ArrowTo, PlaceFrame, Addressed, AssignLeft, Stepped, ReadFrom, Decayed, MemberAt, MemberRead}
use Rattle.mean_machine.specs.Frames.{Frame, OnOperand, OnPlace, Runs}
use Rattle.mean_machine.specs.Going.{Stand, by, value, place}
use Rattle.mean_machine.specs.Evaluation.{operand_first, place_first, evaluate_unary, evaluate_binary, if_known, call, arguments}
use Rattle.mean_machine.specs.Evaluation.{evaluate, locate, operand_given, place_given}
use Rattle.mean_machine.specs.Execution.{enter}
use Rattle.mean_machine.specs.Laws.Computes.{Computes, computes-by, computes-stuck, computes-next, computes-then, computes-unit}
use Rattle.mean_machine.specs.Laws.Computes.{computes-either, computes-some, computes-as, computes-grouped}

abbrev pub CallsCompute : Calls → Type 0
CallsCompute calls = (here : Context) (f : Function) (vs : List Value) (k : List Frame) →
    Computes (calls here f vs) (enter here k f vs) (value here k)

pub record PartsCompute (here : Context) (parts : ExprParts) : Type 0 where
  pub value_in : (around : Span) (e : TExpr) (k : List Frame) →
      Computes (parts.value_in around e) (Runs (Evaluate around e) here k) (value here k)
  pub place_of : (e : TExpr) (k : List Frame) → Computes (parts.place e) (Runs (Locate e) here k) (place here k)

-- an expression whose parts are computed
record Spot : Type 0 where
  calls : Calls
  here : Context
  parts : ExprParts
  around : Span
  e : TExpr
  of_calls : CallsCompute calls
  of_parts : PartsCompute here parts

abbrev site_of : Spot → Site
site_of s = site s.calls s.here s.parts s.around s.e

-- the value of an operand, and what follows
operand_computes : {B : Type 0} {f : Value → Run B} {to : B → Stand} (s : Spot) (k : List Frame) (e : TExpr) (frame : OperandFrame) →
    ((v : Value) → Computes (f v) (operand_given enter s.here k frame v) to) →
    Computes (and_then (value_of s.parts e) f) (operand_first s.here k e frame) to
operand_computes s k e frame each =
    computes-then (s.of_parts.value_in e.span e (OnOperand frame ∷ k)) (λ v. computes-next (each v))

place_computes : {B : Type 0} {f : Pointer → Run B} {to : B → Stand} (s : Spot) (k : List Frame)
    (e : TExpr) (frame : PlaceFrame) → ((p : Pointer) → Computes (f p) (place_given s.here k frame p) to) →
    Computes (and_then (s.parts.place e) f) (place_first s.here k e frame) to
place_computes s k e frame each = computes-then (s.of_parts.place_of e (OnPlace frame ∷ k)) (λ p. computes-next (each p))

unary_computes : (s : Spot) (k : List Frame) (o : UnaryOperator) (e : TExpr) →
    Computes (unary_node (site_of s) o e) (evaluate_unary s.here k o e) (value s.here k)
unary_computes s k unary.AddressOf e = place_computes s k e Addressed (λ p. computes-by _ _)
unary_computes s k unary.Dereference e = computes-stuck _ _
unary_computes s k unary.Not e = operand_computes s k e (Unary unary.Not e) (λ v. computes-unit (computes-by _ _))
unary_computes s k o e = operand_computes s k e (Unary o e) (λ v. computes-unit (computes-by _ _))

logical_computes : (s : Spot) (k : List Frame) (decides : Bool) (a b : TExpr) →
    Computes (logical_node (site_of s) decides a b) (operand_first s.here k a (LogicalFirst decides a b)) (value s.here k)
logical_computes s k decides a b = operand_computes s k a (LogicalFirst decides a b) (λ v. computes-unit (
    computes-then (computes-by _ _) (λ first. computes-either (same_truth first decides) (computes-by _ _)
    (operand_computes s k b (LogicalSecond b) (λ w. computes-by _ _)))))

binary_computes : (s : Spot) (k : List Frame) (o : BinaryOperator) (a b : TExpr) →
    Computes (binary_node (site_of s) o a b) (evaluate_binary s.here k s.e.span o a b) (value s.here k)
binary_computes s k binary.And a b = logical_computes s k false a b
binary_computes s k binary.Or a b = logical_computes s k true a b
binary_computes s k o a b = operand_computes s k a (BinaryLeft s.e.span o a b) (λ v.
    operand_computes s k b (BinaryRight s.e.span o a b v) (λ w. computes-unit (computes-by _ _)))

cond_computes : (s : Spot) (k : List Frame) (c a b : TExpr) →
    Computes (cond_node (site_of s) c a b) (operand_first s.here k c (Condition c a b)) (value s.here k)
cond_computes s k c a b = operand_computes s k c (Condition c a b) (λ v. computes-unit (computes-then (computes-by _ _) (λ holds.
    computes-either holds (s.of_parts.value_in a.span a k) (s.of_parts.value_in b.span b k))))

assign_computes : (s : Spot) (k : List Frame) (o : Option AssignOperator) (a b : TExpr) →
    Computes (assign_node (site_of s) o a b) (place_first s.here k a (AssignLeft s.e.span o a b)) (value s.here k)
assign_computes s k o a b = place_computes s k a (AssignLeft s.e.span o a b) (λ p.
    operand_computes s k b (AssignRight s.e.span o a b p) (λ v. computes-unit (computes-by _ _)))

-- ---- calls

known_computes : (s : Spot) (k : List Frame) (vs : List Value) (f : Option Function) → Computes (if_agrees (site_of s) vs f)
    (by (if_known s.here s.e.span f) (λ g. enter s.here k g vs)) (value s.here k)
known_computes s k vs None = computes-by _ _
known_computes s k vs (Some f) = s.of_calls s.here f vs k

call_computes : (s : Spot) (k : List Frame) (f : Callee) (vs : List Value) →
    Computes (call_effect (site_of s) f vs) (call enter s.here k s.e.span f vs) (value s.here k)
call_computes s k (callee.Function n) vs = s.of_calls s.here _ vs k
call_computes s k (callee.Extern n) vs = computes-some (extern_at s.here.program.units s.here.unit n) _ _ (λ e.
    computes-some (definition_of s.here.program.units (Some e)) _ _ (λ d.
    known_computes s k vs (called_as s.here.program.units s.here.unit e d)))
call_computes s k callee.Putchar vs = computes-by _ _
call_computes s k callee.Getchar vs = computes-by _ _

one_put : {A B C : Type 0} (r : Result A) (h : A → B) (g : B → Run C) → goes_on (goes_on r (λ a. gives (h a))) g ≡ goes_on r (λ a. g (h a))
one_put (Goes a now) h g = refl
one_put (Stops why now) h g = refl

all_put : {A B : Type 0} (r : Result A) (m : Run (List A)) (g : List A → Run B) →
    goes_on (goes_on r (λ a. and_then m (λ as'. gives (a ∷ as')))) g ≡ goes_on r (λ a. and_then m (λ as'. g (a ∷ as')))
all_put (Goes a now) m g = one_put (m now) (λ as'. a ∷ as') g
all_put (Stops why now) m g = refl

arguments_compute : (s : Spot) (k : List Frame) (f : Callee) (es : List TExpr) (done : List Value) → Computes
    (and_then (all_of (map (value_of s.parts) es)) (λ vs. unit_then (call_effect (site_of s) f (done ++ vs))))
    (arguments enter s.here k s.e.span f done es) (value s.here k)
arguments_compute s k f [] done = subst
    (λ vs. Computes (unit_then (call_effect (site_of s) f vs)) (arguments enter s.here k s.e.span f done []) (value s.here k))
    (sym (append-nil done)) (computes-unit (call_computes s k f done))
arguments_compute s k f (e ∷ es) done = computes-as
    (λ now. all_put (value_of s.parts e now) (all_of (map (value_of s.parts) es))
    (λ vs. unit_then (call_effect (site_of s) f (done ++ vs))))
    (operand_computes s k e (Argument s.e.span f done es) (λ v. computes-as
    (λ now. λ i. goes_on (all_of (map (value_of s.parts) es) now)
    (λ vs. unit_then (call_effect (site_of s) f ((sym (append_assoc done (v ∷ []) vs)) i))))
    (arguments_compute s k f es (done ++ v ∷ []))))

-- ---- all of them

locate_computes : (s : Spot) (k : List Frame) (n : NodeLayer) →
    Computes (place_node (site_of s) n) (locate s.here k s.e n) (place s.here k)
locate_computes s k (TNode-F.Text n) = computes-by _ _
locate_computes s k (TNode-F.Local n) = computes-by _ _
locate_computes s k (TNode-F.Global n) = computes-by _ _
locate_computes s k (TNode-F.Extern n) = computes-by _ _
locate_computes s k (TNode-F.Paren e) = s.of_parts.place_of e k
locate_computes s k (TNode-F.Unary unary.Dereference e) = operand_computes s k e Dereferenced (λ v. computes-by _ _)
locate_computes s k (TNode-F.Index a i) = operand_computes s k a (IndexLeft s.e.ty i) (λ v.
    operand_computes s k i (IndexRight s.e.ty v) (λ w. computes-by _ _))
locate_computes s k (TNode-F.Member e n) = place_computes s k e (MemberAt e n) (λ p. computes-unit (computes-by _ _))
locate_computes s k (TNode-F.Arrow e n) = operand_computes s k e (ArrowTo e n) (λ v. computes-unit (computes-by _ _))
locate_computes s k (TNode-F.Assign o a b) = computes-then (assign_computes s (OnOperand PointerIn ∷ k) o a b)
    (λ v. computes-next (computes-by (gives (pointer_in v)) (place s.here k)))
locate_computes s k _ = computes-stuck _ _

evaluate_computes : (s : Spot) (k : List Frame) (n : NodeLayer) →
    Computes (value_node (site_of s) n) (evaluate enter s.here k s.around s.e n) (value s.here k)
evaluate_computes s k (TNode-F.Constant n t) = computes-by _ _
evaluate_computes s k (TNode-F.Paren e) = s.of_parts.value_in s.around e k
evaluate_computes s k (TNode-F.Unary o e) = unary_computes s k o e
evaluate_computes s k (TNode-F.Binary o a b) = binary_computes s k o a b
evaluate_computes s k (TNode-F.Assign o a b) = assign_computes s k o a b
evaluate_computes s k (TNode-F.Cond c a b) = cond_computes s k c a b
evaluate_computes s k (TNode-F.Cast t e) = operand_computes s k e (CastTo t) (λ v. computes-by _ _)
evaluate_computes s k (TNode-F.SizeofExpr e) = computes-by _ _
evaluate_computes s k (TNode-F.SizeofName t) = computes-by _ _
evaluate_computes s k (TNode-F.Call f es) = arguments_compute s k f es []
evaluate_computes s k (TNode-F.Step t e) = place_computes s k e (Stepped t e) (λ p. computes-unit (computes-by _ _))
evaluate_computes s k (TNode-F.Read e) = place_computes s k e (ReadFrom e) (λ p. computes-by _ _)
evaluate_computes s k (TNode-F.Decay e) = place_computes s k e Decayed (λ p. computes-by _ _)
evaluate_computes s k (TNode-F.Convert e) = operand_computes s k e (ConvertTo s.e.ty) (λ v. computes-by _ _)
evaluate_computes s k (TNode-F.Member e n) = computes-grouped (s.parts.place e) _ _ (
    place_computes s k e (MemberRead e n s.around s.e.ty) (λ p. computes-then (computes-unit (computes-by _ _)) (λ q. computes-by _ _)))
evaluate_computes s k _ = computes-stuck _ _

-- an expression, with so many levels below it at most
pub parts_compute : {calls : Calls} → CallsCompute calls → (here : Context) (depth : ℕ) → PartsCompute here (parts_at calls here depth)
parts_compute of_calls here zero = record {
  value_in = λ around e k. computes-stuck _ _;
  place_of = λ e k. computes-stuck _ _;
}
parts_compute {calls = calls} of_calls here (suc depth) =
    let below : PartsCompute here (parts_at calls here depth) = parts_compute of_calls here depth in
    let spot : Span → TExpr → Spot = λ around e. record {
      calls = calls;
      here = here;
      parts = parts_at calls here depth;
      around = around;
      e = e;
      of_calls = of_calls;
      of_parts = below;
    } in
    record {
      value_in = λ around e k. computes-next (evaluate_computes (spot around e) k (out-TNode e.node));
      place_of = λ e k. computes-next (locate_computes (spot e.span e) k (out-TNode e.node));
    }
