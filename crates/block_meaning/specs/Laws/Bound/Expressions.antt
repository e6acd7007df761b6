-- One level more leaves each expression that is not stuck as it is.
use Rattle.std.proofs.Common.{ℕ, zero, suc, Bool, true, false, List}
use Rattle.std.proofs.Common.{Option, Some, None}
use Rattle.c_ast.specs.declared.operator.UnaryOperator.{UnaryOperator}
use Rattle.c_ast.specs.declared.operator.UnaryOperator.TheVariants as unary
use Rattle.c_ast.specs.declared.operator.BinaryOperator.{BinaryOperator}
use Rattle.c_ast.specs.declared.operator.BinaryOperator.TheVariants as binary
use Rattle.c_ast.specs.declared.token.Span.{Span}
use Rattle.c_type_base.specs.declared.expr.TExpr.{TExpr}
use Rattle.c_type_base.specs.declared.expr.TNode.{out-TNode}
use Rattle.c_type_base.specs.declared.expr.TNode.TheOpen.{TNode-F}
use Rattle.c_type_base.specs.declared.expr.Callee.{Callee}
use Rattle.c_type_base.specs.declared.expr.Callee.TheVariants as callee
use Rattle.block_meaning.specs.Expressions.{NodeLayer, ExprParts, Calls, Site, site, value_of, unary_node, logical_node, same_truth}
use Rattle.block_meaning.specs.Expressions.{binary_node, cond_node, if_agrees, call_effect, call_node, member_place, place_node, value_node}
use Rattle.block_meaning.specs.Expressions.{parts_at}
use Rattle.block_meaning.specs.Laws.Settled.{Settles, settles-itself, settles-stuck, settles-then, settles-unit, settles-choice}
use Rattle.block_meaning.specs.Laws.Settled.{settles-some, settles-all}
use Rattle.block_meaning.specs.Linkage.{extern_at, definition_of, called_as}
use Rattle.block_meaning.specs.Statements.{around}
use Rattle.block_meaning.specs.Running.{Function, Context}
use Rattle.block_meaning.specs.declared.value.Value.{Value}

pub record PartsSettle (p q : ExprParts) : Type 0 where
  pub value : (around : Span) (e : TExpr) → Settles (p.value_in around e) (q.value_in around e)
  pub place : (e : TExpr) → Settles (p.place e) (q.place e)

abbrev pub CallsSettle : Calls → Calls → Type 0
CallsSettle c d = (here : Context) (f : Function) (vs : List Value) → Settles (c here f vs) (d here f vs)

-- the same place in a tree, with other parts
abbrev with_parts : Site → Calls → ExprParts → Site
with_parts at calls parts = record at { calls = calls; parts = parts }

-- one place, with parts of which the ones settle as the others
record Two : Type 0 where
  at : Site
  calls : Calls
  more : Calls
  parts : ExprParts
  more_parts : ExprParts
  of_calls : CallsSettle calls more
  of_parts : PartsSettle parts more_parts

abbrev less : Two → Site
less two = with_parts two.at two.calls two.parts

abbrev larger : Two → Site
larger two = with_parts two.at two.more two.more_parts

abbrev of_value : (two : Two) (e : TExpr) → Settles (value_of two.parts e) (value_of two.more_parts e)
of_value two e = two.of_parts.value e.span e

unary_settles : (two : Two) (o : UnaryOperator) (e : TExpr) → Settles (unary_node (less two) o e) (unary_node (larger two) o e)
unary_settles two unary.AddressOf e = settles-then (two.of_parts.place e) (λ p. settles-itself _)
unary_settles two unary.Dereference e = settles-itself _
unary_settles two unary.Not e = settles-then (of_value two e) (λ v. settles-itself _)
unary_settles two _ e = settles-then (of_value two e) (λ v. settles-itself _)

logical_settles : (two : Two) (decides : Bool) (a b : TExpr) →
    Settles (logical_node (less two) decides a b) (logical_node (larger two) decides a b)
logical_settles two decides a b = settles-then (of_value two a) (λ v. settles-unit (settles-then (settles-itself _) (λ first.
    settles-choice (same_truth first decides) (settles-itself _) (settles-then (of_value two b) (λ w. settles-itself _)))))

binary_settles : (two : Two) (o : BinaryOperator) (a b : TExpr) → Settles (binary_node (less two) o a b) (binary_node (larger two) o a b)
binary_settles two binary.And a b = logical_settles two false a b
binary_settles two binary.Or a b = logical_settles two true a b
binary_settles two _ a b = settles-then (of_value two a) (λ v. settles-then (of_value two b) (λ w. settles-itself _))

cond_settles : (two : Two) (c a b : TExpr) → Settles (cond_node (less two) c a b) (cond_node (larger two) c a b)
cond_settles two c a b = settles-then (of_value two c) (λ v. settles-unit (settles-then (settles-itself _) (λ holds.
    settles-choice holds (of_value two a) (of_value two b))))

agrees_settles : (two : Two) (vs : List Value) (f : Option Function) → Settles (if_agrees (less two) vs f) (if_agrees (larger two) vs f)
agrees_settles two vs None = settles-itself _
agrees_settles two vs (Some f) = two.of_calls two.at.here f vs

effect_settles : (two : Two) (f : Callee) (vs : List Value) → Settles (call_effect (less two) f vs) (call_effect (larger two) f vs)
effect_settles two (callee.Function n) vs = two.of_calls _ _ vs
effect_settles two (callee.Extern n) vs = settles-some (extern_at two.at.here.program.units two.at.here.unit n) (λ e.
    settles-some (definition_of two.at.here.program.units (Some e)) (λ d.
    agrees_settles two vs (called_as two.at.here.program.units two.at.here.unit e d)))
effect_settles two callee.Putchar vs = settles-itself _
effect_settles two callee.Getchar vs = settles-itself _

call_settles : (two : Two) (f : Callee) (es : List TExpr) → Settles (call_node (less two) f es) (call_node (larger two) f es)
call_settles two f es = settles-then (settles-all (of_value two) es) (λ vs. settles-unit (effect_settles two f vs))

member_settles : (two : Two) (e : TExpr) (k : ℕ) → Settles (member_place (less two) e k) (member_place (larger two) e k)
member_settles two e k = settles-then (two.of_parts.place e) (λ p. settles-itself _)

place_settles : (two : Two) (n : NodeLayer) → Settles (place_node (less two) n) (place_node (larger two) n)
place_settles two (TNode-F.Paren e) = two.of_parts.place e
place_settles two (TNode-F.Unary unary.Dereference e) = settles-then (of_value two e) (λ v. settles-itself _)
place_settles two (TNode-F.Index a i) = settles-then (of_value two a) (λ v. settles-then (of_value two i) (λ w. settles-itself _))
place_settles two (TNode-F.Member e k) = member_settles two e k
place_settles two (TNode-F.Arrow e k) = settles-then (of_value two e) (λ v. settles-itself _)
place_settles two (TNode-F.Assign o a b) = settles-then
    (settles-then (two.of_parts.place a) (λ p. settles-then (of_value two b) (λ v. settles-itself _))) (λ v. settles-itself _)
place_settles two _ = settles-itself _

value_settles : (two : Two) (n : NodeLayer) → Settles (value_node (less two) n) (value_node (larger two) n)
value_settles two (TNode-F.Paren e) = two.of_parts.value two.at.around e
value_settles two (TNode-F.Unary o e) = unary_settles two o e
value_settles two (TNode-F.Binary o a b) = binary_settles two o a b
value_settles two (TNode-F.Assign o a b) = settles-then (two.of_parts.place a) (λ p. settles-then (of_value two b) (λ v. settles-itself _))
value_settles two (TNode-F.Cond c a b) = cond_settles two c a b
value_settles two (TNode-F.Cast s e) = settles-then (of_value two e) (λ v. settles-itself _)
value_settles two (TNode-F.Call f es) = call_settles two f es
value_settles two (TNode-F.Step s e) = settles-then (two.of_parts.place e) (λ p. settles-itself _)
value_settles two (TNode-F.Read e) = settles-then (two.of_parts.place e) (λ p. settles-itself _)
value_settles two (TNode-F.Decay e) = settles-then (two.of_parts.place e) (λ p. settles-itself _)
value_settles two (TNode-F.Convert e) = settles-then (of_value two e) (λ v. settles-itself _)
value_settles two (TNode-F.Member e k) = settles-then (member_settles two e k) (λ p. settles-itself _)
value_settles two _ = settles-itself _

-- an expression with the parts of two depths
abbrev two_at : {c d : Calls} → CallsSettle c d → (here : Context) (p q : ExprParts) → PartsSettle p q → Span → TExpr → Two
two_at {c = c} {d = d} of_calls here p q of_parts around e = record {
  at = site c here p around e;
  calls = c;
  more = d;
  parts = p;
  more_parts = q;
  of_calls = of_calls;
  of_parts = of_parts;
}

-- one level more
pub parts_settle : {c d : Calls} → CallsSettle c d → (here : Context) (depth : ℕ) →
    PartsSettle (parts_at c here depth) (parts_at d here (suc depth))
unfolding out-TNode
parts_settle of_calls here zero = record { value = λ around e. settles-stuck _; place = λ e. settles-stuck _ }
parts_settle {c = c} {d = d} of_calls here (suc depth) =
    let below = parts_settle {c = c} {d = d} of_calls here depth in
    record {
      value = λ around e. value_settles (two_at of_calls here _ _ below around e) (out-TNode e.node);
      place = λ e. place_settles (two_at of_calls here _ _ below e.span e) (out-TNode e.node);
    }
