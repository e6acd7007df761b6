-- Expressions keep the blocks that were there, where calls do (this project's own).
use Rattle.std.proofs.Common.{refl, ℕ, zero, suc, Bool, true, false, List, []}
use Rattle.std.proofs.Common.{◌∷◌, Option, Some, None}
use Rattle.c_ast.specs.declared.token.Span.{Span}
use Rattle.c_ast.specs.declared.operator.UnaryOperator.{UnaryOperator}
use Rattle.c_ast.specs.declared.operator.UnaryOperator.TheVariants as unary
use Rattle.c_ast.specs.declared.operator.BinaryOperator.{BinaryOperator}
use Rattle.c_ast.specs.declared.operator.BinaryOperator.TheVariants as binary
use Rattle.c_ast.specs.declared.operator.AssignOperator.{AssignOperator}
use Rattle.c_ast.specs.declared.operator.Step.{Step}
use Rattle.c_type_base.specs.declared.ty.Ty.{Ty}
use Rattle.c_type_base.specs.declared.expr.TExpr.{TExpr}
use Rattle.c_type_base.specs.declared.expr.TNode.{out-TNode}
use Rattle.c_type_base.specs.declared.expr.TNode.TheOpen.{TNode-F}
use Rattle.c_type_base.specs.declared.expr.Callee.{Callee}
use Rattle.c_type_base.specs.declared.expr.Callee.TheVariants as callee
use Rattle.c_type_base.specs.Arithmetic.{unary_value}
use Rattle.c_type_base.specs.Types.{target_of, struct_of}
use Rattle.block_meaning.specs.declared.value.Pointer.{Pointer}
use Rattle.block_meaning.specs.Expressions.{NodeLayer, ExprParts, Calls, Site, site, value_of, number_known, unary_node, logical_node}
use Rattle.block_meaning.specs.Expressions.{same_truth, binary_node, cond_node, written, assigned, assign_effect, assign_node, step_node}
use Rattle.block_meaning.specs.Expressions.{take_byte, put_byte, if_agrees, call_effect, call_node, starts, member_in, member_of}
use Rattle.block_meaning.specs.Expressions.{member_place, place_node, value_node, parts_at}
use Rattle.unit_follows.specs.Laws.Spares.Runs.{Moment, IsKept, OnGoes, any, kept-rest, Spares, spares-gives}
use Rattle.unit_follows.specs.Laws.Spares.Runs.{spares-stuck, spares-undefined, spares-then, spares-unit}
use Rattle.unit_follows.specs.Laws.Spares.Runs.{spares-choice, spares-some, spares-all}
use Rattle.block_meaning.specs.Linkage.{extern_at, extern_block, definition_of, called_as}
use Rattle.block_meaning.specs.Memory.{Object, object}
use Rattle.block_meaning.specs.Operators.{binary_of, int_in, stepped}
use Rattle.block_meaning.specs.Running.{Function, State, Context}
use Rattle.block_meaning.specs.declared.value.Value.{Value}
use Rattle.block_meaning.specs.declared.value.Value.TheVariants.{Struct}
use Rattle.block_meaning.specs.Values.{number_in}
use Rattle.unit_follows.specs.Laws.Spares.Values.{scalar_spares, read_spares, write_spares, copy_spares, truth_spares, values_spares}
use Rattle.unit_follows.specs.Laws.Spares.Values.{combined_values}

pub record SparesParts (mark : Moment) (p : ExprParts) : Type 0 where
  pub value : (around : Span) (e : TExpr) → Spares mark (p.value_in around e)
  pub place : (e : TExpr) → Spares mark (p.place e)

abbrev pub SparesCalls : Moment → Calls → Type 0
SparesCalls mark c = (here : Context) (f : Function) (vs : List Value) → Spares mark (c here f vs)

record SparesSite (mark : Moment) (at : Site) : Type 0 where
  calls : SparesCalls mark at.calls
  parts : SparesParts mark at.parts

abbrev of_value : {mark : Moment} {at : Site} → SparesSite mark at → (e : TExpr) → Spares mark (value_of at.parts e)
of_value of e = of.parts.value e.span e

pub number_spares : {mark : Moment} (n : Option ℕ) → Spares mark (number_known n)
number_spares None = spares-stuck
number_spares (Some n) = spares-gives _

unary_spares : {mark : Moment} {at : Site} → SparesSite mark at → (o : UnaryOperator) (e : TExpr) → Spares mark (unary_node at o e)
unary_spares of unary.AddressOf e = spares-then (of.parts.place e) (λ p. spares-unit (spares-gives _))
unary_spares of unary.Dereference e = spares-stuck
unary_spares {at = at} of unary.Not e =
    spares-then (of_value of e) (λ v. spares-unit (spares-then (truth_spares at.here e.span v) (λ b. spares-gives _)))
unary_spares of o e = spares-then (of_value of e) (λ v. spares-unit (number_spares (unary_value o (int_in e.ty) (number_in v))))

logical_spares : {mark : Moment} {at : Site} → SparesSite mark at → (decides : Bool) (a b : TExpr) →
    Spares mark (logical_node at decides a b)
logical_spares {at = at} of decides a b =
    spares-then (of_value of a) (λ v. spares-unit (spares-then (truth_spares at.here a.span v) (λ first.
    spares-choice (same_truth first decides) (spares-gives _)
    (spares-then (of_value of b) (λ w. spares-then (truth_spares at.here b.span w) (λ second. spares-gives _))))))

binary_spares : {mark : Moment} {at : Site} → SparesSite mark at → (o : BinaryOperator) (a b : TExpr) → Spares mark (binary_node at o a b)
binary_spares of binary.And a b = logical_spares of false a b
binary_spares of binary.Or a b = logical_spares of true a b
binary_spares {at = at} of o a b = spares-then (of_value of a) (λ v. spares-then (of_value of b) (λ w.
    spares-unit (values_spares at.here at.span o a.ty b.ty v w)))

cond_spares : {mark : Moment} {at : Site} → SparesSite mark at → (c a b : TExpr) → Spares mark (cond_node at c a b)
cond_spares {at = at} of c a b = spares-then (of_value of c) (λ v. spares-unit (spares-then (truth_spares at.here c.span v) (λ holds.
    spares-choice holds (of_value of a) (of_value of b))))

written_spares : {mark : Moment} (at : Site) (span : Span) (o : Object) (v : Value) → Spares mark (written at span o v)
written_spares at span o v = spares-then (write_spares at.here span o v) (λ _. spares-gives v)

assigned_spares : {mark : Moment} (at : Site) (a b : TExpr) (p : Pointer) (v : Value) → Spares mark (assigned at a b p v)
assigned_spares at a b p (Struct q) = spares-then (copy_spares at.here _) (λ _. spares-gives _)
assigned_spares at a b p v = written_spares at a.span (object a.ty p) v

pub effect_spares : {mark : Moment} (at : Site) (o : Option AssignOperator) (a b : TExpr) (p : Pointer) (v : Value) →
    Spares mark (assign_effect at o a b p v)
effect_spares at None a b p v = assigned_spares at a b p v
effect_spares at (Some o) a b p w = spares-then (scalar_spares at.here a.span (object a.ty p)) (λ v.
    spares-then (combined_values at.here at.span (binary_of o) a.ty b.ty v w) (λ r. written_spares at a.span (object a.ty p) r))

assign_spares : {mark : Moment} {at : Site} → SparesSite mark at → (o : Option AssignOperator) (a b : TExpr) →
    Spares mark (assign_node at o a b)
assign_spares {at = at} of o a b = spares-then (of.parts.place a) (λ p. spares-then (of_value of b) (λ v.
    spares-unit (effect_spares at o a b p v)))

step_spares : {mark : Moment} {at : Site} → SparesSite mark at → (s : Step) (e : TExpr) → Spares mark (step_node at s e)
step_spares {at = at} of s e = spares-then (of.parts.place e) (λ p. spares-unit (
    spares-then (scalar_spares at.here e.span (object e.ty p)) (λ v.
    spares-then (write_spares at.here e.span (object e.ty p) (stepped at.here s e.ty v)) (λ _. spares-gives _))))

take_by : (mark : Moment) (input : List ℕ) (now : State) →
    OnGoes (take_byte (record now { input = input })) (λ a later. IsKept mark now later × any a)
take_by mark [] now = (kept-rest refl refl, tt)
take_by mark (b ∷ bs) now = (kept-rest refl refl, tt)

pub take_spares : {mark : Moment} → Spares mark take_byte
take_spares = record { spares = λ now since. take_by _ now.input now }

pub put_spares : {mark : Moment} (n : ℕ) → Spares mark (put_byte n)
put_spares n = record { spares = λ now since. (kept-rest refl refl, tt) }

agrees_spares : {mark : Moment} {at : Site} → SparesSite mark at → (vs : List Value) (f : Option Function) → Spares mark (if_agrees at vs f)
agrees_spares {at = at} of vs None = spares-undefined at.here at.span None _
agrees_spares {at = at} of vs (Some f) = of.calls at.here f vs

call_effect_spares : {mark : Moment} {at : Site} → SparesSite mark at → (f : Callee) (vs : List Value) → Spares mark (call_effect at f vs)
call_effect_spares of (callee.Function n) vs = of.calls _ _ vs
call_effect_spares {at = at} of (callee.Extern n) vs = spares-some (extern_at at.here.program.units at.here.unit n) (λ e.
    spares-some (definition_of at.here.program.units (Some e)) (λ d.
    agrees_spares of vs (called_as at.here.program.units at.here.unit e d)))
call_effect_spares of callee.Putchar vs = put_spares _
call_effect_spares of callee.Getchar vs = take_spares

call_spares : {mark : Moment} {at : Site} → SparesSite mark at → (f : Callee) (es : List TExpr) → Spares mark (call_node at f es)
call_spares of f es = spares-then (spares-all (of_value of) es) (λ vs. spares-unit (call_effect_spares of f vs))

pub starts_spares : {mark : Moment} (block : Option ℕ) → Spares mark (starts block)
starts_spares block = spares-unit (spares-some block (λ b. spares-gives _))

pub member_of_spares : {mark : Moment} (here : Context) (t : Option Ty) (member : ℕ) (p : Pointer) → Spares mark (member_of here t member p)
member_of_spares here None member p = spares-stuck
member_of_spares here (Some t) member p = spares-some (member_in here (struct_of t) member) (λ m. spares-gives _)

member_spares : {mark : Moment} {at : Site} → SparesSite mark at → (e : TExpr) (member : ℕ) → Spares mark (member_place at e member)
member_spares {at = at} of e member =
    spares-then (of.parts.place e) (λ p. spares-unit (member_of_spares at.here (Some e.ty) member p))

place_spares : {mark : Moment} {at : Site} → SparesSite mark at → (n : NodeLayer) → Spares mark (place_node at n)
place_spares of (TNode-F.Text n) = spares-unit (spares-gives _)
place_spares {at = at} of (TNode-F.Local n) = starts_spares (at.here.local n)
place_spares of (TNode-F.Global n) = spares-unit (spares-gives _)
place_spares {at = at} of (TNode-F.Extern n) = starts_spares (extern_block at.here.program.units at.here.unit n)
place_spares of (TNode-F.Paren e) = of.parts.place e
place_spares of (TNode-F.Unary unary.Dereference e) = spares-then (of_value of e) (λ v. spares-unit (spares-gives _))
place_spares of (TNode-F.Index a i) =
    spares-then (of_value of a) (λ v. spares-then (of_value of i) (λ w. spares-unit (spares-gives _)))
place_spares of (TNode-F.Member e member) = member_spares of e member
place_spares {at = at} of (TNode-F.Arrow e member) =
    spares-then (of_value of e) (λ v. spares-unit (member_of_spares at.here (target_of e.ty) member _))
place_spares of (TNode-F.Assign o a b) = spares-then (assign_spares of o a b) (λ v. spares-gives _)
place_spares of _ = spares-stuck

value_spares : {mark : Moment} {at : Site} → SparesSite mark at → (n : NodeLayer) → Spares mark (value_node at n)
value_spares of (TNode-F.Constant n s) = spares-unit (spares-gives _)
value_spares {at = at} of (TNode-F.Paren e) = of.parts.value at.around e
value_spares of (TNode-F.Unary o e) = unary_spares of o e
value_spares of (TNode-F.Binary o a b) = binary_spares of o a b
value_spares of (TNode-F.Assign o a b) = assign_spares of o a b
value_spares of (TNode-F.Cond c a b) = cond_spares of c a b
value_spares of (TNode-F.Cast s e) = spares-then (of_value of e) (λ v. spares-unit (spares-gives _))
value_spares of (TNode-F.SizeofExpr e) = spares-unit (spares-gives _)
value_spares of (TNode-F.SizeofName s) = spares-unit (spares-gives _)
value_spares of (TNode-F.Call f es) = call_spares of f es
value_spares of (TNode-F.Step s e) = step_spares of s e
value_spares {at = at} of (TNode-F.Read e) = spares-then (of.parts.place e) (λ p. read_spares at.here e.span (object e.ty p))
value_spares of (TNode-F.Decay e) = spares-then (of.parts.place e) (λ p. spares-gives _)
value_spares of (TNode-F.Convert e) = spares-then (of_value of e) (λ v. spares-gives _)
value_spares {at = at} of (TNode-F.Member e member) =
    spares-then (member_spares of e member) (λ p. read_spares at.here at.around (object at.ty p))
value_spares of _ = spares-stuck

pub parts_spares : {mark : Moment} {c : Calls} → SparesCalls mark c → (here : Context) (depth : ℕ) →
    SparesParts mark (parts_at c here depth)
unfolding out-TNode
parts_spares of_calls here zero = record { value = λ around e. spares-stuck; place = λ e. spares-stuck }
parts_spares {c = c} of_calls here (suc depth) =
    let below = parts_spares {c = c} of_calls here depth in record {
      value = λ around e. value_spares {at = site c here (parts_at c here depth) around e} (record { calls = of_calls; parts = below })
          (out-TNode e.node);
      place = λ e. place_spares {at = site c here (parts_at c here depth) e.span e} (record { calls = of_calls; parts = below })
          (out-TNode e.node);
    }
