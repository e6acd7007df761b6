-- Expressions do the same with more work, or have put a part of it.
use Rattle.std.proofs.Common.{refl, ℕ, zero, suc, ◌%◌, Bool, true, false, List, []}
use Rattle.std.proofs.Common.{◌∷◌, Option, Some, None}
use Rattle.c_ast.specs.declared.token.Span.{Span}
use Rattle.c_ast.specs.declared.operator.UnaryOperator.{UnaryOperator}
use Rattle.c_ast.specs.declared.operator.UnaryOperator.TheVariants as unary
use Rattle.c_ast.specs.declared.operator.BinaryOperator.{BinaryOperator}
use Rattle.c_ast.specs.declared.operator.BinaryOperator.TheVariants as binary
use Rattle.c_ast.specs.declared.operator.AssignOperator.{AssignOperator}
use Rattle.c_ast.specs.declared.operator.Step.{Step}
use Rattle.c_type_base.specs.declared.ty.Ty.{Ty}
use Rattle.c_type_base.specs.declared.expr.TExpr.{TExpr}
use Rattle.c_type_base.specs.declared.expr.TNode.{out-TNode}
use Rattle.c_type_base.specs.declared.expr.TNode.TheOpen.{TNode-F}
use Rattle.c_type_base.specs.declared.expr.Callee.{Callee}
use Rattle.c_type_base.specs.declared.expr.Callee.TheVariants as callee
use Rattle.c_type_base.specs.Arithmetic.{unary_value}
use Rattle.c_type_base.specs.Types.{target_of, struct_of}
use Rattle.block_meaning.specs.declared.value.Pointer.{Pointer}
use Rattle.block_meaning.specs.Expressions.{NodeLayer, ExprParts, Calls, Site, site, value_of, number_known, unary_node, logical_node}
use Rattle.block_meaning.specs.Expressions.{same_truth, binary_node, cond_node, written, assigned, assign_effect, assign_node, step_node}
use Rattle.block_meaning.specs.Expressions.{take_byte, put_byte, if_agrees, call_effect, call_node, starts, member_in, member_of}
use Rattle.block_meaning.specs.Expressions.{member_place, place_node, value_node, parts_at}
use Rattle.block_meaning.specs.Laws.Steady.{Begins, begins-itself, output_after, with_work, Grown, Steady, steady-gives}
use Rattle.block_meaning.specs.Laws.Steady.{steady-stuck, steady-undefined, steady-then, steady-unit}
use Rattle.block_meaning.specs.Laws.Steady.{steady-choice, steady-some, steady-all}
use Rattle.block_meaning.specs.Linkage.{extern_at, extern_block, definition_of, called_as}
use Rattle.block_meaning.specs.Memory.{Object, object}
use Rattle.block_meaning.specs.Operators.{binary_of, int_in, stepped}
use Rattle.block_meaning.specs.Running.{Function, State, Context}
use Rattle.block_meaning.specs.declared.value.Value.{Value}
use Rattle.block_meaning.specs.declared.value.Value.TheVariants.{Struct}
use Rattle.block_meaning.specs.Values.{number_in}
use Rattle.block_meaning.specs.Laws.MoreWork.Values.{scalar_steady, read_steady, write_steady, copy_steady, truth_steady, values_steady}
use Rattle.block_meaning.specs.Laws.MoreWork.Values.{combined_values}

pub record SteadyParts (p : ExprParts) : Type 0 where
  pub value : (around : Span) (e : TExpr) → Steady (p.value_in around e)
  pub place : (e : TExpr) → Steady (p.place e)

abbrev pub SteadyCalls : Calls → Type 0
SteadyCalls c = (here : Context) (f : Function) (vs : List Value) → Steady (c here f vs)

record SteadySite (at : Site) : Type 0 where
  calls : SteadyCalls at.calls
  parts : SteadyParts at.parts

abbrev of_value : {at : Site} → SteadySite at → (e : TExpr) → Steady (value_of at.parts e)
of_value of e = of.parts.value e.span e

pub number_steady : (n : Option ℕ) → Steady (number_known n)
number_steady None = steady-stuck
number_steady (Some n) = steady-gives _

unary_steady : {at : Site} → SteadySite at → (o : UnaryOperator) (e : TExpr) → Steady (unary_node at o e)
unary_steady of unary.AddressOf e = steady-then (of.parts.place e) (λ p. steady-unit (steady-gives _))
unary_steady of unary.Dereference e = steady-stuck
unary_steady {at = at} of unary.Not e =
    steady-then (of_value of e) (λ v. steady-unit (steady-then (truth_steady at.here e.span v) (λ b. steady-gives _)))
unary_steady of o e = steady-then (of_value of e) (λ v. steady-unit (number_steady (unary_value o (int_in e.ty) (number_in v))))

logical_steady : {at : Site} → SteadySite at → (decides : Bool) (a b : TExpr) → Steady (logical_node at decides a b)
logical_steady {at = at} of decides a b =
    steady-then (of_value of a) (λ v. steady-unit (steady-then (truth_steady at.here a.span v) (λ first.
    steady-choice (same_truth first decides) (steady-gives _)
    (steady-then (of_value of b) (λ w. steady-then (truth_steady at.here b.span w) (λ second. steady-gives _))))))

binary_steady : {at : Site} → SteadySite at → (o : BinaryOperator) (a b : TExpr) → Steady (binary_node at o a b)
binary_steady of binary.And a b = logical_steady of false a b
binary_steady of binary.Or a b = logical_steady of true a b
binary_steady {at = at} of o a b = steady-then (of_value of a) (λ v. steady-then (of_value of b) (λ w.
    steady-unit (values_steady at.here at.span o a.ty b.ty v w)))

cond_steady : {at : Site} → SteadySite at → (c a b : TExpr) → Steady (cond_node at c a b)
cond_steady {at = at} of c a b = steady-then (of_value of c) (λ v. steady-unit (steady-then (truth_steady at.here c.span v) (λ holds.
    steady-choice holds (of_value of a) (of_value of b))))

written_steady : (at : Site) (span : Span) (o : Object) (v : Value) → Steady (written at span o v)
written_steady at span o v = steady-then (write_steady at.here span o v) (λ _. steady-gives v)

assigned_steady : (at : Site) (a b : TExpr) (p : Pointer) (v : Value) → Steady (assigned at a b p v)
assigned_steady at a b p (Struct q) = steady-then (copy_steady at.here _) (λ _. steady-gives _)
assigned_steady at a b p v = written_steady at a.span (object a.ty p) v

pub effect_steady : (at : Site) (o : Option AssignOperator) (a b : TExpr) (p : Pointer) (v : Value) → Steady (assign_effect at o a b p v)
effect_steady at None a b p v = assigned_steady at a b p v
effect_steady at (Some o) a b p w = steady-then (scalar_steady at.here a.span (object a.ty p)) (λ v.
    steady-then (combined_values at.here at.span (binary_of o) a.ty b.ty v w) (λ r. written_steady at a.span (object a.ty p) r))

assign_steady : {at : Site} → SteadySite at → (o : Option AssignOperator) (a b : TExpr) → Steady (assign_node at o a b)
assign_steady {at = at} of o a b = steady-then (of.parts.place a) (λ p. steady-then (of_value of b) (λ v.
    steady-unit (effect_steady at o a b p v)))

step_steady : {at : Site} → SteadySite at → (s : Step) (e : TExpr) → Steady (step_node at s e)
step_steady {at = at} of s e = steady-then (of.parts.place e) (λ p. steady-unit (
    steady-then (scalar_steady at.here e.span (object e.ty p)) (λ v.
    steady-then (write_steady at.here e.span (object e.ty p) (stepped at.here s e.ty v)) (λ _. steady-gives _))))

take_puts : (input : List ℕ) (now : State) → Begins now.output (output_after (take_byte (record now { input = input })))
take_puts [] now = begins-itself now.output
take_puts (b ∷ bs) now = begins-itself now.output

take_grows : (input : List ℕ) (more : ℕ) (now : State) →
    Grown more (take_byte (record now { input = input })) (take_byte (with_work more (record now { input = input })))
take_grows [] more now = refl
take_grows (b ∷ bs) more now = refl

pub take_steady : Steady take_byte
take_steady = record { puts = λ now. take_puts now.input now; grows = λ more now. take_grows now.input more now }

pub put_steady : (n : ℕ) → Steady (put_byte n)
put_steady n = record { puts = λ now. record { rest = n % 256 ∷ []; is = refl }; grows = λ more now. refl }

agrees_steady : {at : Site} → SteadySite at → (vs : List Value) (f : Option Function) → Steady (if_agrees at vs f)
agrees_steady {at = at} of vs None = steady-undefined at.here at.span None _
agrees_steady {at = at} of vs (Some f) = of.calls at.here f vs

call_effect_steady : {at : Site} → SteadySite at → (f : Callee) (vs : List Value) → Steady (call_effect at f vs)
call_effect_steady of (callee.Function n) vs = of.calls _ _ vs
call_effect_steady {at = at} of (callee.Extern n) vs = steady-some (extern_at at.here.program.units at.here.unit n) (λ e.
    steady-some (definition_of at.here.program.units (Some e)) (λ d.
    agrees_steady of vs (called_as at.here.program.units at.here.unit e d)))
call_effect_steady of callee.Putchar vs = put_steady _
call_effect_steady of callee.Getchar vs = take_steady

call_steady : {at : Site} → SteadySite at → (f : Callee) (es : List TExpr) → Steady (call_node at f es)
call_steady of f es = steady-then (steady-all (of_value of) es) (λ vs. steady-unit (call_effect_steady of f vs))

pub starts_steady : (block : Option ℕ) → Steady (starts block)
starts_steady block = steady-unit (steady-some block (λ b. steady-gives _))

pub member_of_steady : (here : Context) (t : Option Ty) (member : ℕ) (p : Pointer) → Steady (member_of here t member p)
member_of_steady here None member p = steady-stuck
member_of_steady here (Some t) member p = steady-some (member_in here (struct_of t) member) (λ m. steady-gives _)

member_steady : {at : Site} → SteadySite at → (e : TExpr) (member : ℕ) → Steady (member_place at e member)
member_steady {at = at} of e member =
    steady-then (of.parts.place e) (λ p. steady-unit (member_of_steady at.here (Some e.ty) member p))

place_steady : {at : Site} → SteadySite at → (n : NodeLayer) → Steady (place_node at n)
place_steady of (TNode-F.Text n) = steady-unit (steady-gives _)
place_steady {at = at} of (TNode-F.Local n) = starts_steady (at.here.local n)
place_steady of (TNode-F.Global n) = steady-unit (steady-gives _)
place_steady {at = at} of (TNode-F.Extern n) = starts_steady (extern_block at.here.program.units at.here.unit n)
place_steady of (TNode-F.Paren e) = of.parts.place e
place_steady of (TNode-F.Unary unary.Dereference e) = steady-then (of_value of e) (λ v. steady-unit (steady-gives _))
place_steady of (TNode-F.Index a i) =
    steady-then (of_value of a) (λ v. steady-then (of_value of i) (λ w. steady-unit (steady-gives _)))
place_steady of (TNode-F.Member e member) = member_steady of e member
place_steady {at = at} of (TNode-F.Arrow e member) =
    steady-then (of_value of e) (λ v. steady-unit (member_of_steady at.here (target_of e.ty) member _))
place_steady of (TNode-F.Assign o a b) = steady-then (assign_steady of o a b) (λ v. steady-gives _)
place_steady of _ = steady-stuck

value_steady : {at : Site} → SteadySite at → (n : NodeLayer) → Steady (value_node at n)
value_steady of (TNode-F.Constant n s) = steady-unit (steady-gives _)
value_steady {at = at} of (TNode-F.Paren e) = of.parts.value at.around e
value_steady of (TNode-F.Unary o e) = unary_steady of o e
value_steady of (TNode-F.Binary o a b) = binary_steady of o a b
value_steady of (TNode-F.Assign o a b) = assign_steady of o a b
value_steady of (TNode-F.Cond c a b) = cond_steady of c a b
value_steady of (TNode-F.Cast s e) = steady-then (of_value of e) (λ v. steady-unit (steady-gives _))
value_steady of (TNode-F.SizeofExpr e) = steady-unit (steady-gives _)
value_steady of (TNode-F.SizeofName s) = steady-unit (steady-gives _)
value_steady of (TNode-F.Call f es) = call_steady of f es
value_steady of (TNode-F.Step s e) = step_steady of s e
value_steady {at = at} of (TNode-F.Read e) = steady-then (of.parts.place e) (λ p. read_steady at.here e.span (object e.ty p))
value_steady of (TNode-F.Decay e) = steady-then (of.parts.place e) (λ p. steady-gives _)
value_steady of (TNode-F.Convert e) = steady-then (of_value of e) (λ v. steady-gives _)
value_steady {at = at} of (TNode-F.Member e member) =
    steady-then (member_steady of e member) (λ p. read_steady at.here at.around (object at.ty p))
value_steady of _ = steady-stuck

pub parts_steady : {c : Calls} → SteadyCalls c → (here : Context) (depth : ℕ) → SteadyParts (parts_at c here depth)
unfolding out-TNode
parts_steady of_calls here zero = record { value = λ around e. steady-stuck; place = λ e. steady-stuck }
parts_steady {c = c} of_calls here (suc depth) =
    let below = parts_steady {c = c} of_calls here depth in record {
      value = λ around e. value_steady {at = site c here (parts_at c here depth) around e} (record { calls = of_calls; parts = below })
          (out-TNode e.node);
      place = λ e. place_steady {at = site c here (parts_at c here depth) e.span e} (record { calls = of_calls; parts = below })
          (out-TNode e.node);
    }
