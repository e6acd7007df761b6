-- What an expression does and gives (ISO C11 6.5). One case a node, given how its parts run. A node spends a unit of work after its
-- operands and before its own effect; `&&`, `||` and `?:` do after the first. Parentheses, what the compiler adds (`Read`, `Decay`,
-- `Convert`), and what stands below `sizeof` spend none.
use Rattle.std.specs.Prelude.{ℕ, zero, suc, ◌-◌, ◌*◌, ◌%◌, ◌^◌, Bool, true, false, List, [], ◌∷◌, ◌++◌, map, slice_get, Option, Some, None}
use Rattle.std.specs.Prelude.{not}
use Rattle.std.specs.Prelude.{if◌then◌else◌}
use Rattle.c_ast.specs.declared.token.Span.{Span}
use Rattle.c_ast.specs.declared.operator.UnaryOperator.{UnaryOperator}
use Rattle.c_ast.specs.declared.operator.UnaryOperator.TheVariants as unary
use Rattle.c_ast.specs.declared.operator.BinaryOperator.{BinaryOperator}
use Rattle.c_ast.specs.declared.operator.BinaryOperator.TheVariants as binary
use Rattle.c_ast.specs.declared.operator.AssignOperator.{AssignOperator}
use Rattle.c_ast.specs.declared.operator.Step.{Step}
use Rattle.c_type_base.specs.declared.ty.Ty.{Ty}
use Rattle.c_type_base.specs.declared.expr.TExpr.{TExpr}
use Rattle.c_type_base.specs.declared.expr.TNode.{TNode, out-TNode}
use Rattle.c_type_base.specs.declared.expr.TNode.TheOpen.{TNode-F}
use Rattle.c_type_base.specs.declared.expr.Callee.{Callee}
use Rattle.c_type_base.specs.declared.expr.Callee.TheVariants as callee
use Rattle.c_type_base.specs.declared.typed.ExternInfo.{ExternInfo}
use Rattle.c_type_base.specs.declared.typed.MemberInfo.{MemberInfo}
use Rattle.c_type_base.specs.Layout.{members_of}
use Rattle.c_type_base.specs.Types.{target_of, struct_of}
use Rattle.c_type_base.specs.Arithmetic.{unary_value}
use Rattle.block_meaning.specs.declared.reason.Reason.TheVariants.{Signature}
use Rattle.block_meaning.specs.declared.value.Pointer.{Pointer}
use Rattle.block_meaning.specs.Blocks.{pointer, moved}
use Rattle.block_meaning.specs.Linkage.{function_of, object_block, text_block, extern_block, extern_at, definition_of, called_as}
use Rattle.block_meaning.specs.Memory.{Object, object, structs_at, bytes_of, read, read_scalar, write, copy_struct}
use Rattle.block_meaning.specs.Operators.{operand, int_in, is_true, number_of_truth, operated, combined, gives_old, stepped}
use Rattle.block_meaning.specs.Running.{Function, Goes, Run, gives, stuck, and_then, unit_then, unit_gives, choice, with_some, all_of}
use Rattle.block_meaning.specs.Running.{Context, undefined}
use Rattle.block_meaning.specs.declared.value.Value.{Value}
use Rattle.block_meaning.specs.declared.value.Value.TheVariants.{Number, Address, Struct}
use Rattle.block_meaning.specs.Values.{pointer_in, number_in, converted_to}

-- one level of an expression
abbrev pub NodeLayer : Type 0
NodeLayer = TNode-F TNode TExpr

-- how the parts of an expression run
pub record ExprParts : Type 0 where
  -- to a value, where it stands in parentheses of this span
  pub value_in : Span → TExpr → Run Value
  -- of one that designates an object, to its place
  pub place : TExpr → Run Pointer

-- how a function runs with some arguments
abbrev pub Calls : Type 0
Calls = Context → Function → List Value → Run Value

-- where a node stands: its own span, that of the parentheses directly round it, its type, and how its parts run
pub record Site : Type 0 where
  pub calls : Calls
  pub here : Context
  pub parts : ExprParts
  pub span : Span
  pub around : Span
  pub ty : Ty

abbrev pub value_of : ExprParts → TExpr → Run Value
value_of parts e = parts.value_in e.span e

-- ---- operators

abbrev pub number_known : Option ℕ → Run Value
number_known None = stuck
number_known (Some n) = gives (Number n)

abbrev pub unary_node : Site → UnaryOperator → TExpr → Run Value
unary_node at unary.AddressOf e = and_then (at.parts.place e) (λ p. unit_gives (Address p))
unary_node at unary.Dereference e = stuck
unary_node at unary.Not e =
    and_then (value_of at.parts e) (λ v. unit_then (and_then (is_true at.here e.span v) (λ b. gives (number_of_truth (not b)))))
unary_node at o e = and_then (value_of at.parts e) (λ v. unit_then (number_known (unary_value o (int_in e.ty) (number_in v))))

abbrev pub same_truth : Bool → Bool → Bool
same_truth a b = (if a then b else not b)

-- `a && b` is 0 where a is, `a || b` is 1 where a is not: the first decides where it has the truth that decides, and else the second
abbrev pub logical_node : Site → Bool → TExpr → TExpr → Run Value
logical_node at decides a b =
    and_then (value_of at.parts a) (λ v. unit_then (and_then (is_true at.here a.span v) (λ first.
    choice (same_truth first decides)
    (gives (number_of_truth decides))
    (and_then (value_of at.parts b) (λ w. and_then (is_true at.here b.span w) (λ second. gives (number_of_truth second)))))))

abbrev pub binary_node : Site → BinaryOperator → TExpr → TExpr → Run Value
binary_node at binary.And a b = logical_node at false a b
binary_node at binary.Or a b = logical_node at true a b
binary_node at o a b =
    and_then (value_of at.parts a) (λ v. and_then (value_of at.parts b) (λ w.
    unit_then (operated at.here at.span o (operand a.ty v) (operand b.ty w))))

abbrev pub cond_node : Site → TExpr → TExpr → TExpr → Run Value
cond_node at c a b =
    and_then (value_of at.parts c) (λ v. unit_then (and_then (is_true at.here c.span v) (λ holds.
    choice holds (value_of at.parts a) (value_of at.parts b))))

-- ---- assignment (6.5.16): the place of the left side, then the right side, and then the effect

abbrev pub written : Site → Span → Object → Value → Run Value
written at span o v = and_then (write at.here span o v) (λ _. gives v)

-- a struct is copied, and is then the one on the left; a scalar is written
abbrev pub assigned : Site → TExpr → TExpr → Pointer → Value → Run Value
assigned at a b p (Struct q) = and_then (copy_struct at.here (record {
  source = object a.ty q;
  target = object a.ty p;
  source_span = b.span;
  target_span = a.span;
  span = at.span;
})) (λ _. gives (Struct p))
assigned at a b p v = written at a.span (object a.ty p) v

-- the left side is read after the right side
abbrev pub compound : Site → AssignOperator → TExpr → TExpr → Pointer → Value → Run Value
compound at o a b p w =
    and_then (read_scalar at.here a.span (object a.ty p)) (λ v.
    and_then (combined at.here at.span o (operand a.ty v) (operand b.ty w)) (λ r. written at a.span (object a.ty p) r))

abbrev pub assign_effect : Site → Option AssignOperator → TExpr → TExpr → Pointer → Value → Run Value
assign_effect at None a b p v = assigned at a b p v
assign_effect at (Some o) a b p v = compound at o a b p v

abbrev pub assign_node : Site → Option AssignOperator → TExpr → TExpr → Run Value
assign_node at o a b =
    and_then (at.parts.place a) (λ p. and_then (value_of at.parts b) (λ v. unit_then (assign_effect at o a b p v)))

-- `++` and `--` read once and write once (6.5.2.4, 6.5.3.1)
abbrev pub step_node : Site → Step → TExpr → Run Value
step_node at s e =
    and_then (at.parts.place e) (λ p. unit_then (
    and_then (read_scalar at.here e.span (object e.ty p)) (λ v.
    and_then (write at.here e.span (object e.ty p) (stepped at.here s e.ty v)) (λ _.
    gives (if gives_old s then v else stepped at.here s e.ty v)))))

-- ---- calls (6.5.2.2)

-- the byte that is taken, or -1 at the end (7.21.7.6)
abbrev pub take_byte : Run Value
take_byte now = elim now.input [
  | [] ↦ Goes (Number (2 ^ 64 - 1)) now
  | b ∷ bs ↦ Goes (Number b) (record now { input = bs })
]

-- a byte is put: the number modulo 256, which it gives (7.21.7.8)
abbrev pub put_byte : ℕ → Run Value
put_byte n now = Goes (Number (n % 256)) (record now { output = now.output ++ n % 256 ∷ [] })

abbrev pub first_number : List Value → ℕ
first_number [] = 0
first_number (v ∷ vs) = number_in v

abbrev pub if_agrees : Site → List Value → Option Function → Run Value
if_agrees at vs None = undefined at.here at.span None Signature
if_agrees at vs (Some f) = at.calls at.here f vs

-- a function that another file defines, if it has the type by which this one declares it
abbrev pub call_extern : Site → List Value → ExternInfo → Run Value
call_extern at vs e = let units = at.here.program.units in
    with_some (definition_of units (Some e)) (λ d. if_agrees at vs (called_as units at.here.unit e d))

abbrev pub call_effect : Site → Callee → List Value → Run Value
call_effect at (callee.Function n) vs = at.calls at.here (function_of at.here.unit n) vs
call_effect at (callee.Extern n) vs = with_some (extern_at at.here.program.units at.here.unit n) (call_extern at vs)
call_effect at callee.Putchar vs = put_byte (first_number vs)
call_effect at callee.Getchar vs = take_byte

abbrev pub call_node : Site → Callee → List TExpr → Run Value
call_node at f es = and_then (all_of (map (value_of at.parts) es)) (λ vs. unit_then (call_effect at f vs))

-- ---- what designates an object (6.3.2.1 paragraph 1)

abbrev pub start_of : ℕ → Pointer
start_of block = pointer block 0

-- the start of a block that is there
abbrev pub starts : Option ℕ → Run Pointer
starts block = unit_then (with_some block (λ b. gives (start_of b)))

-- the element of a number behind a pointer, in either order (6.5.2.1)
abbrev pub element_at : ℕ → Value → Value → Pointer
element_at bytes (Address p) v = moved p (number_in v * bytes)
element_at bytes v w = moved (pointer_in w) (number_in v * bytes)

abbrev pub index_place : Site → TExpr → TExpr → Run Pointer
index_place at a i =
    and_then (value_of at.parts a) (λ v. and_then (value_of at.parts i) (λ w. unit_gives (element_at (bytes_of at.here at.ty) v w)))

abbrev pub member_in : Context → Option ℕ → ℕ → Option MemberInfo
member_in here None member = None
member_in here (Some which) member = slice_get (members_of (slice_get (structs_at here) which)) member

-- a member of the struct of a type that stands at a place
abbrev pub member_of : Context → Option Ty → ℕ → Pointer → Run Pointer
member_of here None member p = stuck
member_of here (Some t) member p = with_some (member_in here (struct_of t) member) (λ m. gives (moved p m.offset))

abbrev pub member_place : Site → TExpr → ℕ → Run Pointer
member_place at e member = and_then (at.parts.place e) (λ p. unit_then (member_of at.here (Some e.ty) member p))

abbrev pub arrow_place : Site → TExpr → ℕ → Run Pointer
arrow_place at e member =
    and_then (value_of at.parts e) (λ v. unit_then (member_of at.here (target_of e.ty) member (pointer_in v)))

-- the place of what an expression designates; a struct that was assigned is the one on the left
abbrev pub place_node : Site → NodeLayer → Run Pointer
place_node at (TNode-F.Text n) = unit_gives (start_of (text_block at.here.program.units at.here.unit n))
place_node at (TNode-F.Local n) = starts (at.here.local n)
place_node at (TNode-F.Global n) = unit_gives (start_of (object_block at.here.program.units at.here.unit n))
place_node at (TNode-F.Extern n) = starts (extern_block at.here.program.units at.here.unit n)
place_node at (TNode-F.Paren e) = at.parts.place e
place_node at (TNode-F.Unary unary.Dereference e) = and_then (value_of at.parts e) (λ v. unit_gives (pointer_in v))
place_node at (TNode-F.Index a i) = index_place at a i
place_node at (TNode-F.Member e member) = member_place at e member
place_node at (TNode-F.Arrow e member) = arrow_place at e member
place_node at (TNode-F.Assign o a b) = and_then (assign_node at o a b) (λ v. gives (pointer_in v))
place_node at _ = stuck

-- ---- all of them

-- the value of an expression
abbrev pub value_node : Site → NodeLayer → Run Value
value_node at (TNode-F.Constant n s) = unit_gives (Number n)
value_node at (TNode-F.Paren e) = at.parts.value_in at.around e
value_node at (TNode-F.Unary o e) = unary_node at o e
value_node at (TNode-F.Binary o a b) = binary_node at o a b
value_node at (TNode-F.Assign o a b) = assign_node at o a b
value_node at (TNode-F.Cond c a b) = cond_node at c a b
value_node at (TNode-F.Cast s e) = and_then (value_of at.parts e) (λ v. unit_gives (converted_to s v))
value_node at (TNode-F.SizeofExpr e) = unit_gives (Number (bytes_of at.here e.ty % 2 ^ 64))
value_node at (TNode-F.SizeofName s) = unit_gives (Number (bytes_of at.here s % 2 ^ 64))
value_node at (TNode-F.Call f es) = call_node at f es
value_node at (TNode-F.Step s e) = step_node at s e
value_node at (TNode-F.Read e) = and_then (at.parts.place e) (λ p. read at.here e.span (object e.ty p))
value_node at (TNode-F.Decay e) = and_then (at.parts.place e) (λ p. gives (Address p))
value_node at (TNode-F.Convert e) = and_then (value_of at.parts e) (λ v. gives (converted_to at.ty v))
-- a member of a struct that was assigned, which no `Read` stands round
value_node at (TNode-F.Member e member) = and_then (member_place at e member) (λ p. read at.here at.around (object at.ty p))
value_node at _ = stuck

abbrev pub site : Calls → Context → ExprParts → Span → TExpr → Site
site calls here parts around e = record { calls = calls; here = here; parts = parts; span = e.span; around = around; ty = e.ty }

-- an expression, with so many levels below it at most
abbrev pub parts_at : Calls → Context → ℕ → ExprParts
parts_at calls here zero = record { value_in = λ around e. stuck; place = λ e. stuck }
parts_at calls here (suc depth) = record {
  value_in = λ around e. value_node (site calls here (parts_at calls here depth) around e) (out-TNode e.node);
  place = λ e. place_node (site calls here (parts_at calls here depth) e.span e) (out-TNode e.node);
}
