-- The code of an operator with a pointer among its operands does what it means (ISO C11 6.5.6, 6.5.8, 6.5.9).
use Rattle.std.specs.Prelude.{◌≡◌, ◌≢◌, ℕ, Bool, true, false, ◌||◌, List, [], ◌∷◌, Some, None, refl}
use Rattle.std.proofs.Common.{arith, ap, sym, subst, ◌∙◌}
use Rattle.c_ast.specs.declared.int_type.IntType.TheVariants as int
use Rattle.c_ast.specs.declared.operator.BinaryOperator.{BinaryOperator}
use Rattle.c_ast.specs.declared.operator.BinaryOperator.TheVariants as binary
use Rattle.c_ast.specs.declared.token.Span.{Span}
use Rattle.c_type_base.specs.Types.{is_integer, is_pointer, target_of}
use Rattle.c_type_base.specs.declared.expr.TExpr.{TExpr}
use Rattle.c_type_base.specs.declared.expr.TNode.TheOpen.{TNode-F}
use Rattle.c_type_base.specs.declared.ty.Ty.{Ty}
use Rattle.c_type_base.specs.declared.ty.Ty.TheVariants as ty
use Rattle.a64_code.specs.declared.instr.Instr.{Instr}
use Rattle.a64_code.specs.declared.instr.Reg.{Reg}
use Rattle.frame_layout.specs.Needs.{need}
use Rattle.block_meaning.specs.Expressions.{binary_node}
use Rattle.block_meaning.specs.ExpressionsInOrder.{Comparison, Logical, group_of, int_type, BinaryTypes}
use Rattle.block_meaning.specs.ExpressionsInOrder as order
use Rattle.block_meaning.specs.Operators.{operand, operated}
use Rattle.block_meaning.specs.Running.{Run}
use Rattle.gen_base.specs.Code.{Code as Items, plain, in_turn}
use Rattle.gen_base.specs.Operators.{wrapped_size, divisor_size, operated as operated_code, operated_by}
use Rattle.gen_base.specs.Pointers.{pointer_and_number, number_and_pointer, on_two_pointers}
use Rattle.gen_base.specs.Registers.{left}
use Rattle.gen_expr.specs.Coded.{Emits}
use Rattle.gen_expr.specs.Nodes.{first_waits, binary_value as binary_code}
use Rattle.code_follows.specs.Leaves.{value_leaves}
use Rattle.code_follows.specs.Parts.{Result, Part, ValueFollows, ValueNode, coded_in, site_in}
use Rattle.code_follows.specs.Scene.{Scene, IsScene, Lies, given_in, structs_in, frame_in}
use Rattle.code_follows.specs.Values.{ValueIs}
use Rattle.code_follows.specs.Waits.{WaitingLaws}
use Rattle.code_follows.specs.Laws.Here.{Part-same}
use Rattle.code_follows.specs.Laws.Keeping.{value_lasts}
use Rattle.code_follows.specs.Laws.Layers.{coded-ty}
use Rattle.code_follows.specs.Laws.Nodes.Integers.{target-none}
use Rattle.code_follows.specs.Laws.Nodes.Operated.{plain_run, plain_code, plain_need, value_part}
use Rattle.code_follows.specs.Laws.Nodes.OnPointers.{added_does, taken_does, added_to_does}
use Rattle.code_follows.specs.Laws.Nodes.OnTwoPointers.{compared_does, distance_does}
use Rattle.code_follows.specs.Laws.Operand.{ValueIs-spent}
use Rattle.code_follows.specs.Laws.Operands.{DoesBoth, operands_part}
use Rattle.code_follows.specs.Laws.PointerValues.{points_to}
use Rattle.code_follows.specs.Laws.Waiting.{values_last}

-- the same code, by another name
Part-code : {A : Type 0} {k : Scene} {emits other : Emits} {needs leaves : ℕ} {alone : Bool} {result : Result A} {run : Run A} →
    ((first : ℕ) (reg : Reg) → emits first reg ≡ other first reg) → Part k other needs leaves alone result run →
    Part k emits needs leaves alone result run
Part-code {k = k} same part = record {
  yields = λ first reg from to free lies.
      part.yields first reg from to free (subst (λ code. Lies k code from to) (same first reg) lies);
}

-- an operator whose instructions do on each two values what it means
pub operands_node : {k : Scene} → IsScene k → WaitingLaws k → (depth : ℕ) (o : BinaryOperator) (a b : TExpr) (t : Ty)
    (instrs : Reg → List Instr) → group_of o ≢ Logical → ValueFollows k depth a → ValueFollows k depth b →
    ((reg : Reg) → operated_code (structs_in k) o a.ty b.ty reg ≡ plain (instrs reg)) →
    ((span : Span) → DoesBoth k (ValueIs (given_in k) a.ty) (ValueIs (given_in k) b.ty) (ValueIs (given_in k) t) instrs
    (λ v w. operated k.here span o (operand a.ty v) (operand b.ty w))) → ValueNode k depth t (TNode-F.Binary o a b)
operands_node {k} scene waits depth o a b t instrs evaluates first_part second_part code_is does = record {
  at = λ span around.
      let whole = operands_part value_leaves (coded_in k a).value (coded_in k b) (omega arith) scene waits (value_part a first_part)
      (value_part b second_part) (value_lasts k.bound k.here depth b.span b) (values_last k a.ty) (λ v now n is. ValueIs-spent is)
      (λ v now n is. ValueIs-spent is) (does span) in
      record {
        part = subst (λ n. Part k (binary_code (structs_in k) o (coded_in k a) (coded_in k b)) n value_leaves false
            (ValueIs (given_in k) t) (binary_node (site_in k depth span around t) o a b)) (sym (plain_need o (need a) (need b) evaluates))
            (Part-code (λ first reg. whole_code first reg)
            (Part-same (λ now s relates. plain_run (site_in k depth span around t) o a b evaluates now) whole));
      };
}
  where
    whole_code : (first : ℕ) (reg : Reg) → binary_code (structs_in k) o (coded_in k a) (coded_in k b) first reg
        ≡ in_turn (first_waits left (coded_in k a).value (coded_in k b) first reg ∷ plain (instrs reg) ∷ [])
    whole_code first reg =
        plain_code (structs_in k) o (coded_in k a) (coded_in k b) first reg evaluates
        ∙ ap (λ (code : Items). in_turn (first_waits left (coded_in k a).value (coded_in k b) first reg ∷ code ∷ []))
        (ap (λ x. operated_code (structs_in k) o x (coded_in k b).ty reg) (coded-ty (structs_in k) (frame_in k) a)
        ∙ ap (λ x. operated_code (structs_in k) o a.ty x reg) (coded-ty (structs_in k) (frame_in k) b)
        ∙ code_is reg)

-- ---- types

-- what is asked of an operator with a pointer among its operands
pub data OnPointers (k : Scene) : BinaryOperator → Ty → Ty → Ty → Type 0 where
  added : {s t u : Ty} → target_of s ≡ Some u → is_integer t ≡ true → OnPointers k binary.Add s t s
  added_to : {s t u : Ty} → is_integer s ≡ true → target_of t ≡ Some u → OnPointers k binary.Add s t t
  taken : {s t u : Ty} → target_of s ≡ Some u → is_integer t ≡ true → OnPointers k binary.Subtract s t s
  distance : {s u : Ty} → target_of s ≡ Some u → OnPointers k binary.Subtract s s (ty.Int int.Long)
  compares : {o : BinaryOperator} {s u : Ty} → group_of o ≡ Comparison → target_of s ≡ Some u → OnPointers k o s s int_type

-- the instructions of such an operator, which do what it means
record Handled (k : Scene) (o : BinaryOperator) (s t u : Ty) : Type 0 where
  evaluates : group_of o ≢ Logical
  instrs : Reg → List Instr
  code_is : (reg : Reg) → operated_code (structs_in k) o s t reg ≡ plain (instrs reg)
  does : (span : Span) → DoesBoth k (ValueIs (given_in k) s) (ValueIs (given_in k) t) (ValueIs (given_in k) u) instrs
      (λ v w. operated k.here span o (operand s v) (operand t w))

compares_only : (o : BinaryOperator) → group_of o ≡ Comparison → group_of o ≢ Logical
compares_only o group logical = cc

handled : {k : Scene} {o : BinaryOperator} {s t u : Ty} → IsScene k → OnPointers k o s t u → Handled k o s t u
handled {k} scene (added {s} {t} {u} of integer) = record {
  evaluates = λ same. cc;
  instrs = pointer_and_number binary.Add (wrapped_size (structs_in k) u);
  code_is = λ reg.
      ap (λ x. operated_by (structs_in k) binary.Add s t x (target_of t) reg) of
      ∙ ap (λ x. operated_by (structs_in k) binary.Add s t (Some u) x reg) (target-none t integer);
  does = λ span. added_does scene span s t u of integer;
}
handled {k} scene (taken {s} {t} {u} of integer) = record {
  evaluates = λ same. cc;
  instrs = pointer_and_number binary.Subtract (wrapped_size (structs_in k) u);
  code_is = λ reg.
      ap (λ x. operated_by (structs_in k) binary.Subtract s t x (target_of t) reg) of
      ∙ ap (λ x. operated_by (structs_in k) binary.Subtract s t (Some u) x reg) (target-none t integer);
  does = λ span. taken_does scene span s t u of integer;
}
handled {k} scene (added_to {s} {t} {u} integer of) = record {
  evaluates = λ same. cc;
  instrs = number_and_pointer (wrapped_size (structs_in k) u);
  code_is = λ reg.
      ap (λ x. operated_by (structs_in k) binary.Add s t x (target_of t) reg) (target-none s integer)
      ∙ ap (λ x. operated_by (structs_in k) binary.Add s t None x reg) of;
  does = λ span. added_to_does scene span s t u integer of;
}
handled {k} scene (distance {s} {u} of) = record {
  evaluates = λ same. cc;
  instrs = on_two_pointers binary.Subtract (divisor_size (structs_in k) u);
  code_is = λ reg.
      ap (λ x. operated_by (structs_in k) binary.Subtract s s x (target_of s) reg) of
      ∙ ap (λ x. operated_by (structs_in k) binary.Subtract s s (Some u) x reg) of;
  does = λ span. distance_does scene span s u of;
}
handled {k} {o} scene (compares {s = s} {u} group of) = record {
  evaluates = compares_only o group;
  instrs = on_two_pointers o (divisor_size (structs_in k) u);
  code_is = λ reg.
      ap (λ x. operated_by (structs_in k) o s s x (target_of s) reg) of
      ∙ ap (λ x. operated_by (structs_in k) o s s (Some u) x reg) of;
  does = λ span. compared_does scene span o s u (divisor_size (structs_in k) u) group of;
}

-- an operator with a pointer among its operands
pub pointers_follow : (k : Scene) → IsScene k → WaitingLaws k → (depth : ℕ) (o : BinaryOperator) (a b : TExpr) (t : Ty) →
    ValueFollows k depth a → ValueFollows k depth b → OnPointers k o a.ty b.ty t → ValueNode k depth t (TNode-F.Binary o a b)
pointers_follow k scene waits depth o a b t first second on =
    let h = handled scene on in operands_node scene waits depth o a b t h.instrs h.evaluates first second h.code_is h.does

-- ---- from what is known of trees in order

-- the types of the operands are integers, or one is a pointer
pub data OperandTypes (k : Scene) (o : BinaryOperator) (s t u : Ty) : Type 0 where
  both_integers : is_integer s ≡ true → is_integer t ≡ true → OperandTypes k o s t u
  some_pointer : OnPointers k o s t u → OperandTypes k o s t u

operand_types : {k : Scene} {o : BinaryOperator} {s t u : Ty} → BinaryTypes o s t u → OperandTypes k o s t u
operand_types (order.arithmetic group is) = both_integers is is
operand_types (order.shift group is its) = both_integers is its
operand_types {k} (order.comparison {o} {t} group is) = by_kind (is_integer t) refl (is_pointer t) refl is
  where
    by_kind : (integer : Bool) → is_integer t ≡ integer → (pointer : Bool) → is_pointer t ≡ pointer → (integer || pointer) ≡ true →
        OperandTypes k o t t int_type
    by_kind true is_int pointer is_ptr either = both_integers is_int is_int
    by_kind false is_int true is_ptr either = let to = points_to t is_ptr in some_pointer (compares group to.is)
    by_kind false is_int false is_ptr either = absurd (cc)
operand_types (order.added {s} {t} is its) = let to = points_to s is in some_pointer (added to.is its)
operand_types (order.added_to {s} {t} is its) = let to = points_to t its in some_pointer (added_to is to.is)
operand_types (order.taken {s} {t} is its) = let to = points_to s is in some_pointer (taken to.is its)
operand_types (order.distance {t} is) = let to = points_to t is in some_pointer (distance to.is)

-- An operator in order follows where it does on two integers.
pub operated_on : (k : Scene) → IsScene k → WaitingLaws k → (depth : ℕ) (o : BinaryOperator) (a b : TExpr) (t : Ty) →
    ValueFollows k depth a → ValueFollows k depth b → BinaryTypes o a.ty b.ty t →
    (is_integer a.ty ≡ true → is_integer b.ty ≡ true → ValueNode k depth t (TNode-F.Binary o a b)) →
    ValueNode k depth t (TNode-F.Binary o a b)
operated_on k scene waits depth o a b t first second types integers = by_kind (operand_types types)
  where
    by_kind : OperandTypes k o a.ty b.ty t → ValueNode k depth t (TNode-F.Binary o a b)
    by_kind (both_integers is its) = integers is its
    by_kind (some_pointer on) = pointers_follow k scene waits depth o a b t first second on
