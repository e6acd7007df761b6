-- The code of each kind of node, by that of its parts (this project's own). What spends a unit of work in the meaning has an instruction of
-- its own before the next unit is spent.
use Rattle.std.specs.Prelude.{ℕ, suc, true, List, [], ◌∷◌, ◌++◌, Option, Some, None, if◌then◌else◌}
use Rattle.c_ast.specs.declared.operator.AssignOperator.{AssignOperator}
use Rattle.c_ast.specs.declared.operator.BinaryOperator.{BinaryOperator}
use Rattle.c_ast.specs.declared.operator.BinaryOperator.TheVariants as binary
use Rattle.c_ast.specs.declared.operator.UnaryOperator.{UnaryOperator}
use Rattle.c_ast.specs.declared.operator.UnaryOperator.TheVariants as unary
use Rattle.c_ast.specs.declared.operator.Step.{Step}
use Rattle.c_type_base.specs.declared.ty.Ty.{Ty}
use Rattle.c_type_base.specs.declared.expr.Callee.{Callee}
use Rattle.c_type_base.specs.declared.expr.Callee.TheVariants as callee
use Rattle.c_type_base.specs.declared.typed.StructInfo.{StructInfo}
use Rattle.c_type_base.specs.Types.{target_of}
use Rattle.a64_code.specs.declared.instr.Instr.{Instr}
use Rattle.a64_code.specs.declared.instr.Instr.TheVariants.{Nop, Svc}
use Rattle.a64_code.specs.declared.instr.Reg.{Reg}
use Rattle.a64_laws.specs.Constants.{constant_moves}
use Rattle.block_meaning.specs.Operators.{int_in, gives_old}
use Rattle.frame_layout.specs.declared.frame.Slot.{Slot}
use Rattle.sym_code.specs.declared.item.SymItem.TheVariants as item
use Rattle.gen_base.specs.Accesses.{OnStack, Behind, load_scalar, store_scalar, reached}
use Rattle.gen_base.specs.Code.{Code, nothing, only, plain, in_turn, labelled}
use Rattle.gen_base.specs.Conversions.{convert}
use Rattle.gen_base.specs.Integers.{on_integer, is_other}
use Rattle.gen_base.specs.Operators.{wrapped_size, operated, element, combined, stepped}
use Rattle.gen_base.specs.Registers.{left, scratch, argument, returned, move, paying}
use Rattle.gen_base.specs.Waiting.{keep, fetch}
use Rattle.gen_expr.specs.Coded.{Emits, Coded, computed, designated, pointed}

-- ---- leaves

abbrev pub constant : ℕ → Emits
constant n t r = plain (constant_moves r n)

abbrev pub local : ℕ → Option Slot → Ty → Coded
local k s ty = record (designated true (λ t r. only (item.SlotAddress k r)) ty) { slot = reached ty s }

-- ---- two operands

-- The first waits while the second is evaluated, and is then in a register: in that all along, where the second changes no other.
abbrev pub first_waits : Reg → Emits → Coded → Emits
first_waits into first b t r =
    if b.alone then in_turn (first t r ∷ plain (move r into ∷ []) ∷ b.value t r ∷ [])
    else in_turn (first t r ∷ plain (keep t r) ∷ b.value (suc t) r ∷ plain (fetch t into) ∷ [])

-- ---- operators

abbrev pub unary_value : UnaryOperator → Coded → Emits
unary_value unary.AddressOf e t r = in_turn (e.place t r ∷ plain (Nop ∷ []) ∷ [])
unary_value o e t r = in_turn (e.value t r ∷ plain (on_integer o (int_in e.ty) r) ∷ [])

abbrev pub unary_node : UnaryOperator → Coded → Ty → Coded
unary_node unary.Dereference e ty = pointed e.alone e.value ty
unary_node o e ty = computed e.alone (unary_value o e) ty

-- `a && b` is 0 where a is, with nothing more to do
abbrev pub and_value : Coded → Coded → Emits
and_value a b t r = in_turn (a.value t r ∷ labelled (λ l. in_turn (
    only (item.JumpIfZero r l) ∷ b.value t r ∷ plain (is_other r) ∷ only (item.Label l) ∷ [])) ∷ [])

-- `a || b` is 1 where a is not 0
abbrev pub or_value : Coded → Coded → Emits
or_value a b t r = in_turn (a.value t r ∷ plain (is_other r) ∷ labelled (λ l. in_turn (
    only (item.JumpIfNotZero r l) ∷ b.value t r ∷ plain (is_other r) ∷ only (item.Label l) ∷ [])) ∷ [])

abbrev pub binary_value : List StructInfo → BinaryOperator → Coded → Coded → Emits
binary_value structs binary.And a b t r = and_value a b t r
binary_value structs binary.Or a b t r = or_value a b t r
binary_value structs o a b t r = in_turn (first_waits left a.value b t r ∷ operated structs o a.ty b.ty r ∷ [])

abbrev pub cond_value : Coded → Coded → Coded → Emits
cond_value c a b t r = in_turn (c.value t r ∷ labelled (λ l. in_turn (
    only (item.JumpIfZero r l) ∷ a.value t r ∷ only (item.Jump (suc l)) ∷
    only (item.Label l) ∷ b.value t r ∷ only (item.Label (suc l)) ∷ [])) ∷ [])

abbrev pub cast_value : Ty → Coded → Emits
cast_value ty e t r = in_turn (e.value t r ∷ plain (paying (convert e.ty ty r)) ∷ [])

abbrev pub converted_value : Ty → Coded → Emits
converted_value ty e t r = in_turn (e.value t r ∷ plain (convert e.ty ty r) ∷ [])

abbrev pub index_place : List StructInfo → Coded → Coded → Ty → Emits
index_place structs a i ty t r =
    in_turn (first_waits left a.value i t r ∷ plain (element (wrapped_size structs ty) (target_of a.ty) r) ∷ [])

-- ---- assignment: a local in reach of SP is stored there, and any other object through its place, which waits

abbrev pub assign_value : Option ℕ → Coded → Coded → Emits
assign_value (Some start) a b t r =
    in_turn (plain (Nop ∷ []) ∷ b.value t r ∷ plain (store_scalar a.ty (OnStack start) r ∷ []) ∷ [])
assign_value None a b t r =
    in_turn (first_waits scratch a.pointer b t r ∷ plain (store_scalar a.ty (Behind scratch) r ∷ []) ∷ [])

-- the place is fetched twice, since the operator may change its register
abbrev pub compound_value : List StructInfo → AssignOperator → Option ℕ → Coded → Coded → Emits
compound_value structs o (Some start) a b t r = in_turn (
    plain (Nop ∷ []) ∷ b.value t r ∷ plain (load_scalar a.ty (OnStack start) left ∷ []) ∷
    combined structs o a.ty b.ty r ∷ plain (store_scalar a.ty (OnStack start) r ∷ []) ∷ [])
compound_value structs o None a b t r = in_turn (
    a.pointer t r ∷ plain (keep t r) ∷ b.value (suc t) r ∷ plain (fetch t scratch ++ load_scalar a.ty (Behind scratch) left ∷ []) ∷
    combined structs o a.ty b.ty r ∷ plain (fetch t scratch ++ store_scalar a.ty (Behind scratch) r ∷ []) ∷ [])

abbrev pub assign_node : List StructInfo → Option AssignOperator → Coded → Coded → Emits
assign_node structs None a b = assign_value a.slot a b
assign_node structs (Some o) a b = compound_value structs o a.slot a b

-- ---- `++` and `--`

-- the value before is in the register, and the one after in X16
abbrev pub new_or_old : Step → Reg → List Instr
new_or_old s r = if gives_old s then [] else move left r ∷ []

abbrev pub step_value : List StructInfo → Step → Option ℕ → Coded → Emits
step_value structs s (Some start) e t r = plain (
    Nop ∷ load_scalar e.ty (OnStack start) r ∷ stepped structs s e.ty r ++ store_scalar e.ty (OnStack start) left ∷ new_or_old s r)
step_value structs s None e t r = in_turn (e.pointer t r ∷ plain (move r scratch ∷
    load_scalar e.ty (Behind scratch) r ∷ stepped structs s e.ty r ++ store_scalar e.ty (Behind scratch) left ∷ new_or_old s r) ∷ [])

-- ---- calls: each argument is kept, and then all come into their registers

abbrev pub keep_arguments : ℕ → Reg → List Coded → Code
keep_arguments t r [] = nothing
keep_arguments t r (a ∷ as') = in_turn (a.value t r ∷ plain (keep t r) ∷ keep_arguments (suc t) r as' ∷ [])

abbrev pub fetch_arguments : ℕ → ℕ → List Coded → List Instr
fetch_arguments t k [] = []
fetch_arguments t k (a ∷ as') = fetch t (argument k) ++ fetch_arguments (suc t) (suc k) as'

abbrev pub called : Callee → Code
called (callee.Function n) = only (item.CallFunction n)
called (callee.Extern n) = only (item.CallExtern n)
called callee.Putchar = plain (Svc 1 ∷ [])
called callee.Getchar = plain (Svc 2 ∷ [])

abbrev pub call_value : Callee → List Coded → Emits
call_value f as' t r = in_turn (
    keep_arguments t r as' ∷ plain (fetch_arguments t 0 as') ∷ called f ∷ plain (move returned r ∷ []) ∷ [])
