-- What the code of a node is where its parts are known.
use Rattle.std.proofs.Common.{◌≡◌, refl, ap, sym, ◌∙◌, subst, ℕ, suc, false, List, [], ◌∷◌, ◌++◌, Some, None}
use Rattle.std.specs.Prelude.{Result, OnOk}
use Rattle.c_ast.specs.declared.operator.AssignOperator.{AssignOperator}
use Rattle.c_ast.specs.declared.operator.UnaryOperator.{UnaryOperator}
use Rattle.c_ast.specs.declared.operator.UnaryOperator.TheVariants as unary
use Rattle.c_type_base.specs.declared.typed.StructInfo.{StructInfo}
use Rattle.c_type_base.specs.declared.ty.Ty.{Ty}
use Rattle.c_type_base.specs.Types.{is_struct}
use Rattle.a64_code.specs.declared.instr.Reg.{Reg}
use Rattle.sym_code.specs.declared.item.SymCode.{SymCode}
use Rattle.gen_base.specs.Accesses.{OnStack, Behind, load_scalar, store_scalar}
use Rattle.gen_base.specs.Code.{Code, Appends, plain, in_turn}
use Rattle.block_meaning.specs.Operators.{int_in}
use Rattle.gen_base.specs.Integers.{on_integer}
use Rattle.gen_base.specs.Laws.Appending.{first_appended}
use Rattle.gen_base.specs.Operators.{combined}
use Rattle.gen_base.specs.Registers.{left, scratch}
use Rattle.gen_base.specs.Waiting.{keep, fetch}
use Rattle.gen_expr.specs.Coded.{Coded, read}
use Rattle.gen_expr.specs.Nodes.{compound_value, unary_value}

module _ (e : Coded) (ty : Ty) (same : e.ty ≡ ty) (scalar : is_struct ty ≡ false) (t : ℕ) (r : Reg) (at : ℕ) where
  not_struct : is_struct e.ty ≡ false
  not_struct = ap is_struct same ∙ scalar

  pub read-local : (start : ℕ) → e.slot ≡ Some start → plain (load_scalar ty (OnStack start) r ∷ []) at ≡ read e t r at
  read-local start known =
      let struct = not_struct in
      rw (struct, known) (ap (λ ty. plain (load_scalar ty (OnStack start) r ∷ []) at) (sym same))

  pub read-place : e.slot ≡ None → in_turn (e.pointer t r ∷ plain (load_scalar ty (Behind r) r ∷ []) ∷ []) at ≡ read e t r at
  read-place known =
      let struct = not_struct in
      rw (struct, known) (ap (λ ty. in_turn (e.pointer t r ∷ plain (load_scalar ty (Behind r) r ∷ []) ∷ []) at) (sym same))

-- an operator with `=`, behind the place, which is kept, and the right side
abbrev pub combining : List StructInfo → AssignOperator → Ty → Ty → ℕ → Reg → List Code
combining structs o ty other t r =
    plain (fetch t scratch ++ load_scalar ty (Behind scratch) left ∷ []) ∷ combined structs o ty other r ∷
    plain (fetch t scratch ++ store_scalar ty (Behind scratch) r ∷ []) ∷ []

pub compound-behind : {T E : Type 0} (result : Result T E) (structs : List StructInfo) (o : AssignOperator) (place b : Coded)
    (ty other : Ty)
    (t next : ℕ) (r : Reg) (old first second third new : SymCode) → place.slot ≡ None → place.ty ≡ ty → b.ty ≡ other → next ≡ suc t →
    Appends old (place.pointer t r) first → Appends first (plain (keep t r)) second → Appends second (b.value next r) third →
    OnOk result (Appends third (in_turn (combining structs o ty other t r)) new) →
    OnOk result (Appends old (compound_value structs o place.slot place b t r) new)
compound-behind result structs o place b ty other t next r old first second third new known is is_other higher placed kept valued rest =
    let raised : Appends second (b.value (suc t) r) third =
    subst (λ n. Appends second (b.value n r) third) higher valued in
    let typed : OnOk result (Appends third (in_turn (combining structs o place.ty b.ty t r)) new) =
    subst (λ other. OnOk result (Appends third (in_turn (combining structs o place.ty other t r)) new)) (sym is_other)
    (subst (λ ty. OnOk result (Appends third (in_turn (combining structs o ty other t r)) new)) (sym is) rest) in
    let tail = combining structs o place.ty b.ty t r in
    subst (λ slot. OnOk result (Appends old (compound_value structs o slot place b t r) new)) (sym known)
    (first_appended result old first new (place.pointer t r) (plain (keep t r) ∷ b.value (suc t) r ∷ tail) placed
    (first_appended result first second new (plain (keep t r)) (b.value (suc t) r ∷ tail) kept
    (first_appended result second third new (b.value (suc t) r) tail raised typed)))

-- an operator on the value of its operand
pub unary-integer : (o : UnaryOperator) (e : Coded) (ty : Ty) (t : ℕ) (r : Reg) (at : ℕ) → (o ≡ unary.AddressOf → ⊥) → e.ty ≡ ty →
    in_turn (e.value t r ∷ plain (on_integer o (int_in ty) r) ∷ []) at ≡ unary_value o e t r at
unary-integer unary.AddressOf e ty t r at other same = absurd (other refl)
unary-integer unary.Dereference e ty t r at other same =
    ap (λ ty. in_turn (e.value t r ∷ plain (on_integer unary.Dereference (int_in ty) r) ∷ []) at) (sym same)
unary-integer unary.Plus e ty t r at other same =
    ap (λ ty. in_turn (e.value t r ∷ plain (on_integer unary.Plus (int_in ty) r) ∷ []) at) (sym same)
unary-integer unary.Minus e ty t r at other same =
    ap (λ ty. in_turn (e.value t r ∷ plain (on_integer unary.Minus (int_in ty) r) ∷ []) at) (sym same)
unary-integer unary.Complement e ty t r at other same =
    ap (λ ty. in_turn (e.value t r ∷ plain (on_integer unary.Complement (int_in ty) r) ∷ []) at) (sym same)
unary-integer unary.Not e ty t r at other same =
    ap (λ ty. in_turn (e.value t r ∷ plain (on_integer unary.Not (int_in ty) r) ∷ []) at) (sym same)
