-- The list that makes one more or one less of a scalar, and what `++` and `--` leave in the register (this project's own).
use Rattle.std.specs.Prelude.{◌≡◌, ℕ, ◌+◌, ◌*◌, ◌%◌, ◌^◌, ◌<◌, ◌≤◌, Bool, true, false, List, [], ◌∷◌, ◌&&◌, length, Option, Some, None}
use Rattle.std.specs.Prelude.{refl, if◌then◌else◌}
use Rattle.std.proofs.Common.{arith, ap, sym, subst, ◌∙◌, length-append}
use Rattle.c_ast.specs.declared.operator.Step.{Step}
use Rattle.c_type_base.specs.Conversions.{wrap}
use Rattle.c_type_base.specs.Sizes.{size}
use Rattle.c_type_base.specs.Types.{TyLayer, is_scalar, is_there, target_of, target_of_level, int_of_level}
use Rattle.c_type_base.specs.declared.ty.Ty.{Ty}
use Rattle.c_type_base.specs.declared.typed.StructInfo.{StructInfo}
use Rattle.a64_code.specs.declared.instr.Instr.{Instr}
use Rattle.a64_code.specs.declared.instr.Instr.TheVariants.{AddImm, SubImm}
use Rattle.a64_code.specs.declared.instr.Reg.{Reg}
use Rattle.a64_code.specs.State.{State}
use Rattle.a64_laws.specs.Constants.{constant_moves}
use Rattle.a64_laws.specs.Forms.{Add, Sub, operation_instr}
use Rattle.block_meaning.specs.Blocks.{moved}
use Rattle.block_meaning.specs.Operators.{or_int, int_in, is_increment, by_one, stepped}
use Rattle.block_meaning.specs.Running.{State as MeaningState}
use Rattle.block_meaning.specs.Values.{value_as}
use Rattle.block_meaning.specs.declared.value.Value.{Value}
use Rattle.block_meaning.specs.declared.value.Value.TheVariants.{Number, Address}
use Rattle.code_relation.specs.Relates.{Relates}
use Rattle.gen_base.specs.Conversions.{wrap_into}
use Rattle.gen_base.specs.Operators.{wrapped_size, number_stepped, stepped_by}
use Rattle.gen_base.specs.Operators.{stepped as stepped_code}
use Rattle.gen_base.specs.Registers.{left}
use Rattle.gen_laws.specs.Computes.{Computes, IsForValues, all}
use Rattle.gen_laws.specs.Laws.Numbers.{wrap-is_of}
use Rattle.gen_laws.specs.Laws.Stepping.{number_stepped-computes, pointer_stepped-computes}
use Rattle.code_follows.specs.Scene.{Scene, IsScene, given_in, structs_in}
use Rattle.code_follows.specs.Values.{IsOfLevel, ValueIs}
use Rattle.code_follows.specs.Laws.Computing.{Few, are_quiet-append, constant_quiet, constant_few}
use Rattle.code_follows.specs.Laws.Converting.{wrap_short}
use Rattle.code_follows.specs.Laws.Moving.{IsNumber-moved}
use Rattle.code_follows.specs.Laws.Nodes.Integers.{ValueIs-integer}
use Rattle.code_follows.specs.Laws.PointerValues.{ValueIs-address, address-ValueIs, target_here}
use Rattle.code_follows.specs.Laws.ScalarSizes.{ScalarIs, integer, pointer, scalar_is}
use Rattle.code_follows.specs.Laws.Walking.{is_quiet, are_quiet, Short}

-- ---- the list is short

number_quiet : (up : Bool) (r : Reg) → is_quiet (if up then AddImm true 0 1 r left else SubImm true 0 1 r left) ≡ true
number_quiet true r = refl
number_quiet false r = refl

sum_quiet : (up : Bool) (r : Reg) → are_quiet (operation_instr (if up then Add else Sub) true left r left ∷ []) ≡ true
sum_quiet true r = refl
sum_quiet false r = refl

both_true : (a b : Bool) → a ≡ true → b ≡ true → (a && b) ≡ true
both_true true b first second = second
both_true false b first second = absurd (cc)

-- at least one instruction, and few
pub record ShortSome (most : ℕ) (instrs : List Instr) : Type 0 where
  pub quiet : are_quiet instrs ≡ true
  pub some : 1 ≤ length instrs
  pub few : length instrs ≤ most

pub stepped_short : (structs : List StructInfo) (s : Step) (t : Ty) (r : Reg) → ShortSome 5 (stepped_code structs s t r)
stepped_short structs s t r = by_target (target_of t)
  where
    by_target : (o : Option Ty) → ShortSome 5 (stepped_by structs s t o r)
    by_target None =
        let rest : Short 1 (wrap_into (int_in t) left) = wrap_short (int_in t) left in
        record {
          quiet = both_true (is_quiet (number_stepped s r)) (are_quiet (wrap_into (int_in t) left))
              (number_quiet (is_increment s) r) rest.quiet;
          some = omega arith;
          few = omega (arith, rest.few);
        }
    by_target (Some target) =
        let bytes : ℕ = wrapped_size structs target in
        let few : Few 1 4 (length (constant_moves left bytes)) = constant_few left bytes in
        let last : List Instr = operation_instr (if is_increment s then Add else Sub) true left r left ∷ [] in
        record {
          quiet = are_quiet-append (constant_moves left bytes) last (constant_quiet left bytes) (sum_quiet (is_increment s) r);
          some = omega (arith, length-append (constant_moves left bytes) last, few.some);
          few = omega (arith, length-append (constant_moves left bytes) last, few.few);
        }

-- ---- what it computes

pub record StepIs (k : Scene) (step : Step) (t : Ty) (r : Reg) (v : Value) (now : MeaningState) (s : State) : Type 0 where
  pub number : ℕ
  pub computes : Computes (stepped_code (structs_in k) step t r) left number all s
  pub is : ValueIs (given_in k) t (stepped k.here step t v) now number

pub step_is : {k : Scene} → IsScene k → (step : Step) (t : Ty) → is_scalar t ≡ true → (r : Reg) (v : Value) (now : MeaningState)
    (s : State) →
    Relates (given_in k) k.here now s → IsForValues r → s.pc < 2 ^ 56 → ValueIs (given_in k) t v now (s.register r.0) →
    StepIs k step t r v now s
step_is {k} scene step t scalar r v now s relates given near value = by_type (scalar_is t scalar)
  where
    by_type : ScalarIs t → StepIs k step t r v now s
    by_type (integer u is) =
        let n : ℕ = s.register r.0 in
        let same : int_in t ≡ u = ap (λ l. or_int (int_of_level l)) is in
        let one = ValueIs-integer t v n (ap (λ l. is_there (int_of_level l)) is) value in
        let after : stepped k.here step t v ≡ Number (wrap u (n + by_one step)) =
        ap (λ x. stepped k.here step t x) one.is ∙ ap (λ l. value_as l (Number (n + by_one step))) is in
        record {
          number = wrap (int_in t) (n + by_one step);
          computes = number_stepped-computes r n s given refl (structs_in k) step t (ap (λ l. target_of_level l) is) (omega (arith, near));
          is = subst (λ (x : Value). ValueIs (given_in k) t x now (wrap (int_in t) (n + by_one step))) (sym after)
              (record {
                of = subst (λ (l : TyLayer). IsOfLevel l (Number (wrap u (n + by_one step)))) (sym is) (wrap-is_of u (n + by_one step));
                holds = ap (λ i. wrap i (n + by_one step)) same;
              });
        }
    by_type (pointer target is) =
        let n : ℕ = s.register r.0 in
        let of : target_of t ≡ Some target = ap (λ l. target_of_level l) is in
        let one = ValueIs-address {s = t} of value in
        let bytes : ℕ = by_one step * size (structs_in k) target in
        let after : stepped k.here step t v ≡ Address (moved one.pointer bytes) =
        ap (λ x. stepped k.here step t x) one.is
        ∙ ap (λ (m : ℕ). Address (moved one.pointer (by_one step * m))) (target_here scene t target of relates) in
        record {
          number = (n + bytes) % 2 ^ 64;
          computes = pointer_stepped-computes r n s given refl (structs_in k) step t target of (omega (arith, near));
          is = subst (λ (x : Value). ValueIs (given_in k) t x now ((n + bytes) % 2 ^ 64)) (sym after)
              (address-ValueIs {s = t} of (IsNumber-moved bytes one.number));
        }
