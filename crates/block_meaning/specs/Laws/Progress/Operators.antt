-- Operators are safe on values that fit types which they take, and give values of the type that they have then.
use Rattle.std.proofs.Common.{◌≡◌, refl, subst, ap, ℕ, ◌+◌, ◌*◌, arith, Bool, true, ◌||◌}
use Rattle.std.proofs.Common.{Option, Some, None}
use Rattle.c_ast.specs.declared.token.Span.{Span}
use Rattle.c_ast.specs.declared.int_type.IntType.TheVariants as int
use Rattle.c_ast.specs.declared.operator.BinaryOperator.{BinaryOperator}
use Rattle.c_ast.specs.declared.operator.BinaryOperator.TheVariants as binary
use Rattle.c_ast.specs.declared.operator.AssignOperator.{AssignOperator}
use Rattle.c_ast.specs.declared.operator.Step.{Step}
use Rattle.c_type_base.specs.declared.ty.Ty.{Ty, out-Ty}
use Rattle.c_type_base.specs.declared.ty.Ty.TheOpen.{Ty-F}
use Rattle.c_type_base.specs.Arithmetic.{binary_value}
use Rattle.c_type_base.specs.Conversions.{wrap}
use Rattle.c_type_base.specs.Types.{TyLayer, is_there, int_of_level, target_of_level, is_integer, is_pointer, is_scalar}
use Rattle.block_meaning.specs.declared.value.Pointer.{Pointer}
use Rattle.block_meaning.specs.Blocks.{moved}
use Rattle.block_meaning.specs.Compare.{compared, pointer_truth, objects_between}
use Rattle.block_meaning.specs.ExpressionsInOrder.{BinaryTypes, arithmetic, shift, comparison, added, added_to, taken, distance, int_type}
use Rattle.block_meaning.specs.ExpressionsInOrder.{CompoundTypes, computes, adds, takes}
use Rattle.block_meaning.specs.Laws.Progress.Fits.{FitsLevel, Fits, IsNumber, IsAddress, integer-number, pointer-address, number-fits}
use Rattle.block_meaning.specs.Laws.Progress.Fits.{address-fits, int-is_integer, converted-integer}
use Rattle.block_meaning.specs.Laws.Progress.Safe.{Safe, Any, safe-gives, safe-stops, safe-undefined, safe-then, safe-blocks, safe-weaker}
use Rattle.block_meaning.specs.Operators as operators
use Rattle.block_meaning.specs.Operators.{operand, int_in, is_true, number_of_truth, or_divide, difference_known, on_pointers, on_pointer}
use Rattle.block_meaning.specs.Operators.{on_values, operated, binary_of, computing_type, numbers_combined, values_combined, combined}
use Rattle.block_meaning.specs.Operators.{by_one}
use Rattle.block_meaning.specs.Operators.{stepped, target_size}
use Rattle.block_meaning.specs.Running.{Divide, gives, and_then, Context}
use Rattle.block_meaning.specs.declared.value.Value.{Value}
use Rattle.block_meaning.specs.declared.value.Value.TheVariants.{Number, Address}
use Rattle.block_meaning.specs.Values.{converted_to}

comparison_safe : {n w : ℕ} (here : Context) (span : Span) (b : Option Bool) → Safe n w (operators.comparison here span b) Any
comparison_safe here span None = safe-undefined here span None _
comparison_safe here span (Some b) = safe-gives b (λ k more. tt)

-- a value as a condition
pub truth-safe : {n w : ℕ} (here : Context) (span : Span) (v : Value) → Safe n w (is_true here span v) Any
truth-safe here span (Address p) = safe-blocks (λ blocks longer all. comparison_safe here span (pointer_truth blocks p))
truth-safe here span _ = safe-gives _ (λ k more. tt)

divide_safe : {n w : ℕ} (o : Option ℕ) → Safe n w (or_divide o) IsNumber
divide_safe None = safe-stops Divide tt
divide_safe (Some k) = safe-gives (Number k) (λ j more. tt)

difference_safe : {n w : ℕ} (here : Context) (span : Span) (o : Option ℕ) → Safe n w (difference_known here span o) IsNumber
difference_safe here span None = safe-undefined here span None _
difference_safe here span (Some k) = safe-gives (Number k) (λ j more. tt)

on_pointers_safe : {n w : ℕ} (here : Context) (span : Span) (o : BinaryOperator) (size : ℕ) (p q : Pointer) →
    Safe n w (on_pointers here span o size p q) IsNumber
on_pointers_safe here span binary.Subtract size p q = difference_safe here span (objects_between p q size)
on_pointers_safe here span o size p q = safe-blocks (λ blocks longer all.
    safe-then (comparison_safe here span (compared blocks o p q)) (λ k more b any. safe-gives (number_of_truth b) (λ j further. tt)))

-- ---- binary operators, by kinds of values

numbers_safe : {n w : ℕ} (here : Context) (span : Span) (o : BinaryOperator) (s t : Ty) (v x : Value) → IsNumber n v → IsNumber n x →
    Safe n w (on_values here span o s t v x) IsNumber
numbers_safe here span o s t (Number k) (Number m) of_v of_x = divide_safe (binary_value o (int_in s) k m)
numbers_safe here span o s t (Number k) _ of_v of_x = absurd of_x
numbers_safe here span o s t _ x of_v of_x = absurd of_v

addresses_safe : {n w : ℕ} (here : Context) (span : Span) (o : BinaryOperator) (s t : Ty) (v x : Value) → IsAddress n v → IsAddress n x →
    Safe n w (on_values here span o s t v x) IsNumber
addresses_safe here span o s t (Address p) (Address q) of_v of_x = on_pointers_safe here span o (target_size here s) p q
addresses_safe here span o s t (Address p) _ of_v of_x = absurd of_x
addresses_safe here span o s t _ x of_v of_x = absurd of_v

added_safe : {n w : ℕ} (here : Context) (span : Span) (s t : Ty) (v x : Value) → IsAddress n v → IsNumber n x →
    Safe n w (on_values here span binary.Add s t v x) IsAddress
added_safe {n = n} here span s t (Address p) (Number m) of_v of_x =
    safe-gives (Address (moved p (m * target_size here s))) (λ k more. omega (arith, more, of_v))
added_safe here span s t (Address p) _ of_v of_x = absurd of_x
added_safe here span s t _ x of_v of_x = absurd of_v

added_to_safe : {n w : ℕ} (here : Context) (span : Span) (s t : Ty) (v x : Value) → IsNumber n v → IsAddress n x →
    Safe n w (on_values here span binary.Add s t v x) IsAddress
added_to_safe here span s t (Number m) (Address p) of_v of_x = safe-gives _ (λ k more. omega (arith, more, of_x))
added_to_safe here span s t (Number m) _ of_v of_x = absurd of_x
added_to_safe here span s t _ x of_v of_x = absurd of_v

taken_safe : {n w : ℕ} (here : Context) (span : Span) (s t : Ty) (v x : Value) → IsAddress n v → IsNumber n x →
    Safe n w (on_values here span binary.Subtract s t v x) IsAddress
taken_safe here span s t (Address p) (Number m) of_v of_x = safe-gives _ (λ k more. omega (arith, more, of_v))
taken_safe here span s t (Address p) _ of_v of_x = absurd of_x
taken_safe here span s t _ x of_v of_x = absurd of_v

scalars_level : {n w : ℕ} (here : Context) (span : Span) (o : BinaryOperator) (s t : Ty) (l : TyLayer) (v x : Value) →
    (is_there (int_of_level l) || is_there (target_of_level l)) ≡ true → FitsLevel n l v → FitsLevel n l x →
    Safe n w (on_values here span o s t v x) IsNumber
scalars_level here span o s t (Ty-F.Int i) (Number k) (Number m) is of_v of_x = divide_safe (binary_value o (int_in s) k m)
scalars_level here span o s t (Ty-F.Int i) (Number k) _ is of_v of_x = absurd of_x
scalars_level here span o s t (Ty-F.Int i) _ x is of_v of_x = absurd of_v
scalars_level here span o s t (Ty-F.Pointer u) (Address p) (Address q) is of_v of_x =
    on_pointers_safe here span o (target_size here s) p q
scalars_level here span o s t (Ty-F.Pointer u) (Address p) _ is of_v of_x = absurd of_x
scalars_level here span o s t (Ty-F.Pointer u) _ x is of_v of_x = absurd of_v
scalars_level here span o s t _ v x is of_v of_x = absurd cc

-- an operator on values of types that it takes
pub operated-safe : {n w : ℕ} (here : Context) (span : Span) {o : BinaryOperator} {s t u : Ty} (v x : Value) → BinaryTypes o s t u →
    Fits s n v → Fits t n x → Safe n w (operated here span o (operand s v) (operand t x)) (Fits u)
operated-safe {n = n} here span {o = o} v x (arithmetic {t} group is) of_v of_x =
    safe-weaker (numbers_safe here span o t t v x (integer-number t n v is of_v) (integer-number t n x is of_x))
    (λ k more r number. number-fits t k r is number)
operated-safe {n = n} here span {o = o} v x (shift {s} {t} group is its) of_v of_x =
    safe-weaker (numbers_safe here span o s t v x (integer-number s n v is of_v) (integer-number t n x its of_x))
    (λ k more r number. number-fits s k r is number)
operated-safe here span {o = o} v x (comparison {t} group is) of_v of_x =
    safe-weaker (scalars_level here span o t t (out-Ty t) v x is of_v of_x)
    (λ k more r number. number-fits int_type k r (int-is_integer int.Int) number)
operated-safe {n = n} here span v x (added {s} {t} is its) of_v of_x =
    safe-weaker (added_safe here span s t v x (pointer-address s n v is of_v) (integer-number t n x its of_x))
    (λ k more r address. address-fits s k r is address)
operated-safe {n = n} here span v x (added_to {s} {t} is its) of_v of_x =
    safe-weaker (added_to_safe here span s t v x (integer-number s n v is of_v) (pointer-address t n x its of_x))
    (λ k more r address. address-fits t k r its address)
operated-safe {n = n} here span v x (taken {s} {t} is its) of_v of_x =
    safe-weaker (taken_safe here span s t v x (pointer-address s n v is of_v) (integer-number t n x its of_x))
    (λ k more r address. address-fits s k r is address)
operated-safe {n = n} here span v x (distance {t} is) of_v of_x =
    safe-weaker (addresses_safe here span binary.Subtract t t v x (pointer-address t n v is of_v) (pointer-address t n x is of_x))
    (λ k more r number. number-fits _ k r (int-is_integer int.Long) number)

-- ---- operators with `=`

divided_fits : {n w : ℕ} (s : Ty) (o : Option ℕ) → is_integer s ≡ true →
    Safe n w (and_then (or_divide o) (λ v. gives (converted_to s v)))
    (Fits s)
divided_fits s o is = safe-then (divide_safe o) (λ k more v number.
    safe-gives (converted_to s v) (λ j further. converted-integer s j v is))

numbers_combined_safe : {n w : ℕ} (here : Context) (span : Span) (o : BinaryOperator) (s t : Ty) (v x : Value) → is_integer s ≡ true →
    IsNumber n v → IsNumber n x → Safe n w (values_combined here span o s t v x) (Fits s)
numbers_combined_safe here span o s t (Number k) (Number m) is of_v of_x =
    let i = computing_type o (int_in s) (int_in t) in divided_fits s (binary_value o i (wrap i k) m) is
numbers_combined_safe here span o s t (Number k) _ is of_v of_x = absurd of_x
numbers_combined_safe here span o s t _ x is of_v of_x = absurd of_v

added_combined : {n w : ℕ} (here : Context) (span : Span) (s t : Ty) (v x : Value) → is_pointer s ≡ true → IsAddress n v →
    IsNumber n x → Safe n w (values_combined here span binary.Add s t v x) (Fits s)
added_combined here span s t (Address p) (Number m) is of_v of_x =
    safe-weaker (added_safe here span s t (Address p) (Number m) of_v of_x) (λ k more r address. address-fits s k r is address)
added_combined here span s t (Address p) _ is of_v of_x = absurd of_x
added_combined here span s t _ x is of_v of_x = absurd of_v

taken_combined : {n w : ℕ} (here : Context) (span : Span) (s t : Ty) (v x : Value) → is_pointer s ≡ true → IsAddress n v →
    IsNumber n x → Safe n w (values_combined here span binary.Subtract s t v x) (Fits s)
taken_combined here span s t (Address p) (Number m) is of_v of_x =
    safe-weaker (taken_safe here span s t (Address p) (Number m) of_v of_x) (λ k more r address. address-fits s k r is address)
taken_combined here span s t (Address p) _ is of_v of_x = absurd of_x
taken_combined here span s t _ x is of_v of_x = absurd of_v

-- the left side's value with the right side's
pub combined-safe : {n w : ℕ} (here : Context) (span : Span) {o : AssignOperator} {s t : Ty} (v x : Value) → CompoundTypes o s t →
    Fits s n v → Fits t n x → Safe n w (combined here span o (operand s v) (operand t x)) (Fits s)
combined-safe {n = n} here span {o = o} v x (computes {s} {t} is its) of_v of_x =
    numbers_combined_safe here span (binary_of o) s t v x is (integer-number s n v is of_v) (integer-number t n x its of_x)
combined-safe {n = n} here span v x (adds {s} {t} is its) of_v of_x =
    added_combined here span s t v x is (pointer-address s n v is of_v) (integer-number t n x its of_x)
combined-safe {n = n} here span v x (takes {s} {t} is its) of_v of_x =
    taken_combined here span s t v x is (pointer-address s n v is of_v) (integer-number t n x its of_x)

-- ---- `++` and `--`

step_level : (n : ℕ) (here : Context) (s : Step) (t : Ty) (l : TyLayer) (v : Value) → out-Ty t ≡ l →
    (is_there (int_of_level l) || is_there (target_of_level l)) ≡ true → FitsLevel n l v → FitsLevel n l (stepped here s t v)
step_level n here s t (Ty-F.Int i) (Number k) same is fits = subst (λ l. FitsLevel n l (stepped here s t (Number k))) same
    (converted-integer t n (Number (k + by_one s)) (ap (λ l. is_there (int_of_level l)) same))
step_level n here s t (Ty-F.Int i) _ same is fits = absurd fits
step_level n here s t (Ty-F.Pointer u) (Address p) same is fits = fits
step_level n here s t (Ty-F.Pointer u) _ same is fits = absurd fits
step_level n here s t _ v same is fits = absurd cc

pub stepped-fits : (n : ℕ) (here : Context) (s : Step) (t : Ty) (v : Value) → is_scalar t ≡ true → Fits t n v →
    Fits t n (stepped here s t v)
stepped-fits n here s t v is fits = step_level n here s t (out-Ty t) v refl is fits
