-- The operator of a compound assignment, where a side is a pointer.
use Rattle.std.proofs.Common.{◌≡◌, refl}
use Rattle.c_ast.specs.declared.operator.BinaryOperator.{BinaryOperator}
use Rattle.c_ast.specs.declared.token.Span.{Span}
use Rattle.c_type_base.specs.declared.ty.Ty.{Ty}
use Rattle.block_meaning.specs.declared.value.Pointer.{Pointer}
use Rattle.block_meaning.specs.declared.value.Value.{Value}
use Rattle.block_meaning.specs.declared.value.Value.TheVariants.{Number, Address, Struct, NoValue}
use Rattle.block_meaning.specs.Operators.{on_values, values_combined}
use Rattle.block_meaning.specs.Running.{Context, State}

pub combined_second : (here : Context) (span : Span) (o : BinaryOperator) (s t : Ty) (v : Value) (q : Pointer) (now : State) →
    values_combined here span o s t v (Address q) now ≡ on_values here span o s t v (Address q) now
combined_second here span o s t (Number n) q now = refl
combined_second here span o s t (Address p) q now = refl
combined_second here span o s t (Struct p) q now = refl
combined_second here span o s t NoValue q now = refl

pub combined_first : (here : Context) (span : Span) (o : BinaryOperator) (s t : Ty) (p : Pointer) (w : Value) (now : State) →
    values_combined here span o s t (Address p) w now ≡ on_values here span o s t (Address p) w now
combined_first here span o s t p w now = refl
