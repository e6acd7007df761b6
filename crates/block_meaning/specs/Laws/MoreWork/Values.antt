-- Memory and operators do the same with more work.
use Rattle.std.proofs.Common.{ℕ, Bool, true, false}
use Rattle.std.proofs.Common.{Option, Some, None}
use Rattle.std.specs.Prelude.{slice_get, if◌then◌else◌}
use Rattle.c_ast.specs.declared.token.Span.{Span}
use Rattle.c_ast.specs.declared.operator.BinaryOperator.{BinaryOperator}
use Rattle.c_ast.specs.declared.operator.BinaryOperator.TheVariants as binary
use Rattle.c_type_base.specs.declared.ty.Ty.{Ty}
use Rattle.c_type_base.specs.Arithmetic.{binary_value}
use Rattle.c_type_base.specs.Conversions.{wrap}
use Rattle.c_type_base.specs.Types.{is_struct}
use Rattle.block_meaning.specs.declared.reason.Reason.{Reason}
use Rattle.block_meaning.specs.declared.access.Access.{Access}
use Rattle.block_meaning.specs.Access.{ReadResult, ReadsAs, UndefinedBy, reason_against, read_in}
use Rattle.block_meaning.specs.declared.value.Pointer.{Pointer}
use Rattle.block_meaning.specs.Blocks.{Block}
use Rattle.block_meaning.specs.Compare.{compared, pointer_truth, objects_between}
use Rattle.block_meaning.specs.Laws.Steady.{Steady, steady-gives, steady-divide}
use Rattle.block_meaning.specs.Laws.Steady.{steady-stuck, steady-undefined, steady-with_blocks, steady-then}
use Rattle.block_meaning.specs.Laws.Steady.{steady-some, steady-blocks}
use Rattle.block_meaning.specs.Memory.{Object, access, in_block, unless_undefined, judged, what_is_read, read_scalar}
use Rattle.block_meaning.specs.Memory.{read, write, Copy, unless_overlap, copy_struct}
use Rattle.block_meaning.specs.Operators.{comparison, is_true, or_divide, difference_known, on_pointers, on_pointer, on_values}
use Rattle.block_meaning.specs.Operators.{values_combined, computing_type, int_in}
use Rattle.block_meaning.specs.Running.{Run, gives, Context}
use Rattle.block_meaning.specs.declared.value.Value.{Value}
use Rattle.block_meaning.specs.declared.value.Value.TheVariants.{Number, Address, Struct}

unless_steady : (here : Context) (span : Span) (a : Access) (why : Option Reason) → Steady (unless_undefined here span a why)
unless_steady here span a None = steady-gives tt
unless_steady here span a (Some why) = steady-undefined here span (Some a) why

in_block_steady : {A : Type 0} (a : Access) {f : Block → Run A} → ((b : Block) → Steady (f b)) → Steady (in_block a f)
in_block_steady a each = steady-blocks (λ blocks. steady-some (slice_get blocks a.at.block) each)

judged_steady : (here : Context) (span : Span) (a : Access) → Steady (judged here span a)
judged_steady here span a = in_block_steady a (λ b. unless_steady here span a (reason_against b a))

what_steady : (here : Context) (span : Span) (a : Access) (r : ReadResult) → Steady (what_is_read here span a r)
what_steady here span a (ReadsAs v) = steady-gives v
what_steady here span a (UndefinedBy why) = steady-undefined here span (Some a) why

pub scalar_steady : (here : Context) (span : Span) (o : Object) → Steady (read_scalar here span o)
scalar_steady here span o =
    let a = access here false o in in_block_steady a (λ b. what_steady here span a (read_in b o.ty a))

read_by : (here : Context) (span : Span) (o : Object) (is : Bool) →
    Steady (if is then gives (Struct o.at) else read_scalar here span o)
read_by here span o true = steady-gives (Struct o.at)
read_by here span o false = scalar_steady here span o

pub read_steady : (here : Context) (span : Span) (o : Object) → Steady (read here span o)
read_steady here span o = read_by here span o (is_struct o.ty)

pub write_steady : (here : Context) (span : Span) (o : Object) (v : Value) → Steady (write here span o v)
write_steady here span o v = steady-then (judged_steady here span (access here true o)) (λ _. steady-with_blocks _)

overlap_steady : (here : Context) (span : Span) (a : Access) (b : Bool) → Steady (unless_overlap here span a b)
overlap_steady here span a false = steady-gives tt
overlap_steady here span a true = steady-undefined here span (Some a) _

pub copy_steady : (here : Context) (c : Copy) → Steady (copy_struct here c)
copy_steady here c = steady-then (judged_steady here c.source_span (access here false c.source)) (λ _.
    steady-then (judged_steady here c.target_span (access here true c.target)) (λ _.
    steady-then (overlap_steady here c.span (access here true c.target) _) (λ _. steady-with_blocks _)))

-- ---- operators

comparison_steady : (here : Context) (span : Span) (b : Option Bool) → Steady (comparison here span b)
comparison_steady here span None = steady-undefined here span None _
comparison_steady here span (Some b) = steady-gives b

pub truth_steady : (here : Context) (span : Span) (v : Value) → Steady (is_true here span v)
truth_steady here span (Address p) = steady-blocks (λ blocks. comparison_steady here span (pointer_truth blocks p))
truth_steady here span _ = steady-gives _

divide_steady : (n : Option ℕ) → Steady (or_divide n)
divide_steady None = steady-divide
divide_steady (Some n) = steady-gives _

difference_steady : (here : Context) (span : Span) (n : Option ℕ) → Steady (difference_known here span n)
difference_steady here span None = steady-undefined here span None _
difference_steady here span (Some n) = steady-gives _

pointers_steady : (here : Context) (span : Span) (o : BinaryOperator) (size : ℕ) (p q : Pointer) → Steady (on_pointers here span o size p q)
pointers_steady here span binary.Subtract size p q = difference_steady here span (objects_between p q size)
pointers_steady here span o size p q =
    steady-blocks (λ blocks. steady-then (comparison_steady here span (compared blocks o p q)) (λ b. steady-gives _))

pointer_steady : (o : BinaryOperator) (size : ℕ) (p : Pointer) (n : ℕ) → Steady (on_pointer o size p n)
pointer_steady binary.Add size p n = steady-gives _
pointer_steady binary.Subtract size p n = steady-gives _
pointer_steady _ size p n = steady-stuck

pub values_steady : (here : Context) (span : Span) (o : BinaryOperator) (s t : Ty) (v w : Value) → Steady (on_values here span o s t v w)
values_steady here span o s t (Number n) (Number m) = divide_steady (binary_value o (int_in s) n m)
values_steady here span o s t (Address p) (Number n) = pointer_steady o _ p n
values_steady here span o s t (Number n) (Address p) = pointer_steady o _ p n
values_steady here span o s t (Address p) (Address q) = pointers_steady here span o _ p q
values_steady here span o s t _ _ = steady-stuck

pub combined_values : (here : Context) (span : Span) (o : BinaryOperator) (s t : Ty) (v w : Value) →
    Steady (values_combined here span o s t v w)
combined_values here span o s t (Number n) (Number m) =
    let c = computing_type o (int_in s) (int_in t) in
    steady-then (divide_steady (binary_value o c (wrap c n) m)) (λ v. steady-gives _)
combined_values here span o s t v w = values_steady here span o s t v w
