-- Runs lead to later states: memory and operators (this project's own).
use Rattle.std.proofs.Common.{ℕ, Bool, true, false}
use Rattle.std.proofs.Common.{Option, Some, None}
use Rattle.std.specs.Prelude.{slice_get, if◌then◌else◌}
use Rattle.c_ast.specs.declared.token.Span.{Span}
use Rattle.c_ast.specs.declared.operator.BinaryOperator.{BinaryOperator}
use Rattle.c_ast.specs.declared.operator.BinaryOperator.TheVariants as binary
use Rattle.c_type_base.specs.declared.ty.Ty.{Ty}
use Rattle.c_type_base.specs.Arithmetic.{binary_value}
use Rattle.c_type_base.specs.Conversions.{wrap}
use Rattle.c_type_base.specs.Types.{is_struct}
use Rattle.block_meaning.specs.declared.reason.Reason.{Reason}
use Rattle.block_meaning.specs.declared.access.Access.{Access}
use Rattle.block_meaning.specs.Access.{ReadResult, ReadsAs, UndefinedBy, reason_against, read_in}
use Rattle.block_meaning.specs.declared.value.Pointer.{Pointer}
use Rattle.block_meaning.specs.Blocks.{Block, cells_at, stored}
use Rattle.block_meaning.specs.Compare.{compared, pointer_truth, objects_between}
use Rattle.code_follows.specs.Laws.Lasting.Words.{lasts-gives, lasts-stops}
use Rattle.code_follows.specs.Laws.Lasting.Words.{lasts-stuck, lasts-undefined, lasts-with_blocks, lasts-then, stays-stored}
use Rattle.code_follows.specs.Laws.Lasting.Words.{lasts-some, lasts-blocks}
use Rattle.code_follows.specs.Later.{Lasts}
use Rattle.block_meaning.specs.Memory.{Object, access, in_block, unless_undefined, judged, what_is_read, read_scalar}
use Rattle.block_meaning.specs.Memory.{read, write, Copy, unless_overlap, copied, copy_struct}
use Rattle.block_meaning.specs.Operators.{comparison, is_true, or_divide, difference_known, on_pointers, on_pointer, on_values}
use Rattle.block_meaning.specs.Operators.{values_combined, computing_type, int_in}
use Rattle.block_meaning.specs.Running.{Divide, Run, gives, Context}
use Rattle.block_meaning.specs.declared.value.Value.{Value}
use Rattle.block_meaning.specs.declared.value.Value.TheVariants.{Number, Address, Struct}
use Rattle.block_meaning.specs.Values.{cells_of}

unless_lasts : (here : Context) (span : Span) (a : Access) (why : Option Reason) → Lasts (unless_undefined here span a why)
unless_lasts here span a None = lasts-gives tt
unless_lasts here span a (Some why) = lasts-undefined here span (Some a) why

in_block_lasts : {A : Type 0} (a : Access) {f : Block → Run A} → ((b : Block) → Lasts (f b)) → Lasts (in_block a f)
in_block_lasts a each = lasts-blocks (λ blocks. lasts-some (slice_get blocks a.at.block) each)

judged_lasts : (here : Context) (span : Span) (a : Access) → Lasts (judged here span a)
judged_lasts here span a = in_block_lasts a (λ b. unless_lasts here span a (reason_against b a))

what_lasts : (here : Context) (span : Span) (a : Access) (r : ReadResult) → Lasts (what_is_read here span a r)
what_lasts here span a (ReadsAs v) = lasts-gives v
what_lasts here span a (UndefinedBy why) = lasts-undefined here span (Some a) why

pub scalar_lasts : (here : Context) (span : Span) (o : Object) → Lasts (read_scalar here span o)
scalar_lasts here span o =
    let a = access here false o in in_block_lasts a (λ b. what_lasts here span a (read_in b o.ty a))

read_by : (here : Context) (span : Span) (o : Object) (is : Bool) →
    Lasts (if is then gives (Struct o.at) else read_scalar here span o)
read_by here span o true = lasts-gives (Struct o.at)
read_by here span o false = scalar_lasts here span o

pub read_lasts : (here : Context) (span : Span) (o : Object) → Lasts (read here span o)
read_lasts here span o = read_by here span o (is_struct o.ty)

pub write_lasts : (here : Context) (span : Span) (o : Object) (v : Value) → Lasts (write here span o v)
write_lasts here span o v = lasts-then (judged_lasts here span (access here true o)) (λ _.
    lasts-with_blocks (stored o.at (cells_of o.ty v)) (stays-stored o.at (cells_of o.ty v)))

overlap_lasts : (here : Context) (span : Span) (a : Access) (b : Bool) → Lasts (unless_overlap here span a b)
overlap_lasts here span a false = lasts-gives tt
overlap_lasts here span a true = lasts-undefined here span (Some a) _

pub copy_lasts : (here : Context) (c : Copy) → Lasts (copy_struct here c)
copy_lasts here c = lasts-then (judged_lasts here c.source_span (access here false c.source)) (λ _.
    lasts-then (judged_lasts here c.target_span (access here true c.target)) (λ _.
    lasts-then (overlap_lasts here c.span (access here true c.target) _) (λ _.
    lasts-with_blocks (copied c.source.at c.target.at (access here true c.target).size) (λ blocks.
    stays-stored c.target.at (cells_at blocks c.source.at (access here true c.target).size) blocks))))

-- ---- operators

comparison_lasts : (here : Context) (span : Span) (b : Option Bool) → Lasts (comparison here span b)
comparison_lasts here span None = lasts-undefined here span None _
comparison_lasts here span (Some b) = lasts-gives b

pub truth_lasts : (here : Context) (span : Span) (v : Value) → Lasts (is_true here span v)
truth_lasts here span (Address p) = lasts-blocks (λ blocks. comparison_lasts here span (pointer_truth blocks p))
truth_lasts here span _ = lasts-gives _

divide_lasts : (n : Option ℕ) → Lasts (or_divide n)
divide_lasts None = lasts-stops Divide
divide_lasts (Some n) = lasts-gives _

difference_lasts : (here : Context) (span : Span) (n : Option ℕ) → Lasts (difference_known here span n)
difference_lasts here span None = lasts-undefined here span None _
difference_lasts here span (Some n) = lasts-gives _

pointers_lasts : (here : Context) (span : Span) (o : BinaryOperator) (size : ℕ) (p q : Pointer) → Lasts (on_pointers here span o size p q)
pointers_lasts here span binary.Subtract size p q = difference_lasts here span (objects_between p q size)
pointers_lasts here span o size p q =
    lasts-blocks (λ blocks. lasts-then (comparison_lasts here span (compared blocks o p q)) (λ b. lasts-gives _))

pointer_lasts : (o : BinaryOperator) (size : ℕ) (p : Pointer) (n : ℕ) → Lasts (on_pointer o size p n)
pointer_lasts binary.Add size p n = lasts-gives _
pointer_lasts binary.Subtract size p n = lasts-gives _
pointer_lasts _ size p n = lasts-stuck

pub values_lasts : (here : Context) (span : Span) (o : BinaryOperator) (s t : Ty) (v w : Value) → Lasts (on_values here span o s t v w)
values_lasts here span o s t (Number n) (Number m) = divide_lasts (binary_value o (int_in s) n m)
values_lasts here span o s t (Address p) (Number n) = pointer_lasts o _ p n
values_lasts here span o s t (Number n) (Address p) = pointer_lasts o _ p n
values_lasts here span o s t (Address p) (Address q) = pointers_lasts here span o _ p q
values_lasts here span o s t _ _ = lasts-stuck

pub combined_values : (here : Context) (span : Span) (o : BinaryOperator) (s t : Ty) (v w : Value) →
    Lasts (values_combined here span o s t v w)
combined_values here span o s t (Number n) (Number m) =
    let c = computing_type o (int_in s) (int_in t) in
    lasts-then (divide_lasts (binary_value o c (wrap c n) m)) (λ v. lasts-gives _)
combined_values here span o s t v w = values_lasts here span o s t v w
