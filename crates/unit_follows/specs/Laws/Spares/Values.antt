-- Memory and operators keep the blocks that were there (this project's own).
use Rattle.std.proofs.Common.{ℕ, Bool, true, false}
use Rattle.std.proofs.Common.{Option, Some, None}
use Rattle.std.specs.Prelude.{slice_get, if◌then◌else◌}
use Rattle.c_ast.specs.declared.token.Span.{Span}
use Rattle.c_ast.specs.declared.operator.BinaryOperator.{BinaryOperator}
use Rattle.c_ast.specs.declared.operator.BinaryOperator.TheVariants as binary
use Rattle.c_type_base.specs.declared.ty.Ty.{Ty}
use Rattle.c_type_base.specs.Arithmetic.{binary_value}
use Rattle.c_type_base.specs.Conversions.{wrap}
use Rattle.c_type_base.specs.Types.{is_struct}
use Rattle.block_meaning.specs.declared.reason.Reason.{Reason}
use Rattle.block_meaning.specs.declared.access.Access.{Access}
use Rattle.block_meaning.specs.Access.{ReadResult, ReadsAs, UndefinedBy, reason_against, read_in}
use Rattle.block_meaning.specs.declared.value.Pointer.{Pointer}
use Rattle.block_meaning.specs.Blocks.{Block}
use Rattle.block_meaning.specs.Compare.{compared, pointer_truth, objects_between}
use Rattle.unit_follows.specs.Laws.Spares.Runs.{Moment, Spares, spares-gives, spares-divide}
use Rattle.unit_follows.specs.Laws.Spares.Runs.{spares-stuck, spares-undefined, spares-stored, spares-blocks_by, keeps-copied, spares-then}
use Rattle.unit_follows.specs.Laws.Spares.Runs.{spares-some, spares-blocks}
use Rattle.block_meaning.specs.Memory.{Object, access, in_block, unless_undefined, judged, what_is_read, read_scalar}
use Rattle.block_meaning.specs.Memory.{read, write, Copy, unless_overlap, copy_struct}
use Rattle.block_meaning.specs.Operators.{comparison, is_true, or_divide, difference_known, on_pointers, on_pointer, on_values}
use Rattle.block_meaning.specs.Operators.{values_combined, computing_type, int_in}
use Rattle.block_meaning.specs.Running.{Run, gives, Context}
use Rattle.block_meaning.specs.Values.{cells_of}
use Rattle.block_meaning.specs.declared.value.Value.{Value}
use Rattle.block_meaning.specs.declared.value.Value.TheVariants.{Number, Address, Struct}

unless_spares : {mark : Moment} (here : Context) (span : Span) (a : Access) (why : Option Reason) →
    Spares mark (unless_undefined here span a why)
unless_spares here span a None = spares-gives tt
unless_spares here span a (Some why) = spares-undefined here span (Some a) why

in_block_spares : {mark : Moment} {A : Type 0} (a : Access) {f : Block → Run A} → ((b : Block) → Spares mark (f b)) →
    Spares mark (in_block a f)
in_block_spares a each = spares-blocks (λ blocks. spares-some (slice_get blocks a.at.block) each)

judged_spares : {mark : Moment} (here : Context) (span : Span) (a : Access) → Spares mark (judged here span a)
judged_spares here span a = in_block_spares a (λ b. unless_spares here span a (reason_against b a))

what_spares : {mark : Moment} (here : Context) (span : Span) (a : Access) (r : ReadResult) → Spares mark (what_is_read here span a r)
what_spares here span a (ReadsAs v) = spares-gives v
what_spares here span a (UndefinedBy why) = spares-undefined here span (Some a) why

pub scalar_spares : {mark : Moment} (here : Context) (span : Span) (o : Object) → Spares mark (read_scalar here span o)
scalar_spares here span o =
    let a = access here false o in in_block_spares a (λ b. what_spares here span a (read_in b o.ty a))

read_by : {mark : Moment} (here : Context) (span : Span) (o : Object) (is : Bool) →
    Spares mark (if is then gives (Struct o.at) else read_scalar here span o)
read_by here span o true = spares-gives (Struct o.at)
read_by here span o false = scalar_spares here span o

pub read_spares : {mark : Moment} (here : Context) (span : Span) (o : Object) → Spares mark (read here span o)
read_spares here span o = read_by here span o (is_struct o.ty)

pub write_spares : {mark : Moment} (here : Context) (span : Span) (o : Object) (v : Value) → Spares mark (write here span o v)
write_spares here span o v = spares-then (judged_spares here span (access here true o)) (λ _. spares-stored o.at (cells_of o.ty v))

overlap_spares : {mark : Moment} (here : Context) (span : Span) (a : Access) (b : Bool) → Spares mark (unless_overlap here span a b)
overlap_spares here span a false = spares-gives tt
overlap_spares here span a true = spares-undefined here span (Some a) _

pub copy_spares : {mark : Moment} (here : Context) (c : Copy) → Spares mark (copy_struct here c)
copy_spares here c = spares-then (judged_spares here c.source_span (access here false c.source)) (λ _.
    spares-then (judged_spares here c.target_span (access here true c.target)) (λ _.
    spares-then (overlap_spares here c.span (access here true c.target) _) (λ _. spares-blocks_by
    (keeps-copied c.source.at c.target.at _))))

-- ---- operators

comparison_spares : {mark : Moment} (here : Context) (span : Span) (b : Option Bool) → Spares mark (comparison here span b)
comparison_spares here span None = spares-undefined here span None _
comparison_spares here span (Some b) = spares-gives b

pub truth_spares : {mark : Moment} (here : Context) (span : Span) (v : Value) → Spares mark (is_true here span v)
truth_spares here span (Address p) = spares-blocks (λ blocks. comparison_spares here span (pointer_truth blocks p))
truth_spares here span _ = spares-gives _

divide_spares : {mark : Moment} (n : Option ℕ) → Spares mark (or_divide n)
divide_spares None = spares-divide
divide_spares (Some n) = spares-gives _

difference_spares : {mark : Moment} (here : Context) (span : Span) (n : Option ℕ) → Spares mark (difference_known here span n)
difference_spares here span None = spares-undefined here span None _
difference_spares here span (Some n) = spares-gives _

pointers_spares : {mark : Moment} (here : Context) (span : Span) (o : BinaryOperator) (size : ℕ) (p q : Pointer) →
    Spares mark (on_pointers here span o size p q)
pointers_spares here span binary.Subtract size p q = difference_spares here span (objects_between p q size)
pointers_spares here span o size p q =
    spares-blocks (λ blocks. spares-then (comparison_spares here span (compared blocks o p q)) (λ b. spares-gives _))

pointer_spares : {mark : Moment} (o : BinaryOperator) (size : ℕ) (p : Pointer) (n : ℕ) → Spares mark (on_pointer o size p n)
pointer_spares binary.Add size p n = spares-gives _
pointer_spares binary.Subtract size p n = spares-gives _
pointer_spares _ size p n = spares-stuck

pub values_spares : {mark : Moment} (here : Context) (span : Span) (o : BinaryOperator) (s t : Ty) (v w : Value) →
    Spares mark (on_values here span o s t v w)
values_spares here span o s t (Number n) (Number m) = divide_spares (binary_value o (int_in s) n m)
values_spares here span o s t (Address p) (Number n) = pointer_spares o _ p n
values_spares here span o s t (Number n) (Address p) = pointer_spares o _ p n
values_spares here span o s t (Address p) (Address q) = pointers_spares here span o _ p q
values_spares here span o s t _ _ = spares-stuck

pub combined_values : {mark : Moment} (here : Context) (span : Span) (o : BinaryOperator) (s t : Ty) (v w : Value) →
    Spares mark (values_combined here span o s t v w)
combined_values here span o s t (Number n) (Number m) =
    let c = computing_type o (int_in s) (int_in t) in
    spares-then (divide_spares (binary_value o c (wrap c n) m)) (λ v. spares-gives _)
combined_values here span o s t v w = values_spares here span o s t v w
