-- Reading and writing scalars and structs (ISO C11 6.3.2.1 paragraph 2, 6.5.16.1).
use Rattle.std.specs.Prelude.{ℕ, Bool, true, false, List, slice_get, Option, Some, None, if◌then◌else◌, not}
use Rattle.c_ast.specs.declared.token.Span.{Span}
use Rattle.c_type_base.specs.declared.ty.Ty.{Ty}
use Rattle.c_type_base.specs.declared.typed.StructInfo.{StructInfo}
use Rattle.c_type_base.specs.Sizes.{size, align}
use Rattle.c_type_base.specs.Types.{is_struct}
use Rattle.block_meaning.specs.declared.reason.Reason.{Reason}
use Rattle.block_meaning.specs.declared.reason.Reason.TheVariants.{Overlap}
use Rattle.block_meaning.specs.declared.access.Access.{Access}
use Rattle.block_meaning.specs.Access.{reason_against, ReadResult, ReadsAs, UndefinedBy, read_in, overlap}
use Rattle.block_meaning.specs.declared.value.Pointer.{Pointer}
use Rattle.block_meaning.specs.Blocks.{Block, cells_at, stored}
use Rattle.block_meaning.specs.Linkage.{structs_of}
use Rattle.block_meaning.specs.Running.{Run, gives, and_then, by_blocks, with_blocks, with_some, Context, undefined}
use Rattle.block_meaning.specs.declared.value.Value.{Value}
use Rattle.block_meaning.specs.declared.value.Value.TheVariants.{Struct}
use Rattle.block_meaning.specs.Values.{cells_of}

-- what stands at a place
pub record Object : Type 0 where
  pub ty : Ty
  pub at : Pointer

abbrev pub object : Ty → Pointer → Object
object t p = record { ty = t; at = p }

abbrev pub structs_at : Context → List StructInfo
structs_at here = structs_of here.program.units here.unit

abbrev pub bytes_of : Context → Ty → ℕ
bytes_of here t = size (structs_at here) t

abbrev pub access : Context → Bool → Object → Access
access here writes o = record {
  at = o.at;
  size = bytes_of here o.ty;
  align = align (structs_at here) o.ty;
  writes = writes;
  scalar = not (is_struct o.ty);
}

-- something with the block that is accessed
abbrev pub in_block : {A : Type 0} → Access → (Block → Run A) → Run A
in_block a f = by_blocks (λ blocks. with_some (slice_get blocks a.at.block) f)

abbrev pub unless_undefined : Context → Span → Access → Option Reason → Run (Unit {0})
unless_undefined here span a None = gives tt
unless_undefined here span a (Some why) = undefined here span (Some a) why

-- an access is judged, but for what the cells hold
abbrev pub judged : Context → Span → Access → Run (Unit {0})
judged here span a = in_block a (λ b. unless_undefined here span a (reason_against b a))

abbrev pub what_is_read : Context → Span → Access → ReadResult → Run Value
what_is_read here span a (ReadsAs v) = gives v
what_is_read here span a (UndefinedBy why) = undefined here span (Some a) why

-- a scalar is read
abbrev pub read_scalar : Context → Span → Object → Run Value
read_scalar here span o = let a = access here false o in in_block a (λ b. what_is_read here span a (read_in b o.ty a))

-- what stands at a place: a scalar is read, and a struct is where it stands
abbrev pub read : Context → Span → Object → Run Value
read here span o = (if is_struct o.ty then gives (Struct o.at) else read_scalar here span o)

-- a scalar is written
abbrev pub write : Context → Span → Object → Value → Run (Unit {0})
write here span o v = and_then (judged here span (access here true o)) (λ _. with_blocks (stored o.at (cells_of o.ty v)))

-- the copy of a struct: from where to where, the expressions that say so, and the one that copies
pub record Copy : Type 0 where
  pub source : Object
  pub target : Object
  pub source_span : Span
  pub target_span : Span
  pub span : Span

abbrev pub unless_overlap : Context → Span → Access → Bool → Run (Unit {0})
unless_overlap here span a false = gives tt
unless_overlap here span a true = undefined here span (Some a) Overlap

abbrev pub copied : Pointer → Pointer → ℕ → List Block → List Block
copied source target bytes blocks = stored target (cells_at blocks source bytes) blocks

-- cell by cell: first the source is judged, then the target, and then whether the two share a part
abbrev pub copy_struct : Context → Copy → Run (Unit {0})
copy_struct here c =
    let to = access here true c.target in
    and_then (judged here c.source_span (access here false c.source)) (λ _.
    and_then (judged here c.target_span to) (λ _.
    and_then (unless_overlap here c.span to (overlap c.source.at c.target.at to.size)) (λ _.
    with_blocks (copied c.source.at c.target.at to.size))))
