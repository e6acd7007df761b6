-- Memory and operators are safe: what they use exists, and what they give fits.
use Rattle.std.proofs.Common.{◌≡◌, refl, sym, subst, ℕ, ◌+◌, ◌≤◌, ◌<◌, arith, Bool, true, false}
use Rattle.std.proofs.Common.{List, [], ◌∷◌, length, Option, Some, None}
use Rattle.std.specs.Prelude.{slice_get, slice_set, if◌then◌else◌}
use Rattle.std.specs.List.{All}
use Rattle.std.proofs.lemmas.List.{length-set}
use Rattle.std.proofs.lemmas.Option.{slice_get-get_or, slice_get_within, get_or_from_slice_get}
use Rattle.std.proofs.lemmas.List.Elements.{All-nil, All-append, All-take, All-drop, All-set, All-weaker}
use Rattle.c_ast.specs.declared.token.Span.{Span}
use Rattle.c_type_base.specs.declared.ty.Ty.{Ty, out-Ty}
use Rattle.c_type_base.specs.declared.ty.Ty.TheOpen.{Ty-F}
use Rattle.c_type_base.specs.Types.{TyLayer, is_there, struct_of_level, is_struct}
use Rattle.block_meaning.specs.declared.reason.Reason.{Reason}
use Rattle.block_meaning.specs.declared.access.Access.{Access}
use Rattle.block_meaning.specs.Access.{reason_against, ReadResult, ReadsAs, UndefinedBy, read_in, overlap}
use Rattle.block_meaning.specs.declared.cell.Cell.{Cell}
use Rattle.block_meaning.specs.Blocks.{Block, cells_in, with_cells_in, with_cells, cells_at_block, cells_at, changed}
use Rattle.block_meaning.specs.declared.value.Pointer.{Pointer}
use Rattle.block_meaning.specs.Blocks.{with_block, stored}
use Rattle.block_meaning.specs.Laws.Progress.Safe.{CellWithin, CellsWithin, BlockWithin, BlocksWithin, Safe, Any, safe-gives}
use Rattle.block_meaning.specs.Laws.Progress.Safe.{safe-undefined}
use Rattle.block_meaning.specs.Laws.Progress.Safe.{safe-then, safe-some, safe-blocks, Changes, safe-with_blocks}
use Rattle.block_meaning.specs.Laws.Progress.Fits.{FitsLevel, Fits, ReadFits, read_in-fits}
use Rattle.block_meaning.specs.Memory.{Object, access, in_block, unless_undefined, judged, what_is_read, read_scalar, read, write, Copy}
use Rattle.block_meaning.specs.Memory.{unless_overlap, copied, copy_struct}
use Rattle.block_meaning.specs.Running.{Run, gives, with_blocks, with_some, Context}
use Rattle.block_meaning.specs.declared.value.Value.{Value}
use Rattle.block_meaning.specs.declared.value.Value.TheVariants.{Struct}
use Rattle.block_meaning.specs.Values.{cells_of}

-- ---- blocks

-- the element of a number, of which P holds
pub record At {X : Type 0} (P : X → Type 0) (xs : List X) (k : ℕ) : Type 0 where
  pub there : X
  pub is : slice_get xs k ≡ Some there
  pub holds : P there

pub all-at : {X : Type 0} (P : X → Type 0) (xs : List X) (k : ℕ) (x : X) → All P xs → slice_get xs k ≡ Some x → P x
all-at P xs k x all is = subst P (get_or_from_slice_get xs k x x is) (all k x (slice_get_within xs k x is))

pub at-all : {X : Type 0} (P : X → Type 0) (xs : List X) (k : ℕ) → k < length xs → All P xs → At P xs k
at-all P [] k less all = absurd (omega arith)
at-all P (x ∷ xs) k less all =
    let is = slice_get-get_or (x ∷ xs) k x less in record { there = _; is = is; holds = all-at P (x ∷ xs) k _ all is }

pub with_cells-within : (n offset : ℕ) (new cells : List Cell) → CellsWithin n new → CellsWithin n cells →
    CellsWithin n (with_cells offset new cells)
with_cells-within n offset new cells of_new of_old =
    let P = CellWithin n in
    All-append P _ _ (All-append P _ _ (All-take P offset cells of_old) of_new) (All-drop P (offset + length new) cells of_old)

same_changes : (before after : List Block) → length after ≡ length before → BlocksWithin (length before) after → Changes before after
same_changes before after same within =
    record { longer = omega (arith, same); within = subst (λ n. BlocksWithin n after) (sym same) within }

changed_some : (f : Block → Block) (o : Option Block) (k : ℕ) (blocks : List Block) → slice_get blocks k ≡ o →
    BlocksWithin (length blocks) blocks → ((b : Block) → BlockWithin (length blocks) b → BlockWithin (length blocks) (f b)) →
    Changes blocks (changed f o k blocks)
changed_some f None k blocks is all keeps = record { longer = omega arith; within = all }
changed_some f (Some b) k blocks is all keeps =
    let P = BlockWithin (length blocks) in
    same_changes blocks (slice_set blocks k (f b)) (length-set blocks k (f b))
    (All-set P blocks k (f b) (keeps b (all-at P blocks k b all is)) all)

pub with_block-changes : (f : Block → Block) (k : ℕ) (blocks : List Block) → BlocksWithin (length blocks) blocks →
    ((b : Block) → BlockWithin (length blocks) b → BlockWithin (length blocks) (f b)) → Changes blocks (with_block k f blocks)
with_block-changes f k blocks all keeps = changed_some f (slice_get blocks k) k blocks refl all keeps

pub stored-changes : (p : Pointer) (cells : List Cell) (blocks : List Block) → BlocksWithin (length blocks) blocks →
    CellsWithin (length blocks) cells → Changes blocks (stored p cells blocks)
stored-changes p cells blocks all new = with_block-changes (with_cells_in p.offset cells) p.block blocks all
    (λ b old. with_cells-within (length blocks) p.offset cells b.cells new old)

cells_more : (n k : ℕ) → n ≤ k → (c : Cell) → CellWithin n c → CellWithin k c
cells_more n k more (Cell.Part j block offset) h = omega (arith, more, h)
cells_more n k more _ h = tt

pub cells-more : (n k : ℕ) → n ≤ k → (cells : List Cell) → CellsWithin n cells → CellsWithin k cells
cells-more n k more cells all = All-weaker (CellWithin n) (CellWithin k) (cells_more n k more) cells all

-- what is stored points to blocks that exist
pub stored-safe : {n w : ℕ} (p : Pointer) (cells : List Cell) → CellsWithin n cells → Safe n w (with_blocks (stored p cells)) Any
stored-safe {n = n} p cells new = safe-with_blocks (stored p cells) (λ blocks longer all.
    stored-changes p cells blocks all (cells-more n (length blocks) longer cells new))

-- ---- accesses

pub in_block-safe : {A : Type 0} {n w : ℕ} {P : ℕ → A → Type 0} {f : Block → Run A} (a : Access) → a.at.block < n →
    ((k : ℕ) → n ≤ k → (b : Block) → BlockWithin k b → Safe k w (f b) P) → Safe n w (in_block a f) P
in_block-safe {f = f} a less each = safe-blocks {f = λ blocks. with_some (slice_get blocks a.at.block) f} (λ blocks longer all.
    let b = at-all (BlockWithin (length blocks)) blocks a.at.block (omega (arith, less, longer)) all in
    safe-some f b.there b.is (each (length blocks) longer b.there b.holds))

unless_safe : {n w : ℕ} (here : Context) (span : Span) (a : Access) (why : Option Reason) → Safe n w (unless_undefined here span a why) Any
unless_safe here span a None = safe-gives tt (λ k more. tt)
unless_safe here span a (Some why) = safe-undefined here span (Some a) why

judged-safe : {n w : ℕ} (here : Context) (span : Span) (a : Access) → a.at.block < n → Safe n w (judged here span a) Any
judged-safe here span a less = in_block-safe a less (λ k more b within. unless_safe here span a (reason_against b a))

what_safe : {n w : ℕ} (here : Context) (span : Span) (a : Access) (t : Ty) (r : ReadResult) → ((k : ℕ) → n ≤ k → ReadFits k (out-Ty t) r) →
    Safe n w (what_is_read here span a r) (Fits t)
what_safe here span a t (ReadsAs v) fits = safe-gives v fits
what_safe here span a t (UndefinedBy why) fits = safe-undefined here span (Some a) why

pub read_scalar-safe : {n w : ℕ} (here : Context) (span : Span) (o : Object) → o.at.block < n →
    Safe n w (read_scalar here span o) (Fits o.ty)
read_scalar-safe here span o less =
    let a = access here false o in
    in_block-safe a less (λ k more b within. what_safe here span a o.ty (read_in b o.ty a) (λ j further.
    read_in-fits j o.ty b a (cells-more k j further (cells_in b a.at.offset a.size)
    (All-take (CellWithin k) a.size _ (All-drop (CellWithin k) a.at.offset b.cells within)))))

struct_level : (n : ℕ) (l : TyLayer) (p : Pointer) → is_there (struct_of_level l) ≡ true → p.block < n → FitsLevel n l (Struct p)
struct_level n (Ty-F.Struct k) p is less = less
struct_level n _ p is less = absurd cc

read_by : {n w : ℕ} (here : Context) (span : Span) (o : Object) (b : Bool) → is_struct o.ty ≡ b → o.at.block < n →
    Safe n w (if b then gives (Struct o.at) else read_scalar here span o) (Fits o.ty)
read_by here span o true is less = safe-gives (Struct o.at) (λ k more. struct_level k (out-Ty o.ty) o.at is (omega (arith, less, more)))
read_by here span o false is less = read_scalar-safe here span o less

pub read-safe : {n w : ℕ} (here : Context) (span : Span) (o : Object) → o.at.block < n → Safe n w (read here span o) (Fits o.ty)
read-safe here span o less = read_by here span o (is_struct o.ty) refl less

pub write-safe : {n w : ℕ} (here : Context) (span : Span) (o : Object) (v : Value) → o.at.block < n → CellsWithin n (cells_of o.ty v) →
    Safe n w (write here span o v) Any
write-safe {n = n} here span o v less new = safe-then (judged-safe here span (access here true o) less) (λ k more a any.
    stored-safe o.at (cells_of o.ty v) (cells-more n k more (cells_of o.ty v) new))

overlap_safe : {n w : ℕ} (here : Context) (span : Span) (a : Access) (b : Bool) → Safe n w (unless_overlap here span a b) Any
overlap_safe here span a false = safe-gives tt (λ k more. tt)
overlap_safe here span a true = safe-undefined here span (Some a) _

cells_there : (n : ℕ) (o : Option Block) (k offset bytes : ℕ) (blocks : List Block) → slice_get blocks k ≡ o → BlocksWithin n blocks →
    CellsWithin n (cells_at_block o offset bytes)
cells_there n None k offset bytes blocks is all = All-nil (CellWithin n)
cells_there n (Some b) k offset bytes blocks is all =
    All-take (CellWithin n) bytes _ (All-drop (CellWithin n) offset b.cells (all-at (BlockWithin n) blocks k b all is))

copied_safe : {n w : ℕ} (source target : Pointer) (bytes : ℕ) → Safe n w (with_blocks (copied source target bytes)) Any
copied_safe source target bytes = safe-with_blocks (copied source target bytes) (λ blocks longer all.
    stored-changes target (cells_at blocks source bytes) blocks all
    (cells_there (length blocks) (slice_get blocks source.block) source.block source.offset bytes blocks refl all))

pub copy-safe : {n w : ℕ} (here : Context) (c : Copy) → c.source.at.block < n → c.target.at.block < n → Safe n w (copy_struct here c) Any
copy-safe here c of_source of_target =
    let to = access here true c.target in
    safe-then (judged-safe here c.source_span (access here false c.source) of_source) (λ k more a any.
    safe-then (judged-safe here c.target_span to (omega (arith, more, of_target))) (λ j further a any.
    safe-then (overlap_safe here c.span to (overlap c.source.at c.target.at to.size)) (λ i last a any.
    copied_safe c.source.at c.target.at to.size)))
