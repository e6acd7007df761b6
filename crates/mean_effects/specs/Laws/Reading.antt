-- What a read of a scalar gives, by the block that it reads.
use Rattle.std.proofs.Common.{◌≡◌, refl, subst, ℕ, ◌≤◌, lit≤, Option, Some, None, Result, Ok, Err}
use Rattle.std.specs.Prelude.{slice_get}
use Rattle.c_ast.specs.declared.int_type.IntType.{IntType}
use Rattle.c_ast.specs.declared.int_type.IntType.TheVariants as int
use Rattle.c_ast.specs.declared.token.Span.{Span}
use Rattle.c_type_base.specs.Sizes.{int_bytes}
use Rattle.block_meaning.specs.declared.access.Access.{Access}
use Rattle.block_meaning.specs.declared.reason.Reason.{Reason}
use Rattle.block_meaning.specs.declared.value.Value.{Value}
use Rattle.block_meaning.specs.Access.{read_in}
use Rattle.block_meaning.specs.Blocks.{Block}
use Rattle.block_meaning.specs.Memory.{Object, what_is_read, in_block, read_scalar}
use Rattle.block_meaning.specs.Memory as spec
use Rattle.block_meaning.specs.Running.{Context, State, Run, with_some}
use Rattle.mean_memory.specs.Shown.{read_as}
use Rattle.mean_effects.specs.declared.now.Ending.{Ending}
use Rattle.mean_effects.specs.declared.now.Ending.TheVariants as ending
use Rattle.mean_effects.specs.declared.now.Now.{Now}
use Rattle.mean_effects.specs.Laws.Giving.{gives-stuck, gives-value, quiet-itself}
use Rattle.mean_effects.specs.Shown.{IsNow, Gives}

pub int_at_most : (t : IntType) → int_bytes t ≤ 8
int_at_most int.Char = lit≤ tt
int_at_most int.SignedChar = lit≤ tt
int_at_most int.UnsignedChar = lit≤ tt
int_at_most int.Short = lit≤ tt
int_at_most int.UShort = lit≤ tt
int_at_most int.Int = lit≤ tt
int_at_most int.UInt = lit≤ tt
int_at_most int.Long = lit≤ tt
int_at_most int.ULong = lit≤ tt

-- the code's answer to what a memory reads
abbrev pub answer_of : ℕ → Span → Result Value Reason → Result Value Ending
answer_of unit span (Ok v) = Ok v
answer_of unit span (Err why) = Err (ending.Undefined why unit span)

-- a read, as it is answered
pub gives-read : (n : Now) (here : Context) (now : State) (span : Span) (a : Access) (unit : ℕ) (r : Result Value Reason) →
    unit ≡ here.unit → IsNow n now → Gives n now (answer_of unit span r) (what_is_read here span a (read_as r) now)
gives-read n here now span a unit (Ok v) same shown = gives-value refl shown
gives-read n here now span a unit (Err why) same shown = record { told = (refl, same, refl, quiet-itself now) }

in_some : (n : Now) (here : Context) (now : State) (span : Span) (o : Object) (a : Access) (unit : ℕ) (r : Result Value Reason)
    (b : Option Block) → unit ≡ here.unit → IsNow n now → ((c : Block) → b ≡ Some c → read_as r ≡ read_in c o.ty a) →
    Gives n now (answer_of unit span r) (with_some b (λ c. what_is_read here span a (read_in c o.ty a)) now)
in_some n here now span o a unit r None same shown reads =
    gives-stuck n now (answer_of unit span r) Rattle.block_meaning.specs.Running.Stuck now tt
in_some n here now span o a unit r (Some b) same shown reads = subst
    (λ x. Gives n now (answer_of unit span r) (what_is_read here span a x now)) (reads b refl)
    (gives-read n here now span a unit r same shown)

-- a scalar is read, by what the memory says of each block of that number
pub gives-scalar : (n : Now) (here : Context) (now : State) (span : Span) (o : Object) (a : Access) (unit : ℕ) (r : Result Value Reason) →
    a ≡ spec.access here Rattle.std.specs.Prelude.false o → unit ≡ here.unit → IsNow n now →
    ((b : Block) → slice_get now.blocks a.at.block ≡ Some b → read_as r ≡ read_in b o.ty a) →
    Gives n now (answer_of unit span r) (read_scalar here span o now)
gives-scalar n here now span o a unit r is same shown reads = subst
    (λ x. Gives n now (answer_of unit span r) (in_block x (λ b. what_is_read here span x (read_in b o.ty x)) now)) is
    (in_some n here now span o a unit r (slice_get now.blocks a.at.block) same shown reads)
