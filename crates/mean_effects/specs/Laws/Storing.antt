-- What judging an access, writing and copying give, by what a memory tells.
use Rattle.std.proofs.Common.{◌≡◌, refl, sym, subst, ℕ, Bool, true, false, List, Option, Some, None, Result, Ok, Err}
use Rattle.std.specs.Prelude.{slice_get, IsTrue}
use Rattle.c_ast.specs.declared.token.Span.{Span}
use Rattle.block_meaning.specs.declared.access.Access.{Access}
use Rattle.block_meaning.specs.declared.cell.Cell.{Cell}
use Rattle.block_meaning.specs.declared.reason.Reason.{Reason}
use Rattle.block_meaning.specs.declared.reason.Reason.TheVariants.{Overlap}
use Rattle.block_meaning.specs.declared.value.Value.{Value}
use Rattle.block_meaning.specs.Access.{reason_against, overlap}
use Rattle.block_meaning.specs.Blocks.{Block, stored}
use Rattle.block_meaning.specs.Memory.{Object, Copy, access, unless_undefined, unless_overlap, judged, write, copied, copy_struct}
use Rattle.block_meaning.specs.Running.{Context, State, Stuck, goes_on, with_blocks, with_some}
use Rattle.block_meaning.specs.Values.{cells_of}
use Rattle.mean_memory.specs.declared.memory.Memory.{Memory}
use Rattle.mean_memory.specs.Shown.{written_or_kept}
use Rattle.mean_memory.specs.Standing.{IsMemory, IsWritten}
use Rattle.mean_effects.specs.declared.now.Ending.{Ending}
use Rattle.mean_effects.specs.declared.now.Ending.TheVariants as ending
use Rattle.mean_effects.specs.declared.now.Now.{Now}
use Rattle.mean_effects.specs.Answered.{answered, done, copied_apart, copied_onto}
use Rattle.mean_effects.specs.Laws.Giving.{gives-free, gives-stuck, gives-value, done-then, stopped-then, quiet-itself}
use Rattle.mean_effects.specs.Shown.{IsNow, Gives}

-- the memory holds other blocks
pub now-with : {n : Now} {now : State} {m : Memory} {blocks : List Block} → IsNow n now → IsMemory m blocks →
    IsNow (record n { memory = m }) (record now { blocks = blocks })
now-with shown holds = record { memory = holds; work = shown.work; calls = shown.calls }

pub gives-changed : (n : Now) (m : Memory) (now : State) (f : List Block → List Block) → IsNow n now → IsMemory m (f now.blocks) →
    Gives (record n { memory = m }) now (Ok tt) (with_blocks f now)
gives-changed n m now f shown holds = record {
  told = record { same = refl; shown = now-with shown holds; quiet = record { input = refl; output = refl } };
}

-- the memory tells whether it was done
pub gives-done : (n : Now) (m : Memory) (now : State) (f : List Block → List Block) (b : Bool) (r : Result (Unit {0}) Ending) →
    r ≡ done b → IsNow n now → (IsTrue b → IsMemory m (f now.blocks)) → Gives (record n { memory = m }) now r (with_blocks f now)
gives-done n m now f false r is shown holds = subst (λ x. Gives (record n { memory = m }) now x (with_blocks f now)) (sym is)
    (gives-free (record n { memory = m }) now (with_blocks f now))
gives-done n m now f true r is shown holds = subst (λ x. Gives (record n { memory = m }) now x (with_blocks f now)) (sym is)
    (gives-changed n m now f shown (holds refl))

-- ---- an access is judged

judged_by : (n : Now) (here : Context) (now : State) (span : Span) (a : Access) (unit : ℕ) (answer : Option Reason) →
    unit ≡ here.unit → IsNow n now → Gives n now (answered unit span answer) (unless_undefined here span a answer now)
judged_by n here now span a unit None same shown = gives-value refl shown
judged_by n here now span a unit (Some why) same shown = record { told = (refl, same, refl, quiet-itself now) }

judged_in : (n : Now) (here : Context) (now : State) (span : Span) (a : Access) (unit : ℕ) (answer : Option Reason) (b : Option Block) →
    unit ≡ here.unit → IsNow n now → ((c : Block) → b ≡ Some c → answer ≡ reason_against c a) →
    Gives n now (answered unit span answer) (with_some b (λ c. unless_undefined here span a (reason_against c a)) now)
judged_in n here now span a unit answer None same shown tells = gives-stuck n now (answered unit span answer) Stuck now tt
judged_in n here now span a unit answer (Some c) same shown tells = subst
    (λ why. Gives n now (answered unit span answer) (unless_undefined here span a why now)) (tells c refl)
    (judged_by n here now span a unit answer same shown)

pub gives-judged : (n : Now) (here : Context) (now : State) (span : Span) (a : Access) (unit : ℕ) (answer : Option Reason)
    (r : Result (Unit {0}) Ending) → r ≡ answered unit span answer → unit ≡ here.unit → IsNow n now →
    ((b : Block) → slice_get now.blocks a.at.block ≡ Some b → answer ≡ reason_against b a) → Gives n now r (judged here span a now)
gives-judged n here now span a unit answer r is same shown tells = subst (λ x. Gives n now x (judged here span a now)) (sym is)
    (judged_in n here now span a unit answer (slice_get now.blocks a.at.block) same shown tells)

-- ---- a scalar is written

written_by : (n : Now) (m : Memory) (here : Context) (now : State) (span : Span) (a : Access) (cells : List Cell) (unit : ℕ)
    (answer : Option Reason) → unit ≡ here.unit → IsNow n now → IsMemory m (written_or_kept a cells now.blocks answer) →
    Gives (record n { memory = m }) now (answered unit span answer)
    (goes_on (unless_undefined here span a answer now) (λ _. with_blocks (stored a.at cells)))
written_by n m here now span a cells unit None same shown holds = gives-changed n m now (stored a.at cells) shown holds
written_by n m here now span a cells unit (Some why) same shown holds = record { told = (refl, same, refl, quiet-itself now) }

written_in : (n : Now) (m : Memory) (here : Context) (now : State) (span : Span) (a : Access) (cells : List Cell) (unit : ℕ)
    (answer : Option Reason) (b : Option Block) → unit ≡ here.unit → IsNow n now →
    ((c : Block) → b ≡ Some c → IsWritten m a cells c now.blocks answer) →
    Gives (record n { memory = m }) now (answered unit span answer)
    (goes_on (with_some b (λ c. unless_undefined here span a (reason_against c a)) now) (λ _. with_blocks (stored a.at cells)))
written_in n m here now span a cells unit answer None same shown writes =
    gives-stuck (record n { memory = m }) now (answered unit span answer) Stuck now tt
written_in n m here now span a cells unit answer (Some c) same shown writes =
    let w = writes c refl in
    subst (λ why. Gives (record n { memory = m }) now (answered unit span answer)
    (goes_on (unless_undefined here span a why now) (λ _. with_blocks (stored a.at cells)))) w.is
    (written_by n m here now span a cells unit answer same shown w.leaves)

written_at : (n : Now) (m : Memory) (here : Context) (now : State) (span : Span) (a : Access) (cells : List Cell) (unit : ℕ)
    (answer : Option Reason) → unit ≡ here.unit → IsNow n now →
    ((b : Block) → slice_get now.blocks a.at.block ≡ Some b → IsWritten m a cells b now.blocks answer) →
    Gives (record n { memory = m }) now (answered unit span answer)
    (goes_on (judged here span a now) (λ _. with_blocks (stored a.at cells)))
written_at n m here now span a cells unit answer same shown writes =
    written_in n m here now span a cells unit answer (slice_get now.blocks a.at.block) same shown writes

pub gives-write : (n : Now) (m : Memory) (here : Context) (now : State) (span : Span) (o : Object) (v : Value) (a : Access) (unit : ℕ)
    (answer : Option Reason) (r : Result (Unit {0}) Ending) → r ≡ answered unit span answer → a ≡ access here true o → unit ≡ here.unit →
    IsNow n now → ((b : Block) → slice_get now.blocks a.at.block ≡ Some b → IsWritten m a (cells_of o.ty v) b now.blocks answer) →
    Gives (record n { memory = m }) now r (write here span o v now)
gives-write n m here now span o v a unit answer r is accessed same shown writes =
    subst (λ x. Gives (record n { memory = m }) now x (write here span o v now)) (sym is)
    (subst (λ x. Gives (record n { memory = m }) now (answered unit span answer)
    (goes_on (judged here span x now) (λ _. with_blocks (stored x.at (cells_of o.ty v))))) accessed
    (written_at n m here now span a (cells_of o.ty v) unit answer same shown writes))

-- ---- a struct is copied

-- the two places share a part
pub gives-overlap : (n : Now) (here : Context) (now : State) (c : Copy) (to : Access) (unit : ℕ) →
    overlap c.source.at c.target.at to.size ≡ true → unit ≡ here.unit →
    Gives n now (Err (ending.Undefined Overlap unit c.span)) (copied_apart here c to now)
gives-overlap n here now c to unit is same = subst
    (λ b. Gives n now (Err (ending.Undefined Overlap unit c.span))
    (goes_on (unless_overlap here c.span to b now) (λ _. with_blocks (copied c.source.at c.target.at to.size)))) (sym is)
    (record { told = (refl, same, refl, quiet-itself now) })

pub gives-apart : (n : Now) (here : Context) (now : State) (c : Copy) (to : Access) (r : Result (Unit {0}) Ending) →
    overlap c.source.at c.target.at to.size ≡ false → Gives n now r (with_blocks (copied c.source.at c.target.at to.size) now) →
    Gives n now r (copied_apart here c to now)
gives-apart n here now c to r is gives = subst
    (λ b. Gives n now r (goes_on (unless_overlap here c.span to b now) (λ _. with_blocks (copied c.source.at c.target.at to.size))))
    (sym is) gives

from_by : (n : Now) (here : Context) (now : State) (c : Copy) (from to : Access) (r : Result (Unit {0}) Ending) →
    from ≡ access here false c.source → to ≡ access here true c.target →
    Gives n now r (goes_on (judged here c.source_span from now) (λ _. copied_onto here c to)) → Gives n now r (copy_struct here c now)
from_by n here now c from to r from_is to_is gives = subst
    (λ x. Gives n now r (goes_on (judged here c.source_span x now) (λ _. copied_onto here c (access here true c.target)))) from_is
    (subst (λ y. Gives n now r (goes_on (judged here c.source_span from now) (λ _. copied_onto here c y))) to_is gives)

-- the source was judged, and then what follows
pub gives-copied : (middle n : Now) (here : Context) (now : State) (c : Copy) (from to : Access) (first r : Result (Unit {0}) Ending)
    (u : Unit {0}) → from ≡ access here false c.source → to ≡ access here true c.target → first ≡ Ok u →
    Gives middle now first (judged here c.source_span from now) →
    ((after : State) → IsNow middle after → Gives n after r (copied_onto here c to after)) → Gives n now r (copy_struct here c now)
gives-copied middle n here now c from to first r u from_is to_is is gives each = from_by n here now c from to r from_is to_is
    (done-then {middle = middle} (judged here c.source_span from now) (λ _. copied_onto here c to) is gives each)

-- it may not be read
pub gives-uncopied : (middle n : Now) (here : Context) (now : State) (c : Copy) (from to : Access) (first : Result (Unit {0}) Ending)
    (e : Ending) → from ≡ access here false c.source → to ≡ access here true c.target → first ≡ Err e →
    Gives middle now first (judged here c.source_span from now) → Gives n now (Err e) (copy_struct here c now)
gives-uncopied middle n here now c from to first e from_is to_is is gives = from_by n here now c from to (Err e) from_is to_is
    (stopped-then {middle = middle} (judged here c.source_span from now) (λ _. copied_onto here c to) is gives)
