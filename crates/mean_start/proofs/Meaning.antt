-- What a name stands for, by what the map of names has.
use Rattle.std.proofs.Common.{◌≡◌, sym, ap, ◌∙◌, ℕ, List, Option, Some, None}
use Rattle.std.specs.Option.{option_map}
use Rattle.std.proofs.lemmas.Option.{none-some, same_Some}
use Rattle.c_type_base.specs.declared.typed.ExternInfo.{ExternInfo}
use Rattle.c_type_base.specs.declared.typed.Typed.{Typed}
use Rattle.block_meaning.specs.Linkage.{Definition, AnObject, AFunction, function_of, code_block, block_of_definition, defined, called_as}
use Rattle.mean_start.specs.declared.file.Called.{Called}
use Rattle.mean_start.specs.declared.file.Called.TheVariants.{OtherType}
use Rattle.mean_start.specs.declared.file.Extern.{Extern}
use Rattle.mean_start.specs.declared.file.FunctionId.{FunctionId}
use Rattle.mean_start.specs.declared.names.Meant.{Meant}
use Rattle.mean_start.specs.Files.{id_of, called_where, called_by, extern_as}
use Rattle.mean_start.specs.Known.{meant_by}

abbrev extern : Option ℕ → Called → Extern
extern block called = record { block = block; called = called }

abbrev function_in : Meant → Option FunctionId
function_in m = m.function

abbrev with_block : Called → Meant → Extern
with_block called m = extern (Some m.block) called

object_at : (units : List Typed) (unit : ℕ) (e : ExternInfo) (m : Meant) (o : Option Definition) →
    Some m ≡ option_map (meant_by units) o → m.function ≡ None →
    with_block OtherType m ≡ extern (block_of_definition units o) (called_by units unit e o)
object_at units unit e m None is none = absurd (none-some m (sym is))
object_at units unit e m (Some (AnObject v n)) is none = ap (with_block OtherType) (same_Some m (meant_by units (AnObject v n)) is)
object_at units unit e m (Some (AFunction f)) is none =
    absurd (none-some (id_of f) (sym none ∙ ap function_in (same_Some m (meant_by units (AFunction f)) is)))

-- an object
pub object_linked : (units : List Typed) (unit : ℕ) (e : ExternInfo) (m : Meant) →
    Some m ≡ option_map (meant_by units) (defined units e.name) → m.function ≡ None → with_block OtherType m ≡ extern_as units unit e
object_linked units unit e m is none = object_at units unit e m (defined units e.name) is none

-- what a call of a function reaches, by its numbers
abbrev reached : List Typed → ℕ → ExternInfo → FunctionId → Called
reached units unit e g = called_where (called_as units unit e (AFunction (function_of g.unit g.number)))

function_at : (units : List Typed) (unit : ℕ) (e : ExternInfo) (m : Meant) (g : FunctionId) (called : Called) (o : Option Definition) →
    Some m ≡ option_map (meant_by units) o → m.function ≡ Some g → called ≡ reached units unit e g →
    with_block called m ≡ extern (block_of_definition units o) (called_by units unit e o)
function_at units unit e m g called None is some calls = absurd (none-some m (sym is))
function_at units unit e m g called (Some (AnObject v n)) is some calls =
    absurd (none-some g (sym (ap function_in (same_Some m (meant_by units (AnObject v n)) is)) ∙ some))
function_at units unit e m g called (Some (AFunction f)) is some calls =
    let same : m ≡ meant_by units (AFunction f) = same_Some m (meant_by units (AFunction f)) is in
    let named : g ≡ id_of f = same_Some g (id_of f) (sym some ∙ ap function_in same) in
    ap (with_block called) same ∙ ap (extern (Some (code_block units f.unit f.number))) (calls ∙ ap (reached units unit e) named)

-- a function
pub function_linked : (units : List Typed) (unit : ℕ) (e : ExternInfo) (m : Meant) (g : FunctionId) (called : Called) →
    Some m ≡ option_map (meant_by units) (defined units e.name) → m.function ≡ Some g → called ≡ reached units unit e g →
    with_block called m ≡ extern_as units unit e
function_linked units unit e m g called is some calls = function_at units unit e m g called (defined units e.name) is some calls
