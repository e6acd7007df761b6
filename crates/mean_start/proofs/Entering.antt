-- Which function a name stands for, by what the map of names has.
use Rattle.std.proofs.Common.{◌≡◌, sym, ap, ◌∙◌, List, Option, Some, None}
use Rattle.std.specs.Option.{option_map}
use Rattle.std.specs.Prelude.{IfSome}
use Rattle.std.proofs.lemmas.Option.{none-some, same_Some}
use Rattle.c_type_base.specs.declared.typed.Typed.{Typed}
use Rattle.block_meaning.specs.Linkage.{Definition, AnObject, AFunction, function_of}
use Rattle.mean_start.specs.declared.file.FunctionId.{FunctionId}
use Rattle.mean_start.specs.declared.names.Meant.{Meant}
use Rattle.mean_start.specs.Files.{id_of}
use Rattle.mean_start.specs.Known.{meant_by}

abbrev function_in : Meant → Option FunctionId
function_in m = m.function

abbrev pub named : FunctionId → Option Definition
named f = Some (AFunction (function_of f.unit f.number))

function_there : (units : List Typed) (m : Meant) (d : Option Definition) (f : FunctionId) →
    Some m ≡ option_map (meant_by units) d → m.function ≡ Some f → d ≡ named f
function_there units m None f is some = absurd (none-some m (sym is))
function_there units m (Some (AnObject v n)) f is some =
    absurd (none-some f (sym (ap function_in (same_Some m (meant_by units (AnObject v n)) is)) ∙ some))
function_there units m (Some (AFunction g)) f is some =
    ap named (same_Some (id_of g) f (sym (ap function_in (same_Some m (meant_by units (AFunction g)) is)) ∙ some))

pub function_known : (units : List Typed) (m : Meant) (d : Option Definition) (main : Option FunctionId) →
    Some m ≡ option_map (meant_by units) d → m.function ≡ main → IfSome main (λ f. d ≡ named f)
function_known units m d None is same = tt
function_known units m d (Some f) is same = function_there units m d f is same
