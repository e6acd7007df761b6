-- Files with what their names stand for, and a program's files.
use Rattle.std.proofs.Common.{◌≡◌, refl, sym, ap, subst, ◌∙◌, ℕ, ◌<◌, List, length}
use Rattle.std.proofs.Common.{map, arith, Option, Some, None, get_or, Vec, Global}
use Rattle.std.specs.Prelude.{slice_get}
use Rattle.std.specs.Option.{option_map}
use Rattle.std.proofs.lemmas.List.{length-map}
use Rattle.std.proofs.lemmas.Option.{slice_get-map, slice_get_past, slice_get_read}
use Rattle.c_type_base.specs.declared.typed.ExternInfo.{ExternInfo}
use Rattle.c_type_base.specs.declared.typed.Typed.{Typed}
use Rattle.block_meaning.specs.Linkage.{extern_in, extern_at, object_block, text_block, code_block}
use Rattle.block_meaning.specs.Running.{Program}
use Rattle.mean_start.specs.declared.file.File.{File}
use Rattle.mean_start.specs.Files.{extern_as, IsExtern, IsFile, IsFileAt, IsProgram}
use Rattle.mean_start.specs.declared.starts.Starts.{Starts}
use Rattle.mean_start.specs.Numbers.{IsStart, AreStarts}
use Rattle.mean_start.proofs.Starting.{past}

abbrev items_of : Vec ℕ Global → List ℕ
items_of v = v.items

by_info : (units : List Typed) (unit n : ℕ) (o : Option ExternInfo) → extern_at units unit n ≡ o →
    IsExtern (option_map (extern_as units unit) o) units unit n
by_info units unit n None is = is
by_info units unit n (Some e) is = record { info = e; is = is; block = refl; called = refl }

-- the names of a file one by one
extern_made : (units : List Typed) (unit n : ℕ) (u : Typed) → slice_get units unit ≡ Some u →
    IsExtern (slice_get (map (extern_as units unit) u.externs) n) units unit n
extern_made units unit n u at =
    subst (λ o. IsExtern o units unit n) (sym (slice_get-map (extern_as units unit) u.externs n))
    (by_info units unit n (slice_get u.externs n) (ap (λ o. extern_in o n) at))

-- a file, by its parts
pub file_by : (units : List Typed) (unit : ℕ) (f : File) → slice_get units unit ≡ Some f.typed.now →
    f.objects ≡ object_block units unit 0 →
    f.texts ≡ text_block units unit 0 → f.functions ≡ code_block units unit 0 →
    f.externs.items ≡ map (extern_as units unit) f.typed.now.externs → (program : Program) → program.units ≡ units →
    slice_get program.frames unit ≡ Some f.frames.now → IsFile f program unit
file_by units unit f at objects texts functions externs program same frames =
    let here : slice_get program.units unit ≡ Some f.typed.now = ap (λ us. slice_get us unit) same ∙ at in
    let names : map (extern_as program.units unit) f.typed.now.externs ≡ f.externs.items =
    ap (λ us. map (extern_as us unit) f.typed.now.externs) same ∙ sym externs in
    record {
      typed = here;
      frames = frames;
      objects = objects ∙ ap (λ us. object_block us unit 0) (sym same);
      texts = texts ∙ ap (λ us. text_block us unit 0) (sym same);
      functions = functions ∙ ap (λ us. code_block us unit 0) (sym same);
      externs = λ n. subst (λ l. IsExtern (slice_get l n) program.units unit n) names (extern_made program.units unit n f.typed.now here);
    }

at_each : (files : List File) (program : Program) (unit : ℕ) (o : Option File) → length files ≡ length program.units →
    length program.frames ≡ length program.units → slice_get files unit ≡ o →
    ((f : File) → slice_get files unit ≡ Some f → IsFile f program unit) → IsFileAt o program unit
at_each files program unit None of_units of_frames at each =
    let far = past files unit at in
    (slice_get_past program.units unit (omega arith), slice_get_past program.frames unit (omega arith))
at_each files program unit (Some f) of_units of_frames at each = each f at

-- the files of a program one by one
pub program_by : (files : List File) (program : Program) → length files ≡ length program.units →
    length program.frames ≡ length program.units →
    ((unit : ℕ) (f : File) → slice_get files unit ≡ Some f → IsFile f program unit) → IsProgram files program
program_by files program of_units of_frames each =
    record { each = λ unit. at_each files program unit (slice_get files unit) of_units of_frames refl (each unit) }

-- the frames of a file
pub frames_at : (sizes : List (Vec ℕ Global)) (frames : List (List ℕ)) (unit : ℕ) (v : Vec ℕ Global) (here : List ℕ) →
    unit < length sizes → v ≡ get_or sizes unit v → here ≡ v.items → frames ≡ map items_of sizes →
    slice_get frames unit ≡ Some here
frames_at sizes frames unit v here within is same all =
    ap (λ l. slice_get l unit) all ∙ slice_get-map items_of sizes unit
    ∙ ap (option_map items_of) (slice_get_read sizes (length sizes) unit v refl within is) ∙ ap Some (sym same)

pub frames_count : (sizes : List (Vec ℕ Global)) (frames : List (List ℕ)) → frames ≡ map items_of sizes →
    length frames ≡ length sizes
frames_count sizes frames all = ap length all ∙ length-map sizes items_of

-- where the blocks of the file of a number begin
pub start_read : (starts : List Starts) (units : List Typed) → AreStarts starts units → (i : ℕ) (s : Starts) → i < length units →
    s ≡ get_or starts i s → IsStart s units i
start_read starts units are i s within is =
    let count = are.count in
    are.each i s (slice_get_read starts (length starts) i s refl (omega arith) is)
