-- The files of a program as code has them: each with the numbers of its blocks, and with what the names stand for that others define.
use Rattle.std.specs.Prelude.{◌≡◌, ℕ, List, map, Option, Some, None, slice_get}
use Rattle.c_type_base.specs.declared.typed.ExternInfo.{ExternInfo}
use Rattle.c_type_base.specs.declared.typed.Typed.{Typed}
use Rattle.block_meaning.specs.Linkage.{Definition, object_block, text_block, code_block, extern_at, definition_of, block_of_definition}
use Rattle.block_meaning.specs.Linkage.{defined, called_as}
use Rattle.block_meaning.specs.Running.{Function, Program}
use Rattle.mean_start.specs.declared.file.Called.{Called}
use Rattle.mean_start.specs.declared.file.Called.TheVariants as called
use Rattle.mean_start.specs.declared.file.Extern.{Extern}
use Rattle.mean_start.specs.declared.file.File.{File}
use Rattle.mean_start.specs.declared.file.FrameSizes.{FrameSizes}
use Rattle.mean_start.specs.declared.file.FunctionId.{FunctionId}

abbrev pub id_of : Function → FunctionId
id_of f = record { unit = f.unit; number = f.number }

-- what a call reaches of a name that is defined, by the function that it is by the type of its declaration
abbrev pub called_where : Option Function → Called
called_where None = called.OtherType
called_where (Some f) = called.Function (id_of f)

-- what a call reaches, by the definition of the name
abbrev pub called_by : List Typed → ℕ → ExternInfo → Option Definition → Called
called_by units unit e None = called.Missing
called_by units unit e (Some d) = called_where (called_as units unit e d)

-- what a name of a file stands for
abbrev pub extern_as : List Typed → ℕ → ExternInfo → Extern
extern_as units unit e = record {
  block = block_of_definition units (defined units e.name);
  called = called_by units unit e (defined units e.name);
}

-- the file declares the name, which stands for this
pub record IsLinked (x : Extern) (units : List Typed) (unit number : ℕ) : Type 0 where
  pub info : ExternInfo
  pub is : extern_at units unit number ≡ Some info
  pub block : x.block ≡ block_of_definition units (definition_of units (Some info))
  pub called : x.called ≡ called_by units unit info (definition_of units (Some info))

-- the name of a number that a file declares and another defines, or none
abbrev pub IsExtern : Option Extern → List Typed → ℕ → ℕ → Type 0
IsExtern None units unit number = extern_at units unit number ≡ None
IsExtern (Some x) units unit number = IsLinked x units unit number

-- the file of a number
pub record IsFile (f : File) (program : Program) (unit : ℕ) : Type 0 where
  pub typed : slice_get program.units unit ≡ Some f.typed.now
  pub frames : slice_get program.frames unit ≡ Some f.frames.now
  pub objects : f.objects ≡ object_block program.units unit 0
  pub texts : f.texts ≡ text_block program.units unit 0
  pub functions : f.functions ≡ code_block program.units unit 0
  pub externs : (number : ℕ) → IsExtern (slice_get f.externs.items number) program.units unit number

-- the file of a number, or none
abbrev pub IsFileAt : Option File → Program → ℕ → Type 0
IsFileAt None program unit = (slice_get program.units unit ≡ None) × (slice_get program.frames unit ≡ None)
IsFileAt (Some f) program unit = IsFile f program unit

-- these are the files of a program
pub record IsProgram (files : List File) (program : Program) : Type 0 where
  pub each : (unit : ℕ) → IsFileAt (slice_get files unit) program unit

-- the bytes of frames as a program has them
abbrev pub frames_in : FrameSizes → List (List ℕ)
frames_in sizes = map (λ file. file.items) sizes.bytes.items
