-- What code finds in a file, and what that is in its program.
use Rattle.std.proofs.Common.{◌≡◌, refl, sym, subst, ap, ℕ, List, Option, Some, None}
use Rattle.std.specs.Prelude.{slice_get}
use Rattle.std.proofs.lemmas.Option.{none-some}
use Rattle.c_type_base.specs.declared.typed.ExternInfo.{ExternInfo}
use Rattle.c_type_base.specs.declared.typed.Typed.{Typed}
use Rattle.block_meaning.specs.Linkage.{Definition, function_of, extern_at, definition_of, called_as, function_in, function_named}
use Rattle.block_meaning.specs.Linkage.{structs_in, structs_of}
use Rattle.block_meaning.specs.Locals.{text_of}
use Rattle.block_meaning.specs.Meaning.{frame_in, frame_bytes}
use Rattle.block_meaning.specs.Running.{Function, Program}
use Rattle.mean_start.specs.declared.file.Called.{Called}
use Rattle.mean_start.specs.declared.file.Called.TheVariants as called
use Rattle.mean_start.specs.declared.file.Extern.{Extern}
use Rattle.mean_start.specs.declared.file.File.{File}
use Rattle.mean_start.specs.Files.{called_where, called_by, IsLinked, IsExtern, IsFile, IsFileAt, IsProgram}

-- ---- by the number of a file

none_by : (o : Option File) (program : Program) (unit : ℕ) → IsFileAt o program unit → o ≡ None → slice_get program.units unit ≡ None
none_by None program unit is none = is.0
none_by (Some f) program unit is none = absurd (none-some f (sym none))

-- a file that is not there
pub no_file : {files : List File} {program : Program} → IsProgram files program → (unit : ℕ) → slice_get files unit ≡ None →
    slice_get program.units unit ≡ None
no_file {files = files} {program = program} is unit none = none_by (slice_get files unit) program unit (is.each unit) none

-- ---- in a file

pub structs_is : {f : File} {program : Program} {unit : ℕ} → IsFile f program unit → structs_of program.units unit ≡ f.typed.now.structs
structs_is is = ap structs_in is.typed

pub function_is : {f : File} {program : Program} {unit : ℕ} → IsFile f program unit → (n : ℕ) →
    function_named program.units (function_of unit n) ≡ slice_get f.typed.now.functions n
function_is is n = ap (λ o. function_in o n) is.typed

pub frame_is : {f : File} {program : Program} {unit : ℕ} → IsFile f program unit → (n : ℕ) →
    frame_bytes program (function_of unit n) ≡ slice_get f.frames.now n
frame_is is n = ap (λ o. frame_in o n) is.frames

pub bytes_is : {f : File} {program : Program} {unit : ℕ} → IsFile f program unit → (n : ℕ) →
    text_of (slice_get program.units unit) n ≡ slice_get f.typed.now.texts n
bytes_is is n = ap (λ o. text_of o n) is.typed

-- ---- names that other files define

-- the name is declared, and stands for this
pub linked_is : {f : File} {program : Program} {unit : ℕ} → IsFile f program unit → (n : ℕ) (x : Extern) →
    slice_get f.externs.items n ≡ Some x → IsLinked x program.units unit n
linked_is {program = program} {unit = unit} is n x at = subst (λ o. IsExtern o program.units unit n) at (is.externs n)

-- it is not declared
pub unlinked_is : {f : File} {program : Program} {unit : ℕ} → IsFile f program unit → (n : ℕ) → slice_get f.externs.items n ≡ None →
    extern_at program.units unit n ≡ None
unlinked_is {program = program} {unit = unit} is n at = subst (λ o. IsExtern o program.units unit n) at (is.externs n)

-- the name is defined, and is this function by the type of the declaration, or none
pub record Reaches (units : List Typed) (unit : ℕ) (e : ExternInfo) (f : Option Function) : Type 0 where
  pub definition : Definition
  pub is : definition_of units (Some e) ≡ Some definition
  pub called : called_as units unit e definition ≡ f

-- what a call reaches says of the definition
abbrev pub Shows : Called → List Typed → ℕ → ExternInfo → Type 0
Shows called.Missing units unit e = definition_of units (Some e) ≡ None
Shows called.OtherType units unit e = Reaches units unit e None
Shows (called.Function g) units unit e = Reaches units unit e (Some (function_of g.unit g.number))

by_called : (units : List Typed) (unit : ℕ) (e : ExternInfo) (d : Definition) → definition_of units (Some e) ≡ Some d →
    (o : Option Function) →
    called_as units unit e d ≡ o → Shows (called_where o) units unit e
by_called units unit e d is None at = record { definition = d; is = is; called = at }
by_called units unit e d is (Some f) at = record { definition = d; is = is; called = at }

by_definition : (units : List Typed) (unit : ℕ) (e : ExternInfo) (o : Option Definition) → definition_of units (Some e) ≡ o →
    Shows (called_by units unit e o) units unit e
by_definition units unit e None is = is
by_definition units unit e (Some d) is = by_called units unit e d is (called_as units unit e d) refl

pub called_is : {x : Extern} {units : List Typed} {unit n : ℕ} → (l : IsLinked x units unit n) → Shows x.called units unit l.info
called_is {units = units} {unit = unit} l = subst (λ c. Shows c units unit l.info) (sym l.called)
    (by_definition units unit l.info (definition_of units (Some l.info)) refl)
