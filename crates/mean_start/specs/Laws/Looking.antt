-- Files and numbers of blocks, by what code has.
use Rattle.std.proofs.Common.{◌≡◌, sym, subst, ap, ◌∙◌, ℕ, ◌+◌, List, Option, Some, None, add-zero}
use Rattle.std.specs.Prelude.{slice_get}
use Rattle.block_meaning.specs.Linkage.{object_block, text_block, code_block, definition_of}
use Rattle.block_meaning.specs.Linkage.{block_of_definition, extern_block}
use Rattle.block_meaning.specs.Running.{Program}
use Rattle.mean_start.specs.declared.file.Extern.{Extern}
use Rattle.mean_start.specs.declared.file.File.{File}
use Rattle.mean_start.specs.Files.{IsExtern, IsFile, IsFileAt, IsProgram}

-- the file of a number
pub file_of : {files : List File} {program : Program} → IsProgram files program → (unit : ℕ) (f : File) → slice_get files unit ≡ Some f →
    IsFile f program unit
file_of {program = program} is unit f at = subst (λ o. IsFileAt o program unit) at (is.each unit)

-- ---- numbers of blocks

pub object_is : {f : File} {program : Program} {unit : ℕ} → IsFile f program unit → (n : ℕ) →
    object_block program.units unit n ≡ f.objects + n
object_is is n = sym (ap (λ b. b + n) (is.objects ∙ add-zero _))

pub text_is : {f : File} {program : Program} {unit : ℕ} → IsFile f program unit → (n : ℕ) → text_block program.units unit n ≡ f.texts + n
text_is is n = sym (ap (λ b. b + n) (is.texts ∙ add-zero _))

pub code_is : {f : File} {program : Program} {unit : ℕ} → IsFile f program unit → (n : ℕ) →
    code_block program.units unit n ≡ f.functions + n
code_is is n = sym (ap (λ b. b + n) (is.functions ∙ add-zero _))

-- ---- names that other files define

abbrev pub block_in : Option Extern → Option ℕ
block_in None = None
block_in (Some x) = x.block

abbrev pub block_of_extern : List Extern → ℕ → Option ℕ
block_of_extern externs n = block_in (slice_get externs n)

block_by : (o : Option Extern) (units : List Rattle.c_type_base.specs.declared.typed.Typed.Typed) (unit n : ℕ) → IsExtern o units unit n →
    extern_block units unit n ≡ block_in o
block_by None units unit n is = ap (λ o. block_of_definition units (definition_of units o)) is
block_by (Some x) units unit n is = ap (λ o. block_of_definition units (definition_of units o)) is.is ∙ sym is.block

pub extern_is : {f : File} {program : Program} {unit : ℕ} → IsFile f program unit → (n : ℕ) →
    extern_block program.units unit n ≡ block_of_extern f.externs.items n
extern_is {f = f} {program = program} {unit = unit} is n = block_by (slice_get f.externs.items n) program.units unit n (is.externs n)
