-- Why texts mean nothing (this project's own): a text that is refused comes before the link.
use Rattle.std.specs.Prelude.{◌≡◌, ℕ, min, List, ◌∷◌, ◌++◌, length}
use Rattle.c_ast.specs.declared.program.Program.{Program as Tree}
use Rattle.c_type_base.specs.declared.typed.Typed.{Typed}
use Rattle.linker.specs.declared.refusal.LinkRefusal.{LinkRefusal}
use Rattle.linker.specs.declared.refusal.LinkRefusal.TheVariants as link
use Rattle.mean_link.specs.LinkFault.{LinkFault}
use Rattle.mean_link.specs.Names.{names_in}
use Rattle.mean_program.specs.declared.end.MeanFault.{MeanFault}
use Rattle.mean_program.specs.declared.end.MeanFault.TheVariants as fault
use Rattle.mean_texts.specs.Texts.{AreFiles}
use Rattle.mean_texts.specs.declared.refusal.MeanRefusal.{MeanRefusal}
use Rattle.mean_texts.specs.declared.refusal.MeanRefusal.TheVariants.{Compile, Link, Fault, NoMemory}
use Rattle.mt_compile.specs.Planned.{PlanRefuses}
use Rattle.mt_compile.specs.declared.refusal.CompileRefusal.{CompileRefusal}
use Rattle.mt_compile.specs.declared.refusal.CompileRefusal.TheVariants as compile

-- a text's number, from 0, as 32 bits tell it: one that they do not hold is told as their last number
abbrev pub file_number : ℕ → ℕ
file_number n = min n 4294967295

-- The texts have this refusal, and this byte is told of it, 0 where none is.
pub data RefusesTexts (texts : List (List ℕ)) : MeanRefusal → ℕ → Type 0 where
  source : {text : List ℕ} {refusal : CompileRefusal} {byte : ℕ} (front back : List (List ℕ)) (trees : List Tree) (units : List Typed)
      (frames : List (List ℕ)) → texts ≡ front ++ text ∷ back → AreFiles front trees units frames → PlanRefuses text refusal byte →
      RefusesTexts texts (Compile (file_number (length front)) refusal) byte
  unlinked : {refusal : LinkRefusal} (trees : List Tree) (units : List Typed) (frames : List (List ℕ)) →
      AreFiles texts trees units frames → LinkFault (names_in trees units) refusal → RefusesTexts texts (Link refusal) 0

-- some byte is told of it
abbrev pub AreRefused : List (List ℕ) → MeanRefusal → Type 0
AreRefused texts refusal = (byte : ℕ) × RefusesTexts texts refusal byte

-- ---- refusals of the parts

-- that of the text of a number
abbrev pub of_source : ℕ → CompileRefusal → MeanRefusal
of_source number compile.NoMemory = NoMemory
of_source number refusal = Compile (file_number number) refusal

abbrev pub of_link : LinkRefusal → MeanRefusal
of_link link.NoMemory = NoMemory
of_link refusal = Link refusal

abbrev pub of_fault : MeanFault → MeanRefusal
of_fault fault.NoMemory = NoMemory
of_fault refusal = Fault refusal
