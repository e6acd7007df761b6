-- What `mean` makes of its sources, and why they mean nothing together (this project's own).
use Rattle.std.specs.Prelude.{◌≡◌, ℕ, List, [], ◌∷◌, map}
use Rattle.c_ast.specs.declared.program.Program.{Program as Tree}
use Rattle.c_type_base.specs.declared.typed.Typed.{Typed}
use Rattle.linker.specs.Refusal.{number_of as link_number}
use Rattle.linker.specs.declared.refusal.LinkRefusal.{LinkRefusal}
use Rattle.mean_link.specs.LinkFault.{LinkFault}
use Rattle.mean_link.specs.Names.{names_in}
use Rattle.mean_link.specs.declared.names.FileNames.{FileNames}
use Rattle.mt_answers.specs.Each.{Step, AreMadeOf, Stops}
use Rattle.mt_answers.specs.Seen.{FilesSeen}
use Rattle.mt_answers.specs.declared.ended.Why.{Why}
use Rattle.mt_answers.specs.declared.ended.Why.TheVariants.{Refused, Link}
use Rattle.mt_compile.specs.Planned.{HasFile, PlanRefuses}
use Rattle.mt_compile.specs.Refused.{number_of}
use Rattle.mt_compile.specs.declared.file.TypedFile.{TypedFile}
use Rattle.mt_compile.specs.declared.refusal.CompileRefusal.{CompileRefusal}

-- ---- each source

-- what a text spells, the same with its types, and the bytes of its functions' frames
pub record SourceFile : Type 0 where
  pub tree : Tree
  pub typed : Typed
  pub sizes : List ℕ

-- the text has this file
abbrev pub IsTypedAs : List ℕ → SourceFile → Type 0
IsTypedAs text file = HasFile text file.tree file.typed file.sizes

-- the source with this number is refused, and its byte is told
pub data RefusesFile (number : ℕ) (text : List ℕ) : Why → Type 0 where
  source : {refusal : CompileRefusal} {byte : ℕ} → PlanRefuses text refusal byte →
      RefusesFile number text (Refused number (number_of refusal) byte)

-- each source is typed before the next one is read
abbrev pub filed : Step SourceFile
filed = record { Makes = IsTypedAs; Refuses = RefusesFile }

-- ---- all of them

-- what their link sees of them
abbrev pub link_names : List SourceFile → List FileNames
link_names files = names_in (map (λ f. f.tree) files) (map (λ f. f.typed) files)

-- The files mean nothing together, for this reason: one of them has no typed file, or their names are not linked. Memory may be wanting
-- besides.
pub data MeansNothing (files : List (List ℕ)) (before after : FilesSeen) : Why → Type 0 where
  no_file : {why : Why} → Stops filed before after 0 files why → MeansNothing files before after why
  no_link : (made : List SourceFile) (refusal : LinkRefusal) → AreMadeOf filed before files made → LinkFault (link_names made) refusal →
      MeansNothing files before after (Link (link_number refusal))

-- ---- as the program holds them

abbrev pub held_as : TypedFile → SourceFile
held_as file = record { tree = file.program; typed = file.typed; sizes = file.frames.items }

-- the texts have these files, in order
abbrev pub AreTyped : List (List ℕ) → List SourceFile → Type 0
AreTyped [] [] = Unit {0}
AreTyped (text ∷ texts) (file ∷ files) = IsTypedAs text file × AreTyped texts files
AreTyped _ _ = ⊥
