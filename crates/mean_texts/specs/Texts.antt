-- What some texts mean together (ISO C11 5.1.1.1, 5.1.2.3): each spells a program that keeps the rules on types and whose frames are
-- within the limit, their names are linked, and the program of all of them, with a stack of so many bytes, means this.
use Rattle.std.specs.Prelude.{ℕ, List, [], ◌∷◌, map}
use Rattle.c_ast.specs.declared.program.Program.{Program as Tree}
use Rattle.c_type_base.specs.declared.typed.Typed.{Typed}
use Rattle.block_meaning.specs.Meaning.{Meaning, Outcome}
use Rattle.block_meaning.specs.Running.{Program}
use Rattle.mean_link.specs.LinkFault.{AreLinked}
use Rattle.mean_link.specs.Names.{names_in}
use Rattle.mean_link.specs.declared.names.FileNames.{FileNames}
use Rattle.mean_start.specs.Files.{frames_in}
use Rattle.mean_texts.specs.declared.files.Files.{Files}
use Rattle.mt_compile.specs.Planned.{HasFile}
use Rattle.mt_compile.specs.declared.source.SourceText.{SourceText}

-- the bytes of each text
abbrev pub texts_of : List SourceText → List (List ℕ)
texts_of texts = map (λ text. text.bytes.items) texts

-- each text has its tree, its typed file and the bytes of its functions' frames, in order
abbrev pub AreFiles : List (List ℕ) → List Tree → List Typed → List (List ℕ) → Type 0
AreFiles [] [] [] [] = Unit {0}
AreFiles (t ∷ ts) (p ∷ ps) (u ∷ us) (f ∷ fs) = HasFile t p u f × AreFiles ts ps us fs
AreFiles _ _ _ _ = ⊥

-- the program of typed files with these frames and so many bytes of the stack
abbrev pub program_of : List Typed → List (List ℕ) → ℕ → Program
program_of units frames stack = record { units = units; frames = frames; stack = stack }

-- the texts have files, and their names are linked
pub record AreTogether (texts : List (List ℕ)) : Type 0 where
  pub trees : List Tree
  pub units : List Typed
  pub frames : List (List ℕ)
  pub files : AreFiles texts trees units frames
  pub linked : AreLinked (names_in trees units)

-- what the texts mean with a stack of so many bytes, this input and at most so much work
pub record TextsMean (texts : List (List ℕ)) (stack : ℕ) (input : List ℕ) (work : ℕ) (outcome : Outcome) : Type 0 where
  pub together : AreTogether texts
  pub means : Meaning (program_of together.units together.frames stack) input work outcome

-- the texts have a meaning with any input and any work
pub record HaveMeaning (texts : List (List ℕ)) (stack : ℕ) (input : List ℕ) (work : ℕ) : Type 0 where
  pub outcome : Outcome
  pub means : TextsMean texts stack input work outcome

-- ---- as code holds them

abbrev pub AreFilesOf : List (List ℕ) → Files → Type 0
AreFilesOf texts files = AreFiles texts files.trees files.units (frames_in files.frames)

abbrev pub names_of : Files → List FileNames
names_of files = names_in files.trees files.units
