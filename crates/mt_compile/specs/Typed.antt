-- The program of a text with its types, and why another text has none (this project's own).
use Rattle.std.specs.Prelude.{◌≡◌, ◌⊎◌, ℕ, List}
use Rattle.c_ast.specs.declared.program.Program.{Program}
use Rattle.c_ast.specs.declared.token.Span.{Span}
use Rattle.c_type_base.specs.declared.typed.Typed.{Typed}
use Rattle.c_types.specs.Refusal.{refusal_of}
use Rattle.c_types.specs.WellTyped.{WellTyped, FirstBroken}
use Rattle.mt_compile.specs.Refused.{ReadRefuses}
use Rattle.mt_compile.specs.Source.{SpelledBy}
use Rattle.mt_compile.specs.declared.refused.Refused.{Refused}
use Rattle.mt_compile.specs.declared.refusal.CompileRefusal.{CompileRefusal}
use Rattle.mt_compile.specs.declared.refusal.CompileRefusal.TheVariants.{Types, NoMemory}

-- the text spells a program that keeps the rules on types, and this is what it is with its types
pub record IsTyped (text : List ℕ) (typed : Typed) : Type 0 where
  pub program : Program
  pub spelled : SpelledBy text program
  pub well : WellTyped program typed

-- The text has no typed program: it spells none that is read, or one that breaks this rule first, at the start of its construct.
pub data TypeRefuses (text : List ℕ) : CompileRefusal → ℕ → Type 0 where
  not_read : {refusal : CompileRefusal} {byte : ℕ} → ReadRefuses text refusal byte → TypeRefuses text refusal byte
  broken : (program : Program) (number : ℕ) (span : Span) → SpelledBy text program → FirstBroken program number span →
      TypeRefuses text (Types (refusal_of number span)) span.start

-- memory is wanting, or the text is refused so
abbrev pub IsTypeCause : List ℕ → Refused CompileRefusal → Type 0
IsTypeCause text refused = (refused.refusal ≡ NoMemory) ⊎ TypeRefuses text refused.refusal refused.place
