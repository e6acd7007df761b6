-- Why a source is refused (this project's own).
use Rattle.std.specs.Prelude.{◌≡◌, ◌⊎◌, ◌<◌, ◌≤◌, ℕ, List, [], ◌∷◌, length, drop}
use Rattle.c_ast.specs.declared.program.Program.{Program}
use Rattle.c_ast.specs.declared.token.Token.{Token}
use Rattle.c_lex.specs.declared.fault.Fault.{Fault}
use Rattle.c_lex.specs.declared.fault.LexRefusal.TheVariants as lex
use Rattle.c_lex.specs.Refusal.{number_of as lex_number_of, refusal_of, text_limit}
use Rattle.c_lex.specs.Tokens.{FirstFault}
use Rattle.c_parse.specs.declared.refusal.ParseRefusal.TheVariants.{Unexpected, TooDeep}
use Rattle.c_parse.specs.Refusal.{number_of as parse_number_of}
use Rattle.c_parse.specs.Parsed.{FirstUnexpected, FirstTooDeep, limit}
use Rattle.c_types.specs.Refusal.{number_of as type_number_of}
use Rattle.frame_plan.specs.Refusal.{number_of as plan_number_of}
use Rattle.mt_compile.specs.Constant.{IsConstantProgram}
use Rattle.mt_compile.specs.Source.{HasTokens, SpelledBy}
use Rattle.mt_compile.specs.declared.refused.Refused.{Refused}
use Rattle.mt_compile.specs.declared.refusal.CompileRefusal.{CompileRefusal}
use Rattle.mt_compile.specs.declared.refusal.CompileRefusal.TheVariants.{Lex, Parse, Types, Plan, NotYet, NoMemory}

-- the number of each refusal; want of memory, which says nothing of the source, has 0, which is no refusal's number
abbrev pub number_of : CompileRefusal → ℕ
number_of (Lex refusal) = lex_number_of refusal
number_of (Parse refusal) = parse_number_of refusal
number_of (Types refusal) = type_number_of refusal
number_of (Plan refusal) = plan_number_of refusal
number_of NotYet = 44
number_of NoMemory = 0

-- where the first of these tokens starts, and the end of the text where there is none
abbrev pub front_byte : List ℕ → List Token → ℕ
front_byte text [] = length text
front_byte text (t ∷ rest) = t.start

-- where the token at a place starts, or the text's length at the end
abbrev pub byte_at : List ℕ → List Token → ℕ → ℕ
byte_at text tokens place = front_byte text (drop place tokens)

-- The text spells no program that is read: this refusal, and this byte is told of it. The first fault of its tokens comes before
-- what the grammar says. Where no byte is told, it is 0.
pub data ReadRefuses (text : List ℕ) : CompileRefusal → ℕ → Type 0 where
  faulty : {what : Fault} {at : ℕ} → length text ≤ text_limit → FirstFault text what at → ReadRefuses text (Lex (refusal_of what at)) at
  too_long : text_limit < length text → ReadRefuses text (Lex lex.TextTooLong) 0
  unexpected : {tokens : List Token} {place : ℕ} → HasTokens text tokens → FirstUnexpected limit tokens place →
      ReadRefuses text (Parse (Unexpected place)) (byte_at text tokens place)
  too_deep : {tokens : List Token} {place : ℕ} → HasTokens text tokens → FirstTooDeep limit tokens place →
      ReadRefuses text (Parse (TooDeep place)) (byte_at text tokens place)

-- The text is not compiled: it spells no program that is read, or one that is of no form that is taken.
pub data Refuses (text : List ℕ) : CompileRefusal → ℕ → Type 0 where
  unread : {refusal : CompileRefusal} {byte : ℕ} → ReadRefuses text refusal byte → Refuses text refusal byte
  not_yet : (program : Program) → SpelledBy text program → ((n : ℕ) → ¬ IsConstantProgram program n) → Refuses text NotYet 0

-- the text is refused with this number, at this byte
abbrev pub IsRefused : List ℕ → ℕ → ℕ → Type 0
IsRefused text number byte = (refusal : CompileRefusal) × (number_of refusal ≡ number) × Refuses text refusal byte

-- memory is wanting, or the text is refused so
abbrev pub IsCause : List ℕ → Refused CompileRefusal → Type 0
IsCause text refused = (refused.refusal ≡ NoMemory) ⊎ Refuses text refused.refusal refused.place

-- memory is wanting, or the text is not read
abbrev pub IsReadCause : List ℕ → Refused CompileRefusal → Type 0
IsReadCause text refused = (refused.refusal ≡ NoMemory) ⊎ ReadRefuses text refused.refusal refused.place
