-- A text that is refused returns no constant, and has one refusal.
use Rattle.std.proofs.Common.{◌≡◌, ◌<◌, ◌≤◌, ℕ, List, length, refl, ap, ◌∙◌, arith}
use Rattle.c_ast.specs.Seen.{all_seen}
use Rattle.c_ast.specs.declared.program.Program.{Program}
use Rattle.c_ast.specs.declared.token.Token.{Token}
use Rattle.c_grammar.specs.Spells.{Spells}
use Rattle.c_lex.specs.declared.fault.Fault.{Fault}
use Rattle.c_lex.specs.declared.fault.LexRefusal.TheVariants as lex
use Rattle.c_lex.specs.Refusal.{refusal_of, text_limit}
use Rattle.c_lex.specs.Tokens.{FirstFault}
use Rattle.c_lex.specs.Laws.TokenLaws.{read_one_way}
use Rattle.c_parse.specs.Parsed.{FirstUnexpected, FirstTooDeep, limit}
use Rattle.c_parse.specs.Laws.ParsedLaws.{unexpected_spells_none, too_deep_is_deep}
use Rattle.c_parse.specs.Laws.SpellsLaws.{spells_at_most_one}
use Rattle.c_parse.specs.declared.refusal.ParseRefusal.TheVariants.{Unexpected, TooDeep}
use Rattle.mt_compile.specs.declared.refusal.CompileRefusal.{CompileRefusal}
use Rattle.mt_compile.specs.declared.refusal.CompileRefusal.TheVariants.{Lex, Parse, NotYet}
use Rattle.mt_compile.specs.Constant.{IsConstantProgram}
use Rattle.mt_compile.specs.Refused.{byte_at, ReadRefuses, faulty, too_long, unexpected, too_deep, Refuses, unread, not_yet}
use Rattle.c_parse.specs.Laws.PlaceLaws.{one_unexpected, one_too_deep, never_both}
use Rattle.c_parse.specs.Laws.SeenPlaces.{unexpected_seen, too_deep_seen}
use Rattle.mt_compile.specs.Laws.RefusedPlaces.{byte_same}
use Rattle.mt_compile.specs.Laws.Respelled.{same_seen, respelled}
use Rattle.mt_compile.specs.Source.{HasTokens, SpelledBy, ReturnsConstant, ReturnsOnly}
use Rattle.mt_compile.specs.Laws.ConstantTrees.{one_constant}
use Rattle.mt_compile.specs.Laws.OneWay.{OneWay, GoesOn, Stops, at_first, behind, in_turn, Fails, check, led_by}

-- tokens of which one is too deep spell none within the limit
not_too_deep : {levels place : ℕ} {tokens : List Token} → FirstTooDeep levels tokens place → (program : Program) (depth : ℕ) →
    Spells tokens program depth → depth ≤ levels → ⊥
not_too_deep {levels} first program depth spells within =
    let deep : levels < depth = too_deep_is_deep first program depth spells in
    omega (arith, deep, within)

-- the first token that cannot be right is one, and so is the first that is too deep, and no text has both
two_unexpected : {text : List ℕ} {us ts : List Token} {place later : ℕ} → HasTokens text us → HasTokens text ts →
    FirstUnexpected limit us place → FirstUnexpected limit ts later → place ≡ later
two_unexpected {us = us} {ts = ts} held other f g = one_unexpected (unexpected_seen us ts (same_seen held other) f) g

two_too_deep : {text : List ℕ} {us ts : List Token} {place later : ℕ} → HasTokens text us → HasTokens text ts →
    FirstTooDeep limit us place → FirstTooDeep limit ts later → place ≡ later
two_too_deep {us = us} {ts = ts} held other f g = one_too_deep (too_deep_seen us ts (same_seen held other) f) g

not_both : {text : List ℕ} {us ts : List Token} {place later : ℕ} → HasTokens text us → HasTokens text ts →
    FirstUnexpected limit us place → FirstTooDeep limit ts later → ⊥
not_both {us = us} {ts = ts} held other f g = never_both (unexpected_seen us ts (same_seen held other) f) g

-- ---- the stages: the size of the text, its tokens, tokens that can be right, a program, its constant

abbrev Short : List ℕ → Unit {0} → Type 0
Short text done = length text ≤ text_limit

abbrev TooLong : List ℕ → CompileRefusal → ℕ → Type 0
TooLong text = Fails (text_limit < length text) (Lex lex.TextTooLong) 0

sizing : (text : List ℕ) → OneWay (Short text) (TooLong text)
sizing text =
    check (length text ≤ text_limit) (text_limit < length text) (Lex lex.TextTooLong) 0 (λ within more. omega (arith, within, more))

-- the text has tokens, or a first fault
abbrev HasSome : List ℕ → Unit {0} → Type 0
HasSome text done = (tokens : List Token) × HasTokens text tokens

data Faulty (text : List ℕ) : CompileRefusal → ℕ → Type 0 where
  fault : {what : Fault} {at : ℕ} → FirstFault text what at → Faulty text (Lex (refusal_of what at)) at

fault_once : (text : List ℕ) (r s : CompileRefusal) (p q : ℕ) → Faulty text r p → Faulty text s q → (r ≡ s) × (p ≡ q)
fault_once text _ _ _ _ (fault {what} {at} first) (fault {what = other} {at = there} second) =
    let same = (read_one_way text).one_fault what other at there first second in
    (λ i. Lex (refusal_of (same.0 i) (same.1 i)), same.1)

fault_never : (text : List ℕ) (done : Unit {0}) (r : CompileRefusal) (p : ℕ) → HasSome text done → Faulty text r p → ⊥
fault_never text done _ _ has (fault {what} {at} first) = (read_one_way text).never_both (all_seen has.0) what at has.1.are first

lexing : (text : List ℕ) → OneWay (HasSome text) (Faulty text)
lexing text = record { gives_one = λ b c x y. refl; refuses_one = fault_once text; never_both = fault_never text }

-- no token is the first that cannot be right, or one is
record Right (text : List ℕ) (done : Unit {0}) : Type 0 where
  none : (tokens : List Token) (place : ℕ) → HasTokens text tokens → FirstUnexpected limit tokens place → ⊥

data Wrong (text : List ℕ) : CompileRefusal → ℕ → Type 0 where
  wrong : {tokens : List Token} {place : ℕ} → HasTokens text tokens → FirstUnexpected limit tokens place →
      Wrong text (Parse (Unexpected place)) (byte_at text tokens place)

wrong_once : (text : List ℕ) (r s : CompileRefusal) (p q : ℕ) → Wrong text r p → Wrong text s q → (r ≡ s) × (p ≡ q)
wrong_once text _ _ _ _ (wrong {place} held f) (wrong {tokens = others} {place = later} other g) =
    let same : place ≡ later = two_unexpected held other f g in
    (ap (λ p. Parse (Unexpected p)) same, byte_same place held other ∙ ap (byte_at text others) same)

wrong_never : (text : List ℕ) (done : Unit {0}) (r : CompileRefusal) (p : ℕ) → Right text done → Wrong text r p → ⊥
wrong_never text done _ _ right (wrong {tokens} {place} held f) = right.none tokens place held f

expecting : (text : List ℕ) → OneWay (Right text) (Wrong text)
expecting text = record { gives_one = λ b c x y. refl; refuses_one = wrong_once text; never_both = wrong_never text }

-- the tokens spell a program, or one is the first that is too deep
data Deep (text : List ℕ) : CompileRefusal → ℕ → Type 0 where
  deep : {tokens : List Token} {place : ℕ} → HasTokens text tokens → FirstTooDeep limit tokens place →
      Deep text (Parse (TooDeep place)) (byte_at text tokens place)

-- the program of other tokens of the text
again : {text : List ℕ} {program : Program} {tokens : List Token} (s : SpelledBy text program) → HasTokens text tokens →
    Spells tokens program s.spells.depth
again {program = program} s held = respelled s.held held program s.spells.depth s.spells.spells

one_program : (text : List ℕ) (program other : Program) → SpelledBy text program → SpelledBy text other → program ≡ other
one_program text program other x y =
    (spells_at_most_one x.tokens program other x.spells.depth y.spells.depth x.spells.spells (again y x.held)).0

deep_once : (text : List ℕ) (r s : CompileRefusal) (p q : ℕ) → Deep text r p → Deep text s q → (r ≡ s) × (p ≡ q)
deep_once text _ _ _ _ (deep {place} held f) (deep {tokens = others} {place = later} other g) =
    let same : place ≡ later = two_too_deep held other f g in
    (ap (λ p. Parse (TooDeep p)) same, byte_same place held other ∙ ap (byte_at text others) same)

deep_never : (text : List ℕ) (program : Program) (r : CompileRefusal) (p : ℕ) → SpelledBy text program → Deep text r p → ⊥
deep_never text program _ _ s (deep held f) = not_too_deep f program s.spells.depth (again s held) s.spells.within

spelling : (text : List ℕ) → OneWay (SpelledBy text) (Deep text)
spelling text = record { gives_one = one_program text; refuses_one = deep_once text; never_both = deep_never text }

-- tokens that spell a program, and those of which one is too deep, have none that cannot be right
right_spelled : {text : List ℕ} {program : Program} → SpelledBy text program → Right text tt
right_spelled {program = program} s =
    record { none = λ tokens place held f. unexpected_spells_none f program s.spells.depth (again s held) }

right_deep : {text : List ℕ} {us : List Token} {later : ℕ} → HasTokens text us → FirstTooDeep limit us later → Right text tt
right_deep held g = record { none = λ tokens place other f. not_both other held f g }

-- the program returns a constant, or is of no form that is taken
data FormRefuses (program : Program) : CompileRefusal → ℕ → Type 0 where
  other_form : ((n : ℕ) → ¬ IsConstantProgram program n) → FormRefuses program NotYet 0

form_once : (program : Program) (r s : CompileRefusal) (p q : ℕ) → FormRefuses program r p → FormRefuses program s q → (r ≡ s) × (p ≡ q)
form_once program _ _ _ _ (other_form none) (other_form also) = (refl, refl)

form_never : (program : Program) (n : ℕ) (r : CompileRefusal) (p : ℕ) → IsConstantProgram program n → FormRefuses program r p → ⊥
form_never program n _ _ is (other_form none) = none n is

forming : (program : Program) → OneWay (IsConstantProgram program) (FormRefuses program)
forming program = record { gives_one = one_constant program; refuses_one = form_once program; never_both = form_never program }

-- ---- the program of a text, from the last stage up

abbrev RightGives : List ℕ → Program → Type 0
RightGives text = GoesOn (Right text) (λ _. SpelledBy text)

abbrev RightStops : List ℕ → CompileRefusal → ℕ → Type 0
RightStops text = Stops (Right text) (Wrong text) (λ _. Deep text)

from_right : (text : List ℕ) → OneWay (RightGives text) (RightStops text)
from_right text = in_turn (Right text) (Wrong text) (λ _. SpelledBy text) (λ _. Deep text) (expecting text) (λ _. spelling text)

abbrev TokensGive : List ℕ → Program → Type 0
TokensGive text = GoesOn (HasSome text) (λ _. RightGives text)

abbrev TokensStop : List ℕ → CompileRefusal → ℕ → Type 0
TokensStop text = Stops (HasSome text) (Faulty text) (λ _. RightStops text)

from_tokens : (text : List ℕ) → OneWay (TokensGive text) (TokensStop text)
from_tokens text = in_turn (HasSome text) (Faulty text) (λ _. RightGives text) (λ _. RightStops text) (lexing text) (λ _. from_right text)

abbrev Reads : List ℕ → Program → Type 0
Reads text = GoesOn (Short text) (λ _. TokensGive text)

abbrev ReadStops : List ℕ → CompileRefusal → ℕ → Type 0
ReadStops text = Stops (Short text) (TooLong text) (λ _. TokensStop text)

from_size : (text : List ℕ) → OneWay (Reads text) (ReadStops text)
from_size text = in_turn (Short text) (TooLong text) (λ _. TokensGive text) (λ _. TokensStop text) (sizing text) (λ _. from_tokens text)

-- the refusal of a text is one of a stage
staged : {text : List ℕ} {refusal : CompileRefusal} {byte : ℕ} → ReadRefuses text refusal byte → ReadStops text refusal byte
staged (too_long more) = at_first (record { bad = more; reason_is = refl; place_is = refl })
staged (faulty within first) = behind tt within (at_first (fault first))
staged (unexpected {tokens} held f) = behind tt held.within (behind tt (tokens, held) (at_first (wrong held f)))
staged (too_deep {tokens} held f) = behind tt held.within (behind tt (tokens, held) (behind tt (right_deep held f) (deep held f)))

-- and so is the program that it spells
passed : {text : List ℕ} {program : Program} → SpelledBy text program → Reads text program
passed {text} {program} s =
    let right : RightGives text program = record { between = tt; first = right_spelled s; second = s } in
    record { between = tt; first = s.held.within; second = record { between = tt; first = (s.tokens, s.held); second = right } }

-- A text spells one program, or has one refusal, and not both.
pub reading : (text : List ℕ) → OneWay (SpelledBy text) (ReadRefuses text)
reading text = led_by (from_size text) (λ program s. passed s) (λ refusal byte refuses. staged refuses)

-- ---- its constant

abbrev Returns : List ℕ → ℕ → Type 0
Returns text = GoesOn (SpelledBy text) IsConstantProgram

abbrev Refused : List ℕ → CompileRefusal → ℕ → Type 0
Refused text = Stops (SpelledBy text) (ReadRefuses text) FormRefuses

refused : {text : List ℕ} {refusal : CompileRefusal} {byte : ℕ} → Refuses text refusal byte → Refused text refusal byte
refused (unread refuses) = at_first refuses
refused (not_yet program s none) = behind program s (other_form none)

returned : {text : List ℕ} {n : ℕ} → ReturnsConstant text n → Returns text n
returned r = record { between = r.program; first = r.spelled; second = r.constant }

compiling : (text : List ℕ) → OneWay (ReturnsConstant text) (Refuses text)
compiling text =
    led_by (in_turn (SpelledBy text) (ReadRefuses text) IsConstantProgram FormRefuses (reading text) forming) (λ n r. returned r)
    (λ refusal byte refuses. refused refuses)

-- ---- the laws

-- A text that is refused returns no constant.
pub no_constant : {text : List ℕ} {refusal : CompileRefusal} {byte : ℕ} → Refuses text refusal byte → (n : ℕ) → ReturnsConstant text n → ⊥
no_constant {text} {refusal} {byte} refuses n returns = (compiling text).never_both n refusal byte returns refuses

-- A text that spells a program of a constant returns it alone.
pub returns_only : {text : List ℕ} {program : Program} {n : ℕ} → SpelledBy text program → IsConstantProgram program n → ReturnsOnly text n
returns_only {text} {program} {n} s constant =
    let returns : ReturnsConstant text n = record { program = program; spelled = s; constant = constant } in
    record { returns = returns; only = λ m other. (compiling text).gives_one m n other returns }

-- two refusals are the same, at the same byte
pub record AreOne (refusal other : CompileRefusal) (byte place : ℕ) : Type 0 where
  pub same : refusal ≡ other
  pub there : byte ≡ place

-- Two refusals of one text are the same, at the same byte.
pub one_refusal : {text : List ℕ} {refusal other : CompileRefusal} {byte place : ℕ} → Refuses text refusal byte →
    Refuses text other place → AreOne refusal other byte place
one_refusal {text} {refusal} {other} {byte} {place} first second =
    let one = (compiling text).refuses_one refusal other byte place first second in
    record { same = one.0; there = one.1 }
