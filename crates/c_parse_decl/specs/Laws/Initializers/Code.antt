-- What the code of the parser needs of the parser.
use Rattle.std.specs.Prelude.{◌≡◌, ℕ, zero, suc, ◌-◌, ◌<◌, ◌≤◌, true, false, ◌||◌, List, [], ◌∷◌, length, refl}
use Rattle.std.proofs.Common.{◌∙◌, ap, arith}
use Rattle.std.proofs.lemmas.Bool.Decides.{nat_tests}
use Rattle.c_ast.specs.declared.token.Span.{Span}
use Rattle.c_ast.specs.Seen.{Seen as Token}
use Rattle.c_ast.specs.declared.punctuator.Punctuator.TheVariants as mark
use Rattle.c_grammar.specs.Words.{punctuator}
use Rattle.c_parse_base.specs.declared.fault.Fault.TheVariants.{TooDeep}
use Rattle.c_parse_base.specs.Reading.Answer.{Read, Stuck, and_then, makes, thens, sees, repeats_by, turns_by}
use Rattle.c_parse_base.specs.Laws.LoopLaws.{Loop, left}
use Rattle.c_parse_base.specs.Reading.Good.{Good}
use Rattle.c_parse_base.specs.Laws.ChainLaws.{MayTurn}
use Rattle.c_parse_base.specs.Laws.AnswerLaws.{either_one, either_deep, either_other}
use Rattle.c_parse_base.specs.Reading.Words.{is, punct}
use Rattle.c_parse_expr.specs.Reading.Expressions.{at}
use Rattle.c_parse_expr.specs.Reading.Levels.{begins}
use Rattle.c_parse_decl.specs.declared.initializers.init_read.InitRead.{InitRead}
use Rattle.c_parse_decl.specs.declared.initializers.list_read.ListRead.{ListRead}
use Rattle.c_parse_decl.specs.Reading.Initializers.{Reader, ListReader, value_of, one_item, more_items, comma_behind, list_of, room}
use Rattle.c_parse_decl.specs.Reading.Initializers.{begins_initial, list_goes_on, turn_by, turn, items, closed, under, initial}
use Rattle.c_parse_base.specs.Laws.Depths.{is_below}
use Rattle.c_parse_decl.specs.Laws.Initializers.ListLaws.{Turn, LowList, part_on, turn_good}
use Rattle.c_parse_decl.specs.Laws.Initializers.InitialLaws.{under_good}

-- the parser of the level below
pub under_is : (d : ℕ) → 0 < d → under d ≡ initial (d - 1)
unfolding initial under
under_is zero h = absurd (omega arith)
under_is (suc d) h = let same : d ≡ suc d - 1 = omega arith in ap initial same

-- a brace or an expression
pub sees_initial : (ts : List Token) → sees begins_initial ts ≡ (sees (is (punctuator mark.LeftBrace)) ts || sees begins ts)
sees_initial [] = refl
sees_initial (x ∷ ts) = refl

-- ---- one turn

pub turn_item : (d : ℕ) (a : ListRead) (ts : List Token) → 0 < d → a.comma ≡ true →
    turn (under d) a ts ≡ makes (more_items a) (initial (d - 1)) ts
unfolding turn_by
turn_item d a ts h c = ap (λ x. turn_by (under d) x a ts) c ∙ ap (λ p. makes (more_items a) p ts) (under_is d h)

pub turn_comma : (d : ℕ) (a : ListRead) (ts : List Token) → a.comma ≡ false →
    turn (under d) a ts ≡ makes (λ (p : Span). comma_behind a) (punct mark.Comma) ts
unfolding turn_by
turn_comma d a ts c = ap (λ x. turn_by (under d) x a ts) c

-- ---- the loop of a list

-- a further initial or comma
abbrev pub further_turn : ℕ → Loop Token ListRead
further_turn d = record { test = list_goes_on; room = λ _. true; step = turn (under d) }

pub items_is : (d : ℕ) (ts : List Token) → 0 < d → items (under d) ts ≡
    and_then (makes one_item (initial (d - 1)) ts) (left (further_turn d))
unfolding items left
items_is d ts h = ap (λ p. and_then (makes one_item p ts) (repeats_by list_goes_on (λ _. true) (turn (under d)))) (under_is d h)

pub further_good : (d : ℕ) → 0 < d → (a : ListRead) → MayTurn (LowList d) (λ _. true) a →
    Good (turn (under d) a) (Turn a) (LowList d) (list_goes_on a) part_on
further_good d h a may = turn_good d h (under_good d h) a may.fits

-- ---- a list in braces, or an expression

pub closed_is : (d : ℕ) (l : Span) (ts : List Token) → closed (under d) l ts ≡ makes (list_of l)
    (thens (items (under d)) (λ _. punct mark.RightBrace)) ts
unfolding closed
closed_is d l ts = refl

no_room : (d : ℕ) → d ≡ 0 → room d ≡ false
no_room d h = grind (arith, nat_tests)

abbrev brace_first : ℕ → Reader
brace_first d = makes (λ c. c.1) (thens (punct mark.LeftBrace) (closed (under d)))

abbrev value_first : ℕ → Reader
value_first d = makes value_of (at d).expression

pub initial_value : (d : ℕ) (ts : List Token) → sees (is (punctuator mark.LeftBrace)) ts ≡ false → initial d ts ≡ value_first d ts
unfolding initial
initial_value d ts e = either_other (is (punctuator mark.LeftBrace)) (room d) (brace_first d) (value_first d) ts e

pub initial_deep : (d : ℕ) (ts : List Token) → sees (is (punctuator mark.LeftBrace)) ts ≡ true → d ≡ 0 → initial d ts ≡ Stuck TooDeep ts
unfolding initial
initial_deep d ts e z = either_deep (is (punctuator mark.LeftBrace)) (room d) (brace_first d) (value_first d) ts e (no_room d z)

pub initial_braces : (d : ℕ) (ts : List Token) → sees (is (punctuator mark.LeftBrace)) ts ≡ true → 0 < d → initial d ts ≡ brace_first d ts
unfolding initial
initial_braces d ts e h = either_one (is (punctuator mark.LeftBrace)) (room d) (brace_first d) (value_first d) ts e (is_below 0 d h)
