-- What the code of the parser needs of the parser.
use Rattle.std.specs.Prelude.{◌≡◌, ℕ, suc, ◌-◌, ◌<◌, ◌≤◌, Bool, true, false, nat_lt, if◌then◌else◌, List, [], ◌∷◌, ◌++◌, length, Option}
use Rattle.std.specs.Prelude.{Some, None, Result, refl}
use Rattle.std.proofs.Common.{sym, ◌∙◌, ap, subst}
use Rattle.c_ast.specs.Seen.{Seen as Token}
use Rattle.c_ast.specs.declared.expr.Expr.{Expr}
use Rattle.c_ast.specs.declared.expr.CType.{CType}
use Rattle.c_ast.specs.declared.expr.CType.TheVariants as type
use Rattle.c_ast.specs.declared.punctuator.Punctuator.TheVariants as mark
use Rattle.c_grammar.specs.Words.{punctuator}
use Rattle.c_grammar.specs.Declarators.{arrays}
use Rattle.c_parse_base.specs.declared.fault.Stop.{Stop}
use Rattle.c_parse_base.specs.declared.fault.Fault.TheVariants.{TooDeep}
use Rattle.c_parse_base.specs.Reading.Answer.{Read, Stuck, Parser, and_then, thens, makes, sees, turns, repeats, follows}
use Rattle.c_parse_base.specs.Laws.ChainLaws.{MayTurn}
use Rattle.c_parse_base.specs.Laws.OptionalLaws.{follows_stop, follows_part, follows_deep}
use Rattle.c_parse_base.specs.Laws.LoopLaws.{Loop, left}
use Rattle.c_parse_base.specs.Reading.Answers.{Answers}
use Rattle.c_parse_base.specs.Laws.AnswerLaws.{either_one, either_deep, either_other}
use Rattle.c_parse_base.specs.Reading.Spans.{start_of}
use Rattle.c_parse_base.specs.Reading.Words.{is, punct, name}
use Rattle.c_parse_base.specs.Laws.Depths.{is_below, not_below}
use Rattle.c_parse_base.specs.declared.type_read.TypeRead.{TypeRead}
use Rattle.c_parse_base.specs.Reading.TypeNames.{stars}
use Rattle.c_parse_expr.specs.Reading.Levels.{begins}
use Rattle.c_parse_expr.specs.Reading.Expressions.{at}
use Rattle.c_parse_decl.specs.declared.declarators.declared.Declared.{Declared}
use Rattle.c_parse_decl.specs.declared.declarators.lengths.Lengths.{Lengths}
use Rattle.c_parse_decl.specs.Reading.Declarators.{Reader, plain, typed_name, named_of, starred, no_lengths, more_lengths, arrays_of}
use Rattle.c_parse_decl.specs.Reading.Declarators.{sized, unsized, size, pair, has_room, pairs, bracketed, declarator}
use Rattle.c_parse_decl.specs.Laws.Declarators.BracketLaws.{PairWord, LowLengths, pair_good}

-- ---- stars and a name

-- stars behind a type, if there are any
unfoldable pub pointed : ℕ → TypeRead → Parser Token TypeRead
pointed d = follows (is (punctuator mark.Star)) (λ _. true) (λ a. nat_lt a.height d) (stars d)

pub pointed_none : (d : ℕ) (a : TypeRead) (ts : List Token) → sees (is (punctuator mark.Star)) ts ≡ false → pointed d a ts ≡ Read a ts
unfolding pointed
pointed_none d a ts e = follows_stop (is (punctuator mark.Star)) (λ _. true) (λ a. nat_lt a.height d) (stars d) a ts e

pub pointed_deep : (d : ℕ) (a : TypeRead) (ts : List Token) → sees (is (punctuator mark.Star)) ts ≡ true → d ≤ a.height →
    pointed d a ts ≡ Stuck TooDeep ts
unfolding pointed
pointed_deep d a ts e high = follows_deep (is (punctuator mark.Star)) (λ _. true) (λ a. nat_lt a.height d) (stars d) a ts e refl
    (not_below a.height d high)

pub pointed_some : (d : ℕ) (a : TypeRead) (ts : List Token) → sees (is (punctuator mark.Star)) ts ≡ true → a.height < d →
    pointed d a ts ≡ stars d a ts
unfolding pointed
pointed_some d a ts e low = follows_part (is (punctuator mark.Star)) (λ _. true) (λ a. nat_lt a.height d) (stars d) a ts e refl
    (is_below a.height d low)

-- the same for an equal type
pub pointed_at : (d : ℕ) (a b : TypeRead) (ts us : List Token) (r : Result TypeRead Stop) → a ≡ b → Answers (pointed d a ts) r us →
    Answers (pointed d b ts) r us
pointed_at d a b ts us r e h = subst (λ a. Answers (pointed d a ts) r us) e h

either_way : (d : ℕ) (base : CType) (ts : List Token) (x y : Bool) →
    (if x then (if y then thens (stars d (plain base)) (λ _. name) ts else Stuck TooDeep ts) else makes (λ n. (plain base, n)) name ts)
    ≡ and_then (if x then (if y then stars d (plain base) ts else Stuck TooDeep ts) else Read (plain base) ts)
    (λ a us. and_then (name us) (λ n vs. Read (a, n) vs))
either_way d base ts true true = refl
either_way d base ts true false = refl
either_way d base ts false y = refl

typed_name_is : (d : ℕ) (base : CType) (ts : List Token) → typed_name d base ts ≡ thens (pointed d (plain base)) (λ _. name) ts
unfolding typed_name pointed
typed_name_is d base ts = either_way d base ts (sees (is (punctuator mark.Star)) ts) (nat_lt 0 d)

pub starred_is : (d : ℕ) (base : CType) (ts : List Token) →
    starred d base ts ≡ and_then (and_then (thens (pointed d (plain base)) (λ _. name) ts) (λ a us. Read (start_of ts, a) us))
    (λ c us. Read (named_of c) us)
unfolding starred
starred_is d base ts = ap (λ o. and_then (and_then o (λ a us. Read (start_of ts, a) us)) (λ c us. Read (named_of c) us))
    (typed_name_is d base ts)

-- ---- between brackets

pub size_none : (d level : ℕ) (ts : List Token) → sees begins ts ≡ false → size d level ts ≡ unsized ts
unfolding size
size_none d level ts e = either_other begins (nat_lt level d) (sized d level) unsized ts e

pub size_deep : (d level : ℕ) (ts : List Token) → sees begins ts ≡ true → d ≤ level → size d level ts ≡ Stuck TooDeep ts
unfolding size
size_deep d level ts e high = either_deep begins (nat_lt level d) (sized d level) unsized ts e (not_below level d high)

pub size_some : (d level : ℕ) (ts : List Token) → sees begins ts ≡ true → level < d → size d level ts ≡ sized d level ts
unfolding size
size_some d level ts e low = either_one begins (nat_lt level d) (sized d level) unsized ts e (is_below level d low)

pub unsized_is : (ts : List Token) → unsized ts ≡ makes (λ r. (None, r)) (punct mark.RightBracket) ts
unfolding unsized
unsized_is ts = refl

pub sized_is : (d level k : ℕ) (ts : List Token) → k ≡ d - suc level →
    sized d level ts ≡ makes (λ c. (Some c.0, c.1)) (thens (at k).conditional (λ _. punct mark.RightBracket)) ts
unfolding sized
sized_is d level k ts e = ap (λ k. makes (λ c. (Some c.0, c.1)) (thens (at k).conditional (λ _. punct mark.RightBracket)) ts) (sym e)

pub pair_is : (d : ℕ) (b : Lengths) (level : ℕ) (ts : List Token) → level ≡ suc b.level →
    pair d b ts ≡ makes (λ c. more_lengths b c.1) (thens (punct mark.LeftBracket) (λ _. size d level)) ts
unfolding pair
pair_is d b level ts e = ap (λ level. makes (λ c. more_lengths b c.1) (thens (punct mark.LeftBracket) (λ _. size d level)) ts) (sym e)

-- ---- the loop over pairs

-- a further pair
abbrev pub further_pair : ℕ → Loop Token Lengths
further_pair d = record { test = λ _. is (punctuator mark.LeftBracket); room = has_room d; step = pair d }

pub pairs_is : (d : ℕ) (b : Lengths) (ts : List Token) → pairs d b ts ≡ and_then (pair d b ts) (left (further_pair d))
unfolding pairs left
pairs_is d b ts = refl

pub may_pair : (d : ℕ) (b : Lengths) → b.height ≤ d → b.level < d → MayTurn (LowLengths d) (has_room d) b
may_pair d b fits low = record { fits = fits; has_room = is_below b.level d low }

-- the same behind equal ones
pub pairs_at : (d : ℕ) (b c : Lengths) (ts us : List Token) (r : Result Lengths Stop) → b ≡ c → Answers (pairs d b ts) r us →
    Answers (pairs d c ts) r us
pairs_at d b c ts us r e h = subst (λ b. Answers (pairs d b ts) r us) e h

-- ---- the array of arrays

-- the last length belongs to what the elements are
pub arrays_last : (element : CType) (trees : List (Option Expr)) (tree : Option Expr) →
    arrays element (trees ++ tree ∷ []) ≡ arrays (type.Array element tree) trees
unfolding arrays
arrays_last element [] tree = refl
arrays_last element (t ∷ trees) tree = ap (λ ty. type.Array ty t) (arrays_last element trees tree)

-- likewise for a list that ends so
pub arrays_by : (element : CType) (all trees : List (Option Expr)) (tree : Option Expr) → all ≡ trees ++ tree ∷ [] →
    arrays element all ≡ arrays (type.Array element tree) trees
arrays_by element all trees tree e = ap (arrays element) e ∙ arrays_last element trees tree

pub arrays_none : (element : CType) (trees : List (Option Expr)) → trees ≡ [] → arrays element trees ≡ element
unfolding arrays
arrays_none element trees e = ap (arrays element) e

-- ---- brackets and declarators

pub bracketed_is : (d : ℕ) (a : Declared) (ts : List Token) → bracketed d a ts ≡ makes (arrays_of a) (pairs d (no_lengths a)) ts
unfolding bracketed
bracketed_is d a ts = refl

-- brackets, if they come next
unfoldable pub brackets_behind : ℕ → Declared → Reader
brackets_behind d = follows (is (punctuator mark.LeftBracket)) (λ _. true) (λ a. nat_lt a.height d) (bracketed d)

pub declarator_is : (d : ℕ) (base : CType) (ts : List Token) → declarator d base ts ≡ and_then (starred d base ts) (brackets_behind d)
unfolding declarator brackets_behind
declarator_is d base ts = refl

pub no_brackets : (d : ℕ) (a : Declared) (ts : List Token) → sees (is (punctuator mark.LeftBracket)) ts ≡ false →
    brackets_behind d a ts ≡ Read a ts
unfolding brackets_behind
no_brackets d a ts e = follows_stop (is (punctuator mark.LeftBracket)) (λ _. true) (λ a. nat_lt a.height d) (bracketed d) a ts e

pub brackets_deep : (d : ℕ) (a : Declared) (ts : List Token) → sees (is (punctuator mark.LeftBracket)) ts ≡ true → d ≤ a.height →
    brackets_behind d a ts ≡ Stuck TooDeep ts
unfolding brackets_behind
brackets_deep d a ts e high = follows_deep (is (punctuator mark.LeftBracket)) (λ _. true) (λ a. nat_lt a.height d)
    (bracketed d) a ts e refl (not_below a.height d high)

pub brackets_read : (d : ℕ) (a : Declared) (ts : List Token) → sees (is (punctuator mark.LeftBracket)) ts ≡ true → a.height < d →
    brackets_behind d a ts ≡ bracketed d a ts
unfolding brackets_behind
brackets_read d a ts e low = follows_part (is (punctuator mark.LeftBracket)) (λ _. true) (λ a. nat_lt a.height d)
    (bracketed d) a ts e refl (is_below a.height d low)
