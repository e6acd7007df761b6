-- Which operator a token is: laws.
use Rattle.std.specs.Prelude.{◌≡◌, ◌≢◌, ℕ, suc, ◌+◌, ◌*◌, Bool, true, false, ◌==◌, nat_le, is_some, if◌then◌else◌, List, [], ◌∷◌, Option}
use Rattle.std.specs.Prelude.{Some, None, refl}
use Rattle.std.proofs.Common.{sym, ◌∙◌, ap, arith}
use Rattle.std.proofs.lemmas.Bool.Decides.{nat_tests}
use Rattle.c_ast.specs.Seen.{Seen as Token}
use Rattle.c_ast.specs.declared.token.Lexeme.{Lexeme}
use Rattle.c_ast.specs.declared.token.Lexeme.TheVariants as lexeme
use Rattle.c_ast.specs.declared.operator.BinaryOperator.{BinaryOperator}
use Rattle.c_ast.specs.declared.operator.BinaryOperator.TheVariants as binary
use Rattle.c_ast.specs.declared.punctuator.Punctuator.{Punctuator}
use Rattle.c_ast.specs.declared.punctuator.Punctuator.TheVariants as mark
use Rattle.c_ast.specs.Words.{punctuator_number}
use Rattle.c_grammar.specs.Words.{lexeme_word, word_of, punctuator, a_keyword, a_punctuator}
use Rattle.c_ast.specs.Operators.{binary_punctuator}
use Rattle.c_grammar.specs.Operators.{looseness, BinaryWord}
use Rattle.c_parse_base.specs.Laws.WordGood.{equal_is, is_equal}
use Rattle.c_parse_base.specs.Reading.Answers.{next_of, next_value}
use Rattle.c_parse_expr.specs.Reading.Operators.{operators, among, operator_word, operator_of, in_tier, pick_binary, up_to}

-- each punctuator is found as its operator
pub among_mark : (p : Punctuator) → among operators (punctuator p) ≡ operator_of p
among_mark mark.LeftBrace = refl
among_mark mark.RightBrace = refl
among_mark mark.LeftParen = refl
among_mark mark.RightParen = refl
among_mark mark.LeftBracket = refl
among_mark mark.RightBracket = refl
among_mark mark.Semicolon = refl
among_mark mark.Comma = refl
among_mark mark.Dot = refl
among_mark mark.Arrow = refl
among_mark mark.PlusPlus = refl
among_mark mark.MinusMinus = refl
among_mark mark.Ampersand = refl
among_mark mark.Star = refl
among_mark mark.Plus = refl
among_mark mark.Minus = refl
among_mark mark.Tilde = refl
among_mark mark.Exclamation = refl
among_mark mark.Slash = refl
among_mark mark.Percent = refl
among_mark mark.ShiftLeft = refl
among_mark mark.ShiftRight = refl
among_mark mark.Less = refl
among_mark mark.Greater = refl
among_mark mark.LessEqual = refl
among_mark mark.GreaterEqual = refl
among_mark mark.EqualEqual = refl
among_mark mark.ExclamationEqual = refl
among_mark mark.Caret = refl
among_mark mark.Bar = refl
among_mark mark.AmpersandAmpersand = refl
among_mark mark.BarBar = refl
among_mark mark.Question = refl
among_mark mark.Colon = refl
among_mark mark.Equal = refl
among_mark mark.PlusEqual = refl
among_mark mark.MinusEqual = refl
among_mark mark.StarEqual = refl
among_mark mark.SlashEqual = refl
among_mark mark.PercentEqual = refl
among_mark mark.ShiftLeftEqual = refl
among_mark mark.ShiftRightEqual = refl
among_mark mark.AmpersandEqual = refl
among_mark mark.CaretEqual = refl
among_mark mark.BarEqual = refl

among_number : (p : Punctuator) (number : ℕ) → punctuator_number p ≡ number → among operators (a_punctuator number) ≡ operator_of p
among_number p number e = ap (λ n. among operators (a_punctuator n)) (sym e) ∙ among_mark p

unequal : (m n : ℕ) → m ≢ n → (m == n) ≡ false
unequal m n h = grind (arith, nat_tests)

-- no operator of a list is spelled so
pub among_none : (os : List BinaryOperator) (w : ℕ) → ((o : BinaryOperator) → punctuator (binary_punctuator o) ≢ w) → among os w ≡ None
among_none [] w h = refl
among_none (o ∷ os) w h = ap (λ b. if b then Some o else among os w) (unequal (punctuator (binary_punctuator o)) w (h o))
    ∙ among_none os w h

-- a number of no punctuator
among_no_mark : (number : ℕ) → ((p : Punctuator) → punctuator_number p ≢ number) → among operators (a_punctuator number) ≡ None
among_no_mark number h = among_none operators (a_punctuator number) (λ o e. h (binary_punctuator o) (omega arith))

among_keyword : (number : ℕ) → among operators (a_keyword number) ≡ None
among_keyword number = among_none operators (a_keyword number) (λ o e. omega arith)

-- the operator of a lexeme that is a punctuator
pub operator_at_mark : (kind : Lexeme) (p : Punctuator) (number : ℕ) → kind ≡ lexeme.Punct number → punctuator_number p ≡ number →
    operator_word (lexeme_word kind) ≡ operator_of p
unfolding operator_word
operator_at_mark kind p number is e = ap (λ k. among operators (lexeme_word k)) is ∙ among_number p number e

-- a number that is no punctuator's
pub operator_at_none : (kind : Lexeme) (number : ℕ) → kind ≡ lexeme.Punct number → ((p : Punctuator) → punctuator_number p ≢ number) →
    operator_word (lexeme_word kind) ≡ None
unfolding operator_word
operator_at_none kind number is h = ap (λ k. among operators (lexeme_word k)) is ∙ among_no_mark number h

-- a lexeme that is no punctuator
pub operator_at_other : (kind : Lexeme) → ((number : ℕ) → kind ≢ lexeme.Punct number) → operator_word (lexeme_word kind) ≡ None
unfolding operator_word
operator_at_other lexeme.Include h = refl
operator_at_other (lexeme.Name n) h = refl
operator_at_other (lexeme.Number v ty) h = refl
operator_at_other (lexeme.Character c) h = refl
operator_at_other (lexeme.Text b) h = refl
operator_at_other (lexeme.Keyword k) h = among_keyword k
operator_at_other (lexeme.Punct p) h = absurd (h p refl)

-- the next token decides
pub next_in_tier : (n : ℕ) (ts : List Token) (x : Token) → next_of ts ≡ Some x →
    next_value (pick_binary n) ts ≡ in_tier n (operator_word (lexeme_word x.kind))
unfolding pick_binary
next_in_tier n [] x e = cc
next_in_tier n (y ∷ ts) x e = let same : y ≡ x = cc in ap (λ t. in_tier n (operator_word (word_of t))) same

pub none_in_tier : (n : ℕ) (ts : List Token) → next_of ts ≡ None → next_value (pick_binary n) ts ≡ None
none_in_tier n [] e = refl
none_in_tier n (y ∷ ts) e = cc

-- an operator is found by its punctuator
pub word_operator : (o : BinaryOperator) → operator_word (punctuator (binary_punctuator o)) ≡ Some o
unfolding operator_word
word_operator binary.Multiply = refl
word_operator binary.Divide = refl
word_operator binary.Remainder = refl
word_operator binary.Add = refl
word_operator binary.Subtract = refl
word_operator binary.ShiftLeft = refl
word_operator binary.ShiftRight = refl
word_operator binary.Less = refl
word_operator binary.Greater = refl
word_operator binary.LessEqual = refl
word_operator binary.GreaterEqual = refl
word_operator binary.Equal = refl
word_operator binary.NotEqual = refl
word_operator binary.BitAnd = refl
word_operator binary.BitXor = refl
word_operator binary.BitOr = refl
word_operator binary.And = refl
word_operator binary.Or = refl

among_or : (a : BinaryOperator) (w : ℕ) (o : BinaryOperator) (rest : Option BinaryOperator) →
    (rest ≡ Some o → punctuator (binary_punctuator o) ≡ w) →
    (b : Bool) → (punctuator (binary_punctuator a) == w) ≡ b → (if b then Some a else rest) ≡ Some o → punctuator (binary_punctuator o) ≡ w
among_or a w o rest later true is h = let same : a ≡ o = cc in
    ap (λ o. punctuator (binary_punctuator o)) (sym same) ∙ equal_is (punctuator (binary_punctuator a)) w is
among_or a w o rest later false is h = later h

among_is : (os : List BinaryOperator) (w : ℕ) (o : BinaryOperator) → among os w ≡ Some o → punctuator (binary_punctuator o) ≡ w
among_is [] w o e = cc
among_is (a ∷ os) w o e = among_or a w o (among os w) (among_is os w o) (punctuator (binary_punctuator a) == w) refl e

-- a word that is an operator is its punctuator
pub operator_is : (w : ℕ) (o : BinaryOperator) → operator_word w ≡ Some o → w ≡ punctuator (binary_punctuator o)
unfolding operator_word
operator_is w o e = sym (among_is operators w o e)

in_tier_is : (n : ℕ) (found : Option BinaryOperator) (o : BinaryOperator) → in_tier n found ≡ Some o → (looseness o ≡ n) × (found ≡ Some o)
in_tier_is n None o e = cc
in_tier_is n (Some a) o e = go (looseness a == n) refl e
  where
    go : (x : Bool) → (looseness a == n) ≡ x → (if x then Some a else None) ≡ Some o → (looseness o ≡ n) × (Some a ≡ Some o)
    go true is h = let same : a ≡ o = cc in (ap looseness (sym same) ∙ equal_is (looseness a) n is, ap Some same)
    go false is h = cc

-- a token that is picked is an operator of the tier
pub picked_is : (n : ℕ) (t : Token) (o : BinaryOperator) → pick_binary n t ≡ Some o → BinaryWord n o t
unfolding pick_binary
picked_is n t o e = let h = in_tier_is n (operator_word (word_of t)) o e in (h.0, operator_is (word_of t) o h.1)

-- an operator of the tier is picked
pub is_picked : (n : ℕ) (t : Token) (o : BinaryOperator) → BinaryWord n o t → pick_binary n t ≡ Some o
unfolding pick_binary
is_picked n t o h = ap (λ w. in_tier n (operator_word w)) h.1 ∙ ap (in_tier n) (word_operator o)
    ∙ ap (λ b. if b then Some o else None) (is_equal (looseness o) n h.0)

beyond : (n : ℕ) (o : Option BinaryOperator) → up_to (suc n) o ≡ false → (up_to n o ≡ false) × (is_some (in_tier (suc n) o) ≡ false)
beyond n None e = (refl, refl)
beyond n (Some o) e = (
  grind (arith, nat_tests),
  ap (λ b. is_some (if b then Some o else None))
      (unequal (looseness o) (suc n) (λ h. absurd (grind (arith, nat_tests)))),
)

-- a token that goes on behind no expression of a tier goes on behind none of a tighter one, and is no operator of the tier
pub stops_at : (n : ℕ) (t : Token) → up_to (suc n) (operator_word (word_of t)) ≡ false →
    (up_to n (operator_word (word_of t)) ≡ false) × (is_some (pick_binary (suc n) t) ≡ false)
unfolding pick_binary
stops_at n t = beyond n (operator_word (word_of t))

outside : (n : ℕ) (o : Option BinaryOperator) → is_some (in_tier (suc n) o) ≡ true → up_to n o ≡ false
outside n None e = cc
outside n (Some o) e = go (looseness o == suc n) refl e
  where
    go : (x : Bool) → (looseness o == suc n) ≡ x → is_some (if x then Some o else None) ≡ true → nat_le (looseness o) n ≡ false
    go true is h = let same : looseness o ≡ suc n = equal_is (looseness o) (suc n) is in grind (arith, nat_tests)
    go false is h = cc

-- an operator of a tier does not go on behind an expression of a tighter one
pub apart_at : (n : ℕ) (t : Token) → is_some (pick_binary (suc n) t) ≡ true → up_to n (operator_word (word_of t)) ≡ false
unfolding pick_binary
apart_at n t = outside n (operator_word (word_of t))
