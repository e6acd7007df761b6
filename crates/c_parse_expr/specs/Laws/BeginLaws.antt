-- For each token with which an expression begins there is an expression that begins with it.
use Rattle.std.specs.Prelude.{◌≡◌, ℕ, suc, ◌+◌, ◌*◌, Bool, true, false, ◌||◌, [], ◌∷◌, ◌++◌, refl}
use Rattle.std.proofs.Common.{arith}
use Rattle.std.proofs.lemmas.Bool.Decides.{nat_tests}
use Rattle.c_ast.specs.Seen.{Seen as Token}
use Rattle.c_ast.specs.declared.token.Lexeme.{Lexeme}
use Rattle.c_ast.specs.declared.token.Lexeme.TheVariants as lexeme
use Rattle.c_ast.specs.declared.int_type.IntType.TheVariants as integer
use Rattle.c_ast.specs.declared.expr.Node.TheVariants as node
use Rattle.c_ast.specs.declared.operator.Step.{Step}
use Rattle.c_ast.specs.declared.operator.Step.TheVariants as step
use Rattle.c_ast.specs.declared.operator.UnaryOperator.{UnaryOperator}
use Rattle.c_ast.specs.declared.operator.UnaryOperator.TheVariants as operator
use Rattle.c_ast.specs.declared.keyword.Keyword.TheVariants as key
use Rattle.c_ast.specs.declared.punctuator.Punctuator.TheVariants as mark
use Rattle.c_ast.specs.Words.{punctuator_number}
use Rattle.c_grammar.specs.Operators.{UnaryWord, StepWord, Before}
use Rattle.c_grammar.specs.Words.{word_of, lexeme_word, keyword, punctuator, a_keyword, a_punctuator}
use Rattle.c_grammar.specs.Expressions as spells
use Rattle.c_grammar.specs.Expressions.{spelled, one_text}
use Rattle.c_parse_base.specs.Reading.Good.{Begins}
use Rattle.c_parse_base.specs.Reading.Words.{is, token_of, one_word}
use Rattle.c_parse_base.specs.Laws.WordGood.{equal_is}
use Rattle.c_parse_expr.specs.Reading.Expressions.{plain_words, begins_bare}
use Rattle.c_parse_expr.specs.Reading.Levels.{PrimaryWord, UnaryWords, ConditionalWord, ExpressionWord, begins, measured, example}
use Rattle.c_parse_expr.specs.Reading.Levels.{example_token}
use Rattle.c_parse_expr.specs.Laws.LevelLaws.{unary_tier, example_unary, example_expression}

keyword_not_plain : (k : ℕ) → one_word plain_words (a_keyword k) ≡ true → ⊥
keyword_not_plain k h = grind (arith, nat_tests)

punct_not_plain : (p : ℕ) → one_word plain_words (a_punctuator p) ≡ true → ⊥
punct_not_plain p h = grind (arith, nat_tests)

-- a name, a constant or a text
plain_at : (t : Token) (kind : Lexeme) → t.kind ≡ kind → one_word plain_words (lexeme_word kind) ≡ true → Begins PrimaryWord (t ∷ [])
plain_at t (lexeme.Name n) e h = record { value = measured (spelled (t ∷ []) (node.Variable n)) 0; more = []; whole = spells.variable t e }
plain_at t (lexeme.Number value ty) e h = record {
  value = measured (spelled (t ∷ []) (node.Constant value ty)) 0;
  more = [];
  whole = spells.number t e;
}
plain_at t (lexeme.Character value) e h = record {
  value = measured (spelled (t ∷ []) (node.Constant value integer.Int)) 0;
  more = [];
  whole = spells.character t e;
}
plain_at t (lexeme.Text b) e h = record {
  value = measured (spelled (t ∷ []) (node.Text b)) 0;
  more = [];
  whole = spells.text (one_text t e);
}
plain_at t lexeme.Include e h = cc
plain_at t (lexeme.Keyword k) e h = absurd (keyword_not_plain k h)
plain_at t (lexeme.Punct p) e h = absurd (punct_not_plain p h)

step_at : (t : Token) (s : Step) → StepWord Before s t → Begins UnaryWords (t ∷ [])
step_at t s is = record {
  value = measured (spelled (t ∷ example_token ∷ []) (node.Step s example.tree)) (suc example.height);
  more = example_token ∷ [];
  whole = spells.step_before t is example_unary;
}

operator_at : (t : Token) (o : UnaryOperator) → UnaryWord o t → Begins UnaryWords (t ∷ [])
operator_at t o is = record {
  value = measured (spelled (t ∷ example_token ∷ []) (node.Unary o example.tree)) (suc example.height);
  more = example_token ∷ [];
  whole = spells.operated t is (spells.unary example_unary);
}

sizeof_at : (t : Token) → word_of t ≡ keyword key.Sizeof → Begins UnaryWords (t ∷ [])
sizeof_at t is = record {
  value = measured (spelled (t ∷ example_token ∷ []) (node.SizeofExpr example.tree)) (suc example.height);
  more = example_token ∷ [];
  whole = spells.sizeof_expr t is example_unary;
}

abbrev closing : Token
closing = token_of (lexeme.Punct (punctuator_number mark.RightParen))

paren_at : (t : Token) → word_of t ≡ punctuator mark.LeftParen → Begins UnaryWords (t ∷ [])
paren_at t is = record {
  value = measured (spelled (t ∷ example_token ∷ closing ∷ []) (node.Paren example.tree)) (suc example.height);
  more = example_token ∷ closing ∷ [];
  whole = spells.postfix (spells.primary (spells.paren t closing is example_expression refl));
}

primary_unary : (t : Token) → Begins PrimaryWord (t ∷ []) → Begins UnaryWords (t ∷ [])
primary_unary t b = record { value = b.value; more = b.more; whole = spells.postfix (spells.primary b.whole) }

-- by the first of several words or by a later one
first_or : {P : Type 0} (t : Token) (w : ℕ) {rest : Bool} → (word_of t ≡ w → P) → (rest ≡ true → P) → (is w t || rest) ≡ true → P
first_or {P} t w {rest} now later h = go (is w t) refl h
  where
    go : (x : Bool) → is w t ≡ x → (x || rest) ≡ true → P
    go true e h = now (equal_is (word_of t) w e)
    go false e h = later h

-- each token with which an operand begins that is no cast, but "("
pub bare_begins_at : (t : Token) → begins_bare t ≡ true → Begins UnaryWords (t ∷ [])
bare_begins_at t h =
    first_or t (punctuator mark.PlusPlus) (λ e. step_at t step.PreIncrement (refl, e))
    (first_or t (punctuator mark.MinusMinus) (λ e. step_at t step.PreDecrement (refl, e))
    (first_or t (punctuator mark.Ampersand) (operator_at t operator.AddressOf)
    (first_or t (punctuator mark.Star) (operator_at t operator.Dereference)
    (first_or t (punctuator mark.Plus) (operator_at t operator.Plus)
    (first_or t (punctuator mark.Minus) (operator_at t operator.Minus)
    (first_or t (punctuator mark.Tilde) (operator_at t operator.Complement)
    (first_or t (punctuator mark.Exclamation) (operator_at t operator.Not)
    (first_or t (keyword key.Sizeof) (sizeof_at t) (λ h. primary_unary t (plain_at t t.kind refl h)))))))))) h

pub unary_begins_at : (t : Token) → begins t ≡ true → Begins UnaryWords (t ∷ [])
unary_begins_at t h = first_or t (punctuator mark.LeftParen) (paren_at t) (bare_begins_at t) h

-- for each token with which an expression begins there is one that begins with it
pub conditional_begins_at : (t : Token) → begins t ≡ true → Begins ConditionalWord (t ∷ [])
conditional_begins_at t h =
    let b = unary_begins_at t h in
    record {
      value = b.value;
      more = b.more;
      whole = spells.binary
          (unary_tier 10 b.value.height b.value.tree ((t ∷ []) ++ b.more) b.whole);
    }

pub expression_begins_at : (t : Token) → begins t ≡ true → Begins ExpressionWord (t ∷ [])
expression_begins_at t h =
    let b = conditional_begins_at t h in
    record { value = b.value; more = b.more; whole = spells.conditional b.whole }
