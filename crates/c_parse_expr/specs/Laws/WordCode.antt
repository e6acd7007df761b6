-- What the code of single words needs of their parsers.
use Rattle.std.specs.Prelude.{ℕ, ◌≡◌, ◌+◌, ◌*◌, Bool, true, false, ◌||◌, if◌then◌else◌, List, [], ◌∷◌, Option, Some, None, is_some, refl}
use Rattle.std.proofs.Common.{◌∙◌, ap, arith}
use Rattle.std.proofs.lemmas.Bool.Decides.{nat_tests}
use Rattle.c_ast.specs.declared.token.Span.{Span}
use Rattle.c_ast.specs.Seen.{Seen as Token}
use Rattle.c_ast.specs.declared.token.Lexeme.{Lexeme}
use Rattle.c_ast.specs.declared.token.Lexeme.TheVariants as lexeme
use Rattle.c_ast.specs.declared.operator.Step.TheVariants as step
use Rattle.c_ast.specs.declared.operator.UnaryOperator.TheVariants as operator
use Rattle.c_ast.specs.declared.keyword.Keyword.TheVariants as key
use Rattle.c_ast.specs.declared.punctuator.Punctuator.{Punctuator}
use Rattle.c_ast.specs.declared.punctuator.Punctuator.TheVariants as mark
use Rattle.c_grammar.specs.Words.{word_of, lexeme_word, keyword, punctuator, a_keyword, a_punctuator}
use Rattle.c_parse_base.specs.declared.fault.Fault.TheVariants.{Unexpected}
use Rattle.c_parse_base.specs.Reading.Answer.{Answer, Parser, Read, Stuck, and_then, word, word_or, thens, makes, either, repeats, sees}
use Rattle.c_parse_base.specs.Laws.LoopLaws.{turns_stop, turns_read}
use Rattle.c_parse_base.specs.declared.fault.Stop.{Stop}
use Rattle.c_parse_base.specs.declared.fault.Stop.TheVariants as stop
use Rattle.c_parse_base.specs.Reading.Answers.{Answers, error, next_of, rest_of, next_value}
use Rattle.c_parse_base.specs.Laws.AnswerLaws.{either_one, either_other}
use Rattle.c_parse_base.specs.Reading.Words.{is, place_of, punct, any, name, one_word, among}
use Rattle.c_parse_base.specs.Laws.WordLaws.{word_end, word_other, word_passed, sees_value, value_passed}
use Rattle.c_parse_expr.specs.declared.measured.Measured.{Measured}
use Rattle.c_parse_expr.specs.declared.suffix.Suffix.{Suffix}
use Rattle.c_parse_expr.specs.declared.suffix.Suffix.TheVariants as suffix
use Rattle.c_parse_expr.specs.Reading.Nodes.{Quoted, text_of, joined}
use Rattle.c_parse_expr.specs.Reading.Expressions.{assign_word, placed, step_word, unary_word, pick_placed, has_word, Reader, constant}
use Rattle.c_parse_expr.specs.Reading.Expressions.{pick_constant, pick_text, is_text, more_texts, texts, plain, pick_step, short_suffix}
use Rattle.c_parse_expr.specs.Reading.Expressions.{suffix_words, sees_suffix, plain_words, begins_bare, first_words}
use Rattle.c_parse_base.specs.Laws.WordListLaws.{is_at}
use Rattle.c_parse_expr.specs.Laws.PrimaryLaws.{MoreTexts, more_texts_good}

pub constant_end : (ts : List Token) → next_of ts ≡ None → constant ts ≡ Stuck Unexpected ts
unfolding constant
constant_end = word_end pick_constant

pub constant_other : (ts : List Token) (x : Token) → next_of ts ≡ Some x → pick_constant x ≡ None → constant ts ≡ Stuck Unexpected ts
unfolding constant
constant_other = word_other pick_constant

pub constant_taken : (ts : List Token) (x : Token) (a : Measured) → next_of ts ≡ Some x → pick_constant x ≡ Some a →
    constant ts ≡ Read a (rest_of ts)
unfolding constant
constant_taken = word_passed pick_constant

-- ---- a punctuator that is passed

read_again : {B : Type 0} (o : Answer Token B) → and_then o (λ b vs. Read b vs) ≡ o
read_again (Read b vs) = refl
read_again (Stuck f vs) = refl

pair_again : {A B C : Type 0} (f : B → C) (a : A) (o : Answer Token B) →
    and_then (and_then o (λ b vs. Read (a, b) vs)) (λ (c : A × B) vs. Read (f c.1) vs) ≡ and_then o (λ b vs. Read (f b) vs)
pair_again f a (Read b vs) = refl
pair_again f a (Stuck g vs) = refl

-- what stands behind a punctuator that comes next
pub marked_makes : {B C : Type 0} (p : Punctuator) (q : Parser Token B) (f : B → C) (ts : List Token) → sees (is (punctuator p)) ts ≡ true →
    makes (λ (c : Span × B). f c.1) (thens (punct p) (λ _. q)) ts ≡ makes f q (rest_of ts)
unfolding punct
marked_makes p q f [] e = cc
marked_makes {B} {C} p q f (x ∷ ts) e =
    ap (λ b. and_then (and_then (word_or (if b then Some (place_of x) else None) x ts)
    (λ a us. and_then (q us) (λ b vs. Read (a, b) vs))) (λ (c : Span × B) vs. Read (f c.1) vs)) e
    ∙ pair_again f (place_of x) (q ts)

pub marked_is : {B : Type 0} (p : Punctuator) (q : Parser Token B) (ts : List Token) → sees (is (punctuator p)) ts ≡ true →
    makes (λ (c : Span × B). c.1) (thens (punct p) (λ _. q)) ts ≡ q (rest_of ts)
marked_is p q ts e = marked_makes p q (λ b. b) ts e ∙ read_again (q (rest_of ts))

-- ---- the value of the next token

pub value_at : {A : Type 0} (pick : Token → Option A) (ts : List Token) (x : Token) → next_of ts ≡ Some x → next_value pick ts ≡ pick x
value_at pick [] x e = cc
value_at pick (y ∷ ts) x e = let same : y ≡ x = cc in ap pick same

pub value_none : {A : Type 0} (pick : Token → Option A) (ts : List Token) → next_of ts ≡ None → next_value pick ts ≡ None
value_none pick [] e = refl
value_none pick (y ∷ ts) e = cc

value_missing : {A : Type 0} (pick : Token → Option A) (ts : List Token) → next_value pick ts ≡ None → word pick ts ≡ Stuck Unexpected ts
value_missing pick [] e = refl
value_missing pick (y ∷ ts) e = ap (λ o. word_or o y ts) e

-- ---- texts

-- the texts that are left, behind what was read so far
unfoldable pub text_run : Quoted → Reader
text_run q ts = and_then (repeats is_text (λ _. true) more_texts q ts) (λ a us. Read (text_of a) us)

pub texts_none : (ts : List Token) → next_value pick_text ts ≡ None → texts ts ≡ Stuck Unexpected ts
unfolding texts
texts_none ts e = ap (λ o. and_then (and_then o (repeats is_text (λ _. true) more_texts)) (λ a us. Read (text_of a) us))
    (value_missing pick_text ts e)

pub texts_first : (ts : List Token) (q : Quoted) → next_value pick_text ts ≡ Some q → texts ts ≡ text_run q (rest_of ts)
unfolding texts text_run
texts_first ts q e = ap (λ o. and_then (and_then o (repeats is_text (λ _. true) more_texts)) (λ a us. Read (text_of a) us))
    (value_passed pick_text ts q e)

pub texts_end : (a : Quoted) (ts : List Token) → next_value pick_text ts ≡ None → text_run a ts ≡ Read (text_of a) ts
unfolding text_run
texts_end a ts e = ap (λ o. and_then o (λ a us. Read (text_of a) us))
    (turns_stop is_text (λ _. true) more_texts a ts (sees_value pick_text ts ∙ ap is_some e))

more_read : (a q : Quoted) (ts : List Token) → next_value pick_text ts ≡ Some q → more_texts a ts ≡ Read (joined a q) (rest_of ts)
unfolding more_texts
more_read a q ts e = ap (λ o. and_then o (λ q us. Read (joined a q) us)) (value_passed pick_text ts q e)

pub texts_next : (a q : Quoted) (ts : List Token) → next_value pick_text ts ≡ Some q → text_run a ts ≡ text_run (joined a q) (rest_of ts)
unfolding text_run
texts_next a q ts e = ap (λ o. and_then o (λ a us. Read (text_of a) us))
    (turns_read is_text (λ _. true) more_texts MoreTexts (λ a may. more_texts_good a) a (joined a q) ts (rest_of ts)
    (record { fits = tt; has_room = refl })
    (sees_value pick_text ts ∙ ap is_some e) (more_read a q ts e))

pub plain_texts : (ts : List Token) (q : Quoted) → next_value pick_text ts ≡ Some q → plain ts ≡ texts ts
unfolding plain
plain_texts ts q e = either_one is_text true texts constant ts (sees_value pick_text ts ∙ ap is_some e) refl

pub plain_constant : (ts : List Token) → next_value pick_text ts ≡ None → plain ts ≡ constant ts
unfolding plain
plain_constant ts e = either_other is_text true texts constant ts (sees_value pick_text ts ∙ ap is_some e)

-- ---- members and steps

abbrev member_first : Parser Token Suffix
member_first = makes (λ c. suffix.Member c.1) (thens (punct mark.Dot) (λ _. name))

abbrev arrow_first : Parser Token Suffix
arrow_first = makes (λ c. suffix.Arrow c.1) (thens (punct mark.Arrow) (λ _. name))

abbrev no_dot : Parser Token Suffix
no_dot = either (is (punctuator mark.Arrow)) true arrow_first (word pick_step)

pub short_member : (ts : List Token) → sees (is (punctuator mark.Dot)) ts ≡ true → short_suffix ts ≡ makes suffix.Member name (rest_of ts)
unfolding short_suffix
short_member ts e = either_one (is (punctuator mark.Dot)) true member_first no_dot ts e refl ∙ marked_makes mark.Dot name suffix.Member ts e

pub short_arrow : (ts : List Token) → sees (is (punctuator mark.Dot)) ts ≡ false → sees (is (punctuator mark.Arrow)) ts ≡ true →
    short_suffix ts ≡ makes suffix.Arrow name (rest_of ts)
unfolding short_suffix
short_arrow ts n e = either_other (is (punctuator mark.Dot)) true member_first no_dot ts n
    ∙ either_one (is (punctuator mark.Arrow)) true arrow_first (word pick_step) ts e refl ∙ marked_makes mark.Arrow name suffix.Arrow ts e

pub short_step : (ts : List Token) → sees (is (punctuator mark.Dot)) ts ≡ false → sees (is (punctuator mark.Arrow)) ts ≡ false →
    short_suffix ts ≡ word pick_step ts
unfolding short_suffix
short_step ts n m = either_other (is (punctuator mark.Dot)) true member_first no_dot ts n
    ∙ either_other (is (punctuator mark.Arrow)) true arrow_first (word pick_step) ts m

abbrev step_when : Token → List Token → Bool → Bool → Answer Token Suffix
step_when x ts p m = word_or (if p then Some (suffix.Step step.PostIncrement (place_of x))
    else (if m then Some (suffix.Step step.PostDecrement (place_of x)) else None)) x ts

pub step_plus : (ts : List Token) → sees (is (punctuator mark.PlusPlus)) ts ≡ true →
    word pick_step ts ≡ makes (suffix.Step step.PostIncrement) any ts
unfolding any
step_plus [] e = cc
step_plus (x ∷ ts) e = ap (λ b. step_when x ts b (is (punctuator mark.MinusMinus) x)) e

pub step_minus : (ts : List Token) → sees (is (punctuator mark.PlusPlus)) ts ≡ false → sees (is (punctuator mark.MinusMinus)) ts ≡ true →
    word pick_step ts ≡ makes (suffix.Step step.PostDecrement) any ts
unfolding any
step_minus [] n e = cc
step_minus (x ∷ ts) n e = ap (λ b. step_when x ts b (is (punctuator mark.MinusMinus) x)) n ∙ ap (step_when x ts false) e

pub step_none : (ts : List Token) → sees (is (punctuator mark.PlusPlus)) ts ≡ false → sees (is (punctuator mark.MinusMinus)) ts ≡ false →
    word pick_step ts ≡ Stuck Unexpected ts
step_none [] n m = refl
step_none (x ∷ ts) n m = ap (λ b. step_when x ts b (is (punctuator mark.MinusMinus) x)) n ∙ ap (step_when x ts false) m

-- ---- what follows an operand

-- the next token is one that begins a suffix
pub suffix_seen : (p : Punctuator) → one_word suffix_words (punctuator p) ≡ true → (ts : List Token) →
    sees (is (punctuator p)) ts ≡ true → sees_suffix ts ≡ true
unfolding sees_suffix
suffix_seen p h [] e = cc
suffix_seen p h (x ∷ ts) e = is_at (one_word suffix_words) (punctuator p) x e ∙ h

or_nothing : (a : Bool) → (a || false) ≡ a
or_nothing true = refl
or_nothing false = refl

-- the last of the words that begin one
pub suffix_last : (ts : List Token) → sees (is (punctuator mark.LeftBracket)) ts ≡ false →
    sees (is (punctuator mark.LeftParen)) ts ≡ false → sees (is (punctuator mark.Dot)) ts ≡ false →
    sees (is (punctuator mark.Arrow)) ts ≡ false → sees (is (punctuator mark.PlusPlus)) ts ≡ false →
    sees_suffix ts ≡ sees (is (punctuator mark.MinusMinus)) ts
unfolding sees_suffix
suffix_last [] a b c d e = refl
suffix_last (x ∷ ts) a b c d e = next a ∙ next b ∙ next c ∙ next d ∙ next e ∙ or_nothing (is (punctuator mark.MinusMinus) x)
  where
    next : {p q : Bool} → p ≡ false → (p || q) ≡ q
    next {p} {q} h = ap (λ p. p || q) h

-- ---- what stands before an operand

-- what the next token is by its word
abbrev pub next_word : {A : Type 0} → (ℕ → Option A) → List Token → Option A
next_word f ts = next_value (λ t. f (word_of t)) ts

pub sees_word : {A : Type 0} (f : ℕ → Option A) (ts : List Token) → sees (has_word f) ts ≡ is_some (next_word f ts)
sees_word f [] = refl
sees_word f (x ∷ ts) = refl

-- the next token is this word
pub word_next : {A : Type 0} (f : ℕ → Option A) (p : Punctuator) (ts : List Token) → sees (is (punctuator p)) ts ≡ true →
    next_word f ts ≡ f (punctuator p)
word_next f p [] e = cc
word_next f p (x ∷ ts) e = is_at f (punctuator p) x e

-- a token whose place is taken
pub placed_read : {A : Type 0} (f : ℕ → Option A) (ts us : List Token) (a : A) (place : Span) → next_word f ts ≡ Some a →
    any ts ≡ Read place us → word (pick_placed f) ts ≡ Read (a, place) us
unfolding any
placed_read f [] us a place e h = cc
placed_read {A} f (x ∷ ts) us a place e h = ap (λ o. word_or (placed (place_of x) o) x ts) e
    ∙ ap (λ o. and_then o (λ p us. Read (a, p) us)) h

pub paired : {A B C : Type 0} (make : A × B → C) (a : A) (o : Answer Token B) →
    and_then (and_then o (λ b vs. Read (a, b) vs)) (λ (c : A × B) vs. Read (make c) vs) ≡ and_then o (λ b vs. Read (make (a, b)) vs)
paired make a (Read b vs) = refl
paired make a (Stuck g vs) = refl

skipped : {A : Type 0} (o p : Option A) {b : Bool} → b ≡ false → (if b then o else p) ≡ p
skipped o p {b} h = ap (λ b. if b then o else p) h

pub step_missing : (ts : List Token) → sees (is (punctuator mark.PlusPlus)) ts ≡ false →
    sees (is (punctuator mark.MinusMinus)) ts ≡ false → next_word step_word ts ≡ None
step_missing [] n m = refl
step_missing (x ∷ ts) n m = skipped _ _ n ∙ skipped _ _ m

pub unary_missing : (ts : List Token) → sees (is (punctuator mark.Ampersand)) ts ≡ false → sees (is (punctuator mark.Star)) ts ≡ false →
    sees (is (punctuator mark.Plus)) ts ≡ false →
    sees (is (punctuator mark.Minus)) ts ≡ false → sees (is (punctuator mark.Tilde)) ts ≡ false →
    sees (is (punctuator mark.Exclamation)) ts ≡ false → next_word unary_word ts ≡ None
unary_missing [] a b c d e f = refl
unary_missing (x ∷ ts) a b c d e f = skipped _ _ a ∙ skipped _ _ b ∙ skipped _ _ c ∙ skipped _ _ d ∙ skipped _ _ e ∙ skipped _ _ f

-- a token that is there is taken, or memory is wanting
pub any_taken : {A B : Type 0} {o : Answer Token B} (f : ℕ → Option A) (ts : List Token) (a : A) {e : Stop} {left : List Token} →
    next_word f ts ≡ Some a →
    Answers (any ts) (error {A = Span} e) left → Answers o (error {A = B} e) left
unfolding any
any_taken f [] a h k = cc
any_taken f (x ∷ ts) a {e = stop.NoMemory} h k = record { is = tt }
any_taken f (x ∷ ts) a {e = stop.Fault g} h k = let bad = k.is in cc

pub assign_missing : (ts : List Token) → sees (is (punctuator mark.Equal)) ts ≡ false →
    sees (is (punctuator mark.PlusEqual)) ts ≡ false → sees (is (punctuator mark.MinusEqual)) ts ≡ false →
    sees (is (punctuator mark.StarEqual)) ts ≡ false → sees (is (punctuator mark.SlashEqual)) ts ≡ false →
    sees (is (punctuator mark.PercentEqual)) ts ≡ false → sees (is (punctuator mark.ShiftLeftEqual)) ts ≡ false →
    sees (is (punctuator mark.ShiftRightEqual)) ts ≡ false → sees (is (punctuator mark.AmpersandEqual)) ts ≡ false →
    sees (is (punctuator mark.CaretEqual)) ts ≡ false → sees (is (punctuator mark.BarEqual)) ts ≡ false → next_word assign_word ts ≡ None
assign_missing [] a b c d e f g h i j k = refl
assign_missing (x ∷ ts) a b c d e f g h i j k = skipped _ _ a ∙ skipped _ _ b ∙ skipped _ _ c ∙ skipped _ _ d ∙ skipped _ _ e
    ∙ skipped _ _ f ∙ skipped _ _ g ∙ skipped _ _ h ∙ skipped _ _ i ∙ skipped _ _ j ∙ skipped _ _ k

-- ---- whether an operand begins

keyword_not_plain : (k : ℕ) → one_word plain_words (a_keyword k) ≡ false
keyword_not_plain k = grind (arith, nat_tests)

punct_not_plain : (p : ℕ) → one_word plain_words (a_punctuator p) ≡ false
punct_not_plain p = grind (arith, nat_tests)

-- the lexeme is an expression by itself, or a text
abbrev pub plain_kind : Lexeme → Bool
plain_kind (lexeme.Name n) = true
plain_kind (lexeme.Number value ty) = true
plain_kind (lexeme.Character value) = true
plain_kind (lexeme.Text b) = true
plain_kind _ = false

plain_is : (kind : Lexeme) → one_word plain_words (lexeme_word kind) ≡ plain_kind kind
plain_is (lexeme.Name n) = refl
plain_is (lexeme.Number value ty) = refl
plain_is (lexeme.Character value) = refl
plain_is (lexeme.Text b) = refl
plain_is lexeme.Include = refl
plain_is (lexeme.Keyword k) = keyword_not_plain k
plain_is (lexeme.Punct p) = punct_not_plain p

pub plain_next : (ts : List Token) (x : Token) → next_of ts ≡ Some x → sees (among plain_words) ts ≡ plain_kind x.kind
plain_next [] x e = cc
plain_next (y ∷ ts) x e = let same : y ≡ x = cc in plain_is y.kind ∙ ap (λ (t : Token). plain_kind t.kind) same

pub plain_end : (ts : List Token) → next_of ts ≡ None → sees (among plain_words) ts ≡ false
plain_end [] e = refl
plain_end (y ∷ ts) e = cc

before_operand : (a b c d e f g h r : Bool) → (a || (b || (c || (d || (e || (f || (g || (h || r)))))))) ≡
    (is_some (if a then Some step.PreIncrement else (if b then Some step.PreDecrement else None))
    || (is_some (if c then Some operator.AddressOf else (if d then Some operator.Dereference
    else (if e then Some operator.Plus else (if f then Some operator.Minus else (
    if g then Some operator.Complement else (if h then Some operator.Not else None)))))) || r))
before_operand true b c d e f g h r = refl
before_operand false true c d e f g h r = refl
before_operand false false true d e f g h r = refl
before_operand false false false true e f g h r = refl
before_operand false false false false true f g h r = refl
before_operand false false false false false true g h r = refl
before_operand false false false false false false true h r = refl
before_operand false false false false false false false true r = refl
before_operand false false false false false false false false r = refl

-- an operand begins that is no cast and does not begin with "("
pub bare_seen : (ts : List Token) → sees begins_bare ts ≡ (is_some
    (next_word step_word ts) || (is_some (next_word unary_word ts) || (sees (is (keyword key.Sizeof)) ts || sees (among plain_words) ts)))
bare_seen [] = refl
bare_seen (x ∷ ts) = before_operand (is (punctuator mark.PlusPlus) x) (is (punctuator mark.MinusMinus) x)
    (is (punctuator mark.Ampersand) x) (is (punctuator mark.Star) x)
    (is (punctuator mark.Plus) x) (is (punctuator mark.Minus) x) (is (punctuator mark.Tilde) x) (is (punctuator mark.Exclamation) x)
    (is (keyword key.Sizeof) x || among plain_words x)

-- an expression begins
pub first_seen : (ts : List Token) → sees (among first_words) ts ≡ (sees (is (punctuator mark.LeftParen)) ts || sees begins_bare ts)
first_seen [] = refl
first_seen (x ∷ ts) = refl
