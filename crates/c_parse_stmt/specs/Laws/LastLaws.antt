-- The statements without a statement in them are read: expressions, `;`, `return`, `break` and `continue`.
use Rattle.std.specs.Prelude.{◌≡◌, ℕ, ◌||◌, Bool, true, false, if◌then◌else◌, List, [], ◌∷◌, ◌++◌, refl}
use Rattle.std.proofs.Common.{subst, arith, inl, inr}
use Rattle.c_ast.specs.declared.token.Span.{Span}
use Rattle.c_ast.specs.Seen.{Seen as Token}
use Rattle.c_ast.specs.declared.statement.Stmt.TheVariants as stmt
use Rattle.c_ast.specs.declared.keyword.Keyword.TheVariants as key
use Rattle.c_ast.specs.declared.punctuator.Punctuator.TheVariants as mark
use Rattle.c_grammar.specs.Words.{word_of, keyword, punctuator}
use Rattle.c_grammar.specs.Statements as grammar
use Rattle.c_grammar.specs.Statements.{Place, Outside, InLoop, Closed}
use Rattle.c_parse_base.specs.Reading.Answer.{Parser, either}
use Rattle.c_parse_base.specs.Reading.Good.{Language, Begins, StartsIn, Good}
use Rattle.c_parse_base.specs.Reading.Languages.{Then, join, Either, Always, nothing, Made}
use Rattle.c_parse_base.specs.Laws.Parts.{thens_good, makes_good, either_good}
use Rattle.c_parse_base.specs.Reading.Words.{is, punct, place_of, Spot, spot, among, apart_from}
use Rattle.c_parse_base.specs.Laws.WordGood.{key_good, punct_good, punct_begins, spot_starts, spot_begins}
use Rattle.c_parse_base.specs.Laws.SpanLaws.{span_between}
use Rattle.c_parse_base.specs.Laws.WordListLaws.{apart_words, is_not_first, or_left, or_right}
use Rattle.c_parse_stmt.specs.declared.clause_read.MaybeRead.{MaybeRead}
use Rattle.c_parse_stmt.specs.declared.statement_read.StatementRead.{StatementRead}
use Rattle.c_parse_stmt.specs.Reading.Nodes.{simple_of, return_of, break_of, continue_of}
use Rattle.c_parse_stmt.specs.Reading.Statements.{Low, StatementWord, simple_words, last_words, maybe, simple, returned, broken}
use Rattle.c_parse_stmt.specs.Reading.Statements.{continued, continued_or, last}
use Rattle.c_parse_stmt.specs.Laws.ClauseLaws.{MaybeWord, maybe_word, LowMaybe, begins_maybe, semicolon_closing, maybe_good, maybe_begins}
use Rattle.c_parse_stmt.specs.Laws.ClauseLaws.{maybe_begins_at}

-- `else` goes on behind a statement that is not closed
abbrev pub statement_on : StatementRead → Token → Bool
statement_on v t = if v.closed then false else is (keyword key.Else) t

-- ---- a choice by one word

module _ {A : Type 0} (w : ℕ) (ws : List ℕ) {L M : Language Token A} where
  pub keyed_good : (room : Bool) {p q : Parser Token A} {F : A → Type 0} {goes_on : A → Token → Bool} → apart_from ws (w ∷ []) ≡ true →
      (room ≡ true → Good p L F (is w) goes_on) → Good q M F (among ws) goes_on → ((t : Token) → is w t ≡ true → Begins L (t ∷ [])) →
      ((a : A) (u : List Token) → L a u → F a → room ≡ true) → ((a : A) (u : List Token) → L a u → StartsIn (is w) u) →
      Good (either (is w) room p q) (Either L M) F (among (w ∷ ws)) goes_on
  keyed_good room apart gp gq begins needs starts = either_good (is w) room (among (w ∷ ws)) gp gq begins needs starts
      (λ x h. is_not_first w (word_of x) (apart_words ws (w ∷ []) apart (word_of x) h)) (λ x h. or_left (is w x) (among ws x) h)
      (λ x h. or_right (is w x) (among ws x) h)

  pub keyed_begins : ((t : Token) → is w t ≡ true → Begins L (t ∷ [])) → ((t : Token) → among ws t ≡ true → Begins M (t ∷ [])) →
      (t : Token) → among (w ∷ ws) t ≡ true → Begins (Either L M) (t ∷ [])
  keyed_begins one other t e = go (is w t) refl e
    where
      go : (b : Bool) → is w t ≡ b → (b || among ws t) ≡ true → Begins (Either L M) (t ∷ [])
      go true h e = let b = one t h in record { value = b.value; more = b.more; whole = inl b.whole }
      go false h e = let b = other t e in record { value = b.value; more = b.more; whole = inr b.whole }

module _ {A B : Type 0} (w : ℕ) (N : Span → Language Token B) (f : Span × B → A) where
  -- what is behind a word, made into a value
  pub worded_begins : ((place : Span) → Begins (N place) []) → (t : Token) → is w t ≡ true → Begins (Made f (Then (Spot w) N)) (t ∷ [])
  worded_begins n t e = let b = spot_begins w N t e (n (place_of t)) in
      record { value = f b.value; more = b.more; whole = record { source = b.value; is = refl; word = b.whole } }

  pub worded_starts : (v : A) (u : List Token) → Made f (Then (Spot w) N) v u → StartsIn (is w) u
  worded_starts v u m = spot_starts w N m.source u m.word

-- ---- expressions and `;`

abbrev pub SimpleWord : Language Token StatementRead
SimpleWord = Made simple_of (MaybeWord mark.Semicolon)

simple_word : (q : Place) (m : MaybeRead) (w : List Token) → MaybeWord mark.Semicolon m w → StatementWord q (simple_of m) w
simple_word q m w (maybe_word z (grammar.written e) is) = grammar.expression z e is
simple_word q m w (maybe_word z grammar.left_out is) = grammar.empty z is

simple_into : (q : Place) (v : StatementRead) (w : List Token) → SimpleWord v w → StatementWord q v w
simple_into q v w m = subst (λ v. StatementWord q v w) m.is (simple_word q m.source w m.word)

simple_good : (d : ℕ) → Good (simple d) SimpleWord (Low d) (among simple_words) statement_on
unfolding simple
simple_good d = makes_good simple_of SimpleWord (Low d) statement_on (maybe_good mark.Semicolon semicolon_closing d)
    (λ a w m. record { source = a; is = refl; word = m }) (λ b w m. m) (λ a w m fits. fits) (λ a w m fits. fits) (λ a x e. refl)

simple_begins_at : (t : Token) → among simple_words t ≡ true → Begins SimpleWord (t ∷ [])
simple_begins_at t e = let b = maybe_begins_at mark.Semicolon t e in
    record { value = simple_of b.value; more = b.more; whole = record { source = b.value; is = refl; word = b.whole } }

-- some statement
pub statement_begins : (q : Place) → Begins (StatementWord q) []
statement_begins q = let b = maybe_begins mark.Semicolon in record {
  value = simple_of b.value;
  more = b.more;
  whole = simple_word q b.value b.more b.whole;
}

-- ---- `return`

abbrev pub ReturnWord : Language Token StatementRead
ReturnWord = Made return_of (Then (Spot (keyword key.Return)) (λ _. MaybeWord mark.Semicolon))

return_word : (q : Place) (c : Span × MaybeRead) (w : List Token) →
    Then (Spot (keyword key.Return)) (λ _. MaybeWord mark.Semicolon) c w → StatementWord q (return_of c) w
return_word q c w (join (spot t ist) (maybe_word {n = n} {e = e} {u = u} z m isz)) =
    subst (λ s. grammar.Statement q Closed n (stmt.Return e s) (t ∷ u ++ z ∷ [])) (span_between t u z) (grammar.return_word t z ist m isz)

pub return_into : (q : Place) (v : StatementRead) (w : List Token) → ReturnWord v w → StatementWord q v w
return_into q v w m = subst (λ v. StatementWord q v w) m.is (return_word q m.source w m.word)

pub return_good : (d : ℕ) → Good (returned d) ReturnWord (Low d) (is (keyword key.Return)) statement_on
unfolding returned
return_good d = makes_good return_of ReturnWord (Low d) statement_on
    (thens_good (λ _. maybe d mark.Semicolon) (λ _. MaybeWord mark.Semicolon) (λ _. LowMaybe d) (begins_maybe mark.Semicolon)
    (λ _. nothing) (key_good key.Return)
    (λ _ _. maybe_good mark.Semicolon semicolon_closing d) (λ _. maybe_begins mark.Semicolon) (λ a x e. refl))
    (λ a w m. record { source = a; is = refl; word = m }) (λ b w m. m) (λ a w m fits. fits.1) (λ a w m fits. (tt, fits)) (λ a x e. refl)

pub return_begins : (t : Token) → is (keyword key.Return) t ≡ true → Begins ReturnWord (t ∷ [])
return_begins = worded_begins (keyword key.Return) (λ _. MaybeWord mark.Semicolon) return_of (λ _. maybe_begins mark.Semicolon)

pub return_starts : (v : StatementRead) (u : List Token) → ReturnWord v u → StartsIn (is (keyword key.Return)) u
return_starts = worded_starts (keyword key.Return) (λ _. MaybeWord mark.Semicolon) return_of

-- ---- `break` and `continue`

abbrev Ended : ℕ → Language Token (Span × Span)
Ended w = Then (Spot w) (λ _. Spot (punctuator mark.Semicolon))

abbrev pub BreakWord : Language Token StatementRead
BreakWord = Made break_of (Ended (keyword key.Break))

abbrev pub ContinueWord : Language Token StatementRead
ContinueWord = Made continue_of (Ended (keyword key.Continue))

break_word : (c : Span × Span) (w : List Token) → Ended (keyword key.Break) c w → StatementWord InLoop (break_of c) w
break_word c w (join (spot t ist) (spot z isz)) = grammar.break_word t z ist isz

continue_word : (c : Span × Span) (w : List Token) → Ended (keyword key.Continue) c w → StatementWord InLoop (continue_of c) w
continue_word c w (join (spot t ist) (spot z isz)) = grammar.continue_word t z ist isz

break_good : (d : ℕ) → Good broken BreakWord (Low d) (is (keyword key.Break)) statement_on
unfolding broken
break_good d = makes_good break_of BreakWord (Low d) statement_on
    (thens_good (λ _. punct mark.Semicolon) (λ _. Spot (punctuator mark.Semicolon)) (λ _. Always) (is (punctuator mark.Semicolon))
    (λ _. nothing) (key_good key.Break)
    (λ _ _. punct_good mark.Semicolon) (λ _. punct_begins mark.Semicolon) (λ a x e. refl))
    (λ a w m. record { source = a; is = refl; word = m }) (λ b w m. m) (λ a w m fits. omega arith) (λ a w m fits. (tt, tt)) (λ a x e. refl)

continue_good : (d : ℕ) → Good continued ContinueWord (Low d) (is (keyword key.Continue)) statement_on
unfolding continued
continue_good d = makes_good continue_of ContinueWord (Low d) statement_on
    (thens_good (λ _. punct mark.Semicolon) (λ _. Spot (punctuator mark.Semicolon)) (λ _. Always) (is (punctuator mark.Semicolon))
    (λ _. nothing) (key_good key.Continue)
    (λ _ _. punct_good mark.Semicolon) (λ _. punct_begins mark.Semicolon) (λ a x e. refl))
    (λ a w m. record { source = a; is = refl; word = m }) (λ b w m. m) (λ a w m fits. omega arith) (λ a w m fits. (tt, tt)) (λ a x e. refl)

break_begins : (t : Token) → is (keyword key.Break) t ≡ true → Begins BreakWord (t ∷ [])
break_begins = worded_begins (keyword key.Break) (λ _. Spot (punctuator mark.Semicolon)) break_of (λ _. punct_begins mark.Semicolon)

continue_begins : (t : Token) → is (keyword key.Continue) t ≡ true → Begins ContinueWord (t ∷ [])
continue_begins = worded_begins (keyword key.Continue) (λ _. Spot (punctuator mark.Semicolon)) continue_of
    (λ _. punct_begins mark.Semicolon)

-- ---- all of them, but `return`

abbrev ContinueOr : Language Token StatementRead
ContinueOr = Either ContinueWord SimpleWord

abbrev pub LastWord : Place → Language Token StatementRead
LastWord Outside = SimpleWord
LastWord InLoop = Either BreakWord ContinueOr

-- an expression, or none, in each place
pub simple_last : (q : Place) (v : StatementRead) (w : List Token) → SimpleWord v w → LastWord q v w
simple_last Outside v w m = m
simple_last InLoop v w m = inr (inr m)

pub last_into : (q : Place) (v : StatementRead) (w : List Token) → LastWord q v w → StatementWord q v w
last_into Outside v w m = simple_into Outside v w m
last_into InLoop v w (inl m) = subst (λ v. StatementWord InLoop v w) m.is (break_word m.source w m.word)
last_into InLoop v w (inr (inl m)) = subst (λ v. StatementWord InLoop v w) m.is (continue_word m.source w m.word)
last_into InLoop v w (inr (inr m)) = simple_into InLoop v w m

continue_or_good : (d : ℕ) → Good (continued_or d) ContinueOr (Low d) (among (keyword key.Continue ∷ simple_words)) statement_on
unfolding continued_or
continue_or_good d = keyed_good (keyword key.Continue) simple_words true refl (λ _. continue_good d) (simple_good d) continue_begins
    (λ a u m f. refl)
    (worded_starts (keyword key.Continue) (λ _. Spot (punctuator mark.Semicolon)) continue_of)

pub last_good : (d : ℕ) (q : Place) → Good (last d q) (LastWord q) (Low d) (among (last_words q)) statement_on
unfolding last
last_good d Outside = simple_good d
last_good d InLoop = keyed_good (keyword key.Break) (keyword key.Continue ∷ simple_words) true refl (λ _. break_good d)
    (continue_or_good d) break_begins (λ a u m f. refl)
    (worded_starts (keyword key.Break) (λ _. Spot (punctuator mark.Semicolon)) break_of)

pub last_begins_at : (q : Place) (t : Token) → among (last_words q) t ≡ true → Begins (LastWord q) (t ∷ [])
last_begins_at Outside = simple_begins_at
last_begins_at InLoop = keyed_begins (keyword key.Break) (keyword key.Continue ∷ simple_words) break_begins
    (keyed_begins (keyword key.Continue) simple_words continue_begins simple_begins_at)
