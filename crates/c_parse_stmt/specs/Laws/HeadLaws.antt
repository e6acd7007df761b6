-- What stands in the parentheses of a `for` is read (ISO C11 6.8.5.3).
use Rattle.std.specs.Prelude.{◌≡◌, ℕ, suc, ◌-◌, ◌<◌, ◌≤◌, ◌||◌, Bool, true, List, [], ◌∷◌, ◌++◌, Option, refl}
use Rattle.std.proofs.Common.{ap, subst, arith, inl, inr}
use Rattle.c_ast.specs.declared.token.Span.{Span}
use Rattle.c_ast.specs.Seen.{Seen as Token}
use Rattle.c_ast.specs.declared.expr.Expr.{Expr}
use Rattle.c_ast.specs.declared.declaration.Decl.{Decl}
use Rattle.c_ast.specs.declared.punctuator.Punctuator.TheVariants as mark
use Rattle.c_grammar.specs.Words.{IsPunct, punctuator, end_of}
use Rattle.c_grammar.specs.Statements as grammar
use Rattle.c_parse_base.specs.Reading.Answer.{thens, makes}
use Rattle.c_parse_base.specs.Reading.Good.{Language, Begins, Good}
use Rattle.c_parse_base.specs.Reading.Languages.{Then, join, Either, nothing, Made}
use Rattle.c_parse_base.specs.Laws.Parts.{thens_good, makes_good, either_good}
use Rattle.c_parse_base.specs.Reading.Words.{is, place_of, Spot, spot, among}
use Rattle.c_parse_base.specs.Laws.WordGood.{good_as, punct_good, punct_begins}
use Rattle.c_parse_base.specs.Laws.WordListLaws.{or_left, or_right}
use Rattle.c_parse_base.specs.Reading.TypeNames.{begins_type}
use Rattle.c_parse_decl.specs.Reading.Objects.{LocalWord, local}
use Rattle.c_parse_decl.specs.Laws.Objects.LocalLaws.{local_good, local_begins_at}
use Rattle.c_parse_stmt.specs.declared.clause_read.MaybeRead.{MaybeRead}
use Rattle.c_parse_stmt.specs.declared.clause_read.FirstRead.{FirstRead}
use Rattle.c_parse_stmt.specs.declared.clause_read.ForHead.{ForHead}
use Rattle.c_parse_stmt.specs.Reading.Nodes.{first_local, first_expression, head_of}
use Rattle.c_parse_stmt.specs.Reading.Statements.{room, condition, maybe, first, for_head, simple_words}
use Rattle.c_parse_stmt.specs.Laws.ItemWords.{simple_apart}
use Rattle.c_parse_stmt.specs.Laws.ClauseLaws.{semicolon_closing, paren_closing, MaybeWord, maybe_word, LowMaybe, begins_maybe}
use Rattle.c_parse_stmt.specs.Laws.ClauseLaws.{maybe_good, maybe_begins}
use Rattle.c_parse_stmt.specs.Laws.Room.{some_room, has_room}

-- ---- what comes first in a `for`

abbrev pub FirstWord : Language Token FirstRead
FirstWord v w = grammar.First v.height v.decls v.tree w

abbrev pub LowFirst : ℕ → FirstRead → Type 0
LowFirst d v = v.height ≤ d

abbrev pub begins_first : Token → Bool
begins_first t = begins_type t || among simple_words t

abbrev FirstLocal : Language Token FirstRead
FirstLocal = Made first_local LocalWord

abbrev FirstExpression : Language Token FirstRead
FirstExpression = Made first_expression (MaybeWord mark.Semicolon)

expression_first : (m : MaybeRead) (w : List Token) → MaybeWord mark.Semicolon m w → FirstWord (first_expression m) w
expression_first m w (maybe_word z l is) = grammar.first_expression z l is

first_into : (v : FirstRead) (w : List Token) → Either FirstLocal FirstExpression v w → FirstWord v w
first_into v w (inl m) = subst (λ v. FirstWord v w) m.is (grammar.first_local m.word)
first_into v w (inr m) = subst (λ v. FirstWord v w) m.is (expression_first m.source w m.word)

first_out : (n : ℕ) (ds : List Decl) (e : Option Expr) (w : List Token) → grammar.First n ds e w →
    Either FirstLocal FirstExpression (record { decls = ds; tree = e; height = n }) w
first_out n ds e w (grammar.first_local {h = h} l) = inl (record { source = record { decls = ds; height = h }; is = refl; word = l })
first_out n ds e w (grammar.first_expression s m is) = inr (record {
  source = record { tree = e; height = n; end = end_of s };
  is = refl;
  word = maybe_word s m is;
})

local_first : (t : Token) → begins_type t ≡ true → Begins FirstLocal (t ∷ [])
local_first t e = let b = local_begins_at t e in record {
  value = first_local b.value;
  more = b.more;
  whole = record { source = b.value; is = refl; word = b.whole };
}

first_begins : Begins FirstWord []
first_begins = let b = maybe_begins mark.Semicolon in record {
  value = first_expression b.value;
  more = b.more;
  whole = expression_first b.value b.more b.whole;
}

module _ (d : ℕ) where
  local_room : (v : FirstRead) (w : List Token) → FirstLocal v w → LowFirst d v → room d ≡ true
  local_room v w m low = let high : suc m.source.height ≡ v.height = ap (λ v. v.height) m.is in has_room d (omega arith)

  first_local_good : 0 < d → Good (makes first_local (local (d - 1))) FirstLocal (LowFirst d) begins_type nothing
  first_local_good h = makes_good first_local FirstLocal (LowFirst d) nothing (local_good (d - 1))
      (λ a w m. record { source = a; is = refl; word = m }) (λ b w m. m)
      (λ a w m fits. omega (arith, fits)) (λ a w m fits. omega (arith, fits)) (λ a x e. refl)

  first_expression_good : Good (makes first_expression (maybe d mark.Semicolon)) FirstExpression (LowFirst d) (among simple_words) nothing
  first_expression_good = makes_good first_expression FirstExpression (LowFirst d) nothing (maybe_good mark.Semicolon semicolon_closing d)
      (λ a w m. record { source = a; is = refl; word = m }) (λ b w m. m)
      (λ a w m fits. fits) (λ a w m fits. fits) (λ a x e. refl)

  first_good : Good (first d) FirstWord (LowFirst d) begins_first nothing
  unfolding first
  first_good = good_as FirstWord (LowFirst d) begins_first
      (either_good begins_type (room d) begins_first (λ r. first_local_good (some_room d r)) first_expression_good
      local_first local_room (λ v w m. (local_good 0).starts m.source w m.word) simple_apart
      (λ x h. or_left (begins_type x) (among simple_words x) h) (λ x h. or_right (begins_type x) (among simple_words x) h))
      first_into (λ v w m. first_out v.height v.decls v.tree w m) (λ v w m low. low) (λ v w m low. low) (λ x h. h)

-- ---- what stands in the parentheses of a `for`

pub data HeadWord : ForHead → List Token → Type 0 where
  head_word : {f : FirstRead} {c s : MaybeRead} {u v w : List Token} (l : Token) → IsPunct mark.LeftParen l → FirstWord f u →
      MaybeWord mark.Semicolon c v → MaybeWord mark.RightParen s w →
      HeadWord (record { first = f; condition = c; step = s }) (l ∷ (u ++ (v ++ w)))

-- each part is within the limit
pub record LowHead (d : ℕ) (h : ForHead) : Type 0 where
  pub first : h.first.height ≤ d
  pub condition : h.condition.height ≤ d
  pub step : h.step.height ≤ d

abbrev TurnParts : Language Token (MaybeRead × MaybeRead)
TurnParts = Then (MaybeWord mark.Semicolon) (λ _. MaybeWord mark.RightParen)

abbrev ListParts : Language Token (FirstRead × (MaybeRead × MaybeRead))
ListParts = Then FirstWord (λ _. TurnParts)

abbrev HeadParts : Language Token (Span × (FirstRead × (MaybeRead × MaybeRead)))
HeadParts = Then (Spot (punctuator mark.LeftParen)) (λ _. ListParts)

head_into : (c : Span × (FirstRead × (MaybeRead × MaybeRead))) (w : List Token) → HeadParts c w → HeadWord (head_of c) w
head_into c w (join (spot l is) (join f (join a b))) = head_word l is f a b

head_out : (v : ForHead) (w : List Token) → HeadWord v w → Made head_of HeadParts v w
head_out v w (head_word {f = f} {c = c} {s = s} l is m a b) =
    record { source = (place_of l, (f, (c, s))); is = refl; word = join (spot l is) (join m (join a b)) }

turn_begins : Begins TurnParts []
turn_begins =
    let a = maybe_begins mark.Semicolon in
    let b = maybe_begins mark.RightParen in
    record { value = (a.value, b.value); more = a.more ++ b.more; whole = join a.whole b.whole }

list_begins : Begins ListParts []
list_begins = record {
  value = (first_begins.value, turn_begins.value);
  more = first_begins.more ++ turn_begins.more;
  whole = join first_begins.whole turn_begins.whole;
}

pub head_begins : Begins HeadWord []
head_begins =
    let b = punct_begins mark.LeftParen in
    record {
      value = head_of (b.value, list_begins.value);
      more = b.more ++ list_begins.more;
      whole = head_into (b.value, list_begins.value) (b.more ++ list_begins.more) (join b.whole list_begins.whole);
    }

module _ (d : ℕ) where
  turn_good : Good (thens (maybe d mark.Semicolon) (λ _. maybe d mark.RightParen)) TurnParts (λ c. LowMaybe d c.0 × LowMaybe d c.1)
      (begins_maybe mark.Semicolon) nothing
  turn_good = thens_good (λ _. maybe d mark.RightParen) (λ _. MaybeWord mark.RightParen) (λ _. LowMaybe d) (begins_maybe mark.RightParen)
      (λ _. nothing)
      (maybe_good mark.Semicolon semicolon_closing d) (λ _ _. maybe_good mark.RightParen paren_closing d)
      (λ _. maybe_begins mark.RightParen) (λ a x e. refl)

  list_good : Good (thens (first d) (λ _. thens (maybe d mark.Semicolon) (λ _. maybe d mark.RightParen))) ListParts
      (λ c. LowFirst d c.0 × (LowMaybe d c.1.0 × LowMaybe d c.1.1)) begins_first nothing
  list_good = thens_good (λ _. thens (maybe d mark.Semicolon) (λ _. maybe d mark.RightParen)) (λ _. TurnParts)
      (λ _ c. LowMaybe d c.0 × LowMaybe d c.1) (begins_maybe mark.Semicolon) (λ _. nothing)
      (first_good d) (λ _ _. turn_good) (λ _. turn_begins) (λ a x e. refl)

  pub head_good : Good (for_head d) HeadWord (LowHead d) (is (punctuator mark.LeftParen)) nothing
  unfolding for_head
  head_good = makes_good head_of HeadWord (LowHead d) nothing
      (thens_good (λ _. thens (first d) (λ _. thens (maybe d mark.Semicolon) (λ _. maybe d mark.RightParen))) (λ _. ListParts)
      (λ _ c. LowFirst d c.0 × (LowMaybe d c.1.0 × LowMaybe d c.1.1)) begins_first (λ _. nothing)
      (punct_good mark.LeftParen) (λ _ _. list_good) (λ _. list_begins) (λ a x e. refl))
      head_into head_out
      (λ a w m fits. record { first = fits.1.0; condition = fits.1.1.0; step = fits.1.1.1 })
      (λ a w m fits. (tt, (fits.first, (fits.condition, fits.step)))) (λ a x e. refl)
