-- The parsers of the declarators of a member read their language, behind the members before it.
use Rattle.std.specs.Prelude.{◌≡◌, ℕ, ◌≤◌, max, Bool, true, ◌||◌, ◌==◌, List, [], ◌∷◌, ◌++◌, None, refl}
use Rattle.std.proofs.Common.{sym, ◌∙◌, ap, subst, append_assoc, arith}
use Rattle.c_ast.specs.declared.token.Span.{Span}
use Rattle.c_ast.specs.Seen.{Seen as Token}
use Rattle.c_ast.specs.declared.token.Lexeme.TheVariants as lexeme
use Rattle.c_ast.specs.declared.expr.CType.{CType}
use Rattle.c_ast.specs.declared.declaration.Decl.{Decl}
use Rattle.c_ast.specs.declared.punctuator.Punctuator.TheVariants as mark
use Rattle.c_grammar.specs.Words.{punctuator, span_of}
use Rattle.c_grammar.specs.Structs as grammar
use Rattle.c_parse_base.specs.Reading.Good.{Language, Begins, Good}
use Rattle.c_parse_base.specs.Reading.Languages.{Then, join, Chain, once, again, Always, nothing, Made}
use Rattle.c_parse_base.specs.Laws.Parts.{thens_good, makes_good}
use Rattle.c_parse_base.specs.Laws.ChainLaws.{MayTurn, chain_good}
use Rattle.c_parse_base.specs.Reading.Words.{is, punct, place_of, token_of, Spot, spot}
use Rattle.c_parse_base.specs.Laws.WordGood.{good_as, punct_good, punct_begins, spot_begins}
use Rattle.c_parse_base.specs.Laws.WordListLaws.{is_at, both_false, or_false}
use Rattle.c_parse_decl.specs.declared.declarators.declared.Declared.{Declared}
use Rattle.c_parse_decl.specs.Reading.Declarators as declarators_below
use Rattle.c_parse_decl.specs.Reading.Declarators.{DeclaratorWord, begins_declarator, goes_on_declarator, declarator}
use Rattle.c_parse_decl.specs.Laws.Declarators.DeclaratorLaws.{declarator_good, declarator_begins_at}
use Rattle.c_parse_decl.specs.declared.members.member_list.MemberList.{MemberList}
use Rattle.c_parse_decl.specs.Reading.Members.{decl_of, extended, free, further, declarators, ended}

-- at most this many levels stand below a member of the list
abbrev pub LowList : ℕ → MemberList → Type 0
LowList d a = a.height ≤ d

-- the ones, and the others behind them
abbrev pub appended : MemberList → MemberList → MemberList
appended a b = record { decls = a.decls ++ b.decls; height = max a.height b.height }

-- "," declr, behind other members
abbrev pub Further : CType → MemberList → Language Token MemberList
Further of a = Made (λ c. extended a c.1) (Then (Spot (punctuator mark.Comma)) (λ _. DeclaratorWord of))

abbrev One : CType → MemberList → Language Token MemberList
One of a = Made (extended a) (DeclaratorWord of)

-- declr { "," declr }
abbrev pub ListWord : CType → Language Token MemberList
ListWord of m w = grammar.Declarators of m.height m.decls w

-- declr { "," declr }, behind other members
abbrev pub DeclaratorsWord : CType → MemberList → Language Token MemberList
DeclaratorsWord of a = Made (appended a) (ListWord of)

-- likewise, and ";"
abbrev pub EndedWord : CType → MemberList → Language Token MemberList
EndedWord of a = Made (λ (c : MemberList × Span). c.0) (Then (DeclaratorsWord of a) (λ _. Spot (punctuator mark.Semicolon)))

-- ---- the words

abbrev pub comma : Token → Bool
comma = is (punctuator mark.Comma)

-- the tokens that go on behind declarators
abbrev pub goes_on_list : MemberList → Token → Bool
goes_on_list a t = is (punctuator mark.LeftBracket) t || comma t

pub declarator_begins : (of : CType) → Begins (DeclaratorWord of) []
declarator_begins of =
    let t = token_of (lexeme.Name []) in
    let b = declarator_begins_at of t refl in
    record { value = b.value; more = t ∷ b.more; whole = b.whole }

further_begins : (of : CType) (a : MemberList) (t : Token) → comma t ≡ true → Begins (Further of a) (t ∷ [])
further_begins of a t e =
    let b = spot_begins (punctuator mark.Comma) (λ _. DeclaratorWord of) t e (declarator_begins of) in
    record { value = extended a b.value.1; more = b.more; whole = record { source = b.value; is = refl; word = b.whole } }

-- ---- lists of members

abbrev listed : List Decl → ℕ → MemberList
listed ds h = record { decls = ds; height = h }

same_list : (ds es : List Decl) (h k : ℕ) → ds ≡ es → h ≡ k → listed ds h ≡ listed es k
same_list ds es h k e f = ap (λ ds. listed ds h) e ∙ ap (listed es) f

-- one more member behind both
pub extended_behind : (a b : MemberList) (v : Declared) → appended a (extended b v) ≡ extended (appended a b) v
extended_behind a b v =
    same_list (a.decls ++ (b.decls ++ decl_of v ∷ [])) ((a.decls ++ b.decls) ++ decl_of v ∷ []) (max a.height (max b.height v.height))
    (max (max a.height b.height) v.height)
    (sym (append_assoc a.decls b.decls (decl_of v ∷ []))) (omega arith)

-- ---- bridges

abbrev one_of : Declared → MemberList
one_of v = listed (decl_of v ∷ []) v.height

one_into : (of : CType) (v : Declared) (w : List Token) → DeclaratorWord of v w → ListWord of (one_of v) w
one_into of v w d = subst (λ s. ListWord of (listed (record { name = v.name; ty = v.ty; init = None; span = s } ∷ []) v.height) w)
    (sym d.span) (grammar.first d.declarator)

further_into : (of : CType) (b : MemberList) (c : Span × Declared) (w u : List Token) → ListWord of b w →
    Then (Spot (punctuator mark.Comma)) (λ _. DeclaratorWord of) c u →
    ListWord of (extended b c.1) (w ++ u)
further_into of b c w u m (join {b = v} {v = x} (spot t e) d) =
    subst (λ s. ListWord of (listed (b.decls ++ record { name = v.name; ty = v.ty; init = None; span = s } ∷ []) (max b.height v.height))
    (w ++ t ∷ x)) (sym d.span)
    (grammar.further t m e d.declarator)

declarators_into : (of : CType) (a b : MemberList) (w : List Token) → Chain (One of a) (Further of) b w → DeclaratorsWord of a b w
declarators_into of a b w (once m) = record { source = one_of m.source; is = m.is; word = one_into of m.source w m.word }
declarators_into of a b w (again {a = c} {w = x} {u = u} l m) =
    let before = declarators_into of a c x l in
    record {
      source = extended before.source m.source.1;
      is = extended_behind a before.source m.source.1 ∙ ap (λ c. extended c m.source.1) before.is ∙ m.is;
      word = further_into of before.source m.source x u before.word m.word;
    }

declarators_out : (of : CType) (a : MemberList) (h : ℕ) (ds : List Decl) (w : List Token) → grammar.Declarators of h ds w →
    Chain (One of a) (Further of) (appended a (listed ds h)) w
declarators_out of a h ds w (grammar.first {name = name} {ty = ty} d) =
    once (record {
      source = record { name = name; ty = ty; height = h; span = span_of w };
      is = refl;
      word = record { declarator = d; span = refl };
    })
declarators_out of a h ds w (grammar.further {h = j} {k = k} {ds = es} {name = name} {ty = ty} {u = u} {v = v} c l e d) =
    let next : Declared = record { name = name; ty = ty; height = k; span = span_of v } in
    again (declarators_out of a j es u l) (record {
      source = (place_of c, next);
      is = sym (extended_behind a (listed es j) next);
      word = join (spot c e) (record { declarator = d; span = refl });
    })

declarators_back : (of : CType) (a b : MemberList) (w : List Token) → DeclaratorsWord of a b w → Chain (One of a) (Further of) b w
declarators_back of a b w m = subst (λ b. Chain (One of a) (Further of) b w) m.is
    (declarators_out of a m.source.height m.source.decls w m.word)

declarators_begin : (of : CType) (a : MemberList) → Begins (DeclaratorsWord of a) []
declarators_begin of a =
    let b = declarator_begins of in
    record {
      value = extended a b.value;
      more = b.more;
      whole =
          record { source = one_of b.value; is = refl; word = one_into of b.value b.more b.whole };
    }

pub ended_begins : (of : CType) (a : MemberList) → Begins (EndedWord of a) []
ended_begins of a =
    let b = declarators_begin of a in
    let z = punct_begins mark.Semicolon in
    record {
      value = b.value;
      more = b.more ++ z.more;
      whole =
          record { source = (b.value, z.value); is = refl; word = join b.whole z.whole };
    }

-- ---- the parsers

module _ (d : ℕ) (of : CType) where
  pub further_good : (a : MemberList) → LowList d a → Good (further d of a) (Further of a) (LowList d) comma
      (λ _ t. is (punctuator mark.LeftBracket) t)
  unfolding further
  further_good a low = makes_good (λ c. extended a c.1) (Further of a) (LowList d) (λ _ t. is (punctuator mark.LeftBracket) t)
      (thens_good (λ _. declarator d of) (λ _. DeclaratorWord of) (λ _. declarators_below.Low d) begins_declarator (λ _. goes_on_declarator)
      (punct_good mark.Comma) (λ _ _. declarator_good d of) (λ _. declarator_begins of) (λ a x e. refl))
      (λ c w m. record { source = c; is = refl; word = m }) (λ b w m. m)
      (λ c w m fits. omega (arith, fits.1)) (λ c w m fits. (tt, omega (arith, fits))) (λ a x e. e)

  may_go_on : (a b : MemberList) (u : List Token) → Further of a b u → LowList d b → MayTurn (LowList d) free a
  may_go_on a b u m low = record { fits = omega (arith, ap (λ (v : MemberList). v.height) m.is); has_room = refl }

  pub declarators_good : (a : MemberList) → LowList d a → Good (declarators d of a) (DeclaratorsWord of a)
      (LowList d) begins_declarator goes_on_list
  unfolding declarators
  declarators_good a low = good_as (DeclaratorsWord of a) (LowList d) begins_declarator
      (chain_good comma free (further d of) (Further of) (λ b may. further_good b may.fits) goes_on_list
      (makes_good (extended a) (One of a) (LowList d) (λ _ t. is (punctuator mark.LeftBracket) t) (declarator_good d of)
      (λ c w m. record { source = c; is = refl; word = m }) (λ b w m. m) (λ c w m fits. omega (arith, fits))
      (λ c w m fits. omega (arith, fits)) (λ a x e. e))
      (further_begins of) may_go_on
      (λ a x e. is_at (λ w. w == punctuator mark.LeftBracket) (punctuator mark.Comma) x e)
      (λ a x e. both_false (is (punctuator mark.LeftBracket) x) (comma x) e))
      (declarators_into of a) (declarators_back of a) (λ v w m h. h) (λ v w m h. h) (λ x e. e)

  pub ended_good : (a : MemberList) → LowList d a → Good (ended d of a) (EndedWord of a) (LowList d) begins_declarator nothing
  unfolding ended
  ended_good a low = makes_good (λ c. c.0) (EndedWord of a) (LowList d) nothing
      (thens_good (λ _. punct mark.Semicolon) (λ _. Spot (punctuator mark.Semicolon)) (λ _. Always) (is (punctuator mark.Semicolon))
      (λ _. nothing)
      (declarators_good a low) (λ _ _. punct_good mark.Semicolon) (λ _. punct_begins mark.Semicolon)
      (λ a x e. or_false (is (punctuator mark.LeftBracket) x) (comma x)
      (is_at (λ w. w == punctuator mark.LeftBracket) (punctuator mark.Semicolon) x e)
      (is_at (λ w. w == punctuator mark.Comma) (punctuator mark.Semicolon) x e)))
      (λ c w m. record { source = c; is = refl; word = m }) (λ b w m. m)
      (λ c w m fits. fits.0) (λ c w m fits. (fits, tt)) (λ a x e. refl)
