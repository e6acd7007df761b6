-- The parser of the bodies of structs reads their language.
use Rattle.std.specs.Prelude.{◌≡◌, ℕ, ◌≤◌, max, Bool, true, false, ◌||◌, ◌==◌, List, [], ◌∷◌, ◌++◌, is_some, refl}
use Rattle.std.proofs.Common.{sym, ◌∙◌, ap, subst, arith}
use Rattle.c_ast.specs.declared.token.Span.{Span}
use Rattle.c_ast.specs.Seen.{Seen as Token}
use Rattle.c_ast.specs.declared.token.Lexeme.TheVariants as lexeme
use Rattle.c_ast.specs.declared.keyword.Keyword.TheVariants as key
use Rattle.c_ast.specs.declared.declaration.Decl.{Decl}
use Rattle.c_ast.specs.declared.punctuator.Punctuator.TheVariants as mark
use Rattle.c_ast.specs.Words.{keyword_number}
use Rattle.c_grammar.specs.Words.{word_of, keyword, punctuator, span_of, a_name}
use Rattle.c_grammar.specs.Structs as grammar
use Rattle.c_parse_base.specs.Reading.Answer.{thens}
use Rattle.c_parse_base.specs.Reading.Good.{Language, Begins, Good}
use Rattle.c_parse_base.specs.Reading.Languages.{Then, join, Chain, once, again, Always, nothing, Made}
use Rattle.c_parse_base.specs.Laws.Parts.{thens_good, makes_good}
use Rattle.c_parse_base.specs.Laws.ChainLaws.{MayTurn, chain_good}
use Rattle.c_parse_base.specs.Reading.Words.{is, punct, place_of, token_of, Spot, spot}
use Rattle.c_parse_base.specs.Laws.WordGood.{good_as, punct_good, punct_begins, spot_begins}
use Rattle.c_parse_base.specs.Laws.WordListLaws.{is_at}
use Rattle.c_parse_base.specs.Laws.Bases.{base_begins_at}
use Rattle.c_parse_base.specs.declared.type_read.TypeRead.{TypeRead}
use Rattle.c_parse_base.specs.Reading.TypeWords.{first_at, size_at}
use Rattle.c_parse_base.specs.Reading.TypeNames.{begins_type}
use Rattle.c_parse_base.specs.Laws.TypeWordLaws.{more_words}
use Rattle.c_parse_base.specs.Laws.TypeOrders.{BaseWord}
use Rattle.c_parse_base.specs.Laws.TypeNameLaws.{base_good}
use Rattle.c_parse_decl.specs.Reading.Declarators.{begins_declarator}
use Rattle.c_parse_decl.specs.declared.members.member_list.MemberList.{MemberList}
use Rattle.c_parse_decl.specs.declared.members.body_read.BodyRead.{BodyRead}
use Rattle.c_parse_decl.specs.Reading.Members.{Low, BodyWord, in_braces, no_members, free, body_of, ended, member, members, body}
use Rattle.c_parse_decl.specs.Laws.Members.ListLaws.{LowList, appended, DeclaratorsWord, EndedWord, ended_begins, ended_good}

-- ---- members

-- member
abbrev pub MemberWord : Language Token MemberList
MemberWord m w = grammar.Member m.height m.decls w

-- member, behind other members
abbrev pub MemberBehind : MemberList → Language Token MemberList
MemberBehind a = Made (appended a) MemberWord

-- member { member }
abbrev pub MembersWord : Language Token MemberList
MembersWord m w = grammar.Members m.height m.decls w

-- a base, and what is declared behind it
abbrev Declaration : MemberList → Language Token (TypeRead × MemberList)
Declaration a = Then BaseWord (λ b. EndedWord b.ty a)

member_list : (of : TypeRead) (a : MemberList) (c : MemberList × Span) (u v : List Token) → BaseWord of u →
    Then (DeclaratorsWord of.ty a) (λ _. Spot (punctuator mark.Semicolon)) c v →
    MemberBehind a c.0 (u ++ v)
member_list of a c u v b (join l (spot s e)) = record { source = l.source; is = l.is; word = grammar.member s b.base l.word e }

member_into : (a : MemberList) (c : TypeRead × MemberList) (w : List Token) → Declaration a c w → MemberBehind a c.1 w
member_into a c w (join {a = of} {u = u} {v = v} b m) = subst (λ c. MemberBehind a c (u ++ v)) m.is (member_list of a m.source u v b m.word)

member_split : (a : MemberList) (h : ℕ) (ds : List Decl) (w : List Token) → grammar.Member h ds w →
    Made (λ (c : TypeRead × MemberList). c.1) (Declaration a) (appended a (record { decls = ds; height = h })) w
member_split a h ds w (grammar.member {base = of} {u = u} {v = v} s b l e) =
    let all : MemberList = record { decls = ds; height = h } in
    record {
      source = (record { ty = of; height = 0; end = (span_of u).end }, appended a all);
      is = refl;
      word = join (record { base = b; height = refl; end = refl })
          (record {
            source = (appended a all, place_of s);
            is = refl;
            word = join (record { source = all; is = refl; word = l }) (spot s e);
          });
    }

member_out : (a b : MemberList) (w : List Token) → MemberBehind a b w → Made (λ (c : TypeRead × MemberList). c.1) (Declaration a) b w
member_out a b w m = subst (λ b. Made (λ (c : TypeRead × MemberList). c.1) (Declaration a) b w) m.is
    (member_split a m.source.height m.source.decls w m.word)

-- a base has no level
base_low : (d : ℕ) (a : MemberList) (c : TypeRead × MemberList) (w : List Token) → Declaration a c w → c.0.height ≤ d
base_low d a c w (join b m) = omega (arith, b.height)

behind_none : (m : MemberList) → appended no_members m ≡ m
behind_none m = let same : max 0 m.height ≡ m.height = omega arith in ap (λ h. record { decls = m.decls; height = h }) same

members_into : (v : MemberList) (w : List Token) → Chain (MemberBehind no_members) MemberBehind v w → MembersWord v w
members_into v w (once m) = grammar.members (subst (λ v. MemberWord v w) (sym (behind_none m.source) ∙ m.is) m.word)
members_into v w (again {a = a} {w = x} {u = u} c m) = subst (λ v. MembersWord v (x ++ u)) m.is
    (grammar.more_members (members_into a x c) m.word)

members_split : (h : ℕ) (ds : List Decl) (w : List Token) → grammar.Members h ds w →
    Chain (MemberBehind no_members) MemberBehind (record { decls = ds; height = h }) w
members_split h ds w (grammar.members m) = let all : MemberList = record { decls = ds; height = h } in
    once (record { source = all; is = behind_none all; word = m })
members_split h ds w (grammar.more_members {k = k} {ds = es} {es = fs} {u = u} ms m) =
    again (members_split _ es u ms) (record { source = record { decls = fs; height = k }; is = refl; word = m })

-- ---- the words

-- the words that go on behind type words
abbrev more_word : ℕ → Bool
more_word w = is_some (size_at w) || (w == keyword key.Int)

name_no_word : more_word 1 ≡ false
unfolding size_at
name_no_word = refl

star_no_word : more_word (punctuator mark.Star) ≡ false
unfolding size_at
star_no_word = refl

-- no declarator begins with a word that goes on behind type words
no_more : (t : Token) → begins_declarator t ≡ true → more_words t ≡ false
no_more t h = by_name (is a_name t) refl h
  where
    by_star : (b : Bool) → is (punctuator mark.Star) t ≡ b → (b || false) ≡ true → more_words t ≡ false
    by_star true e h = is_at more_word (punctuator mark.Star) t e ∙ star_no_word
    by_star false e h = cc

    by_name : (b : Bool) → is a_name t ≡ b → (b || (is (punctuator mark.Star) t || false)) ≡ true → more_words t ≡ false
    by_name true e h = is_at more_word 1 t e ∙ name_no_word
    by_name false e h = by_star (is (punctuator mark.Star) t) refl h

member_begins : (a : MemberList) (t : Token) → begins_type t ≡ true → Begins (MemberBehind a) (t ∷ [])
member_begins a t e =
    let b = base_begins_at t e in
    let m = ended_begins b.value.ty a in
    record {
      value = m.value;
      more = b.more ++ m.more;
      whole = member_into a (b.value, m.value) (t ∷ b.more ++ m.more)
          (join b.whole m.whole);
    }

some_member : Begins (MemberBehind no_members) []
some_member =
    let t = token_of (lexeme.Keyword (keyword_number key.Void)) in
    let b = member_begins no_members t refl in
    record { value = b.value; more = t ∷ b.more; whole = b.whole }

members_begin : Begins MembersWord []
members_begin = let b = some_member in record { value = b.value; more = b.more; whole = members_into b.value b.more (once b.whole) }

-- ---- the parsers

module _ (d : ℕ) where
  pub member_good : (a : MemberList) → LowList d a → Good (member d a) (MemberBehind a) (LowList d) begins_type nothing
  unfolding member
  member_good a low = makes_good (λ c. c.1) (MemberBehind a) (LowList d) nothing
      (thens_good (λ b. ended d b.ty a) (λ b. EndedWord b.ty a) (λ _. LowList d) begins_declarator (λ _. nothing)
      (base_good d) (λ b _. ended_good d b.ty a low) (λ b. ended_begins b.ty a) (λ b. no_more))
      (member_into a) (member_out a) (λ c w m fits. fits.1) (λ c w m fits. (base_low d a c w m, fits)) (λ c x e. refl)

  may_go_on : (a b : MemberList) (u : List Token) → MemberBehind a b u → LowList d b → MayTurn (LowList d) free a
  may_go_on a b u m low = record { fits = omega (arith, ap (λ (v : MemberList). v.height) m.is); has_room = refl }

  pub members_good : Good (members d) MembersWord (LowList d) begins_type (λ _. begins_type)
  unfolding members
  members_good = good_as MembersWord (LowList d) begins_type
      (chain_good begins_type free (member d) MemberBehind (λ a may. member_good a may.fits) (λ _. begins_type)
      (member_good no_members (omega arith))
      member_begins may_go_on (λ a x e. refl) (λ a x e. (refl, e)))
      members_into (λ v w m. members_split v.height v.decls w m) (λ v w m h. h) (λ v w m h. h) (λ x e. e)

-- ---- bodies

-- what stands behind the left brace
abbrev Inside : Span → Language Token (MemberList × Span)
Inside l = Then MembersWord (λ _. Spot (punctuator mark.RightBrace))

inside_begins : (l : Span) → Begins (Inside l) []
inside_begins l =
    let m = members_begin in
    let r = punct_begins mark.RightBrace in
    record { value = (m.value, r.value); more = m.more ++ r.more; whole = join m.whole r.whole }

body_inside : (l : Token) (c : MemberList × Span) (w : List Token) → word_of l ≡ punctuator mark.LeftBrace → Inside (place_of l) c w →
    BodyWord (body_of (place_of l, c)) (l ∷ w)
body_inside l c w e (join m (spot r f)) = in_braces l r e m f

body_into : (c : Span × (MemberList × Span)) (w : List Token) → Then (Spot (punctuator mark.LeftBrace)) Inside c w → BodyWord (body_of c) w
body_into c w (join {b = b} {v = v} (spot l e) i) = body_inside l b v e i

body_out : (b : BodyRead) (w : List Token) → BodyWord b w → Made body_of (Then (Spot (punctuator mark.LeftBrace)) Inside) b w
body_out b w (in_braces {h = h} {ds = ds} l r e m f) =
    record { source = (place_of l, (record { decls = ds; height = h }, place_of r)); is = refl; word = join (spot l e) (join m (spot r f)) }

-- some body begins with a left brace
pub body_begins_at : (t : Token) → is (punctuator mark.LeftBrace) t ≡ true → Begins BodyWord (t ∷ [])
body_begins_at t e =
    let b = spot_begins (punctuator mark.LeftBrace) Inside t e (inside_begins (place_of t)) in
    record { value = body_of b.value; more = b.more; whole = body_into b.value (t ∷ b.more) b.whole }

-- the words with which a type begins
abbrev begins_word : ℕ → Bool
begins_word w = (w == keyword key.Struct) || ((w == keyword key.Void) || is_some (first_at w))

brace_begins_no_type : begins_word (punctuator mark.RightBrace) ≡ false
unfolding first_at
brace_begins_no_type = refl

-- a body is read
pub body_good : (d : ℕ) → Good (body d) BodyWord (Low d) (is (punctuator mark.LeftBrace)) nothing
unfolding body
body_good d = makes_good body_of BodyWord (Low d) nothing
    (thens_good (λ _. thens (members d) (λ _. punct mark.RightBrace)) Inside (λ _ c. c.0.height ≤ d × Unit {0}) begins_type (λ _. nothing)
    (punct_good mark.LeftBrace)
    (λ _ _. thens_good (λ _. punct mark.RightBrace) (λ _. Spot (punctuator mark.RightBrace)) (λ _. Always)
    (is (punctuator mark.RightBrace)) (λ _. nothing)
    (members_good d) (λ _ _. punct_good mark.RightBrace) (λ _. punct_begins mark.RightBrace)
    (λ a x e. is_at begins_word (punctuator mark.RightBrace) x e ∙ brace_begins_no_type))
    inside_begins (λ a x e. refl))
    body_into body_out (λ c w m fits. fits.1.0) (λ c w m fits. (tt, (fits, tt))) (λ c x e. refl)
