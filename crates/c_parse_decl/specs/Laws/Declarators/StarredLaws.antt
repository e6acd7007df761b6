-- Stars and a name behind a base are read.
use Rattle.std.specs.Prelude.{◌≡◌, ℕ, zero, suc, ◌≤◌, Bool, true, false, nat_lt, ◌==◌, ◌||◌, List, [], ◌∷◌, ◌++◌, refl}
use Rattle.std.proofs.Common.{sym, ◌∙◌, ap, subst, arith, inl, inr}
use Rattle.c_ast.specs.declared.token.Span.{Span}
use Rattle.c_ast.specs.Seen.{Seen as Token}
use Rattle.c_ast.specs.declared.expr.CType.{CType}
use Rattle.c_ast.specs.declared.punctuator.Punctuator.TheVariants as mark
use Rattle.c_grammar.specs.Words.{IsName, word_of, end_of, span_of, punctuator, a_name}
use Rattle.c_grammar.specs.Types as grammar
use Rattle.c_grammar.specs.Types.{Stars}
use Rattle.c_parse_base.specs.declared.words.Named.{Named}
use Rattle.c_parse_base.specs.Reading.Answer.{thens, makes}
use Rattle.c_parse_base.specs.Reading.Good.{Language, Begins, StartsIn, Good}
use Rattle.c_parse_base.specs.Reading.Languages.{Then, join, Either, Always, nothing, Made}
use Rattle.c_parse_base.specs.Laws.Lists.{starts_append}
use Rattle.c_parse_base.specs.Laws.Parts.{picks, thens_good, makes_good, either_good}
use Rattle.c_parse_base.specs.Reading.Words.{is, name, pick_name, place_of, Naming, naming, one_word}
use Rattle.c_parse_base.specs.Laws.WordGood.{good_as}
use Rattle.c_parse_base.specs.Reading.Spans.{Starting}
use Rattle.c_parse_base.specs.declared.type_read.TypeRead.{TypeRead}
use Rattle.c_parse_base.specs.Reading.TypeNames.{stars}
use Rattle.c_parse_base.specs.Laws.NameLaws.{name_word, name_good, name_begins, name_begins_at}
use Rattle.c_parse_base.specs.Laws.TypeNameLaws.{typed}
use Rattle.c_parse_base.specs.Laws.StarLaws.{StarsWord, stars_good, stars_begin_at}
use Rattle.c_parse_base.specs.Laws.WordListLaws.{is_at}
use Rattle.c_parse_base.specs.Laws.StartingLaws.{starting_good}
use Rattle.c_parse_base.specs.Laws.SpanLaws.{end_last}
use Rattle.c_parse_base.specs.Laws.Depths.{below_is, is_below}
use Rattle.c_parse_decl.specs.declared.declarators.declared.Declared.{Declared}
use Rattle.c_parse_decl.specs.Reading.Declarators.{Low, StarredWord, starred_name, begins_declarator, plain, typed_name, named_of, starred}

-- stars behind a base, and a name
abbrev Pointing : CType → Language Token (TypeRead × Named)
Pointing base = Then (StarsWord (plain base)) (λ _. Naming)

-- a name behind a base
abbrev Alone : CType → Language Token (TypeRead × Named)
Alone base = Made (λ n. (plain base, n)) Naming

abbrev TypedName : CType → Language Token (TypeRead × Named)
TypedName base = Either (Pointing base) (Alone base)

abbrev LowType : ℕ → TypeRead × Named → Type 0
LowType d c = c.0.height ≤ d

-- ---- first words

name_no_star : (t : Token) → picks pick_name t ≡ true → is (punctuator mark.Star) t ≡ false
name_no_star t h = ap (λ w. w == punctuator mark.Star) (name_word t h)

name_first : (t : Token) → picks pick_name t ≡ true → begins_declarator t ≡ true
name_first t h = ap (one_word (a_name ∷ punctuator mark.Star ∷ [])) (name_word t h)

star_first : (t : Token) → is (punctuator mark.Star) t ≡ true → begins_declarator t ≡ true
star_first t h = is_at (one_word (a_name ∷ punctuator mark.Star ∷ [])) (punctuator mark.Star) t h

-- ---- the two choices

pointing_good : (d : ℕ) (base : CType) → nat_lt 0 d ≡ true →
    Good (thens (stars d (plain base)) (λ _. name)) (Pointing base) (LowType d) (is (punctuator mark.Star)) nothing
pointing_good d base room = good_as (Pointing base) (LowType d) (is (punctuator mark.Star))
    (thens_good (λ _. name) (λ _. Naming) (λ _. Always) (picks pick_name) (λ _. nothing)
    (stars_good d (plain base) (below_is 0 d room)) (λ _ _. name_good) (λ _. name_begins) (λ a x h. name_no_star x h))
    (λ c w m. m) (λ c w m. m) (λ c w m fits. fits.0) (λ c w m low. (low, tt)) (λ x h. h)

alone_good : (d : ℕ) (base : CType) → Good (makes (λ n. (plain base, n)) name) (Alone base) (LowType d) (picks pick_name) nothing
alone_good d base = makes_good (λ n. (plain base, n)) (Alone base) (LowType d) nothing name_good
    (λ n w m. record { source = n; is = refl; word = m }) (λ c w m. m) (λ n w m fits. omega arith) (λ n w m fits. tt) (λ n x h. refl)

pointing_begins : (base : CType) (t : Token) → is (punctuator mark.Star) t ≡ true → Begins (Pointing base) (t ∷ [])
pointing_begins base t h =
    let b = stars_begin_at (plain base) t h in
    record {
      value = (b.value, name_begins.value);
      more = b.more ++ name_begins.more;
      whole = join b.whole name_begins.whole;
    }

pointing_room : (d : ℕ) (base : CType) (c : TypeRead × Named) (w : List Token) → Pointing base c w → LowType d c → nat_lt 0 d ≡ true
pointing_room d base c w (join s n) low = is_below 0 d (omega (arith, s.height))

pointing_starts : (base : CType) (c : TypeRead × Named) (w : List Token) → Pointing base c w → StartsIn (is (punctuator mark.Star)) w
pointing_starts base c w (join {a = a} {u = u} {v = v} s n) = starts_append (is (punctuator mark.Star)) u v
    ((stars_good 1 (plain base) (omega arith)).starts a u s)

typed_name_good : (d : ℕ) (base : CType) → Good (typed_name d base) (TypedName base) (LowType d) begins_declarator nothing
unfolding typed_name
typed_name_good d base = either_good (is (punctuator mark.Star)) (nat_lt 0 d) begins_declarator
    (pointing_good d base) (alone_good d base) (pointing_begins base) (pointing_room d base)
    (pointing_starts base) name_no_star star_first name_first

-- ---- from and to the grammar

starred_made : (base : CType) (v : Declared) (n : ℕ) (u : List Token) (t : Token) → Stars base n v.ty u → IsName v.name t →
    v.height ≡ n → v.span ≡ span_of (u ++ t ∷ []) →
    StarredWord base v (u ++ t ∷ [])
starred_made base v n u t s e height span =
    subst (λ h. StarredWord base (record { name = v.name; ty = v.ty; height = h; span = v.span }) (u ++ t ∷ [])) (sym height)
    (subst (λ p. StarredWord base (record { name = v.name; ty = v.ty; height = n; span = p }) (u ++ t ∷ [])) (sym span)
    (starred_name t s e))

-- from where the first token starts to where the name ends
name_span : (start : ℕ) (u : List Token) (t : Token) → start ≡ (span_of (u ++ t ∷ [])).start →
    record { start = start; end = end_of t } ≡ span_of (u ++ t ∷ [])
name_span start u t e =
    ap (λ start. record { start = start; end = end_of t }) e
    ∙ ap (λ end. record { start = (span_of (u ++ t ∷ [])).start; end = end }) (sym (end_last u t))

named_into : (base : CType) (start : ℕ) (c : TypeRead × Named) (w : List Token) → TypedName base c w → start ≡ (span_of w).start →
    StarredWord base (named_of (start, c)) w
named_into base start c w (inl (join {u = u} s (naming t e))) h = starred_made base (named_of (start, c)) (suc s.more) u t s.stars e
    (omega (arith, s.height)) (name_span start u t h)
named_into base start c w (inr m) h = subst (λ c. StarredWord base (named_of (start, c)) w) m.is (go m.source w m.word h)
  where
    go : (n : Named) (w : List Token) → Naming n w → start ≡ (span_of w).start → StarredWord base (named_of (start, (plain base, n))) w
    go n w (naming t e) h = starred_made base (named_of (start, (plain base, n))) 0 [] t grammar.none e refl (name_span start [] t h)

starred_into : (base : CType) (c : ℕ × (TypeRead × Named)) (w : List Token) → Starting (TypedName base) c w →
    StarredWord base (named_of c) w
starred_into base c w s = named_into base c.0 c.1 w s.word s.start

abbrev Source : CType → Declared → List Token → Type 0
Source base = Made named_of (Starting (TypedName base))

source_is : (ty : CType) (name : List ℕ) (n : ℕ) (u : List Token) (t : Token) →
    named_of ((span_of (u ++ t ∷ [])).start, (typed ty n 0, record { name = name; place = place_of t })) ≡
    record { name = name; ty = ty; height = n; span = span_of (u ++ t ∷ []) }
source_is ty name n u t = ap (λ (p : Span). record { name = name; ty = ty; height = n; span = p })
    (name_span (span_of (u ++ t ∷ [])).start u t refl)

starred_source : (base ty : CType) (name : List ℕ) (n : ℕ) (u : List Token) (t : Token) → Stars base n ty u → IsName name t →
    Source base (record { name = name; ty = ty; height = n; span = span_of (u ++ t ∷ []) }) (u ++ t ∷ [])
starred_source base ty name zero u t grammar.none e = record {
  source = ((span_of (t ∷ [])).start, (plain base, record { name = name; place = place_of t }));
  is = refl;
  word = record { start = refl; word = inr (record { source = record { name = name; place = place_of t }; is = refl; word = naming t e }) };
}
starred_source base ty name (suc n) u t s e = record {
  source = ((span_of (u ++ t ∷ [])).start, (typed ty (suc n) (span_of u).end, record { name = name; place = place_of t }));
  is = source_is ty name (suc n) u t;
  word = record { start = refl; word = inl (join (record { more = n; stars = s; height = omega arith; end = refl }) (naming t e)) };
}

starred_out : (base : CType) (v : Declared) (w : List Token) → StarredWord base v w → Source base v w
starred_out base v w (starred_name {n = n} {ty = ty} {name = name} {u = u} t s e) = starred_source base ty name n u t s e

-- stars and a name are read
pub starred_good : (d : ℕ) (base : CType) → Good (starred d base) (StarredWord base) (Low d) begins_declarator nothing
unfolding starred
starred_good d base = makes_good named_of (StarredWord base) (Low d) nothing (starting_good (typed_name_good d base))
    (starred_into base) (starred_out base) (λ c w m low. low) (λ c w m low. low) (λ c x h. refl)

-- ---- each first token begins some word

star_at : (base : CType) (t : Token) → is (punctuator mark.Star) t ≡ true → Begins (StarredWord base) (t ∷ [])
star_at base t h =
    let b = pointing_begins base t h in
    record {
      value = named_of (t.start, b.value);
      more = b.more;
      whole = named_into base t.start b.value (t ∷ b.more) (inl b.whole) refl;
    }

begins_at : (base : CType) (t : Token) (x : Bool) → (word_of t == a_name) ≡ x → (y : Bool) → is (punctuator mark.Star) t ≡ y →
    (x || (y || false)) ≡ true → Begins (StarredWord base) (t ∷ [])
begins_at base t true e y f h =
    let b = name_begins_at t e in record {
      value = named_of (t.start, (plain base, b.value));
      more = b.more;
      whole = named_into base t.start (plain base, b.value) (t ∷ b.more) (inr (record { source = b.value; is = refl; word = b.whole }))
          refl;
    }
begins_at base t false e true f h = star_at base t f
begins_at base t false e false f h = cc

pub starred_begins_at : (base : CType) (t : Token) → begins_declarator t ≡ true → Begins (StarredWord base) (t ∷ [])
starred_begins_at base t h = begins_at base t (word_of t == a_name) refl (is (punctuator mark.Star) t) refl h
