-- The parser of type names reads their language.
use Rattle.std.specs.Prelude.{◌≡◌, ℕ, suc, ◌<◌, ◌≤◌, Bool, true, false, ◌==◌, ◌||◌, List, [], ◌∷◌, ◌++◌, is_some, refl}
use Rattle.std.proofs.Common.{sym, ◌∙◌, ap, subst, append_assoc, append-nil, arith, inl, inr}
use Rattle.c_ast.specs.declared.token.Span.{Span}
use Rattle.c_ast.specs.Seen.{Seen as Token}
use Rattle.c_ast.specs.declared.expr.CType.{CType}
use Rattle.c_ast.specs.declared.expr.CType.TheVariants as type
use Rattle.c_ast.specs.declared.int_type.IntType.{IntType}
use Rattle.c_ast.specs.declared.keyword.Keyword.TheVariants as key
use Rattle.c_ast.specs.declared.punctuator.Punctuator.TheVariants as mark
use Rattle.c_grammar.specs.Words.{word_of, keyword, punctuator, span_of}
use Rattle.c_grammar.specs.Types as grammar
use Rattle.c_grammar.specs.Types.{Base, Stars, TypeName}
use Rattle.c_parse_base.specs.declared.words.Named.{Named}
use Rattle.c_parse_base.specs.Reading.Good.{Language, Begins, Good}
use Rattle.c_parse_base.specs.Reading.Languages.{Then, join, Either, Chain, once, again, Always, nothing, Made}
use Rattle.c_parse_base.specs.Laws.Parts.{picks, thens_good, makes_good, either_good}
use Rattle.c_parse_base.specs.Laws.ChainLaws.{MayTurn, chain_good}
use Rattle.c_parse_base.specs.Laws.SpanLaws.{end_last}
use Rattle.c_parse_base.specs.Reading.Words.{is, place_of, pick_name, name, Spot, spot, Naming, naming}
use Rattle.c_parse_base.specs.Laws.WordGood.{good_as, good_on, key_good, punct_good, spot_starts, spot_begins, equal_is, starts_spot}
use Rattle.c_parse_base.specs.Laws.Depths.{below_is, is_below}
use Rattle.c_parse_base.specs.Laws.WordListLaws.{or_left, or_right, both_false}
use Rattle.c_parse_base.specs.declared.type_read.TypeRead.{TypeRead}
use Rattle.c_parse_base.specs.Reading.TypeWords.{first_at, size_at}
use Rattle.c_parse_base.specs.Reading.TypeNames.{struct_of, void_of, integer_of, void_type, struct_type, void_or_integer, base}
use Rattle.c_parse_base.specs.Reading.TypeNames.{begins_type, begins_integer, has_room, star_of, star, type_name}
use Rattle.c_parse_base.specs.Laws.NameLaws.{name_good, name_begins}
use Rattle.c_parse_base.specs.Laws.TypeWordLaws.{Words, more_words, is_first_word, other_word, no_word, integer_good}
use Rattle.c_parse_base.specs.Laws.TypeOrders.{BaseWord, integer_into, Spelled, words_out}

-- ---- `void`, a struct by its tag, and integer types

abbrev pub VoidType : Language Token TypeRead
VoidType = Made void_of (Spot (keyword key.Void))

-- "struct" NAME
abbrev pub StructType : Language Token TypeRead
StructType = Made struct_of (Then (Spot (keyword key.Struct)) (λ _. Naming))

abbrev pub IntegerType : Language Token TypeRead
IntegerType = Made integer_of Words

abbrev pub VoidOrInteger : Language Token TypeRead
VoidOrInteger = Either VoidType IntegerType

abbrev goes_on_base : TypeRead → Token → Bool
goes_on_base a t = more_words t

abbrev begins_void_or_integer : Token → Bool
begins_void_or_integer t = is (keyword key.Void) t || is_first_word t

void_no_first : is_some (first_at (keyword key.Void)) ≡ false
unfolding first_at
void_no_first = refl

struct_no_first : ((keyword key.Struct == keyword key.Void) || is_some (first_at (keyword key.Struct))) ≡ false
unfolding first_at
struct_no_first = refl

star_no_word : (is_some (size_at (punctuator mark.Star)) || (punctuator mark.Star == keyword key.Int)) ≡ false
unfolding size_at
star_no_word = refl

void_good : Good void_type VoidType Always (is (keyword key.Void)) nothing
unfolding void_type
void_good = makes_good void_of VoidType Always nothing (key_good key.Void)
    (λ a w m. record { source = a; is = refl; word = m }) (λ b w m. m) (λ a w m h. tt) (λ a w m h. tt) (λ a x h. refl)

struct_good : Good struct_type StructType Always (is (keyword key.Struct)) nothing
unfolding struct_type
struct_good = makes_good struct_of StructType Always nothing
    (thens_good (λ _. name) (λ _. Naming) (λ _. Always) (picks pick_name) (λ _. nothing) (key_good key.Struct) (λ _ _. name_good)
    (λ _. name_begins) (λ a x h. refl))
    (λ a w m. record { source = a; is = refl; word = m }) (λ b w m. m) (λ a w m h. tt) (λ a w m h. (tt, tt)) (λ a x h. refl)

void_begins : (t : Token) → is (keyword key.Void) t ≡ true → Begins VoidType (t ∷ [])
void_begins t e = record {
  value = void_of (place_of t);
  more = [];
  whole = record { source = place_of t; is = refl; word = spot t (equal_is (word_of t) (keyword key.Void) e) };
}

struct_begins : (t : Token) → is (keyword key.Struct) t ≡ true → Begins StructType (t ∷ [])
struct_begins t e =
    let b = spot_begins (keyword key.Struct) (λ _. Naming) t e name_begins in
    record { value = struct_of b.value; more = b.more; whole = record { source = b.value; is = refl; word = b.whole } }

void_or_integer_good : Good void_or_integer VoidOrInteger Always begins_void_or_integer goes_on_base
unfolding void_or_integer
void_or_integer_good = either_good (is (keyword key.Void)) true begins_void_or_integer
    (λ _. good_on goes_on_base void_good (λ a x h. refl)) integer_good
    void_begins (λ a w m h. refl) (λ a w m. starts_spot (keyword key.Void) m.source w m.word)
    (λ x h. other_word begins_integer (keyword key.Void) (word_of x) void_no_first h)
    (λ x h. or_left (is (keyword key.Void) x) (is_first_word x) h) (λ x h. or_right (is (keyword key.Void) x) (is_first_word x) h)

-- ---- bases

void_spot : (place : Span) (w : List Token) → Spot (keyword key.Void) place w → BaseWord (void_of place) w
void_spot place w (spot t e) = record { base = grammar.void t e; height = refl; end = refl }

struct_pair : (c : Span × Named) (w : List Token) → Then (Spot (keyword key.Struct)) (λ _. Naming) c w → BaseWord (struct_of c) w
struct_pair c w (join (spot s e) (naming t h)) = record { base = grammar.struct s t e h; height = refl; end = refl }

base_into : (v : TypeRead) (w : List Token) → Either StructType VoidOrInteger v w → BaseWord v w
base_into v w (inl m) = subst (λ v. BaseWord v w) m.is (struct_pair m.source w m.word)
base_into v w (inr (inl m)) = subst (λ v. BaseWord v w) m.is (void_spot m.source w m.word)
base_into v w (inr (inr m)) = integer_into v w m

abbrev pub typed : CType → ℕ → ℕ → TypeRead
typed ty height end = record { ty = ty; height = height; end = end }

integer_back : (ty : IntType) (w : List Token) → Spelled ty w → Either StructType VoidOrInteger (typed (type.Int ty) 0 (span_of w).end) w
integer_back ty w s = inr (inr (record {
  source = s.value;
  word = s.word;
  is = ap (λ ty. typed (type.Int ty) 0 s.value.end) s.type
      ∙ ap (typed (type.Int ty) 0) s.end;
}))

base_back : (ty : CType) (w : List Token) → Base ty w → Either StructType VoidOrInteger (typed ty 0 (span_of w).end) w
base_back ty w (grammar.words {ty = of} {ks = ks} t k) = integer_back of w (words_out of ks w t k)
base_back ty w (grammar.void t e) = inr (inl (record { source = place_of t; is = refl; word = spot t e }))
base_back ty w (grammar.struct {tag = tag} s t e h) = inl (record {
  source = (place_of s, record { name = tag; place = place_of t });
  is = refl;
  word = join (spot s e) (naming t h);
})

base_out : (v : TypeRead) (w : List Token) → BaseWord v w → Either StructType VoidOrInteger v w
base_out v w b =
    subst (λ end. Either StructType VoidOrInteger (typed v.ty v.height end) w) (sym b.end)
    (subst (λ height. Either StructType VoidOrInteger (typed v.ty height (span_of w).end) w) (sym b.height) (base_back v.ty w b.base))

-- at most this many stars
abbrev pub Low : ℕ → TypeRead → Type 0
Low d v = v.height ≤ d

abbrev pub height_of : TypeRead → ℕ
height_of v = v.height

-- a base is read
pub base_good : (d : ℕ) → Good base BaseWord (Low d) begins_type goes_on_base
unfolding base
base_good d = good_as BaseWord (Low d) begins_type
    (either_good (is (keyword key.Struct)) true begins_type
    (λ _. good_on goes_on_base struct_good (λ a x h. refl)) void_or_integer_good
    struct_begins (λ a w m h. refl) (λ a w m. spot_starts (keyword key.Struct) (λ _. Naming) m.source w m.word)
    (λ x h. other_word (λ w. (w == keyword key.Void) || is_some (first_at w)) (keyword key.Struct) (word_of x) struct_no_first h)
    (λ x h. or_left (is (keyword key.Struct) x) (begins_void_or_integer x) h)
    (λ x h. or_right (is (keyword key.Struct) x) (begins_void_or_integer x) h))
    base_into base_out (λ v w m h. omega (arith, (base_into v w m).height)) (λ v w m h. tt) (λ x h. h)

-- ---- stars

-- tokens that spell a type with so many stars, and where they end
pub record TypeWord (v : TypeRead) (w : List Token) : Type 0 where
  pub name : TypeName v.height v.ty w
  pub end : v.end ≡ (span_of w).end

abbrev pub StarBehind : TypeRead → Language Token TypeRead
StarBehind a = Made (star_of a) (Spot (punctuator mark.Star))

-- the tokens that go on behind a type name
abbrev pub goes_on_type : TypeRead → Token → Bool
goes_on_type a t = more_words t || is (punctuator mark.Star) t

star_name : (n : ℕ) (ty : CType) (w : List Token) (t : Token) → TypeName n ty w → word_of t ≡ punctuator mark.Star →
    TypeName (suc n) (type.Pointer ty) (w ++ t ∷ [])
star_name n ty w t (grammar.type_name {u = u} {v = v} b s) e =
    subst (λ w. TypeName (suc n) (type.Pointer ty) w) (sym (append_assoc u v (t ∷ []))) (grammar.type_name b (grammar.star t s e))

star_into : (a : TypeRead) (w : List Token) (place : Span) (u : List Token) → TypeWord a w → Spot (punctuator mark.Star) place u →
    TypeWord (star_of a place) (w ++ u)
star_into a w place u m (spot t e) = record { name = star_name a.height a.ty w t m.name e; end = sym (end_last w t) }

alone_name : (ty : CType) (w : List Token) → Base ty w → TypeName 0 ty w
alone_name ty w b = subst (λ w. TypeName 0 ty w) (append-nil w) (grammar.type_name b grammar.none)

type_into : (v : TypeRead) (w : List Token) → Chain BaseWord StarBehind v w → TypeWord v w
type_into v w (once b) = record { name = subst (λ n. TypeName n v.ty w) (sym b.height) (alone_name v.ty w b.base); end = b.end }
type_into v w (again {a = a} {w = x} {u = u} c m) = subst (λ v. TypeWord v (x ++ u)) m.is
    (star_into a x m.source u (type_into a x c) m.word)

stars_out : (of ty : CType) (n : ℕ) (u v : List Token) → Base of u → Stars of n ty v →
    Chain BaseWord StarBehind (typed ty n (span_of (u ++ v)).end) (u ++ v)
stars_out of ty n u v b grammar.none =
    subst (λ w. Chain BaseWord StarBehind (typed of 0 (span_of w).end) w) (sym (append-nil u))
    (once (record { base = b; height = refl; end = refl }))
stars_out of ty n u v b (grammar.star {n = k} {ty = to} {w = x} t s e) =
    subst (λ w. Chain BaseWord StarBehind (typed (type.Pointer to) (suc k) (span_of w).end) w) (append_assoc u x (t ∷ []))
    (again (stars_out of to k u x b s) (record {
      source = place_of t;
      word = spot t e;
      is = ap (typed (type.Pointer to) (suc k)) (sym (end_last (u ++ x) t));
    }))

name_chain : (n : ℕ) (ty : CType) (w : List Token) → TypeName n ty w → Chain BaseWord StarBehind (typed ty n (span_of w).end) w
name_chain n ty w (grammar.type_name {base = of} {u = u} {v = v} b s) = stars_out of ty n u v b s

type_out : (v : TypeRead) (w : List Token) → TypeWord v w → Chain BaseWord StarBehind v w
type_out v w m = subst (λ end. Chain BaseWord StarBehind (typed v.ty v.height end) w) (sym m.end) (name_chain v.height v.ty w m.name)

pub star_begins : (a : TypeRead) (t : Token) → is (punctuator mark.Star) t ≡ true → Begins (StarBehind a) (t ∷ [])
star_begins a t e = record {
  value = star_of a (place_of t);
  more = [];
  whole = record { source = place_of t; is = refl; word = spot t (equal_is (word_of t) (punctuator mark.Star) e) };
}

pub may_star : (d : ℕ) (a b : TypeRead) (u : List Token) → StarBehind a b u → Low d b → MayTurn (Low d) (has_room d) a
may_star d a b u m low =
    let high : suc a.height ≡ b.height = ap (λ v. v.height) m.is in
    record { fits = omega arith; has_room = is_below a.height d (omega arith) }

-- a star is read
pub lone_star_good : (d : ℕ) (a : TypeRead) → MayTurn (Low d) (has_room d) a →
    Good (star a) (StarBehind a) (Low d) (is (punctuator mark.Star)) nothing
unfolding star
lone_star_good d a may =
    let room : a.height < d = below_is a.height d may.has_room in
    makes_good (star_of a) (StarBehind a) (Low d) nothing (punct_good mark.Star)
    (λ c w m. record { source = c; is = refl; word = m }) (λ b w m. m) (λ c w m fits. omega arith) (λ c w m fits. tt) (λ c x h. refl)

pub star_good : (d : ℕ) (a : TypeRead) → MayTurn (Low d) (has_room d) a →
    Good (star a) (StarBehind a) (Low d) (is (punctuator mark.Star)) goes_on_base
star_good d a may = good_on goes_on_base (lone_star_good d a may) (λ a x h. refl)

-- a type name is read
pub type_good : (d : ℕ) → Good (type_name d) TypeWord (Low d) begins_type goes_on_type
unfolding type_name
type_good d = good_as TypeWord (Low d) begins_type
    (chain_good (is (punctuator mark.Star)) (has_room d) star StarBehind (star_good d) goes_on_type (base_good d) star_begins (may_star d)
    (λ a x h. no_word (λ w. is_some (size_at w) || (w == keyword key.Int)) (punctuator mark.Star) (word_of x) star_no_word h)
    (λ a x h. both_false (more_words x) (is (punctuator mark.Star) x) h))
    type_into type_out (λ v w m h. h) (λ v w m h. h) (λ x h. h)
