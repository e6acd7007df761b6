-- Declarations in blocks are read.
use Rattle.std.specs.Prelude.{◌≡◌, ℕ, ◌≤◌, ◌==◌, ◌||◌, Bool, true, false, List, [], ◌∷◌, ◌++◌, is_some, refl}
use Rattle.std.proofs.Common.{sym, ◌∙◌, ap, subst, append_assoc, arith}
use Rattle.c_ast.specs.Seen.{Seen as Token}
use Rattle.c_ast.specs.declared.expr.CType.{CType}
use Rattle.c_ast.specs.declared.declaration.Decl.{Decl}
use Rattle.c_ast.specs.declared.keyword.Keyword.TheVariants as key
use Rattle.c_ast.specs.declared.punctuator.Punctuator.TheVariants as mark
use Rattle.c_grammar.specs.Words.{punctuator, keyword, span_of, word_of, a_name}
use Rattle.c_grammar.specs.Objects as grammar
use Rattle.c_grammar.specs.Objects.{Local}
use Rattle.c_parse_base.specs.Reading.Good.{Language, Begins, Good}
use Rattle.c_parse_base.specs.Reading.Languages.{Then, join, nothing, Made}
use Rattle.c_parse_base.specs.Laws.Parts.{thens_good, makes_good}
use Rattle.c_parse_base.specs.Reading.Words.{is}
use Rattle.c_parse_base.specs.Laws.WordListLaws.{is_at}
use Rattle.c_parse_base.specs.Laws.Bases.{base_begins_at}
use Rattle.c_parse_base.specs.declared.type_read.TypeRead.{TypeRead}
use Rattle.c_parse_base.specs.Reading.TypeNames.{begins_type}
use Rattle.c_parse_base.specs.Reading.TypeWords.{size_at}
use Rattle.c_parse_base.specs.Laws.TypeWordLaws.{more_words}
use Rattle.c_parse_base.specs.Laws.TypeOrders.{BaseWord}
use Rattle.c_parse_base.specs.Laws.TypeNameLaws.{base_good}
use Rattle.c_parse_decl.specs.declared.declarators.declared.Declared.{Declared}
use Rattle.c_parse_decl.specs.Reading.Declarators.{StarredWord, begins_declarator}
use Rattle.c_parse_decl.specs.Laws.Declarators.StarredLaws.{starred_good}
use Rattle.c_parse_decl.specs.declared.objects.objects_read.ObjectsRead.{ObjectsRead}
use Rattle.c_parse_decl.specs.Reading.Objects.{Low, LocalWord, RestWord, ObjectsBehind, ByFirstName, begins_rest, rest, named, local}
use Rattle.c_parse_decl.specs.Laws.Objects.RestLaws.{rest_height, rest_begins, rest_good}
use Rattle.c_parse_decl.specs.Laws.Objects.RestParts.{rest_into, rest_out}

-- ---- a first name, and what is left behind it

abbrev NamedWord : CType → Language Token ObjectsRead
NamedWord base = Made (λ (c : Declared × ObjectsRead). c.1) (Then (StarredWord base) (RestWord base))

named_height : (base : CType) (c : Declared × ObjectsRead) (w : List Token) → Then (StarredWord base) (RestWord base) c w →
    c.0.height ≤ c.1.height
named_height base c w (join {a = a} {b = v} {v = x} m r) = rest_height base a v x r

named_begins : (base : CType) → Begins (NamedWord base) []
named_begins base =
    let s = (starred_good 0 base).some in
    let r = rest_begins base s.value in
    record {
      value = r.value;
      more = s.more ++ r.more;
      whole =
          record { source = (s.value, r.value); is = refl; word = join s.whole r.whole };
    }

named_good : (d : ℕ) (base : CType) → Good (named d base) (NamedWord base) (Low d) begins_declarator nothing
unfolding named
named_good d base = makes_good (λ c. c.1) (NamedWord base) (Low d) nothing
    (thens_good (rest d base) (RestWord base) (λ _. Low d) begins_rest (λ _. nothing) (starred_good d base)
    (λ a low. rest_good d base a low) (rest_begins base) (λ a x e. refl))
    (λ c w m. record { source = c; is = refl; word = m }) (λ b w m. m)
    (λ c w m fits. fits.1) (λ c w m fits. (omega (arith, named_height base c w m), fits)) (λ c x e. refl)

-- ---- a base before them

abbrev LocalParts : Language Token ObjectsRead
LocalParts = Made (λ (c : TypeRead × ObjectsRead). c.1) (Then BaseWord (λ b. NamedWord b.ty))

behind_base : (base : TypeRead) (v : ObjectsRead) (u y z : List Token) → BaseWord base u → ObjectsBehind base.ty y v z →
    Local v.height v.decls (u ++ (y ++ z))
behind_base base v u y z b o =
    subst (λ w. Local v.height v.decls (u ++ w)) (append_assoc y o.list (o.semicolon ∷ []) ∙ ap (λ w. y ++ w) (sym o.parts))
    (grammar.local o.semicolon b.base o.objects o.is_semicolon)

local_into : (v : ObjectsRead) (w : List Token) → LocalParts v w → LocalWord v w
local_into v w m = subst (λ v. LocalWord v w) m.is (joined m.source w m.word)
  where
    named_into : (base : TypeRead) (u : List Token) (c : Declared × ObjectsRead) (x : List Token) → BaseWord base u →
        Then (StarredWord base.ty) (RestWord base.ty) c x → LocalWord c.1 (u ++ x)
    named_into base u c x b (join {a = a} {b = o} {u = y} {v = z} s r) = behind_base base o u y z b (rest_into base.ty a y o z s r)

    joined : (c : TypeRead × ObjectsRead) (w : List Token) → Then BaseWord (λ b. NamedWord b.ty) c w → LocalWord c.1 w
    joined c w (join {a = base} {u = u} {v = x} b n) = subst (λ v. LocalWord v (u ++ x)) n.is (named_into base u n.source x b n.word)

abbrev objects_read : List Decl → ℕ → ObjectsRead
objects_read ds h = record { decls = ds; height = h }

by_name : (base : CType) (v : ObjectsRead) (x : List Token) → ByFirstName base v x → NamedWord base v x
by_name base v x f = subst (λ x. NamedWord base v x) (sym f.parts)
    (record { source = (f.first, v); is = refl; word = join f.starred f.rest })

local_out : (h : ℕ) (ds : List Decl) (w : List Token) → Local h ds w → LocalParts (objects_read ds h) w
local_out h ds w (grammar.local {base = base} {u = u} {v = x} s b objects iss) =
    let read : TypeRead = record { ty = base; height = 0; end = (span_of u).end } in
    record {
      source = (read, objects_read ds h);
      is = refl;
      word = join (record { base = b; height = refl; end = refl })
          (by_name base (objects_read ds h) (x ++ s ∷ []) (rest_out base (objects_read ds h) x s objects iss));
    }

-- some declaration begins with each token that begins a type
pub local_begins_at : (t : Token) → begins_type t ≡ true → Begins LocalWord (t ∷ [])
local_begins_at t e =
    let b = base_begins_at t e in
    let n = named_begins b.value.ty in
    record {
      value = n.value;
      more = b.more ++ n.more;
      whole = local_into n.value (t ∷ b.more ++ n.more)
          (record { source = (b.value, n.value); is = refl; word = join b.whole n.whole });
    }

-- neither a name nor a star goes on behind a base
unfoldable goes_on_base : ℕ → Bool
goes_on_base w = is_some (size_at w) || (w == keyword key.Int)

name_apart : goes_on_base 1 ≡ false
unfolding size_at goes_on_base
name_apart = refl

star_apart : goes_on_base (punctuator mark.Star) ≡ false
unfolding size_at goes_on_base
star_apart = refl

declarator_apart : (t : Token) → begins_declarator t ≡ true → more_words t ≡ false
unfolding goes_on_base
declarator_apart t h = by_name_word (is a_name t) refl (is (punctuator mark.Star) t) refl h
  where
    by_name_word : (x : Bool) → is a_name t ≡ x → (y : Bool) → is (punctuator mark.Star) t ≡ y → (x || (y || false)) ≡ true →
        goes_on_base (word_of t) ≡ false
    by_name_word true e y k h = is_at goes_on_base 1 t e ∙ name_apart
    by_name_word false e true k h = is_at goes_on_base (punctuator mark.Star) t k ∙ star_apart
    by_name_word false e false k h = cc

base_low : (d : ℕ) (c : TypeRead × ObjectsRead) (w : List Token) → Then BaseWord (λ b. NamedWord b.ty) c w → c.0.height ≤ d
base_low d c w (join {a = base} b n) = omega (arith, b.height)

pub local_good : (d : ℕ) → Good (local d) LocalWord (Low d) begins_type nothing
unfolding local
local_good d = makes_good (λ c. c.1) LocalWord (Low d) nothing
    (thens_good (λ b. named d b.ty) (λ b. NamedWord b.ty) (λ _. Low d) begins_declarator (λ _. nothing)
    (base_good d) (λ b _. named_good d b.ty) (λ b. named_begins b.ty) (λ a x e. declarator_apart x e))
    (λ c w m. local_into c.1 w (record { source = c; is = refl; word = m })) (λ v w m. local_out v.height v.decls w m)
    (λ c w m fits. fits.1) (λ c w m fits. (base_low d c w m, fits)) (λ c x e. refl)
