-- Types at file scope as the grammar has them.
use Rattle.std.specs.Prelude.{◌≡◌, ℕ, suc, max, true, List, [], ◌∷◌, ◌++◌, Option, Some, None, is_some, refl}
use Rattle.std.proofs.Common.{sym, ◌∙◌, ap, subst, arith, inl, inr}
use Rattle.c_ast.specs.declared.token.Span.{Span}
use Rattle.c_ast.specs.Seen.{Seen as Token}
use Rattle.c_ast.specs.declared.expr.CType.{CType}
use Rattle.c_ast.specs.declared.expr.CType.TheVariants as type
use Rattle.c_ast.specs.Laws.Opened.{given_trees}
use Rattle.c_ast.specs.declared.declaration.Decl.{Decl}
use Rattle.c_ast.specs.declared.declaration.Storage.{Storage}
use Rattle.c_ast.specs.declared.declaration.Storage.TheVariants as storage
use Rattle.c_ast.specs.declared.program.External.{External}
use Rattle.c_ast.specs.declared.program.External.TheVariants as external
use Rattle.c_ast.specs.declared.keyword.Keyword.TheVariants as key
use Rattle.c_ast.specs.declared.punctuator.Punctuator.TheVariants as mark
use Rattle.c_grammar.specs.Words.{IsKeyword, IsPunct, IsName, word_of, end_of, span_of}
use Rattle.c_grammar.specs.Types as grammar
use Rattle.c_grammar.specs.Types.{Base}
use Rattle.c_grammar.specs.Structs as structs
use Rattle.c_grammar.specs.Structs.{Members}
use Rattle.c_grammar.specs.Externals as externals
use Rattle.c_grammar.specs.Externals.{StorageClass, Head as HeadSpelled, ExternalDeclaration}
use Rattle.c_parse_base.specs.Reading.Languages.{Word, word_of as one_word_of, Then, join, alone, followed}
use Rattle.c_parse_base.specs.Laws.SpanLaws.{last_end_append}
use Rattle.c_parse_base.specs.Reading.Spans.{Starting}
use Rattle.c_parse_base.specs.declared.type_read.TypeRead.{TypeRead}
use Rattle.c_parse_base.specs.Laws.TypeOrders.{BaseWord}
use Rattle.c_parse_decl.specs.declared.members.body_read.BodyRead.{BodyRead}
use Rattle.c_parse_decl.specs.Reading.Members.{BodyWord, in_braces}
use Rattle.c_parse.specs.declared.head.Head.{Head}
use Rattle.c_parse.specs.declared.head.Specifiers.{Specifiers}
use Rattle.c_parse.specs.Reading.Values.{tag_of, plain_head, with_body, is_struct, struct_at, before_of, stored, unstored}
use Rattle.c_parse.specs.Reading.Externals.{storage_at, from_start, pick_storage}
use Rattle.c_parse.specs.Laws.HeadLaws.{PlainHead, BodyBehind, HeadWord, SpecifiersWord, storage_is, static_picked, extern_picked}

-- ---- tags

pub tag_int : (ty : _) → tag_of (type.Int ty) ≡ None
unfolding given_trees
tag_int ty = refl

pub tag_void : tag_of type.Void ≡ None
unfolding given_trees
tag_void = refl

pub tag_struct : (name : List ℕ) → tag_of (type.Struct name) ≡ Some name
unfolding given_trees
tag_struct name = refl

-- ---- a type without a body

-- a type is its first words, and a semicolon may stand behind a struct
pub record HeadSpelling (a : Head) (w : List Token) : Type 0 where
  pub head : HeadSpelled a.height (before_of a) a.base w
  pub span : a.span ≡ span_of w
  pub lone : is_struct a ≡ true → (z : Token) → IsPunct mark.Semicolon z →
      ExternalDeclaration (max a.height 1) (struct_at a.tag a.members a.span) (w ++ z ∷ [])

abbrev pub reach : ℕ → ℕ → Span
reach start end = record { start = start; end = end }

plain_lone : (ty : CType) (w : List Token) → Base ty w → is_some (tag_of ty) ≡ true → (z : Token) → IsPunct mark.Semicolon z →
    ExternalDeclaration 1 (struct_at (tag_of ty) None (span_of w)) (w ++ z ∷ [])
plain_lone ty w (grammar.words {ty = of} t k) e z isz = let none = tag_int of in cc
plain_lone ty w (grammar.void t k) e z isz = let none = tag_void in cc
plain_lone ty w (grammar.struct {tag = name} s t iss ist) e z isz =
    subst (λ tag. ExternalDeclaration 1 (struct_at tag None (span_of (s ∷ t ∷ []))) ((s ∷ t ∷ []) ++ z ∷ [])) (sym (tag_struct name))
    (externals.tag z (structs.tag s t iss ist) isz)

plain_span : (c : ℕ × TypeRead) (w : List Token) → Starting BaseWord c w → (plain_head c).span ≡ span_of w
plain_span c w m = ap (λ start. reach start c.1.end) m.start ∙ ap (reach (span_of w).start) m.word.end

plain_spelling : (c : ℕ × TypeRead) (w : List Token) → Starting BaseWord c w → HeadSpelling (plain_head c) w
plain_spelling c w m = record {
  head = externals.plain m.word.base;
  span = plain_span c w m;
  lone = λ e z isz.
      let one : 1 ≡ max 0 1 = omega arith in
      subst (λ h. ExternalDeclaration h (struct_at (tag_of c.1.ty) None (plain_head c).span) (w ++ z ∷ [])) one
      (subst (λ s. ExternalDeclaration 1 (struct_at (tag_of c.1.ty) None s) (w ++ z ∷ [])) (sym (plain_span c w m))
      (plain_lone c.1.ty w m.word.base e z isz));
}

-- ---- a struct with its body

abbrev bodied : CType → Option (List ℕ) → List Decl → Span → ℕ → Head
bodied ty tag ds span height = record { base = ty; tag = tag; members = Some ds; span = span; height = height }

body_reach : (s t l : Token) (v : List Token) (r : Token) → span_of (s ∷ t ∷ l ∷ v ++ r ∷ []) ≡ reach s.start (end_of r)
body_reach s t l v r = ap (reach s.start) (last_end_append l v r [])

structure_spelling : {h : ℕ} {name : List ℕ} {ds : List Decl} {v : List Token} (s t l r : Token) →
    IsKeyword key.Struct s → IsName name t → IsPunct mark.LeftBrace l → Members h ds v → IsPunct mark.RightBrace r →
    HeadSpelling (bodied (type.Struct name) (Some name) ds (span_of (s ∷ t ∷ l ∷ v ++ r ∷ [])) (suc (suc h))) (s ∷ t ∷ l ∷ v ++ r ∷ [])
structure_spelling {h} {name} {ds} {v} s t l r iss ist isl ms isr = record {
  head = externals.with_body (structs.structure s t l r iss ist isl ms isr);
  span = refl;
  lone = λ e z isz.
      let same : suc (suc h) ≡ max (suc (suc h)) 1 = omega arith in
      subst (λ n. ExternalDeclaration n (struct_at (Some name) (Some ds) (span_of (s ∷ t ∷ l ∷ v ++ r ∷ [])))
      ((s ∷ t ∷ l ∷ v ++ r ∷ []) ++ z ∷ [])) same
      (externals.structure z (structs.structure s t l r iss ist isl ms isr) isz);
}

-- the parts of the head by other names
respelled : (ty : CType) (tag other : Option (List ℕ)) (ds : List Decl) (a b : Span) (m n : ℕ) (w : List Token) → tag ≡ other → a ≡ b →
    m ≡ n →
    HeadSpelling (bodied ty tag ds a m) w → HeadSpelling (bodied ty other ds b n) w
respelled ty tag other ds a b m n w e f g h =
    subst (λ tag. HeadSpelling (bodied ty tag ds b n) w) e (subst (λ s. HeadSpelling (bodied ty tag ds s n) w) f
    (subst (λ n. HeadSpelling (bodied ty tag ds a n) w) g h))

bodied_spelling : (ty : CType) (start end : ℕ) (w : List Token) (b : BodyRead) (u : List Token) → Base ty w → start ≡ (span_of w).start →
    is_some (tag_of ty) ≡ true → BodyWord b u →
    HeadSpelling (with_body (plain_head (start, record { ty = ty; height = 0; end = end })) b) (w ++ u)
bodied_spelling ty start end w b u (grammar.words {ty = of} t k) at e m = let none = tag_int of in cc
bodied_spelling ty start end w b u (grammar.void t k) at e m = let none = tag_void in cc
bodied_spelling ty start end w b u (grammar.struct {tag = name} s t iss ist) at e (in_braces {h = h} {ds = ds} {v = v} l r isl ms isr) =
    let same : suc (suc h) ≡ max 0 (suc (suc h)) = omega arith in
    respelled (type.Struct name) (Some name) (tag_of (type.Struct name)) ds (span_of (s ∷ t ∷ l ∷ v ++ r ∷ [])) (reach start (end_of r))
    (suc (suc h)) (max 0 (suc (suc h))) (s ∷ t ∷ l ∷ v ++ r ∷ [])
    (sym (tag_struct name)) (body_reach s t l v r ∙ ap (λ start. reach start (end_of r)) (sym at)) same
    (structure_spelling s t l r iss ist isl ms isr)

-- ---- all types at file scope

body_spelling : (a b : Head) (w u : List Token) → PlainHead a w → BodyBehind a b u → HeadSpelling b (w ++ u)
body_spelling a b w u p m =
    subst (λ b. HeadSpelling b (w ++ u)) (ap (λ a. with_body a m.made.source) p.is ∙ m.made.is)
    (bodied_spelling p.source.1.ty p.source.0 p.source.1.end w m.made.source u p.word.word.base p.word.start
    (ap is_struct p.is ∙ m.allowed) m.made.word)

pub head_spelling : (a : Head) (w : List Token) → HeadWord a w → HeadSpelling a w
head_spelling a w (alone p) = subst (λ a. HeadSpelling a w) p.is (plain_spelling p.source w p.word)
head_spelling a w (followed {a = b} {w = x} {u = u} p m) = body_spelling b a x u p m

-- ---- storage classes

-- a storage class and a type, and where the first word starts
pub record SpecifiersSpelling (s : Specifiers) (w : List Token) : Type 0 where
  pub words : List Token
  pub behind : List Token
  pub parts : w ≡ words ++ behind
  pub class : StorageClass s.storage words
  pub head : HeadSpelling s.head behind
  pub start : s.start ≡ (span_of w).start

class_of : (c : Storage) (t : Token) → storage_at (word_of t) ≡ Some c → StorageClass c (t ∷ [])
class_of storage.None t e = absurd ((storage_is (word_of t) storage.None e).1 refl)
class_of storage.Static t e = externals.static_word t (storage_is (word_of t) storage.Static e).0
class_of storage.Extern t e = externals.extern_word t (storage_is (word_of t) storage.Extern e).0

picked_is : (start : ℕ) (o : Option Storage) (c : Storage × ℕ) → from_start start o ≡ Some c → (o ≡ Some c.0) × (start ≡ c.1)
picked_is start None c e = cc
picked_is start (Some a) c e = let same : (a, start) ≡ c = cc in (ap (λ c. Some c.0) same, ap (λ c. c.1) same)

stored_spelling : (c : (Storage × ℕ) × Head) (w : List Token) → Then (Word pick_storage) (λ _. HeadWord) c w →
    SpecifiersSpelling (stored c) w
stored_spelling c w (join {a = a} {b = b} {v = v} (one_word_of {x = t} e) m) =
    let p = picked_is t.start (storage_at (word_of t)) a e in
    record { words = t ∷ []; behind = v; parts = refl; class = class_of a.0 t p.0; head = head_spelling b v m; start = sym p.1 }

unstored_spelling : (a : Head) (w : List Token) → HeadWord a w → SpecifiersSpelling (unstored a) w
unstored_spelling a w m =
    let h : HeadSpelling a w = head_spelling a w m in
    record { words = []; behind = w; parts = refl; class = externals.no_storage; head = h; start = ap (λ (s : Span). s.start) h.span }

pub specifiers_spelling : (s : Specifiers) (w : List Token) → SpecifiersWord s w → SpecifiersSpelling s w
specifiers_spelling s w (inl m) = subst (λ s. SpecifiersSpelling s w) m.is (stored_spelling m.source w m.word)
specifiers_spelling s w (inr m) = subst (λ s. SpecifiersSpelling s w) m.is (unstored_spelling m.source w m.word)

-- ---- the other way round

-- a type at file scope that was read
pub record HeadSeen (n : ℕ) (before : List External) (base : CType) (w : List Token) : Type 0 where
  pub value : Head
  pub word : HeadWord value w
  pub height : value.height ≡ n
  pub before_is : before_of value ≡ before
  pub base_is : value.base ≡ base
  pub start : value.span.start ≡ (span_of w).start

abbrev plain_of : CType → List Token → Head
plain_of ty w = plain_head ((span_of w).start, record { ty = ty; height = 0; end = (span_of w).end })

plain_word : (ty : CType) (w : List Token) → Base ty w → PlainHead (plain_of ty w) w
plain_word ty w b = record {
  source = ((span_of w).start, record { ty = ty; height = 0; end = (span_of w).end });
  is = refl;
  word = record { word = record { base = b; height = refl; end = refl }; start = refl };
}

tag_word : (name : List ℕ) (s t : Token) → IsKeyword key.Struct s → IsName name t →
    PlainHead (plain_of (type.Struct name) (s ∷ t ∷ [])) (s ∷ t ∷ [])
tag_word name s t iss ist = plain_word (type.Struct name) (s ∷ t ∷ []) (grammar.struct s t iss ist)

-- the head of a struct without a body
abbrev pub tag_head : List ℕ → Token → Token → Head
tag_head name s t = plain_of (type.Struct name) (s ∷ t ∷ [])

-- likewise, with its body
abbrev pub body_head : List ℕ → Token → Token → List Decl → ℕ → Token → Head
body_head name s t ds h r = with_body (tag_head name s t) (record { members = ds; height = h; end = end_of r })

-- a tag is a struct
pub tag_is : (name : List ℕ) → is_some (tag_of (type.Struct name)) ≡ true
tag_is name = ap is_some (tag_struct name)

pub tag_read : (name : List ℕ) (s t : Token) → IsKeyword key.Struct s → IsName name t → HeadWord (tag_head name s t) (s ∷ t ∷ [])
tag_read name s t iss ist = alone (tag_word name s t iss ist)

pub body_read : {h : ℕ} {name : List ℕ} {ds : List Decl} {v : List Token} (s t l r : Token) →
    IsKeyword key.Struct s → IsName name t → IsPunct mark.LeftBrace l → Members h ds v → IsPunct mark.RightBrace r →
    HeadWord (body_head name s t ds h r) (s ∷ t ∷ l ∷ v ++ r ∷ [])
body_read {h} {name} {ds} {v} s t l r iss ist isl ms isr = followed (tag_word name s t iss ist) (record {
  allowed = tag_is name;
  made = record { source = record { members = ds; height = h; end = end_of r }; is = refl; word = in_braces l r isl ms isr };
})

-- the struct that it declares
pub body_declares : (name : List ℕ) (s t l : Token) (v : List Token) (r : Token) (ds : List Decl) →
    struct_at (tag_of (type.Struct name)) (Some ds) (reach s.start (end_of r)) ≡ external.Struct
    (record { name = name; members = Some ds; span = span_of (s ∷ t ∷ l ∷ v ++ r ∷ []) }) ∷ []
body_declares name s t l v r ds =
    ap (λ tag. struct_at tag (Some ds) (reach s.start (end_of r))) (tag_struct name)
    ∙ ap (struct_at (Some name) (Some ds)) (sym (body_reach s t l v r))

pub head_seen : {n : ℕ} {before : List External} {base : CType} {w : List Token} → HeadSpelled n before base w → HeadSeen n before base w
head_seen {base = base} {w = w} (externals.plain b) = record {
  value = plain_of base w;
  word = alone (plain_word base w b);
  height = refl;
  before_is = refl;
  base_is = refl;
  start = refl;
}
head_seen (externals.with_body (structs.structure {h = h} {name = name} {ds = ds} {v = v} s t l r iss ist isl ms isr)) = record {
  value = body_head name s t ds h r;
  word = body_read s t l r iss ist isl ms isr;
  height = omega arith;
  before_is = body_declares name s t l v r ds;
  base_is = refl;
  start = refl;
}

-- a storage class and a type that were read
pub record SpecifiersSeen (c : Storage) (n : ℕ) (before : List External) (base : CType) (w : List Token) : Type 0 where
  pub value : Specifiers
  pub word : SpecifiersWord value w
  pub storage_is : value.storage ≡ c
  pub height : value.head.height ≡ n
  pub before_is : before_of value.head ≡ before
  pub base_is : value.head.base ≡ base
  pub start : value.start ≡ (span_of w).start

stored_seen : (c : Storage) (t : Token) (n : ℕ) (before : List External) (base : CType) (w : List Token) →
    pick_storage t ≡ Some (c, t.start) → HeadSeen n before base w →
    SpecifiersSeen c n before base (t ∷ w)
stored_seen c t n before base w e h = record {
  value = stored ((c, t.start), h.value);
  word = inl (record { source = ((c, t.start), h.value); is = refl; word = join (one_word_of e) h.word });
  storage_is = refl;
  height = h.height;
  before_is = h.before_is;
  base_is = h.base_is;
  start = refl;
}

with_storage : {c : Storage} {u : List Token} (n : ℕ) (before : List External) (base : CType) (w : List Token) → StorageClass c u →
    HeadSeen n before base w → SpecifiersSeen c n before base (u ++ w)
with_storage n before base w externals.no_storage h = record {
  value = unstored h.value;
  word = inr (record { source = h.value; is = refl; word = h.word });
  storage_is = refl;
  height = h.height;
  before_is = h.before_is;
  base_is = h.base_is;
  start = h.start;
}
with_storage n before base w (externals.static_word t e) h = stored_seen storage.Static t n before base w (static_picked t e) h
with_storage n before base w (externals.extern_word t e) h = stored_seen storage.Extern t n before base w (extern_picked t e) h

pub specifiers_seen : {c : Storage} {n : ℕ} {before : List External} {base : CType} {u w : List Token} → StorageClass c u →
    HeadSpelled n before base w → SpecifiersSeen c n before base (u ++ w)
specifiers_seen {n = n} {before = before} {base = base} {w = w} class h = with_storage n before base w class (head_seen h)
