-- A first name and what is left behind it are the objects of a declaration, and the other way.
use Rattle.std.specs.Prelude.{◌≡◌, ◌≢◌, ℕ, suc, max, List, [], ◌∷◌, ◌++◌, Option, refl}
use Rattle.std.proofs.Common.{sym, ◌∙◌, ap, subst, append_assoc, append-nil, arith, inl, inr}
use Rattle.c_ast.specs.declared.token.Span.{Span}
use Rattle.c_ast.specs.Seen.{Seen as Token}
use Rattle.c_ast.specs.declared.expr.CType.{CType}
use Rattle.c_ast.specs.declared.expr.Expr.{Expr}
use Rattle.c_ast.specs.declared.declaration.Decl.{Decl}
use Rattle.c_ast.specs.declared.punctuator.Punctuator.TheVariants as mark
use Rattle.c_grammar.specs.Words.{IsPunct, IsName, punctuator, span_of}
use Rattle.c_grammar.specs.Types.{Stars}
use Rattle.c_grammar.specs.Declarators as spells
use Rattle.c_grammar.specs.Declarators.{arrays, Brackets, no_bracket, bracket, Declarator}
use Rattle.c_grammar.specs.Objects as grammar
use Rattle.c_grammar.specs.Objects.{Object, Objects}
use Rattle.c_parse_base.specs.Reading.Languages.{Then, join, once, again}
use Rattle.c_parse_base.specs.Reading.Spans.{join_spans}
use Rattle.c_parse_base.specs.Laws.SpanLaws.{span_append}
use Rattle.c_parse_base.specs.Reading.Words.{is, place_of, Spot, spot}
use Rattle.c_parse_decl.specs.declared.declarators.declared.Declared.{Declared}
use Rattle.c_parse_decl.specs.Reading.Declarators.{StarredWord, starred_name, BracketedWord, brackets_behind, DeclaratorWord}
use Rattle.c_parse_decl.specs.Reading.Declarators.{begins_declarator}
use Rattle.c_parse_decl.specs.Laws.Declarators.StarredLaws.{starred_good}
use Rattle.c_parse_decl.specs.Laws.Declarators.BracketLaws.{bracketed_good}
use Rattle.c_parse_decl.specs.declared.objects.objects_read.ObjectRead.{ObjectRead}
use Rattle.c_parse_decl.specs.declared.objects.objects_read.ObjectsRead.{ObjectsRead}
use Rattle.c_parse_decl.specs.Reading.Objects.{ObjectWord, ValueWord, FurtherWord, ListWord, EndedWord, ValuedRestWord, RestWord}
use Rattle.c_parse_decl.specs.Reading.Objects.{ObjectsBehind, ByFirstName, plain_of, one_object, more_objects}
use Rattle.c_parse_decl.specs.Laws.Objects.ObjectLaws.{object_read, declared, plain_made, value_made, value_out}

-- ---- declarators by their parts

starred_declarator : (base : CType) (a : Declared) (u : List Token) → StarredWord base a u → DeclaratorWord base a u
unfolding arrays
starred_declarator base a u (starred_name t s isn) = record { declarator = spells.declarator t s isn no_bracket; span = refl }

-- brackets behind a starred name
bracketed_span : (base : CType) (a b : Declared) (u x : List Token) → StarredWord base a u → BracketedWord a b x →
    join_spans (span_of u) (span_of x) ≡ span_of (u ++ x)
bracketed_span base a b u x s m =
    sym (span_append begins_declarator (is (punctuator mark.LeftBracket)) u x ((starred_good 0 base).starts a u s)
    ((bracketed_good (suc a.height) a (omega arith)).starts b x m))

bracketed_declarator : (base : CType) (a b : Declared) (u x : List Token) → StarredWord base a u → BracketedWord a b x →
    DeclaratorWord base b (u ++ x)
bracketed_declarator base a b u x (starred_name {n = n} {ty = ty} {name = name} {u = v} t s isn)
    (brackets_behind {h = h} {lengths = lengths} m some) = record {
      declarator = subst (λ w. Declarator base h name (arrays ty lengths) w) (sym (append_assoc v (t ∷ []) x))
          (spells.declarator t s isn m);
      span = bracketed_span base a b u x (starred_name t s isn) (brackets_behind m some);
    }

-- ---- into the grammar

further_into : (base : CType) (a b : ObjectsRead) (u x : List Token) → Objects base a.height a.decls u → FurtherWord base a b x →
    Objects base b.height b.decls (u ++ x)
further_into base a b u x objects m = subst (λ (b : ObjectsRead). Objects base b.height b.decls (u ++ x)) m.is (joined m.source x m.word)
  where
    joined : (c : Span × ObjectRead) (x : List Token) → Then (Spot (punctuator mark.Comma)) (λ _. ObjectWord base) c x →
        Objects base (more_objects a c.1).height (more_objects a c.1).decls (u ++ x)
    joined c x (join (spot t isc) n) = grammar.more_object t objects isc n

list_into : (base : CType) (a b : ObjectsRead) (u x : List Token) → Objects base a.height a.decls u → ListWord base a b x →
    Objects base b.height b.decls (u ++ x)
list_into base a b u x objects (once m) = further_into base a b u x objects m
list_into base a b u x objects (again {a = c} {w = y} {u = z} l m) =
    subst (λ w. Objects base b.height b.decls w) (append_assoc u y z)
    (further_into base c b (u ++ y) z (list_into base a c u y objects l) m)

ended_into : (base : CType) (a v : ObjectsRead) (u w : List Token) → Objects base a.height a.decls u → EndedWord base a v w →
    ObjectsBehind base u v w
ended_into base a v u w objects (inl m) = subst (λ v. ObjectsBehind base u v w) m.is (joined m.source w m.word)
  where
    joined : (c : ObjectsRead × Span) (w : List Token) → Then (ListWord base a) (λ _. Spot (punctuator mark.Semicolon)) c w →
        ObjectsBehind base u c.0 w
    joined c w (join {a = b} {u = x} l (spot s iss)) = record {
      list = x;
      semicolon = s;
      parts = refl;
      is_semicolon = iss;
      objects = list_into base a b u x objects l;
    }
ended_into base a v u w objects (inr m) = subst (λ v. ObjectsBehind base u v w) m.is (last m.source w m.word)
  where
    last : (p : Span) (w : List Token) → Spot (punctuator mark.Semicolon) p w → ObjectsBehind base u a w
    last p w (spot s iss) = record {
      list = [];
      semicolon = s;
      parts = refl;
      is_semicolon = iss;
      objects = subst (λ w. Objects base a.height a.decls w) (sym (append-nil u)) objects;
    }

-- more tokens before them
moved : (base : CType) (v : ObjectsRead) (u x y : List Token) → ObjectsBehind base (u ++ x) v y → ObjectsBehind base u v (x ++ y)
moved base v u x y o = record {
  list = x ++ o.list;
  semicolon = o.semicolon;
  parts = ap (λ w. x ++ w) o.parts ∙ sym (append_assoc x o.list (o.semicolon ∷ []));
  is_semicolon = o.is_semicolon;
  objects = subst (λ w. Objects base v.height v.decls w) (append_assoc u x o.list) o.objects;
}

valued_into : (base : CType) (a : Declared) (v : ObjectsRead) (u w : List Token) → DeclaratorWord base a u → ValuedRestWord base a v w →
    ObjectsBehind base u v w
valued_into base a v u w d (inl m) = subst (λ v. ObjectsBehind base u v w) m.is (joined m.source w m.word)
  where
    made : (b : ObjectRead) (x : List Token) → ValueWord (plain_of a) b x → ObjectWord base b (u ++ x)
    made b x n = subst (λ b. ObjectWord base b (u ++ x)) n.is (value_made base a n.source u x d n.word)

    joined : (c : ObjectRead × ObjectsRead) (w : List Token) → Then (ValueWord (plain_of a)) (λ b. EndedWord base (one_object b)) c w →
        ObjectsBehind base u c.1 w
    joined c w (join {a = b} {b = o} {u = x} {v = y} n e) = moved base o u x y
        (ended_into base (one_object b) o (u ++ x) y (grammar.object (made b x n)) e)
valued_into base a v u w d (inr m) = ended_into base (one_object (plain_of a)) v u w (grammar.object (plain_made base a u d)) m

pub rest_into : (base : CType) (a : Declared) (u : List Token) (v : ObjectsRead) (w : List Token) → StarredWord base a u →
    RestWord base a v w → ObjectsBehind base u v w
unfolding RestWord
rest_into base a u v w s (inl m) = subst (λ v. ObjectsBehind base u v w) m.is (joined m.source w m.word)
  where
    joined : (c : Declared × ObjectsRead) (w : List Token) → Then (BracketedWord a) (ValuedRestWord base) c w → ObjectsBehind base u c.1 w
    joined c w (join {a = b} {b = o} {u = x} {v = y} n r) = moved base o u x y
        (valued_into base b o (u ++ x) y (bracketed_declarator base a b u x s n) r)
rest_into base a u v w s (inr m) = valued_into base a v u w (starred_declarator base a u s) m

-- ---- and back

abbrev objects_read : List Decl → ℕ → ObjectsRead
objects_read ds h = record { decls = ds; height = h }

-- further objects, or none
data Tail (base : CType) (a : ObjectsRead) : ObjectsRead → List Token → Type 0 where
  none : Tail base a a []
  some : {v : ObjectsRead} {w : List Token} → ListWord base a v w → Tail base a v w

-- a first object and those behind it
record Split (base : CType) (v : ObjectsRead) (x : List Token) : Type 0 where
  height : ℕ
  decl : Decl
  head : List Token
  tail : List Token
  parts : x ≡ head ++ tail
  object : Object base height decl head
  behind : Tail base (one_object (object_read decl height)) v tail

tail_more : (base : CType) (a b v : ObjectsRead) (w u : List Token) → Tail base a b w → FurtherWord base b v u → Tail base a v (w ++ u)
tail_more base a b v w u none m = some (once m)
tail_more base a b v w u (some l) m = some (again l m)

split : (base : CType) (h : ℕ) (ds : List Decl) (x : List Token) → Objects base h ds x → Split base (objects_read ds h) x
split base h ds x (grammar.object {d = d} m) = record {
  height = h;
  decl = d;
  head = x;
  tail = [];
  parts = sym (append-nil x);
  object = m;
  behind = none;
}
split base h ds x (grammar.more_object {h = i} {k = k} {ds = es} {d = d} {u = u} {v = v} c l isc m) =
    let s = split base i es u l in
    record {
      height = s.height;
      decl = s.decl;
      head = s.head;
      tail = s.tail ++ c ∷ v;
      parts = ap (λ u. u ++ c ∷ v) s.parts ∙ append_assoc s.head s.tail (c ∷ v);
      object = s.object;
      behind = tail_more base (one_object (object_read s.decl s.height)) (objects_read es i)
          (objects_read (es ++ d ∷ []) (max i k)) s.tail (c ∷ v) s.behind
          (record { source = (place_of c, object_read d k); is = refl; word = join (spot c isc) m });
    }

tail_ended : (base : CType) (a v : ObjectsRead) (w : List Token) (s : Token) → Tail base a v w → IsPunct mark.Semicolon s →
    EndedWord base a v (w ++ s ∷ [])
tail_ended base a v w s none iss = inr (record { source = place_of s; is = refl; word = spot s iss })
tail_ended base a v w s (some l) iss = inl (record { source = (v, place_of s); is = refl; word = join l (spot s iss) })

not_none : (ls : List (Option Expr)) (size : Option Expr) → ls ++ size ∷ [] ≢ []
not_none [] size = λ e. cc
not_none (l ∷ ls) size = λ e. cc

module _ (base : CType) (v : ObjectsRead) (y : List Token) where
  with_brackets : (n h : ℕ) (ty : CType) (name : List ℕ) (lengths : List (Option Expr)) (u : List Token) (t : Token) (x : List Token) →
      Stars base n ty u → IsName name t →
      Brackets n h lengths x → lengths ≢ [] → ValuedRestWord base (declared name (arrays ty lengths) h (span_of (u ++ t ∷ x))) v y →
      ByFirstName base v ((u ++ t ∷ x) ++ y)
  unfolding RestWord
  with_brackets n h ty name lengths u t x s isn b more r =
      let a : Declared = declared name ty n (span_of (u ++ t ∷ [])) in
      let c : Declared = declared name (arrays ty lengths) h (join_spans (span_of (u ++ t ∷ [])) (span_of x)) in
      let span = bracketed_span base a c (u ++ t ∷ []) x (starred_name t s isn) (brackets_behind b more)
      ∙ ap span_of (append_assoc u (t ∷ []) x) in
      record {
        first = a;
        before = u ++ t ∷ [];
        behind = x ++ y;
        parts = ap (λ w. w ++ y) (sym (append_assoc u (t ∷ []) x)) ∙ append_assoc (u ++ t ∷ []) x y;
        starred = starred_name t s isn;
        rest = inl (record {
          source = (c, v);
          is = refl;
          word = join (brackets_behind b more) (subst (λ s. ValuedRestWord base (declared name (arrays ty lengths) h s) v y) (sym span) r);
        });
      }

  by_brackets : (n h : ℕ) (ty : CType) (name : List ℕ) (lengths : List (Option Expr)) (u : List Token) (t : Token) (x : List Token) →
      Stars base n ty u → IsName name t →
      Brackets n h lengths x → ValuedRestWord base (declared name (arrays ty lengths) h (span_of (u ++ t ∷ x))) v y →
      ByFirstName base v ((u ++ t ∷ x) ++ y)
  unfolding RestWord arrays
  by_brackets n h ty name lengths u t x s isn no_bracket r = record {
    first = declared name ty n (span_of (u ++ t ∷ []));
    before = u ++ t ∷ [];
    behind = y;
    parts = refl;
    starred = starred_name t s isn;
    rest = inr r;
  }
  by_brackets n h ty name lengths u t x s isn (bracket {lengths = ls} {size = size} l e b isl m ise) r =
      with_brackets n h ty name lengths u t x s isn (bracket l e b isl m ise) (not_none ls size) r

  declarator_out : (h : ℕ) (name : List ℕ) (ty : CType) (w : List Token) → Declarator base h name ty w →
      ValuedRestWord base (declared name ty h (span_of w)) v y → ByFirstName base v (w ++ y)
  declarator_out h name ty w (spells.declarator {n = n} {ty = inner} {lengths = lengths} {u = u} {v = x} t s isn b) r = by_brackets n h
      inner name lengths u t x s isn b r

object_first : (base : CType) (v : ObjectsRead) (y : List Token) (h : ℕ) (decl : Decl) (w : List Token) → Object base h decl w →
    EndedWord base (one_object (object_read decl h)) v y → ByFirstName base v (w ++ y)
object_first base v y h decl w (grammar.plain {name = name} {ty = ty} m) e = declarator_out base v y h name ty w m (inr e)
object_first base v y h decl w (grammar.initialised {h = i} {k = k} {name = name} {ty = ty} {i = init} {u = u} {v = x} t m isq n) e =
    subst (λ w. ByFirstName base v w) (sym (append_assoc u (t ∷ x) y))
    (declarator_out base v (t ∷ x ++ y) i name ty u m (inl (record {
      source = (object_read decl h, v);
      is = refl;
      word = join (value_out base i k name ty init u x t m isq n) e;
    })))

pub rest_out : (base : CType) (v : ObjectsRead) (x : List Token) (s : Token) → Objects base v.height v.decls x →
    IsPunct mark.Semicolon s → ByFirstName base v (x ++ s ∷ [])
rest_out base v x s objects iss =
    let p = split base v.height v.decls x objects in
    subst (λ w. ByFirstName base v w) (sym (ap (λ w. w ++ s ∷ []) p.parts ∙ append_assoc p.head p.tail (s ∷ [])))
    (object_first base v (p.tail ++ s ∷ []) p.height p.decl p.head p.object
    (tail_ended base (one_object (object_read p.decl p.height)) v p.tail s p.behind iss))
