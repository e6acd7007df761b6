-- The parser of parameters with their parentheses reads their language (ISO C11 6.7.6.3).
use Rattle.std.specs.Prelude.{◌≡◌, ℕ, suc, Bool, true, false, ◌==◌, ◌||◌, if◌then◌else◌, List, [], ◌∷◌, ◌++◌, refl}
use Rattle.std.proofs.Common.{sym, ◌∙◌, ap, subst, arith, inl, inr}
use Rattle.c_ast.specs.declared.token.Span.{Span}
use Rattle.c_ast.specs.Seen.{Seen as Token}
use Rattle.c_ast.specs.declared.expr.CType.{CType, out-CType}
use Rattle.c_ast.specs.declared.expr.CType.TheOpen.{CType-F}
use Rattle.c_ast.specs.declared.expr.CType.TheVariants as type
use Rattle.c_ast.specs.declared.declaration.Decl.{Decl}
use Rattle.c_ast.specs.declared.keyword.Keyword.TheVariants as key
use Rattle.c_ast.specs.declared.punctuator.Punctuator.TheVariants as mark
use Rattle.c_ast.specs.Tree.{TypeLayer}
use Rattle.c_ast.specs.Laws.Opened.{given_trees}
use Rattle.c_ast.specs.Laws.Tree.{type-by_level}
use Rattle.c_grammar.specs.Words.{keyword, punctuator, IsPunct, span_of, end_of}
use Rattle.c_grammar.specs.Parameters as grammar
use Rattle.c_grammar.specs.Parameters.{Parameters, ParameterList, OneVoid, one_void}
use Rattle.c_grammar.specs.Laws.VoidLaws.{void_levels}
use Rattle.c_parse_base.specs.Reading.Good.{Language, Begins, Good}
use Rattle.c_parse_base.specs.Reading.Languages.{Then, join, Either, Made, Always, nothing}
use Rattle.c_parse_base.specs.Laws.Parts.{thens_good, makes_good, either_good}
use Rattle.c_parse_base.specs.Reading.Words.{is, place_of, punct, Spot, spot, one_word}
use Rattle.c_parse_base.specs.Reading.TypeWords.{first_at}
use Rattle.c_parse_base.specs.Reading.TypeNames.{begins_type, begins_integer}
use Rattle.c_parse_base.specs.Laws.SpanLaws.{last_end_append}
use Rattle.c_parse_base.specs.Laws.WordGood.{good_as, punct_good, punct_begins, spot_begins}
use Rattle.c_parse_base.specs.Laws.WordListLaws.{is_at, or_left, or_right, or_false}
use Rattle.c_parse_decl.specs.declared.parameter_list.parameters_read.ListRead.{ListRead}
use Rattle.c_parse_decl.specs.declared.parameter_list.parameters_read.ParametersRead.{ParametersRead}
use Rattle.c_parse_decl.specs.Reading.Parameters.{Low, has_name, all_named, ParametersWord, comma, no_parameter, void_layer, is_void}
use Rattle.c_parse_decl.specs.Reading.Parameters.{closed_by, closed, listed, nothing_there, inside, parameters}
use Rattle.c_parse_decl.specs.Laws.Parameters.ParameterLaws.{parameter_on}
use Rattle.c_parse_decl.specs.Laws.Parameters.ListLaws.{ListWord, LowList, rest_apart, listed_of, list_good, list_begins_at}

-- ---- one `void`

lone_parts : (name : List ℕ) (b : Bool) → (if has_name name then false else b) ≡ true → (name ≡ []) × (b ≡ true)
lone_parts [] b e = (refl, e)
lone_parts (x ∷ xs) b e = cc

void_type : (ty : CType) (l : TypeLayer) → out-CType ty ≡ l → void_layer l ≡ true → ty ≡ type.Void
unfolding given_trees
void_type ty CType-F.Void e h = type-by_level ty type.Void e
void_type ty (CType-F.Int i) e h = cc
void_type ty (CType-F.Struct s) e h = cc
void_type ty (CType-F.Pointer t) e h = cc
void_type ty (CType-F.Array t l) e h = cc

void_found : (ds : List Decl) → is_void ds ≡ true → OneVoid ds
unfolding is_void
void_found [] e = cc
void_found (d ∷ []) e = let p = lone_parts d.name (void_layer (out-CType d.ty)) e in
    one_void d p.0 (void_type d.ty (out-CType d.ty) refl p.1)
void_found (d ∷ c ∷ ds) e = cc

void_there : (ds : List Decl) → OneVoid ds → is_void ds ≡ true
unfolding is_void given_trees
void_there ds (one_void d n t) =
    ap (λ name. if has_name name then false else void_layer (out-CType d.ty)) n ∙ ap (λ ty. void_layer (out-CType ty)) t

no_void : (ds : List Decl) → ¬ OneVoid ds → is_void ds ≡ false
no_void ds n = go (is_void ds) refl
  where
    go : (b : Bool) → is_void ds ≡ b → is_void ds ≡ false
    go true e = absurd (n (void_found ds e))
    go false e = e

-- ---- the languages

abbrev ListedWord : Language Token ParametersRead
ListedWord = Made closed (Then ListWord (λ _. Spot (punctuator mark.RightParen)))

abbrev NothingWord : Language Token ParametersRead
NothingWord = Made no_parameter (Spot (punctuator mark.RightParen))

abbrev InsideWord : Language Token ParametersRead
InsideWord = Either ListedWord NothingWord

abbrev WholeWord : Language Token ParametersRead
WholeWord = Made (λ (c : Span × ParametersRead). c.1) (Then (Spot (punctuator mark.LeftParen)) (λ _. InsideWord))

-- ---- the parsers

close_apart : (l : ListRead) (x : Token) → is (punctuator mark.RightParen) x ≡ true → (parameter_on x || comma x) ≡ false
close_apart l x e = or_false (parameter_on x) (comma x)
    (rest_apart x (is_at (one_word (punctuator mark.Comma ∷ punctuator mark.RightParen ∷ [])) (punctuator mark.RightParen) x e))
    (is_at (λ w. w == punctuator mark.Comma) (punctuator mark.RightParen) x e)

closed_low : (d : ℕ) (b : Bool) (c : ListRead × Span) → LowList d c.0 → Low d (closed_by b c)
closed_low d true c low = omega arith
closed_low d false c low = low

closed_back : (d : ℕ) (l : ListRead) (p : Span) (u : List Token) → ListWord l u → (b : Bool) → is_void l.decls ≡ b →
    Low d (closed_by b (l, p)) → LowList d l
closed_back d l p u m true e low = omega (arith, m.above, void_levels m.list (void_found l.decls e))
closed_back d l p u m false e low = low

listed_low : (d : ℕ) (c : ListRead × Span) (w : List Token) → Then ListWord (λ _. Spot (punctuator mark.RightParen)) c w →
    Low d (closed c) →
    LowList d c.0 × Always c.1
listed_low d c w (join {a = l} {b = p} {u = u} m s) low = (closed_back d l p u m (is_void l.decls) refl low, tt)

listed_good : (d : ℕ) → Good (listed d) ListedWord (Low d) begins_type nothing
unfolding listed
listed_good d = makes_good closed ListedWord (Low d) nothing
    (thens_good (λ _. punct mark.RightParen) (λ _. Spot (punctuator mark.RightParen)) (λ _. Always) (is (punctuator mark.RightParen))
    (λ _. nothing) (list_good d) (λ _ _. punct_good mark.RightParen) (λ _. punct_begins mark.RightParen) close_apart)
    (λ c w m. record { source = c; is = refl; word = m }) (λ v w m. m) (λ c w m fits. closed_low d (is_void c.0.decls) c fits.0)
    (listed_low d) (λ c x e. refl)

nothing_good : (d : ℕ) → Good nothing_there NothingWord (Low d) (is (punctuator mark.RightParen)) nothing
unfolding nothing_there
nothing_good d = makes_good no_parameter NothingWord (Low d) nothing (punct_good mark.RightParen)
    (λ c w m. record { source = c; is = refl; word = m }) (λ b w m. m) (λ c w m fits. omega arith) (λ c w m fits. tt) (λ c x e. refl)

listed_begins : (t : Token) → begins_type t ≡ true → Begins ListedWord (t ∷ [])
listed_begins t e =
    let l = list_begins_at t e in
    let r = punct_begins mark.RightParen in
    record {
      value = closed (l.value, r.value);
      more = l.more ++ r.more;
      whole = record { source = (l.value, r.value); is = refl; word = join l.whole r.whole };
    }

abbrev type_word : ℕ → Bool
type_word w = (w == keyword key.Struct) || ((w == keyword key.Void) || begins_integer w)

close_no_type : type_word (punctuator mark.RightParen) ≡ false
unfolding first_at
close_no_type = refl

abbrev inside_first : Token → Bool
inside_first t = begins_type t || is (punctuator mark.RightParen) t

inside_good : (d : ℕ) → Good (inside d) InsideWord (Low d) inside_first nothing
unfolding inside
inside_good d = either_good begins_type true inside_first (λ r. listed_good d) (nothing_good d)
    listed_begins (λ r w m fits. refl) (listed_good 0).starts (λ x e. is_at type_word (punctuator mark.RightParen) x e ∙ close_no_type)
    (λ x e. or_left (begins_type x) (is (punctuator mark.RightParen) x) e)
    (λ x e. or_right (begins_type x) (is (punctuator mark.RightParen) x) e)

inside_begins : Begins InsideWord []
inside_begins = let r = punct_begins mark.RightParen in record {
  value = no_parameter r.value;
  more = r.more;
  whole = inr (record { source = r.value; is = refl; word = r.whole });
}

-- ---- into the grammar, and back

closed_end : (l : Token) (w : List Token) (r : Token) → (span_of (l ∷ w ++ r ∷ [])).end ≡ end_of r
closed_end l w r = last_end_append l w r []

module _ (p : Token) (is_left : IsPunct mark.LeftParen p) where
  closed_into : (l : ListRead) (u : List Token) (r : Token) → ListWord l u → IsPunct mark.RightParen r →
      (b : Bool) → is_void l.decls ≡ b → ParametersWord (closed_by b (l, place_of r)) (p ∷ u ++ r ∷ [])
  closed_into l u r m is_right true e = record {
    list = grammar.void p r is_left m.list (void_found l.decls e) is_right;
    end = sym (closed_end p u r);
    named = refl;
  }
  closed_into l u r m is_right false e = record {
    list = subst (λ h. Parameters h l.decls (p ∷ u ++ r ∷ [])) (sym m.above)
        (grammar.parameters p r is_left m.list (λ o. let y = void_there l.decls o in cc) is_right);
    end = sym (closed_end p u r);
    named = m.names;
  }

  inside_into : (v : ParametersRead) (w : List Token) → InsideWord v w → ParametersWord v (p ∷ w)
  inside_into v w (inl m) = subst (λ v. ParametersWord v (p ∷ w)) m.is (go m.source w m.word)
    where
      go : (c : ListRead × Span) (w : List Token) → Then ListWord (λ _. Spot (punctuator mark.RightParen)) c w →
          ParametersWord (closed c) (p ∷ w)
      go c w (join {a = l} {u = u} k (spot r e)) = closed_into l u r k e (is_void l.decls) refl
  inside_into v w (inr m) = subst (λ v. ParametersWord v (p ∷ w)) m.is (go m.source w m.word)
    where
      go : (c : Span) (w : List Token) → Spot (punctuator mark.RightParen) c w → ParametersWord (no_parameter c) (p ∷ w)
      go c w (spot r e) = record { list = grammar.no_word p r is_left e; end = refl; named = refl }

  whole_back : (v : ParametersRead) (w : List Token) → InsideWord v w → WholeWord v (p ∷ w)
  whole_back v w k = record { source = (place_of p, v); is = refl; word = join (spot p is_left) k }

whole_into : (v : ParametersRead) (w : List Token) → WholeWord v w → ParametersWord v w
whole_into v w m = subst (λ v. ParametersWord v w) m.is (go m.source w m.word)
  where
    go : (c : Span × ParametersRead) (w : List Token) → Then (Spot (punctuator mark.LeftParen)) (λ _. InsideWord) c w → ParametersWord c.1 w
    go c w (join {b = v} {v = x} (spot l e) k) = inside_into l e v x k

abbrev read : List Decl → ℕ → ℕ → ParametersRead
read ds h end = record { decls = ds; height = h; end = end; all_named = all_named ds }

list_closed : (h : ℕ) (ds : List Decl) (w : List Token) (r : Token) → ParameterList h ds w → IsPunct mark.RightParen r →
    (b : Bool) → is_void ds ≡ b → InsideWord (closed_by b (listed_of ds h, place_of r)) (w ++ r ∷ [])
list_closed h ds w r m e b is = inl (record {
  source = (listed_of ds h, place_of r);
  is = ap (λ b. closed_by b (listed_of ds h, place_of r)) is;
  word = join (record { height = h; above = refl; list = m; names = refl }) (spot r e);
})

whole_of : (h : ℕ) (ds : List Decl) (w : List Token) → Parameters h ds w → WholeWord (read ds h (span_of w).end) w
whole_of h ds w (grammar.no_word l r is_left is_right) =
    whole_back l is_left (no_parameter (place_of r)) (r ∷ []) (inr (record { source = place_of r; is = refl; word = spot r is_right }))
whole_of h ds w (grammar.void {h = k} {ds = one} {v = v} l r is_left m o is_right) =
    subst (λ end. WholeWord (read [] 0 end) (l ∷ v ++ r ∷ [])) (sym (closed_end l v r))
    (whole_back l is_left (no_parameter (place_of r)) (v ++ r ∷ []) (list_closed k one v r m is_right true (void_there one o)))
whole_of h ds w (grammar.parameters {h = k} {v = v} l r is_left m n is_right) =
    subst (λ end. WholeWord (read ds (suc k) end) (l ∷ v ++ r ∷ [])) (sym (closed_end l v r))
    (whole_back l is_left (read ds (suc k) (end_of r)) (v ++ r ∷ []) (list_closed k ds v r m is_right false (no_void ds n)))

whole_out : (v : ParametersRead) (w : List Token) → ParametersWord v w → WholeWord v w
whole_out v w m =
    subst (λ v. WholeWord v w)
    (ap (λ end. record { decls = v.decls; height = v.height; end = end; all_named = all_named v.decls }) (sym m.end)
    ∙ ap (λ b. record { decls = v.decls; height = v.height; end = v.end; all_named = b }) (sym m.named))
    (whole_of v.height v.decls w m.list)

-- ---- parameters are read

pub parameters_good : (d : ℕ) → Good (parameters d) ParametersWord (Low d) (is (punctuator mark.LeftParen)) nothing
unfolding parameters
parameters_good d = good_as ParametersWord (Low d) (is (punctuator mark.LeftParen))
    (makes_good (λ c. c.1) WholeWord (Low d) nothing
    (thens_good (λ _. inside d) (λ _. InsideWord) (λ _. Low d) inside_first (λ _. nothing) (punct_good mark.LeftParen)
    (λ _ _. inside_good d) (λ _. inside_begins) (λ a x e. refl))
    (λ c w m. record { source = c; is = refl; word = m }) (λ b w m. m) (λ c w m fits. fits.1) (λ c w m fits. (tt, fits)) (λ c x e. refl))
    whole_into whole_out (λ v w m h. h) (λ v w m h. h) (λ x h. h)

-- some parameters begin with "("
pub parameters_begins_at : (t : Token) → is (punctuator mark.LeftParen) t ≡ true → Begins ParametersWord (t ∷ [])
parameters_begins_at t e =
    let c = spot_begins (punctuator mark.LeftParen) (λ _. InsideWord) t e inside_begins in
    record {
      value = c.value.1;
      more = c.more;
      whole = whole_into c.value.1 ((t ∷ []) ++ c.more) (record { source = c.value; is = refl; word = c.whole });
    }
