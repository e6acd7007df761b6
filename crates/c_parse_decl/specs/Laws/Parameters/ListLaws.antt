-- The parser of parameters without their parentheses reads its language (ISO C11 6.7.6.3).
use Rattle.std.specs.Prelude.{◌≡◌, ℕ, suc, ◌≤◌, max, Bool, true, false, ◌||◌, if◌then◌else◌, List, [], ◌∷◌, ◌++◌, refl}
use Rattle.std.proofs.Common.{sym, ◌∙◌, ap, subst, arith}
use Rattle.c_ast.specs.declared.token.Span.{Span}
use Rattle.c_ast.specs.Seen.{Seen as Token}
use Rattle.c_ast.specs.declared.declaration.Decl.{Decl}
use Rattle.c_ast.specs.declared.punctuator.Punctuator.TheVariants as mark
use Rattle.c_grammar.specs.Words.{word_of, punctuator}
use Rattle.c_grammar.specs.Parameters as grammar
use Rattle.c_grammar.specs.Parameters.{Parameter, ParameterList}
use Rattle.c_parse_base.specs.Reading.Answer.{makes}
use Rattle.c_parse_base.specs.Reading.Good.{Language, Begins, Good}
use Rattle.c_parse_base.specs.Reading.Languages.{Then, join, Chain, once, again, Made}
use Rattle.c_parse_base.specs.Laws.Parts.{thens_good, makes_good}
use Rattle.c_parse_base.specs.Laws.ChainLaws.{MayTurn, chain_good}
use Rattle.c_parse_base.specs.Reading.Words.{place_of, Spot, spot, one_word, among}
use Rattle.c_parse_base.specs.Laws.WordGood.{good_as, punct_good, spot_begins}
use Rattle.c_parse_base.specs.Reading.TypeWords.{size_at}
use Rattle.c_parse_base.specs.Reading.TypeNames.{begins_type}
use Rattle.c_parse_base.specs.Laws.WordListLaws.{is_at, both_false, fails_test}
use Rattle.c_parse_decl.specs.declared.declarators.declared.Declared.{Declared}
use Rattle.c_parse_decl.specs.declared.parameter_list.parameters_read.ListRead.{ListRead}
use Rattle.c_parse_decl.specs.Reading.Parameters.{always, comma, has_name, all_named, decl_of, one_parameter, more_parameters, parameter}
use Rattle.c_parse_decl.specs.Reading.Parameters.{further, list}
use Rattle.c_parse_decl.specs.Laws.Parameters.ParameterLaws.{ParameterWord, LowOne, parameter_word_on, parameter_on, declared_of}
use Rattle.c_parse_decl.specs.Laws.Parameters.ParameterLaws.{parameter_decl, parameter_good, parameter_begins_at}

-- ---- the languages

abbrev FirstWord : Language Token ListRead
FirstWord = Made one_parameter ParameterWord

abbrev pub CommaWord : ListRead → Language Token ListRead
CommaWord l = Made (λ (c : Span × Declared). more_parameters l c.1) (Then (Spot (punctuator mark.Comma)) (λ _. ParameterWord))

-- a list, as the grammar has it
pub record ListWord (l : ListRead) (w : List Token) : Type 0 where
  pub height : ℕ
  pub above : l.height ≡ suc height
  pub list : ParameterList height l.decls w
  pub names : l.all_named ≡ all_named l.decls

abbrev pub LowList : ℕ → ListRead → Type 0
LowList d l = l.height ≤ suc d

-- ---- one, and others behind commas

-- the words that stand behind a parameter
abbrev rest_words : List ℕ
rest_words = punctuator mark.Comma ∷ punctuator mark.RightParen ∷ []

pub rest_apart : (t : Token) → among rest_words t ≡ true → parameter_on t ≡ false
unfolding size_at
rest_apart t e = fails_test parameter_word_on rest_words refl (word_of t) e

some_parameter : Begins ParameterWord []
some_parameter = let p = (parameter_good 0).some in record { value = p.value; more = p.more; whole = p.whole }

first_good : (d : ℕ) → Good (makes one_parameter (parameter d)) FirstWord (LowList d) begins_type (λ _. parameter_on)
first_good d = makes_good one_parameter FirstWord (LowList d) (λ _. parameter_on) (parameter_good d)
    (λ a w m. record { source = a; is = refl; word = m }) (λ l w m. m) (λ a w m low. omega arith) (λ a w m low. omega arith) (λ a x e. e)

pub further_good : (d : ℕ) (l : ListRead) → LowList d l → Good (further d l) (CommaWord l) (LowList d) comma (λ _. parameter_on)
unfolding further
further_good d l low = makes_good (λ c. more_parameters l c.1) (CommaWord l) (LowList d) (λ _. parameter_on)
    (thens_good (λ _. parameter d) (λ _. ParameterWord) (λ _. LowOne d) begins_type (λ _ _. parameter_on) (punct_good mark.Comma)
    (λ _ _. parameter_good d) (λ _. some_parameter) (λ a x e. refl))
    (λ c w m. record { source = c; is = refl; word = m }) (λ b w m. m)
    (λ c w m fits. omega (arith, fits.1, low)) (λ c w m fits. (tt, omega (arith, fits))) (λ a x e. e)

comma_begins : (l : ListRead) (t : Token) → comma t ≡ true → Begins (CommaWord l) (t ∷ [])
comma_begins l t e =
    let c = spot_begins (punctuator mark.Comma) (λ _. ParameterWord) t e some_parameter in
    record { value = more_parameters l c.value.1; more = c.more; whole = record { source = c.value; is = refl; word = c.whole } }

may_comma : (d : ℕ) (l v : ListRead) (u : List Token) → CommaWord l v u → LowList d v → MayTurn (LowList d) always l
may_comma d l v u m low = record { fits = omega (arith, ap (λ (v : ListRead). v.height) m.is, low); has_room = refl }

chain_is_good : (d : ℕ) → Good (list d) (Chain FirstWord CommaWord) (LowList d) begins_type (λ _ t. parameter_on t || comma t)
unfolding list
chain_is_good d = chain_good comma always (further d) CommaWord (λ l may. further_good d l may.fits) (λ _ t. parameter_on t || comma t)
    (first_good d) comma_begins (may_comma d) (λ l x e. rest_apart x (is_at (one_word rest_words) (punctuator mark.Comma) x e))
    (λ l x e. both_false (parameter_on x) (comma x) e)

-- ---- into the grammar, and back

one_named : (b : Bool) → b ≡ (if b then true else false)
one_named true = refl
one_named false = refl

named_step : (m n p b : Bool) → m ≡ (if n then p else false) → (if b then m else false) ≡ (if (if b then n else false) then p else false)
named_step m n p true e = e
named_step m n p false e = refl

named_append : (ds : List Decl) (d : Decl) → all_named (ds ++ d ∷ []) ≡ (if all_named ds then has_name d.name else false)
named_append [] d = sym (one_named (has_name d.name))
named_append (x ∷ ds) d = named_step (all_named (ds ++ d ∷ [])) (all_named ds) (has_name d.name) (has_name x.name) (named_append ds d)

comma_into : (l : ListRead) (c : Span × Declared) (w u : List Token) → ListWord l w →
    Then (Spot (punctuator mark.Comma)) (λ _. ParameterWord) c u → ListWord (more_parameters l c.1) (w ++ u)
comma_into l c w u m (join {b = a} (spot t e) p) = record {
  height = max m.height a.height;
  above = omega (arith, m.above);
  list = grammar.more_parameter t m.list e p;
  names = ap (λ b. if b then has_name a.name else false) m.names ∙ sym (named_append l.decls (decl_of a));
}

list_into : (l : ListRead) (w : List Token) → Chain FirstWord CommaWord l w → ListWord l w
list_into l w (once m) = subst (λ l. ListWord l w) m.is (record {
  height = m.source.height;
  above = refl;
  list = grammar.one_parameter m.word;
  names = one_named (has_name m.source.name);
})
list_into l w (again {a = b} {w = x} {u = u} c m) = subst (λ l. ListWord l (x ++ u)) m.is
    (comma_into b m.source x u (list_into b x c) m.word)

abbrev pub listed_of : List Decl → ℕ → ListRead
listed_of ds h = record { decls = ds; height = suc h; all_named = all_named ds }

read_again : (h : ℕ) (d : Decl) (w : List Token) → Parameter h d w → ParameterWord (declared_of h d) w
read_again h d w m = subst (λ d. Parameter h d w) (sym (parameter_decl h d w m)) m

list_back : (h : ℕ) (ds : List Decl) (w : List Token) → ParameterList h ds w → Chain FirstWord CommaWord (listed_of ds h) w
list_back h ds w (grammar.one_parameter {d = d} m) = once (record {
  source = declared_of h d;
  is = ap (λ d. record { decls = d ∷ []; height = suc h; all_named = has_name d.name }) (parameter_decl h d w m)
      ∙ ap (λ b. record { decls = d ∷ []; height = suc h; all_named = b }) (one_named (has_name d.name));
  word = read_again h d w m;
})
list_back h ds w (grammar.more_parameter {h = i} {k = k} {ds = before} {d = d} {u = u} {v = v} c l e m) =
    again (list_back i before u l) (record {
      source = (place_of c, declared_of k d);
      is = same;
      word = join (spot c e) (read_again k d v m);
    })
  where
    same : more_parameters (listed_of before i) (declared_of k d) ≡ listed_of (before ++ d ∷ []) (max i k)
    same =
        let high : max (suc i) (suc k) ≡ suc (max i k) = omega arith in
        ap (λ d. record {
          decls = before ++ d ∷ [];
          height = max (suc i) (suc k);
          all_named = if all_named before then has_name d.name else false;
        })
        (parameter_decl k d v m)
        ∙ ap (λ n. record { decls = before ++ d ∷ []; height = n; all_named = if all_named before then has_name d.name else false }) high
        ∙ ap (λ b. record { decls = before ++ d ∷ []; height = suc (max i k); all_named = b }) (sym (named_append before d))

list_out : (l : ListRead) (w : List Token) → ListWord l w → Chain FirstWord CommaWord l w
list_out l w m = subst (λ l. Chain FirstWord CommaWord l w)
    (ap (λ h. record { decls = l.decls; height = h; all_named = all_named l.decls }) (sym m.above)
    ∙ ap (λ b. record { decls = l.decls; height = l.height; all_named = b }) (sym m.names))
    (list_back m.height l.decls w m.list)

-- ---- a list is read

pub list_good : (d : ℕ) → Good (list d) ListWord (LowList d) begins_type (λ _ t. parameter_on t || comma t)
list_good d = good_as ListWord (LowList d) begins_type (chain_is_good d) list_into list_out (λ v w m h. h) (λ v w m h. h) (λ x h. h)

pub list_begins_at : (t : Token) → begins_type t ≡ true → Begins ListWord (t ∷ [])
list_begins_at t e = let p = parameter_begins_at t e in record {
  value = one_parameter p.value;
  more = p.more;
  whole = list_into (one_parameter p.value) ((t ∷ []) ++ p.more) (once (record { source = p.value; is = refl; word = p.whole }));
}
