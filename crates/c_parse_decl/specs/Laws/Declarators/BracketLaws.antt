-- Pairs of brackets behind what was declared are read.
use Rattle.std.specs.Prelude.{◌≡◌, ◌≢◌, ℕ, suc, ◌+◌, ◌-◌, ◌<◌, ◌≤◌, max, Bool, true, false, nat_lt, ◌||◌, List, [], ◌∷◌, ◌++◌, length}
use Rattle.std.specs.Prelude.{Option, Some, None, refl}
use Rattle.std.proofs.Common.{sym, ◌∙◌, ap, subst, append_assoc, arith, inl, inr, length-append}
use Rattle.c_ast.specs.declared.token.Span.{Span}
use Rattle.c_ast.specs.Seen.{Seen as Token}
use Rattle.c_ast.specs.declared.expr.Expr.{Expr}
use Rattle.c_ast.specs.declared.punctuator.Punctuator.TheVariants as mark
use Rattle.c_grammar.specs.Words.{IsPunct, end_of, span_of, punctuator}
use Rattle.c_grammar.specs.Declarators as grammar
use Rattle.c_grammar.specs.Declarators.{arrays, Brackets, Length}
use Rattle.c_parse_base.specs.Reading.Good.{Language, Begins, Good}
use Rattle.c_parse_base.specs.Reading.Languages.{Then, join, Either, Chain, once, again, Always, nothing, Made}
use Rattle.c_parse_base.specs.Laws.Parts.{thens_good, makes_good, either_good}
use Rattle.c_parse_base.specs.Laws.ChainLaws.{MayTurn, chain_good}
use Rattle.c_parse_base.specs.Reading.Words.{is, punct, place_of, Spot, spot, one_word, among}
use Rattle.c_parse_base.specs.Laws.WordGood.{punct_good, punct_begins, spot_begins}
use Rattle.c_parse_expr.specs.declared.measured.Measured.{Measured}
use Rattle.c_parse_expr.specs.Reading.Operators.{operator_word}
use Rattle.c_parse_base.specs.Laws.WordListLaws.{is_at, or_left, or_right, both_false}
use Rattle.c_parse_base.specs.Laws.SpanLaws.{end_last}
use Rattle.c_parse_base.specs.Laws.Depths.{below_is, is_below}
use Rattle.c_parse_expr.specs.Reading.Levels.{ConditionalWord, begin_words, begins, conditional_on, assign_words, measured}
use Rattle.c_parse_expr.specs.Laws.LevelLaws.{closes_all}
use Rattle.c_parse_expr.specs.Laws.ExpressionLaws.{good_at}
use Rattle.c_parse_expr.specs.Laws.BeginLaws.{conditional_begins_at}
use Rattle.c_parse_decl.specs.declared.declarators.declared.Declared.{Declared}
use Rattle.c_parse_decl.specs.declared.declarators.lengths.Lengths.{Lengths}
use Rattle.c_parse_decl.specs.Reading.Declarators.{Low, BracketedWord, brackets_behind, goes_on_declarator, no_lengths, tree_of}
use Rattle.c_parse_decl.specs.Reading.Declarators.{levels_of, more_lengths, arrays_of, sized, unsized, size, pair, has_room, pairs}
use Rattle.c_parse_decl.specs.Reading.Declarators.{bracketed}

-- ---- what stands between brackets

abbrev Size : Type 0
Size = Option Measured × Span

abbrev Sized : Language Token Size
Sized = Made (λ c. (Some c.0, c.1)) (Then ConditionalWord (λ _. Spot (punctuator mark.RightBracket)))

abbrev Unsized : Language Token Size
Unsized = Made (λ r. (None, r)) (Spot (punctuator mark.RightBracket))

abbrev SizeWord : Language Token Size
SizeWord = Either Sized Unsized

-- between brackets of this level
abbrev LowSize : ℕ → ℕ → Size → Type 0
LowSize d level c = level + levels_of c.0 ≤ d

-- the tokens with which it begins
abbrev size_first : Token → Bool
size_first t = begins t || is (punctuator mark.RightBracket) t

right_none : operator_word (punctuator mark.RightBracket) ≡ None
unfolding operator_word
right_none = refl

right_closes : (a : Measured) (t : Token) → is (punctuator mark.RightBracket) t ≡ true → conditional_on a t ≡ false
right_closes a t e = (both_false (conditional_on a t) (among assign_words t)
    (closes_all a (punctuator mark.RightBracket) t refl right_none refl refl e)).0

right_begins_none : (t : Token) → is (punctuator mark.RightBracket) t ≡ true → begins t ≡ false
right_begins_none t e = is_at (one_word begin_words) (punctuator mark.RightBracket) t e

sized_good : (d level : ℕ) → nat_lt level d ≡ true → Good (sized d level) Sized (LowSize d level) begins nothing
unfolding sized
sized_good d level room =
    let low : level < d = below_is level d room in
    makes_good (λ c. (Some c.0, c.1)) Sized (LowSize d level) nothing
    (thens_good (λ _. punct mark.RightBracket) (λ _. Spot (punctuator mark.RightBracket)) (λ _. Always)
    (is (punctuator mark.RightBracket)) (λ _. nothing)
    (good_at (d - suc level)).conditional (λ _ _. punct_good mark.RightBracket) (λ _. punct_begins mark.RightBracket) right_closes)
    (λ c w m. record { source = c; is = refl; word = m }) (λ c w m. m)
    (λ c w m fits. omega (arith, fits.0)) (λ c w m fits. (omega (arith, fits), tt)) (λ c x h. refl)

unsized_good : (d level : ℕ) → level ≤ d → Good unsized Unsized (LowSize d level) (is (punctuator mark.RightBracket)) nothing
unfolding unsized
unsized_good d level low = makes_good (λ r. (None, r)) Unsized (LowSize d level) nothing (punct_good mark.RightBracket)
    (λ r w m. record { source = r; is = refl; word = m }) (λ c w m. m) (λ r w m fits. omega arith) (λ r w m fits. tt) (λ r x h. refl)

sized_begins : (t : Token) → begins t ≡ true → Begins Sized (t ∷ [])
sized_begins t h =
    let b = conditional_begins_at t h in
    let r = punct_begins mark.RightBracket in
    record {
      value = (Some b.value, r.value);
      more = b.more ++ r.more;
      whole = record { source = (b.value, r.value); is = refl; word = join b.whole r.whole };
    }

sized_room : (d level : ℕ) (c : Size) (w : List Token) → Sized c w → LowSize d level c → nat_lt level d ≡ true
sized_room d level c w m low =
    let same : suc m.source.0.height ≡ levels_of c.0 = ap (λ (c : Size). levels_of c.0) m.is in
    is_below level d (omega arith)

size_good : (d level : ℕ) → level ≤ d → Good (size d level) SizeWord (LowSize d level) size_first nothing
unfolding size
size_good d level low = either_good begins (nat_lt level d) size_first
    (sized_good d level) (unsized_good d level low) sized_begins (sized_room d level)
    (λ c w m. (sized_good (suc level) level (is_below level (suc level) (omega arith))).starts c w m) right_begins_none
    (λ x h. or_left (begins x) (is (punctuator mark.RightBracket) x) h) (λ x h. or_right (begins x) (is (punctuator mark.RightBracket) x) h)

size_begins : Begins SizeWord []
size_begins =
    let r = punct_begins mark.RightBracket in
    record { value = (None, r.value); more = r.more; whole = inr (record { source = r.value; is = refl; word = r.whole }) }

-- ---- pairs

-- one more pair
abbrev pub PairWord : Lengths → Language Token Lengths
PairWord b = Made (λ (c : Span × Size). more_lengths b c.1) (Then (Spot (punctuator mark.LeftBracket)) (λ _. SizeWord))

abbrev PairsWord : Lengths → Language Token Lengths
PairsWord b = Chain (PairWord b) PairWord

abbrev pub LowLengths : ℕ → Lengths → Type 0
LowLengths d b = b.height ≤ d

pub pair_good : (d : ℕ) (b : Lengths) → MayTurn (LowLengths d) (has_room d) b →
    Good (pair d b) (PairWord b) (LowLengths d) (is (punctuator mark.LeftBracket)) nothing
unfolding pair
pair_good d b may =
    let low : b.height ≤ d = may.fits in
    let room : b.level < d = below_is b.level d may.has_room in
    makes_good (λ c. more_lengths b c.1) (PairWord b) (LowLengths d) nothing
    (thens_good (λ _. size d (suc b.level)) (λ _. SizeWord) (λ _. LowSize d (suc b.level)) size_first (λ _. nothing)
    (punct_good mark.LeftBracket) (λ _ _. size_good d (suc b.level) (omega arith)) (λ _. size_begins) (λ a x e. refl))
    (λ c w m. record { source = c; is = refl; word = m }) (λ c w m. m)
    (λ c w m fits. omega (arith, fits.1)) (λ c w m fits. (tt, omega (arith, fits))) (λ c x h. refl)

pair_begins : (b : Lengths) (t : Token) → is (punctuator mark.LeftBracket) t ≡ true → Begins (PairWord b) (t ∷ [])
pair_begins b t e =
    let s = spot_begins (punctuator mark.LeftBracket) (λ _. SizeWord) t e size_begins in
    record { value = more_lengths b s.value.1; more = s.more; whole = record { source = s.value; is = refl; word = s.whole } }

may_pair : (d : ℕ) (a b : Lengths) (w : List Token) → PairWord a b w → LowLengths d b → MayTurn (LowLengths d) (has_room d) a
may_pair d a b w m low =
    let high : max a.height (suc a.level + levels_of m.source.1.0) ≡ b.height = ap (λ (b : Lengths). b.height) m.is in
    record { fits = omega arith; has_room = is_below a.level d (omega arith) }

pub pairs_good : (d : ℕ) (b : Lengths) → MayTurn (LowLengths d) (has_room d) b →
    Good (pairs d b) (PairsWord b) (LowLengths d) (is (punctuator mark.LeftBracket)) (λ _. is (punctuator mark.LeftBracket))
unfolding pairs
pairs_good d b may = chain_good (is (punctuator mark.LeftBracket)) (has_room d) (pair d) PairWord (pair_good d)
    (λ _. is (punctuator mark.LeftBracket))
    (pair_good d b may) pair_begins (may_pair d) (λ a x h. refl) (λ a x h. (refl, h))

-- ---- from and to the grammar

-- tokens that are pairs of brackets behind so many levels, as far as they are read
record Spelled (above : ℕ) (b : Lengths) (w : List Token) : Type 0 where
  brackets : Brackets above b.height b.trees w
  level : b.level ≡ above + length b.trees

last_right : (u : List Token) (l : Token) (v : List Token) (r : Token) → (span_of (u ++ (l ∷ v ++ r ∷ []))).end ≡ end_of r
last_right u l v r = ap (λ w. (span_of w).end) (sym (append_assoc u (l ∷ v) (r ∷ []))) ∙ end_last (u ++ l ∷ v) r

pub not_empty : {A : Type 0} (xs : List A) (x : A) → (xs ++ x ∷ []) ≢ []
not_empty [] x e = cc
not_empty (y ∷ xs) x e = cc

one_more : {A : Type 0} (above level : ℕ) (xs : List A) (x : A) → level ≡ above + length xs → suc level ≡ above + length (xs ++ x ∷ [])
one_more above level xs x e = omega (arith, length-append xs (x ∷ []))

module _ (above : ℕ) (b : Lengths) (u : List Token) (s : Spelled above b u) where
  sized_more : (o : Option Measured) (v : List Token) (l r : Token) → IsPunct mark.LeftBracket l → Length (levels_of o) (tree_of o) v →
      IsPunct mark.RightBracket r →
      Spelled above (more_lengths b (o, place_of r)) (u ++ (l ∷ v ++ r ∷ []))
  sized_more o v l r isl m isr = record {
    brackets = subst (λ level. Brackets above (max b.height (suc level + levels_of o)) (b.trees ++ tree_of o ∷ [])
        (u ++ (l ∷ v ++ r ∷ []))) (sym s.level)
        (grammar.bracket l r s.brackets isl m isr);
    level = one_more above b.level b.trees (tree_of o) s.level;
  }

  -- with the next pair
  record Next (c : Lengths) (w : List Token) : Type 0 where
    spelled : Spelled above c w
    some : c.trees ≢ []
    end : c.end ≡ (span_of w).end

  next_pair : (c : Span × Size) (v : List Token) → Then (Spot (punctuator mark.LeftBracket)) (λ _. SizeWord) c v →
      Next (more_lengths b c.1) (u ++ v)
  next_pair c v (join {v = x} (spot l isl) (inl m)) = subst (λ k. Next (more_lengths b k) (u ++ l ∷ x)) m.is (go m.source x m.word)
    where
      go : (k : Measured × Span) (x : List Token) → Then ConditionalWord (λ _. Spot (punctuator mark.RightBracket)) k x →
          Next (more_lengths b (Some k.0, k.1)) (u ++ l ∷ x)
      go k x (join {a = e} {u = w} n (spot r isr)) = record {
        spelled = sized_more (Some e) w l r isl (grammar.length_of n) isr;
        some = not_empty b.trees (Some e.tree);
        end = sym (last_right u l w r);
      }
  next_pair c v (join {v = x} (spot l isl) (inr m)) = subst (λ k. Next (more_lengths b k) (u ++ l ∷ x)) m.is (go m.source x m.word)
    where
      go : (place : Span) (x : List Token) → Spot (punctuator mark.RightBracket) place x → Next (more_lengths b (None, place)) (u ++ l ∷ x)
      go place x (spot r isr) = record {
        spelled = sized_more None [] l r isl grammar.no_length isr;
        some = not_empty b.trees None;
        end = sym (last_right u l [] r);
      }

  next_of : (c : Lengths) (v : List Token) → PairWord b c v → Next c (u ++ v)
  next_of c v m = subst (λ c. Next c (u ++ v)) m.is (next_pair m.source v m.word)

-- what was declared, and some pairs of brackets
record Bracketed (a : Declared) (b : Lengths) (w : List Token) : Type 0 where
  spelled : Spelled a.height b w
  some : b.trees ≢ []
  end : b.end ≡ (span_of w).end

none_spelled : (a : Declared) → Spelled a.height (no_lengths a) []
none_spelled a = record { brackets = grammar.no_bracket; level = omega arith }

pairs_into : (a : Declared) (b : Lengths) (w : List Token) → PairsWord (no_lengths a) b w → Bracketed a b w
pairs_into a b w (once m) =
    let n = next_of a.height (no_lengths a) [] (none_spelled a) b w m in
    record { spelled = n.spelled; some = n.some; end = n.end }
pairs_into a b w (again {a = c} {w = x} {u = u} p m) =
    let n = next_of a.height c x (pairs_into a c x p).spelled b u m in
    record { spelled = n.spelled; some = n.some; end = n.end }

-- what is read of these pairs
abbrev lengths_of : Declared → ℕ → List (Option Expr) → List Token → Lengths
lengths_of a h trees w = record { trees = trees; level = a.height + length trees; height = h; end = (span_of w).end }

module _ (a : Declared) (b : Lengths) (u : List Token) (level : b.level ≡ a.height + length b.trees) (l r : Token)
    (isl : IsPunct mark.LeftBracket l) (isr : IsPunct mark.RightBracket r) where
  more_is : (o : Option Measured) (v : List Token) →
      more_lengths b (o, place_of r) ≡ lengths_of a (max b.height (suc (a.height + length b.trees) + levels_of o))
      (b.trees ++ tree_of o ∷ []) (u ++ (l ∷ v ++ r ∷ []))
  more_is o v =
      ap (λ (level : ℕ). record {
        trees = b.trees ++ tree_of o ∷ [];
        level = suc b.level;
        height = max b.height (suc level + levels_of o);
        end = end_of r;
      }) level
      ∙ ap (λ (level : ℕ). record {
        trees = b.trees ++ tree_of o ∷ [];
        level = level;
        height = max b.height (suc (a.height + length b.trees) + levels_of o);
        end = end_of r;
      })
      (one_more a.height b.level b.trees (tree_of o) level)
      ∙ ap (λ (end : ℕ). record {
        trees = b.trees ++ tree_of o ∷ [];
        level = a.height + length (b.trees ++ tree_of o ∷ []);
        height = max b.height (suc (a.height + length b.trees) + levels_of o);
        end = end;
      })
      (sym (last_right u l v r))

  pair_out : (k : ℕ) (tree : Option Expr) (v : List Token) → Length k tree v →
      PairWord b (lengths_of a (max b.height (suc (a.height + length b.trees) + k)) (b.trees ++ tree ∷ []) (u ++ (l ∷ v ++ r ∷ [])))
      (l ∷ v ++ r ∷ [])
  pair_out k tree v grammar.no_length = record {
    source = (place_of l, (None, place_of r));
    is = more_is None [];
    word = join (spot l isl) (inr (record { source = place_of r; is = refl; word = spot r isr }));
  }
  pair_out k tree v (grammar.length_of {h = h} {e = e} n) = record {
    source = (place_of l, (Some (measured e h), place_of r));
    is = more_is (Some (measured e h)) v;
    word = join (spot l isl) (inl (record { source = (measured e h, place_of r); is = refl; word = join n (spot r isr) }));
  }

pairs_out : (a : Declared) (h : ℕ) (trees : List (Option Expr)) (w : List Token) → Brackets a.height h trees w → trees ≢ [] →
    PairsWord (no_lengths a) (lengths_of a h trees w) w
pairs_out a h trees w grammar.no_bracket some = absurd (some refl)
pairs_out a h trees w (grammar.bracket {k = k} {size = size} {v = v} l r grammar.no_bracket isl m isr) some =
    once (pair_out a (no_lengths a) [] (omega arith) l r isl isr k size v m)
pairs_out a h trees w (grammar.bracket {k = k} {size = size} {v = v} l r
    (grammar.bracket {h = i} {k = j} {lengths = before} {size = last} {u = x} {v = y} l' r' b isl' n isr') isl m isr) some =
    let h' = max i (suc (a.height + length before) + j) in
    let trees' = before ++ last ∷ [] in
    let u = x ++ (l' ∷ y ++ r' ∷ []) in
    again (pairs_out a h' trees' u (grammar.bracket l' r' b isl' n isr') (not_empty before last))
    (pair_out a (lengths_of a h' trees' u) u refl l r isl isr k size v m)

bracketed_into : (a : Declared) (b : Lengths) (w : List Token) → PairsWord (no_lengths a) b w → BracketedWord a (arrays_of a b) w
bracketed_into a b w m =
    let p = pairs_into a b w m in
    subst (λ (end : ℕ). BracketedWord a (record {
      name = a.name;
      ty = arrays a.ty b.trees;
      height = b.height;
      span = record { start = a.span.start; end = end };
    }) w) (sym p.end)
    (brackets_behind p.spelled.brackets p.some)

bracketed_out : (a v : Declared) (w : List Token) → BracketedWord a v w → Made (arrays_of a) (PairsWord (no_lengths a)) v w
bracketed_out a v w (brackets_behind {h = h} {lengths = trees} b some) =
    record { source = lengths_of a h trees w; is = refl; word = pairs_out a h trees w b some }

-- one or more pairs of brackets are read where there is room for the first
pub bracketed_good : (d : ℕ) (a : Declared) → a.height < d →
    Good (bracketed d a) (BracketedWord a) (Low d) (is (punctuator mark.LeftBracket)) goes_on_declarator
unfolding bracketed
bracketed_good d a low = makes_good (arrays_of a) (BracketedWord a) (Low d) goes_on_declarator
    (pairs_good d (no_lengths a) (record { fits = omega arith; has_room = is_below a.height d low }))
    (bracketed_into a) (bracketed_out a) (λ b w m low. low) (λ b w m low. low) (λ b x h. h)

-- some pairs begin with each bracket
pub bracketed_begins_at : (a : Declared) (t : Token) → is (punctuator mark.LeftBracket) t ≡ true → Begins (BracketedWord a) (t ∷ [])
bracketed_begins_at a t h =
    let b = pair_begins (no_lengths a) t h in
    record { value = arrays_of a b.value; more = b.more; whole = bracketed_into a b.value (t ∷ b.more) (once b.whole) }

-- brackets stand a level below what they are behind
pub bracketed_high : (a v : Declared) (w : List Token) → BracketedWord a v w → a.height < v.height
bracketed_high a v w (brackets_behind grammar.no_bracket some) = absurd (some refl)
bracketed_high a v w (brackets_behind (grammar.bracket l r b isl m isr) some) = omega arith
