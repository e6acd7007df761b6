-- An `if` is read: an `else` belongs to the nearest one that it can (ISO C11 6.8.4.1 paragraph 3).
use Rattle.std.specs.Prelude.{◌≡◌, ℕ, suc, max, ◌-◌, ◌<◌, ◌≤◌, Bool, true, false, List, [], ◌∷◌, ◌++◌, Option, Some, None, refl}
use Rattle.std.proofs.Common.{sym, ◌∙◌, ap, subst, append_assoc, arith}
use Rattle.c_ast.specs.declared.token.Span.{Span}
use Rattle.c_ast.specs.Seen.{Seen as Token}
use Rattle.c_ast.specs.declared.expr.Expr.{Expr}
use Rattle.c_ast.specs.declared.statement.Stmt.{Stmt}
use Rattle.c_ast.specs.declared.statement.Stmt.TheVariants as stmt
use Rattle.c_ast.specs.declared.keyword.Keyword.TheVariants as key
use Rattle.c_ast.specs.declared.punctuator.Punctuator.TheVariants as mark
use Rattle.c_grammar.specs.Words.{IsKeyword, IsPunct, keyword, punctuator}
use Rattle.c_grammar.specs.Expressions.{Expression}
use Rattle.c_grammar.specs.Statements as grammar
use Rattle.c_grammar.specs.Statements.{Place, Ending, Open, Closed}
use Rattle.c_parse_base.specs.Reading.Answer.{thens}
use Rattle.c_parse_base.specs.Reading.Good.{Language, Begins, StartsIn, Good}
use Rattle.c_parse_base.specs.Reading.Languages.{Then, join, Perhaps, alone, followed, Made}
use Rattle.c_parse_base.specs.Laws.Parts.{thens_good, makes_good}
use Rattle.c_parse_base.specs.Laws.Lists.{starts_append}
use Rattle.c_parse_base.specs.Laws.OptionalLaws.{MayFollow, optional_good_by}
use Rattle.c_parse_base.specs.Reading.Words.{is, place_of, Spot, spot}
use Rattle.c_parse_base.specs.Laws.WordGood.{good_as, key_good}
use Rattle.c_parse_expr.specs.declared.measured.Measured.{Measured}
use Rattle.c_parse_stmt.specs.declared.statement_read.StatementRead.{StatementRead}
use Rattle.c_parse_stmt.specs.Reading.Nodes.{statement_of, Branches, if_then_of, if_else_of, branches_of, if_of}
use Rattle.c_parse_stmt.specs.Reading.Statements.{Reader, Low, ending, StatementWord, begins_statement, condition, takes_else, free}
use Rattle.c_parse_stmt.specs.Reading.Statements.{if_head, if_tail, if_statement}
use Rattle.c_parse_stmt.specs.Laws.ClauseLaws.{LowInner, ConditionWord, condition_word, condition_begins, condition_good}
use Rattle.c_parse_stmt.specs.Laws.LastLaws.{statement_on, statement_begins, worded_begins, worded_starts}

-- whether a statement is closed, by how it ends
abbrev pub is_closed : Ending → Bool
is_closed Open = false
is_closed Closed = true

ending_is : (a : Ending) → a ≡ ending (is_closed a)
ending_is Open = refl
ending_is Closed = refl

pub word_of_statement : (q : Place) (a : Ending) (h : ℕ) (s : Stmt) (w : List Token) → grammar.Statement q a h s w →
    StatementWord q (statement_of s h (is_closed a)) w
word_of_statement q a h s w m = subst (λ a. grammar.Statement q a h s w) (ending_is a) m

abbrev pub measured : Expr → ℕ → Measured
measured e h = record { tree = e; height = h }

-- ---- the words

-- "(" expr ")" stmt
abbrev pub Headed : Place → Language Token (Measured × StatementRead)
Headed q = Then ConditionWord (λ _. StatementWord q)

abbrev pub HeadParts : Place → Language Token (Span × (Measured × StatementRead))
HeadParts q = Then (Spot (keyword key.If)) (λ _. Headed q)

abbrev pub alone_of : Span × (Measured × StatementRead) → Branches
alone_of c = (c.1, None)

abbrev pub IfHead : Place → Language Token Branches
IfHead q = Made alone_of (HeadParts q)

abbrev pub TailParts : Place → Language Token (Span × StatementRead)
TailParts q = Then (Spot (keyword key.Else)) (λ _. StatementWord q)

abbrev pub other_of : Branches → Span × StatementRead → Branches
other_of b c = (b.0, Some c.1)

-- "else" stmt, behind branches that it may belong to
pub record IfTail (q : Place) (a b : Branches) (u : List Token) : Type 0 where
  pub may : takes_else a ≡ true
  pub part : Made (other_of a) (TailParts q) b u

abbrev pub IfParts : Place → Language Token Branches
IfParts q = Perhaps (IfHead q) (IfTail q)

abbrev pub IfWord : Place → Language Token StatementRead
IfWord q = Made if_of (IfParts q)

-- branches that take an `else` have none, and their statement is closed
record Takes (c : Measured × StatementRead) (o : Option StatementRead) : Type 0 where
  none : o ≡ None
  closed : c.1.closed ≡ true

takes_is : (c : Measured × StatementRead) (o : Option StatementRead) → takes_else (c, o) ≡ true → Takes c o
takes_is c None h = record { none = refl; closed = h }
takes_is c (Some o) h = cc

-- ---- bridges

module _ (q : Place) where
  then_made : (c : Span × (Measured × StatementRead)) (w : List Token) → HeadParts q c w → StatementWord q (if_then_of c.1) w
  then_made c w (join (spot t ist) (join {a = e} {b = s} {v = v} (condition_word {u = u} l r isl m isr) n)) =
      subst (λ x. grammar.Statement q Open (suc (max e.height s.height)) (stmt.If e.tree s.tree None) (t ∷ l ∷ x))
      (sym (append_assoc u (r ∷ []) v))
      (grammar.if_then t l r ist isl m isr n)

  else_made : (c : Span × (Measured × StatementRead)) (w : List Token) → HeadParts q c w → c.1.1.closed ≡ true →
      (k : Span × StatementRead) (x : List Token) → TailParts q k x →
      StatementWord q (if_else_of c.1 k.1) (w ++ x)
  else_made c w (join (spot t ist) (join {a = e} {b = s} {v = v} (condition_word {u = u} l r isl m isr) n)) closed k y
      (join {b = o} {v = w'} (spot x isx) p) =
      subst (λ y. grammar.Statement q (ending o.closed) (suc (max e.height (max s.height o.height)))
      (stmt.If e.tree s.tree (Some o.tree)) (t ∷ l ∷ y))
      (sym (append_assoc (u ++ r ∷ []) v (x ∷ w') ∙ append_assoc u (r ∷ []) (v ++ x ∷ w')))
      (grammar.if_else t l r x ist isl m isr (subst (λ b. grammar.Statement q (ending b) s.height s.tree v) closed n) isx p)

  parts_into : (b : Branches) (w : List Token) → IfParts q b w → StatementWord q (if_of b) w
  parts_into b w (alone l) = subst (λ (b : Branches). StatementWord q (if_of b) w) l.is (then_made l.source w l.word)
  parts_into b w (followed {a = a} {w = x} {u = u} l m) =
      let same : l.source.1 ≡ a.0 = ap (λ (a : Branches). a.0) l.is in
      let closed : l.source.1.1.closed ≡ true = ap (λ (c : Measured × StatementRead). c.1.closed) same ∙ (takes_is a.0 a.1 m.may).closed in
      subst (λ (b : Branches). StatementWord q (if_of b) (x ++ u)) m.part.is
      (subst (λ (c : Measured × StatementRead). StatementWord q (if_else_of c m.part.source.1) (x ++ u)) same
      (else_made l.source x l.word closed m.part.source u m.part.word))

  pub if_into : (v : StatementRead) (w : List Token) → IfWord q v w → StatementWord q v w
  if_into v w m = subst (λ v. StatementWord q v w) m.is (parts_into m.source w m.word)

  pub if_then_out : (h k : ℕ) (e : Expr) (a : Ending) (s : Stmt) (u v : List Token) (t l r : Token) → IsKeyword key.If t →
      IsPunct mark.LeftParen l → Expression h e u → IsPunct mark.RightParen r →
      grammar.Statement q a k s v → IfWord q (statement_of (stmt.If e s None) (suc (max h k)) false) (t ∷ l ∷ u ++ r ∷ v)
  if_then_out h k e a s u v t l r ist isl m isr n =
      let c : Measured × StatementRead = (measured e h, statement_of s k (is_closed a)) in
      subst (λ x. IfWord q (if_then_of c) (t ∷ l ∷ x)) (append_assoc u (r ∷ []) v) (record {
        source = (c, None);
        is = refl;
        word = alone (record {
          source = (place_of t, c);
          is = refl;
          word = join (spot t ist) (join (condition_word l r isl m isr) (word_of_statement q a k s v n));
        });
      })

  pub if_else_out : (h k j : ℕ) (e : Expr) (a : Ending) (s o : Stmt) (u v w : List Token) (t l r x : Token) → IsKeyword key.If t →
      IsPunct mark.LeftParen l → Expression h e u → IsPunct mark.RightParen r →
      grammar.Statement q Closed k s v → IsKeyword key.Else x → grammar.Statement q a j o w →
      IfWord q (statement_of (stmt.If e s (Some o)) (suc (max h (max k j))) (is_closed a)) (t ∷ l ∷ u ++ (r ∷ v ++ x ∷ w))
  if_else_out h k j e a s o u v w t l r x ist isl m isr n isx p =
      let c : Measured × StatementRead = (measured e h, statement_of s k true) in
      let other : StatementRead = statement_of o j (is_closed a) in
      subst (λ y. IfWord q (if_else_of c other) (t ∷ l ∷ y))
      (append_assoc (u ++ r ∷ []) v (x ∷ w) ∙ append_assoc u (r ∷ []) (v ++ x ∷ w)) (record {
        source = (c, Some other);
        is = refl;
        word = followed {a = (c, None)} (record {
          source = (place_of t, c);
          is = refl;
          word = join (spot t ist) (join (condition_word l r isl m isr) n);
        }) (record {
          may = refl;
          part = record { source = (place_of x, other); is = refl; word = join (spot x isx) (word_of_statement q a j o w p) };
        });
      })

  headed_begins : Begins (Headed q) []
  headed_begins =
      let b = condition_begins in
      let s = statement_begins q in
      record { value = (b.value, s.value); more = b.more ++ s.more; whole = join b.whole s.whole }

  head_begins : (t : Token) → is (keyword key.If) t ≡ true → Begins (IfHead q) (t ∷ [])
  head_begins = worded_begins (keyword key.If) (λ _. Headed q) alone_of (λ _. headed_begins)

  pub if_begins : (t : Token) → is (keyword key.If) t ≡ true → Begins (IfWord q) (t ∷ [])
  if_begins t e = let b = head_begins t e in record {
    value = if_of b.value;
    more = b.more;
    whole = record { source = b.value; is = refl; word = alone b.whole };
  }

  parts_start : (b : Branches) (w : List Token) → IfParts q b w → StartsIn (is (keyword key.If)) w
  parts_start b w (alone l) = worded_starts (keyword key.If) (λ _. Headed q) alone_of b w l
  parts_start b w (followed {a = a} {w = x} {u = u} l m) = starts_append (is (keyword key.If)) x u
      (worded_starts (keyword key.If) (λ _. Headed q) alone_of a x l)

  pub if_starts : (v : StatementRead) (w : List Token) → IfWord q v w → StartsIn (is (keyword key.If)) w
  if_starts v w m = parts_start m.source w m.word

  tail_begins : (a : Branches) (t : Token) → takes_else a ≡ true → is (keyword key.Else) t ≡ true → Begins (IfTail q a) (t ∷ [])
  tail_begins a t may e =
      let b = worded_begins (keyword key.Else) (λ _. StatementWord q) (other_of a) (λ _. statement_begins q) t e in
      record { value = b.value; more = b.more; whole = record { may = may; part = b.whole } }

-- ---- heights

abbrev LowBranches : ℕ → Branches → Type 0
LowBranches d b = (if_of b).height ≤ d

branches_high : (c : Measured × StatementRead) (o : Option StatementRead) → 0 < (branches_of c o).height
branches_high c None = omega arith
branches_high c (Some o) = omega arith

-- an `if` is a level
pub if_high : (q : Place) (v : StatementRead) (w : List Token) → IfWord q v w → 0 < v.height
if_high q v w m = subst (λ (v : StatementRead). 0 < v.height) m.is (branches_high m.source.0 m.source.1)

-- the height of branches without an `else`
height_alone : (b : Branches) → b.1 ≡ None → (if_of b).height ≡ suc (max b.0.0.height b.0.1.height)
height_alone b e = ap (λ o. (branches_of b.0 o).height) e

-- ---- the laws

abbrev head_on : Branches → Token → Bool
head_on b t = statement_on b.0.1 t

abbrev branches_on : Branches → Token → Bool
branches_on b t = statement_on (if_of b) t

no_open : (s : StatementRead) (t : Token) → s.closed ≡ true → statement_on s t ≡ false
no_open s t e = ap (λ c. statement_on (statement_of s.tree s.height c) t) e

-- nothing that stops behind a statement of an `if` without `else` is an `else`
pub stops_open : (b : Bool) (t : Token) → is (keyword key.Else) t ≡ false → statement_on (statement_of stmt.Empty 0 b) t ≡ false
stops_open true t e = refl
stops_open false t e = e

module _ (d : ℕ) (below : Place → Reader) (good : 0 < d → (q : Place) →
    Good (below q) (StatementWord q) (Low (d - 1)) (begins_statement q) statement_on) (q : Place) where
  if_head_good : 0 < d → Good (if_head d below q) (IfHead q) (LowBranches d) (is (keyword key.If)) head_on
  unfolding if_head
  if_head_good h = makes_good alone_of (IfHead q) (LowBranches d) head_on
      (thens_good (λ _. thens (condition d) (λ _. below q)) (λ _. Headed q) (λ _ c. LowInner d c.0 × Low (d - 1) c.1)
      (is (punctuator mark.LeftParen)) (λ _ c t. statement_on c.1 t) (key_good key.If)
      (λ _ _. thens_good (λ _. below q) (λ _. StatementWord q) (λ _. Low (d - 1)) (begins_statement q) (λ _. statement_on)
      (condition_good d h)
      (λ _ _. good h q) (λ _. statement_begins q) (λ a x e. refl))
      (λ _. headed_begins q) (λ a x e. refl))
      (λ a w m. record { source = a; is = refl; word = m }) (λ b w m. m)
      (λ a w m fits. omega (arith, fits.1.0, fits.1.1)) (λ a w m fits. (tt, (omega (arith, fits), omega (arith, fits)))) (λ a x e. e)

  if_tail_good : 0 < d → (b : Branches) → MayFollow (LowBranches d) takes_else free b →
      Good (if_tail d below q b) (IfTail q b) (LowBranches d) (is (keyword key.Else)) branches_on
  unfolding if_tail
  if_tail_good h b may =
      let high : (if_of b).height ≡ suc (max b.0.0.height b.0.1.height) = height_alone b (takes_is b.0 b.1 may.is_allowed).none in
      let low : suc (max b.0.0.height b.0.1.height) ≤ d = omega (arith, high, may.fits) in
      good_as (IfTail q b) (LowBranches d) (is (keyword key.Else))
      (makes_good (other_of b) (Made (other_of b) (TailParts q)) (LowBranches d) branches_on
      (thens_good (λ _. below q) (λ _. StatementWord q) (λ _. Low (d - 1)) (begins_statement q) (λ _. statement_on) (key_good key.Else)
      (λ _ _. good h q) (λ _. statement_begins q) (λ a x e. refl))
      (λ a w m. record { source = a; is = refl; word = m }) (λ b w m. m)
      (λ a w m fits. omega (arith, fits.1)) (λ a w m fits. (tt, omega (arith, fits))) (λ a x e. e))
      (λ a w m. record { may = may.is_allowed; part = m }) (λ a w m. m.part) (λ a w m fits. fits) (λ a w m fits. fits) (λ x e. e)

  may_else : (a b : Branches) (u : List Token) → IfTail q a b u → LowBranches d b → MayFollow (LowBranches d) takes_else free a
  may_else a b u m low =
      let same : (if_of a).height ≡ suc (max a.0.0.height a.0.1.height) = height_alone a (takes_is a.0 a.1 m.may).none in
      let high : suc (max a.0.0.height (max a.0.1.height m.part.source.1.height)) ≡ (if_of b).height =
      ap (λ (b : Branches). (if_of b).height) m.part.is in
      record { fits = omega (arith, same, high, low); is_allowed = m.may; has_room = refl }

  -- behind an `if` without `else`, an `else` goes on
  head_ends : (a : Branches) (w : List Token) → IfHead q a w → (t : Token) → branches_on a t ≡ false →
      (head_on a t ≡ false) × (is (keyword key.Else) t ≡ false)
  head_ends a w m t e =
      let none : is (keyword key.Else) t ≡ false = subst (λ (b : Branches). branches_on b t ≡ false) (sym m.is) e in
      (stops_open a.0.1.closed t none, none)

  pub if_good : 0 < d → Good (if_statement d below q) (IfWord q) (Low d) (is (keyword key.If)) statement_on
  unfolding if_statement
  if_good h = makes_good if_of (IfWord q) (Low d) statement_on
      (optional_good_by (is (keyword key.Else)) takes_else free (if_tail d below q) (IfTail q) branches_on (if_head_good h) (if_tail_good h)
      (λ a x may e. tail_begins q a x may e) may_else
      (λ a x may e. no_open a.0.1 x (takes_is a.0 a.1 may).closed) head_ends (λ a b u m x e. e))
      (λ a w m. record { source = a; is = refl; word = m }) (λ b w m. m) (λ a w m fits. fits) (λ a w m fits. fits) (λ a x e. e)
