-- Loops are read (ISO C11 6.8.5).
use Rattle.std.specs.Prelude.{◌≡◌, ℕ, suc, max, ◌-◌, ◌<◌, ◌≤◌, true, false, ◌==◌, List, [], ◌∷◌, ◌++◌, Option, refl}
use Rattle.std.proofs.Common.{sym, ◌∙◌, ap, subst, append_assoc, arith}
use Rattle.c_ast.specs.declared.token.Span.{Span}
use Rattle.c_ast.specs.Seen.{Seen as Token}
use Rattle.c_ast.specs.declared.expr.Expr.{Expr}
use Rattle.c_ast.specs.declared.declaration.Decl.{Decl}
use Rattle.c_ast.specs.declared.statement.Stmt.{Stmt}
use Rattle.c_ast.specs.declared.statement.Stmt.TheVariants as stmt
use Rattle.c_ast.specs.declared.keyword.Keyword.TheVariants as key
use Rattle.c_ast.specs.declared.punctuator.Punctuator.TheVariants as mark
use Rattle.c_grammar.specs.Words.{IsKeyword, IsPunct, keyword, punctuator, end_of}
use Rattle.c_grammar.specs.Expressions.{Expression}
use Rattle.c_grammar.specs.Statements as grammar
use Rattle.c_grammar.specs.Statements.{Place, InLoop, Ending, Closed, MaybeExpression, First}
use Rattle.c_parse_base.specs.Reading.Answer.{thens}
use Rattle.c_parse_base.specs.Reading.Good.{Language, Begins, StartsIn, Good}
use Rattle.c_parse_base.specs.Reading.Languages.{Then, join, Made}
use Rattle.c_parse_base.specs.Laws.Parts.{thens_good, makes_good}
use Rattle.c_parse_base.specs.Reading.Words.{is, place_of, Spot, spot}
use Rattle.c_parse_base.specs.Laws.WordGood.{key_good}
use Rattle.c_parse_expr.specs.declared.measured.Measured.{Measured}
use Rattle.c_parse_base.specs.Laws.WordListLaws.{is_at}
use Rattle.c_parse_stmt.specs.declared.clause_read.ForHead.{ForHead}
use Rattle.c_parse_stmt.specs.declared.statement_read.StatementRead.{StatementRead}
use Rattle.c_parse_stmt.specs.Reading.Nodes.{statement_of, while_of, do_of, for_of}
use Rattle.c_parse_stmt.specs.Reading.Statements.{Reader, Low, ending, StatementWord, begins_statement, condition, do_tail, for_head}
use Rattle.c_parse_stmt.specs.Reading.Statements.{while_loop, do_loop, for_loop}
use Rattle.c_parse_stmt.specs.Laws.HeadLaws.{LowHead, HeadWord, head_word, head_begins, head_good}
use Rattle.c_parse_stmt.specs.Laws.ClauseLaws.{LowInner, ConditionWord, condition_word, condition_begins, condition_good, maybe_word}
use Rattle.c_parse_stmt.specs.Laws.ClauseLaws.{TailWord, tail_word, tail_begins, tail_good}
use Rattle.c_parse_stmt.specs.Laws.LastLaws.{statement_on, statement_begins, worded_begins, worded_starts}
use Rattle.c_parse_stmt.specs.Laws.BranchLaws.{is_closed, word_of_statement, measured, stops_open}

-- ---- `while`

abbrev WhileBehind : Language Token (Measured × StatementRead)
WhileBehind = Then ConditionWord (λ _. StatementWord InLoop)

abbrev pub WhileParts : Language Token (Span × (Measured × StatementRead))
WhileParts = Then (Spot (keyword key.While)) (λ _. Then ConditionWord (λ _. StatementWord InLoop))

abbrev pub WhileWord : Language Token StatementRead
WhileWord = Made while_of WhileParts

while_made : (q : Place) (c : Span × (Measured × StatementRead)) (w : List Token) → WhileParts c w → StatementWord q (while_of c) w
while_made q c w (join (spot t ist) (join {a = e} {b = s} {v = v} (condition_word {u = u} l r isl m isr) n)) =
    subst (λ x. grammar.Statement q (ending s.closed) (suc (max e.height s.height)) (stmt.While e.tree s.tree) (t ∷ l ∷ x))
    (sym (append_assoc u (r ∷ []) v))
    (grammar.while_loop t l r ist isl m isr n)

pub while_into : (q : Place) (v : StatementRead) (w : List Token) → WhileWord v w → StatementWord q v w
while_into q v w m = subst (λ v. StatementWord q v w) m.is (while_made q m.source w m.word)

pub while_out : (h k : ℕ) (e : Expr) (a : Ending) (s : Stmt) (u v : List Token) (t l r : Token) → IsKeyword key.While t →
    IsPunct mark.LeftParen l → Expression h e u → IsPunct mark.RightParen r →
    grammar.Statement InLoop a k s v → WhileWord (statement_of (stmt.While e s) (suc (max h k)) (is_closed a)) (t ∷ l ∷ u ++ r ∷ v)
while_out h k e a s u v t l r ist isl m isr n =
    let c : Span × (Measured × StatementRead) = (place_of t, (measured e h, statement_of s k (is_closed a))) in
    subst (λ x. WhileWord (while_of c) (t ∷ l ∷ x)) (append_assoc u (r ∷ []) v)
    (record { source = c; is = refl; word = join (spot t ist) (join (condition_word l r isl m isr) (word_of_statement InLoop a k s v n)) })

while_behind_begins : Begins WhileBehind []
while_behind_begins =
    let b = condition_begins in
    let s = statement_begins InLoop in
    record { value = (b.value, s.value); more = b.more ++ s.more; whole = join b.whole s.whole }

pub while_begins : (t : Token) → is (keyword key.While) t ≡ true → Begins WhileWord (t ∷ [])
while_begins = worded_begins (keyword key.While) (λ _. WhileBehind) while_of (λ _. while_behind_begins)

pub while_starts : (v : StatementRead) (u : List Token) → WhileWord v u → StartsIn (is (keyword key.While)) u
while_starts = worded_starts (keyword key.While) (λ _. WhileBehind) while_of

pub while_high : (v : StatementRead) (w : List Token) → WhileWord v w → 0 < v.height
while_high v w m = let high : suc (max m.source.1.0.height m.source.1.1.height) ≡ v.height = ap (λ (v : StatementRead). v.height) m.is in
    omega arith

-- ---- `do`

abbrev DoBehind : Language Token (StatementRead × Measured)
DoBehind = Then (StatementWord InLoop) (λ _. TailWord)

abbrev pub DoParts : Language Token (Span × (StatementRead × Measured))
DoParts = Then (Spot (keyword key.Do)) (λ _. Then (StatementWord InLoop) (λ _. TailWord))

abbrev pub DoWord : Language Token StatementRead
DoWord = Made do_of DoParts

do_made : (q : Place) (c : Span × (StatementRead × Measured)) (w : List Token) → DoParts c w → StatementWord q (do_of c) w
do_made q c w (join (spot t ist) (join {a = s} {b = e} {u = u} n (tail_word x z isx (condition_word {u = v} l r isl m isr) isz))) =
    subst (λ y. grammar.Statement q Closed (suc (max s.height e.height)) (stmt.DoWhile s.tree e.tree) (t ∷ u ++ (x ∷ l ∷ y)))
    (sym (append_assoc v (r ∷ []) (z ∷ [])))
    (grammar.do_loop t x l r z ist n isx isl m isr isz)

pub do_into : (q : Place) (v : StatementRead) (w : List Token) → DoWord v w → StatementWord q v w
do_into q v w m = subst (λ v. StatementWord q v w) m.is (do_made q m.source w m.word)

pub do_out : (h k : ℕ) (e : Expr) (a : Ending) (s : Stmt) (u v : List Token) (t x l r z : Token) → IsKeyword key.Do t →
    grammar.Statement InLoop a k s u → IsKeyword key.While x → IsPunct mark.LeftParen l →
    Expression h e v → IsPunct mark.RightParen r → IsPunct mark.Semicolon z →
    DoWord (statement_of (stmt.DoWhile s e) (suc (max k h)) true) (t ∷ u ++ (x ∷ l ∷ v ++ r ∷ z ∷ []))
do_out h k e a s u v t x l r z ist n isx isl m isr isz =
    let c : Span × (StatementRead × Measured) = (place_of t, (statement_of s k (is_closed a), measured e h)) in
    subst (λ y. DoWord (do_of c) (t ∷ u ++ (x ∷ l ∷ y))) (append_assoc v (r ∷ []) (z ∷ []))
    (record {
      source = c;
      is = refl;
      word = join (spot t ist)
          (join (word_of_statement InLoop a k s u n) (tail_word x z isx (condition_word l r isl m isr) isz));
    })

do_behind_begins : Begins DoBehind []
do_behind_begins =
    let s = statement_begins InLoop in
    let b = tail_begins in
    record { value = (s.value, b.value); more = s.more ++ b.more; whole = join s.whole b.whole }

pub do_begins : (t : Token) → is (keyword key.Do) t ≡ true → Begins DoWord (t ∷ [])
do_begins = worded_begins (keyword key.Do) (λ _. DoBehind) do_of (λ _. do_behind_begins)

pub do_starts : (v : StatementRead) (u : List Token) → DoWord v u → StartsIn (is (keyword key.Do)) u
do_starts = worded_starts (keyword key.Do) (λ _. DoBehind) do_of

pub do_high : (v : StatementRead) (w : List Token) → DoWord v w → 0 < v.height
do_high v w m = let high : suc (max m.source.1.0.height m.source.1.1.height) ≡ v.height = ap (λ (v : StatementRead). v.height) m.is in
    omega arith

-- no `while` goes on behind the statement of a `do`
while_closes : (s : StatementRead) (t : Token) → is (keyword key.While) t ≡ true → statement_on s t ≡ false
while_closes s t e = stops_open s.closed t (is_at (λ w. w == keyword key.Else) (keyword key.While) t e)

-- ---- `for`

abbrev ForBehind : Language Token (ForHead × StatementRead)
ForBehind = Then HeadWord (λ _. StatementWord InLoop)

abbrev pub ForParts : Language Token (Span × (ForHead × StatementRead))
ForParts = Then (Spot (keyword key.For)) (λ _. Then HeadWord (λ _. StatementWord InLoop))

abbrev pub ForWord : Language Token StatementRead
ForWord = Made for_of ForParts

-- the tokens of a `for` behind its "(", grouped as they are read and as the grammar has them
for_tokens : (u v w x : List Token) (z r : Token) → (u ++ ((v ++ z ∷ []) ++ (w ++ r ∷ []))) ++ x ≡ u ++ (v ++ (z ∷ w ++ r ∷ x))
for_tokens u v w x z r =
    append_assoc u ((v ++ z ∷ []) ++ (w ++ r ∷ [])) x
    ∙ ap (λ y. u ++ y) (append_assoc (v ++ z ∷ []) (w ++ r ∷ []) x ∙ append_assoc v (z ∷ []) ((w ++ r ∷ []) ++ x)
    ∙ ap (λ y. v ++ (z ∷ y)) (append_assoc w (r ∷ []) x))

for_made : (q : Place) (c : Span × (ForHead × StatementRead)) (w : List Token) → ForParts c w → StatementWord q (for_of c) w
for_made q c w (join (spot t ist) (join {b = s} {v = x} (head_word {f = f} {u = u} l isl m (maybe_word {n = i} {e = e} {u = v} z a isz)
    (maybe_word {n = j} {e = k} {u = y} r b isr)) n)) =
    subst (λ y. grammar.Statement q (ending s.closed) (max f.height (max i (max j (suc s.height)))) (stmt.For f.decls f.tree e k s.tree)
    (t ∷ l ∷ y)) (sym (for_tokens u v y x z r))
    (grammar.for_loop t l z r ist isl m a isz b isr n)

pub for_into : (q : Place) (v : StatementRead) (w : List Token) → ForWord v w → StatementWord q v w
for_into q v w m = subst (λ v. StatementWord q v w) m.is (for_made q m.source w m.word)

pub for_out : (n m i h : ℕ) (ds : List Decl) (e c d : Option Expr) (a : Ending) (s : Stmt) (u v w x : List Token) (t l z r : Token) →
    IsKeyword key.For t → IsPunct mark.LeftParen l → First n ds e u →
    MaybeExpression m c v → IsPunct mark.Semicolon z → MaybeExpression i d w → IsPunct mark.RightParen r →
    grammar.Statement InLoop a h s x →
    ForWord (statement_of (stmt.For ds e c d s) (max n (max m (max i (suc h)))) (is_closed a)) (t ∷ l ∷ u ++ (v ++ (z ∷ w ++ r ∷ x)))
for_out n m i h ds e c d a s u v w x t l z r ist isl f p isz k isr b =
    let parts : Span × (ForHead × StatementRead) = (
      place_of t,
      (
        record {
          first = record { decls = ds; tree = e; height = n };
          condition = record { tree = c; height = m; end = end_of z };
          step = record { tree = d; height = i; end = end_of r };
        },
        statement_of s h (is_closed a),
      ),
    ) in
    subst (λ y. ForWord (for_of parts) (t ∷ l ∷ y)) (for_tokens u v w x z r)
    (record {
      source = parts;
      is = refl;
      word = join (spot t ist)
          (join (head_word l isl f (maybe_word z p isz) (maybe_word r k isr)) (word_of_statement InLoop a h s x b));
    })

for_behind_begins : Begins ForBehind []
for_behind_begins =
    let b = head_begins in
    let s = statement_begins InLoop in
    record { value = (b.value, s.value); more = b.more ++ s.more; whole = join b.whole s.whole }

pub for_begins : (t : Token) → is (keyword key.For) t ≡ true → Begins ForWord (t ∷ [])
for_begins = worded_begins (keyword key.For) (λ _. ForBehind) for_of (λ _. for_behind_begins)

pub for_starts : (v : StatementRead) (u : List Token) → ForWord v u → StartsIn (is (keyword key.For)) u
for_starts = worded_starts (keyword key.For) (λ _. ForBehind) for_of

abbrev for_height : ForHead → StatementRead → ℕ
for_height h s = max h.first.height (max h.condition.height (max h.step.height (suc s.height)))

pub for_high : (v : StatementRead) (w : List Token) → ForWord v w → 0 < v.height
for_high v w m = let high : for_height m.source.1.0 m.source.1.1 ≡ v.height = ap (λ (v : StatementRead). v.height) m.is in omega arith

-- ---- the laws

module _ (d : ℕ) (below : Place → Reader) (good : 0 < d → (q : Place) →
    Good (below q) (StatementWord q) (Low (d - 1)) (begins_statement q) statement_on) where
  pub while_good : 0 < d → Good (while_loop d below) WhileWord (Low d) (is (keyword key.While)) statement_on
  unfolding while_loop
  while_good h = makes_good while_of WhileWord (Low d) statement_on
      (thens_good (λ _. thens (condition d) (λ _. below InLoop)) (λ _. WhileBehind) (λ _ c. LowInner d c.0 × Low (d - 1) c.1)
      (is (punctuator mark.LeftParen)) (λ _ c t. statement_on c.1 t) (key_good key.While)
      (λ _ _. thens_good (λ _. below InLoop) (λ _. StatementWord InLoop) (λ _. Low (d - 1)) (begins_statement InLoop) (λ _. statement_on)
      (condition_good d h)
      (λ _ _. good h InLoop) (λ _. statement_begins InLoop) (λ a x e. refl))
      (λ _. while_behind_begins) (λ a x e. refl))
      (λ a w m. record { source = a; is = refl; word = m }) (λ b w m. m)
      (λ a w m fits. omega (arith, fits.1.0, fits.1.1)) (λ a w m fits. (tt, (omega (arith, fits), omega (arith, fits)))) (λ a x e. e)

  pub do_good : 0 < d → Good (do_loop d below) DoWord (Low d) (is (keyword key.Do)) statement_on
  unfolding do_loop
  do_good h = makes_good do_of DoWord (Low d) statement_on
      (thens_good (λ _. thens (below InLoop) (λ _. do_tail d)) (λ _. DoBehind) (λ _ c. Low (d - 1) c.0 × LowInner d c.1)
      (begins_statement InLoop) (λ _ c t. false) (key_good key.Do)
      (λ _ _. thens_good (λ _. do_tail d) (λ _. TailWord) (λ _. LowInner d) (is (keyword key.While)) (λ _ e t. false) (good h InLoop)
      (λ _ _. tail_good d h) (λ _. tail_begins) while_closes)
      (λ _. do_behind_begins) (λ a x e. refl))
      (λ a w m. record { source = a; is = refl; word = m }) (λ b w m. m)
      (λ a w m fits. omega (arith, fits.1.0, fits.1.1)) (λ a w m fits. (tt, (omega (arith, fits), omega (arith, fits)))) (λ a x e. refl)

  head_low : (h : ForHead) (s : StatementRead) → for_height h s ≤ d → LowHead d h
  head_low h s low = record { first = omega arith; condition = omega arith; step = omega arith }

  pub for_good : 0 < d → Good (for_loop d below) ForWord (Low d) (is (keyword key.For)) statement_on
  unfolding for_loop
  for_good h = makes_good for_of ForWord (Low d) statement_on
      (thens_good (λ _. thens (for_head d) (λ _. below InLoop)) (λ _. ForBehind) (λ _ c. LowHead d c.0 × Low (d - 1) c.1)
      (is (punctuator mark.LeftParen)) (λ _ c t. statement_on c.1 t) (key_good key.For)
      (λ _ _. thens_good (λ _. below InLoop) (λ _. StatementWord InLoop) (λ _. Low (d - 1)) (begins_statement InLoop) (λ _. statement_on)
      (head_good d)
      (λ _ _. good h InLoop) (λ _. statement_begins InLoop) (λ a x e. refl))
      (λ _. for_behind_begins) (λ a x e. refl))
      (λ a w m. record { source = a; is = refl; word = m }) (λ b w m. m)
      (λ a w m fits. omega (arith, fits.1.0.first, fits.1.0.condition, fits.1.0.step, fits.1.1))
      (λ a w m fits. (tt, (head_low a.1.0 a.1.1 fits, omega (arith, fits)))) (λ a x e. e)
