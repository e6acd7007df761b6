-- Where the tokens of a text start: one behind the other, and so there are at most as many as bytes.
use Rattle.std.proofs.Common.{ℕ, ◌+◌, ◌<◌, ◌≤◌, List, [], ◌∷◌, ◌++◌, length, length-append, take, drop, arith}
use Rattle.c_ast.specs.Seen.{Seen}
use Rattle.c_lex.specs.Tokens.{Reaches, start, gap, token, Tokens}

-- each token starts before a place
abbrev pub StartBefore : ℕ → List Seen → Type 0
StartBefore place [] = Unit {0}
StartBefore place (t ∷ ts) = (t.start < place) × StartBefore place ts

-- each token starts behind a place
abbrev pub StartBehind : ℕ → List Seen → Type 0
StartBehind place [] = Unit {0}
StartBehind place (t ∷ ts) = (place < t.start) × StartBehind place ts

-- each token starts before those behind it
abbrev pub Increase : List Seen → Type 0
Increase [] = Unit {0}
Increase (t ∷ ts) = StartBehind t.start ts × Increase ts

before_later : (place more : ℕ) (ts : List Seen) → StartBefore place ts → StartBefore (place + more) ts
before_later place more [] before = tt
before_later place more (t ∷ ts) before = (omega (arith, before.0), before_later place more ts before.1)

more_before : (place : ℕ) (ts : List Seen) (u : Seen) → StartBefore place ts → u.start < place → StartBefore place (ts ++ u ∷ [])
more_before place [] u all p = (p, tt)
more_before place (t ∷ ts) u all p = (all.0, more_before place ts u all.1 p)

more_behind : (place : ℕ) (ts : List Seen) (u : Seen) → StartBehind place ts → place < u.start → StartBehind place (ts ++ u ∷ [])
more_behind place [] u all p = (p, tt)
more_behind place (t ∷ ts) u all p = (all.0, more_behind place ts u all.1 p)

increase_behind : (ts : List Seen) (u : Seen) → Increase ts → StartBefore u.start ts → Increase (ts ++ u ∷ [])
increase_behind [] u increase before = (tt, tt)
increase_behind (t ∷ ts) u increase before = (more_behind t.start ts u increase.0 before.0, increase_behind ts u increase.1 before.1)

-- what is said of the tokens before a place
pub record StartInOrder (place : ℕ) (tokens : List Seen) : Type 0 where
  pub before : StartBefore place tokens
  pub increase : Increase tokens
  pub few : length tokens ≤ place

pub start_in_order : {text : List ℕ} {place : ℕ} {tokens : List Seen} → Reaches text place tokens → StartInOrder place tokens
start_in_order start = record { before = tt; increase = tt; few = omega arith }
start_in_order (gap {place} {tokens} bytes reached is) =
    let order = start_in_order reached in
    record { before = before_later place bytes tokens order.before; increase = order.increase; few = omega (arith, order.few) }
start_in_order {text} (token {place} {tokens} kind bytes reached is sound) =
    let order = start_in_order reached in
    let next : Seen = record { kind = kind; bytes = take bytes (drop place text); start = place } in
    record {
      before = more_before (place + bytes) tokens next (before_later place bytes tokens order.before) (omega (arith, is.some));
      increase = increase_behind tokens next order.increase order.before;
      few = omega (arith, is.some, order.few, length-append tokens (next ∷ []));
    }

-- a text has at most as many tokens as bytes
pub tokens_are_few : (text : List ℕ) (tokens : List Seen) → Tokens text tokens → length tokens ≤ length text
tokens_are_few text tokens are = (start_in_order are).few
