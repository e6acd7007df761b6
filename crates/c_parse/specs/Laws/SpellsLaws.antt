-- Programs as they are read: some external declarations, or no token at all.
use Rattle.std.specs.Prelude.{◌≡◌, ◌≢◌, ℕ, ◌⊎◌, max, List, [], ◌++◌, refl}
use Rattle.std.proofs.Common.{sym, ◌∙◌, ap, subst, arith, inl, inr}
use Rattle.c_ast.specs.Seen.{Seen as Token, all_seen}
use Rattle.c_ast.specs.declared.program.External.{External}
use Rattle.c_ast.specs.declared.program.Program.{Program}
use Rattle.c_grammar.specs.Externals as externals
use Rattle.c_grammar.specs.Externals.{ExternalDeclaration, TranslationUnit}
use Rattle.c_ast.specs.declared.token.Token as given
use Rattle.c_grammar.specs.Spells.{Spells}
use Rattle.c_parse_base.specs.Reading.Languages.{once, again}
use Rattle.c_parse_base.specs.Laws.ExactLaws.{one_word}
use Rattle.c_parse.specs.declared.externals.Externals.{Externals}
use Rattle.c_parse.specs.Reading.Values.{program_of}
use Rattle.c_parse.specs.Reading.Externals.{unit}
use Rattle.c_parse.specs.Laws.UnitLaws.{NextExternal, UnitWord, levels_below, unit_good}
use Rattle.c_parse.specs.Laws.Growth.{unit_grows}

abbrev read_as : ℕ → List External → Externals
read_as n items = record { items = items; height = n }

-- ---- external declarations are a program

next_spelled : (a v : Externals) (w u : List Token) → TranslationUnit a.height a.items w → NextExternal a v u →
    TranslationUnit v.height v.items (w ++ u)
next_spelled a v w u t m = subst (λ (v : Externals). TranslationUnit v.height v.items (w ++ u)) m.is (externals.more_external t m.word)

pub unit_spelled : (v : Externals) (w : List Token) → UnitWord v w → TranslationUnit v.height v.items w
unit_spelled v w (once l) =
    let same : max 0 v.height ≡ v.height = omega arith in
    subst (λ n. TranslationUnit n v.items w) same (externals.more_external externals.no_external l)
unit_spelled v w (again {a = a} {w = x} {u = u} c m) = next_spelled a v x u (unit_spelled a x c) m

-- ---- a program is external declarations, or nothing

-- no token, which is the program without items
pub record Nothing (n : ℕ) (items : List External) (w : List Token) : Type 0 where
  pub levels : n ≡ 0
  pub none : items ≡ []
  pub empty : w ≡ []

behind_nothing : (n k : ℕ) (is js : List External) (u v : List Token) → Nothing n is u → ExternalDeclaration k js v →
    UnitWord (read_as (max n k) (is ++ js)) (u ++ v)
behind_nothing n k is js u v h e =
    let same : k ≡ max n k = omega (arith, h.levels) in
    subst (λ n. UnitWord (read_as n (is ++ js)) (u ++ v)) same
    (subst (λ is. UnitWord (read_as k (is ++ js)) (u ++ v)) (sym h.none)
    (subst (λ u. UnitWord (read_as k js) (u ++ v)) (sym h.empty) (once e)))

pub unit_seen : {n : ℕ} {items : List External} {w : List Token} → TranslationUnit n items w →
    Nothing n items w ⊎ UnitWord (read_as n items) w
unit_seen externals.no_external = inl (record { levels = refl; none = refl; empty = refl })
unit_seen (externals.more_external {n = n} {k = k} {is = is} {js = js} {u = u} {v = v} t e) = go (unit_seen t)
  where
    go : Nothing n is u ⊎ UnitWord (read_as n is) u → Nothing (max n k) (is ++ js) (u ++ v) ⊎ UnitWord (read_as (max n k) (is ++ js))
        (u ++ v)
    go (inl h) = inr (behind_nothing n k is js u v h e)
    go (inr c) = inr (again c (record { source = read_as k js; is = refl; word = e }))

-- tokens that are a program are external declarations, of which there is one at least
pub some_seen : (p : Program) (n : ℕ) (w : List Token) → w ≢ [] → TranslationUnit n p.items w → UnitWord (read_as n p.items) w
some_seen p n w some s = go (unit_seen s)
  where
    go : Nothing n p.items w ⊎ UnitWord (read_as n p.items) w → UnitWord (read_as n p.items) w
    go (inl h) = absurd (some h.empty)
    go (inr c) = c

-- no token is the program without items
pub none_seen : (p : Program) (n : ℕ) → TranslationUnit n p.items [] → (p ≡ program_of []) × (n ≡ 0)
none_seen p n s = go (unit_seen s)
  where
    go : Nothing n p.items [] ⊎ UnitWord (read_as n p.items) [] → (p ≡ program_of []) × (n ≡ 0)
    go (inl h) = (ap program_of h.none, h.levels)
    go (inr c) = let s = (unit_good n).starts (read_as n p.items) [] c in let e = s.parts in absurd (cc)

-- ---- a list of tokens is one program at most

spells_one : (ts : List Token) (p q : Program) (d e : ℕ) → Nothing d p.items ts ⊎ UnitWord (read_as d p.items) ts →
    TranslationUnit e q.items ts → (p ≡ q) × (d ≡ e)
spells_one ts p q d e (inl h) m =
    let o = none_seen q e (subst (λ ts. TranslationUnit e q.items ts) h.empty m) in (ap program_of h.none ∙ sym o.0, h.levels ∙ sym o.1)
spells_one ts p q d e (inr l) m =
    let s = (unit_good d).starts (read_as d p.items) ts l in
    let n = some_seen q e ts (λ none. let k = sym none ∙ s.parts in absurd (cc)) m in
    let o : read_as d p.items ≡ read_as e q.items = one_word unit UnitWord levels_below unit_good unit_grows (read_as d p.items)
    (read_as e q.items) ts l n in
    (ap (λ (v : Externals). program_of v.items) o, ap (λ (v : Externals). v.height) o)

-- a list of tokens spells at most one program, at one depth
pub spells_at_most_one : (ts : List given.Token) (p q : Program) (d e : ℕ) → Spells ts p d → Spells ts q e → (p ≡ q) × (d ≡ e)
spells_at_most_one ts p q d e l m = spells_one (all_seen ts) p q d e (unit_seen l) m
