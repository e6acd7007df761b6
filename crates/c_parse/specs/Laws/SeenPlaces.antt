-- What tokens spell, and where they are refused, does not hang on where their bytes stand in memory.
use Rattle.std.specs.Prelude.{◌≡◌, ℕ, List, [], ◌∷◌, ◌++◌, length}
use Rattle.std.proofs.Common.{sym, ◌∙◌, ap, subst}
use Rattle.std.proofs.lemmas.List.{length-map}
use Rattle.c_ast.specs.Seen.{Seen, seen, all_seen}
use Rattle.c_ast.specs.declared.token.Token.{Token}
use Rattle.c_ast.specs.declared.program.Program.{Program}
use Rattle.c_grammar.specs.Externals.{TranslationUnit}
use Rattle.c_grammar.specs.Spells.{Spells, Begins}
use Rattle.c_parse.specs.Parsed.{BeginsWithin, NoneGoesOn, FirstUnexpected, FirstTooDeep}
use Rattle.c_parse.specs.Laws.SeenLaws.{seen-append, Parts, parts_of, First, first_of}

pub spells_seen : (us ts : List Token) → all_seen us ≡ all_seen ts → (program : Program) (depth : ℕ) → Spells us program depth →
    Spells ts program depth
spells_seen us ts same program depth s = subst (λ ss. TranslationUnit depth program.items ss) same s

with_more : (us ts : List Token) → all_seen us ≡ all_seen ts → (more : List Token) → all_seen (us ++ more) ≡ all_seen (ts ++ more)
with_more us ts same more = seen-append us more ∙ ap (λ ss. ss ++ all_seen more) same ∙ sym (seen-append ts more)

within_seen : {levels : ℕ} (us ts : List Token) → all_seen us ≡ all_seen ts → BeginsWithin levels us → BeginsWithin levels ts
within_seen us ts same b = record {
  more = b.more;
  program = b.program;
  depth = b.depth;
  spells = spells_seen (us ++ b.more) (ts ++ b.more) (with_more us ts same b.more) b.program b.depth b.spells;
  within = b.within;
}

begins_seen : (us ts : List Token) → all_seen us ≡ all_seen ts → Begins us → Begins ts
begins_seen us ts same b = record {
  more = b.more;
  program = b.program;
  depth = b.depth;
  spells = spells_seen (us ++ b.more) (ts ++ b.more) (with_more us ts same b.more) b.program b.depth b.spells;
}

-- one more token, which is seen alike
one_more : (us ts : List Token) (x y : Token) → all_seen us ≡ all_seen ts → seen x ≡ seen y →
    all_seen (us ++ x ∷ []) ≡ all_seen (ts ++ y ∷ [])
one_more us ts x y same there =
    seen-append us (x ∷ []) ∙ ap (λ ss. ss ++ seen x ∷ []) same ∙ ap (λ s. all_seen ts ++ s ∷ []) there ∙ sym (seen-append ts (y ∷ []))

first_same : {x y : Seen} {xs ys : List Seen} → x ∷ xs ≡ y ∷ ys → x ≡ y
first_same e = cc

none_seen : (us ts a b : List Token) → all_seen us ≡ all_seen ts → all_seen a ≡ all_seen b → NoneGoesOn us a → NoneGoesOn ts b
none_seen us ts [] [] same next none = λ program depth s. none program depth (spells_seen ts us (sym same) program depth s)
none_seen us ts [] (y ∷ b) same next none = absurd (cc)
none_seen us ts (x ∷ a) [] same next none = absurd (cc)
none_seen us ts (x ∷ a) (y ∷ b) same next none = λ begins. none
    (begins_seen (ts ++ y ∷ []) (us ++ x ∷ []) (one_more ts us y x (sym same) (sym (first_same next))) begins)

-- the first token that cannot be right
pub unexpected_seen : {levels place : ℕ} (us ts : List Token) → all_seen us ≡ all_seen ts → FirstUnexpected levels us place →
    FirstUnexpected levels ts place
unexpected_seen us ts same f =
    let p : Parts ts (all_seen f.taken) (all_seen f.rest) = parts_of ts (all_seen f.taken) (all_seen f.rest)
    (sym same ∙ ap all_seen f.parts ∙ seen-append f.taken f.rest) in
    record {
      taken = p.front;
      rest = p.back;
      parts = p.parts;
      at = sym (length-map p.front seen) ∙ ap length p.front_seen ∙ length-map f.taken seen ∙ f.at;
      begins = within_seen f.taken p.front (sym p.front_seen) f.begins;
      breaks = none_seen f.taken p.front f.rest p.back (sym p.front_seen) (sym p.back_seen) f.breaks;
    }

-- the first that is too deep
pub too_deep_seen : {levels place : ℕ} (us ts : List Token) → all_seen us ≡ all_seen ts → FirstTooDeep levels us place →
    FirstTooDeep levels ts place
too_deep_seen us ts same f =
    let p : Parts ts (all_seen f.taken) (seen f.next ∷ all_seen f.rest) =
    parts_of ts (all_seen f.taken) (seen f.next ∷ all_seen f.rest)
    (sym same ∙ ap all_seen f.parts ∙ seen-append f.taken (f.next ∷ f.rest)) in
    let q : First p.back (seen f.next) (all_seen f.rest) = first_of p.back (seen f.next) (all_seen f.rest) p.back_seen in
    let longer : all_seen (f.taken ++ f.next ∷ []) ≡ all_seen (p.front ++ q.next ∷ []) =
    one_more f.taken p.front f.next q.next (sym p.front_seen) (sym q.next_seen) in
    record {
      taken = p.front;
      next = q.next;
      rest = q.rest;
      parts = p.parts ∙ ap (λ ts. p.front ++ ts) q.parts;
      at = sym (length-map p.front seen) ∙ ap length p.front_seen ∙ length-map f.taken seen ∙ f.at;
      begins = within_seen f.taken p.front (sym p.front_seen) f.begins;
      goes_on = begins_seen (f.taken ++ f.next ∷ []) (p.front ++ q.next ∷ []) longer f.goes_on;
      deep = λ more program depth s. f.deep more program depth
          (spells_seen ((p.front ++ q.next ∷ []) ++ more) ((f.taken ++ f.next ∷ []) ++ more)
          (sym (with_more (f.taken ++ f.next ∷ []) (p.front ++ q.next ∷ []) longer more)) program depth s);
    }
