-- Where the first token of what is read starts.
use Rattle.std.specs.Prelude.{◌≡◌, ℕ, Bool, List, [], ◌∷◌, ◌++◌, refl}
use Rattle.std.proofs.Common.{sym, ◌∙◌, ap}
use Rattle.c_ast.specs.Seen.{Seen as Token}
use Rattle.c_grammar.specs.Words.{span_of}
use Rattle.c_parse_base.specs.Reading.Answer.{Answer, Parser, Read, Stuck, and_then}
use Rattle.c_parse_base.specs.Reading.Good.{Language, BeginsFitting, Stops, Local, Blames, Tells, StartsIn, Good}
use Rattle.c_parse_base.specs.Laws.Deeper.{Grows, same, agrees_then}
use Rattle.c_parse_base.specs.Reading.Spans.{start_of, starting, Starting}

pub starting_grows : {A : Type 0} {p q : Parser Token A} → Grows p q → Grows (starting p) (starting q)
starting_grows {p = p} {q = q} h = record {
  at = λ ts. agrees_then (p ts) (q ts) (λ a us. Read (start_of ts, a) us) (λ a us. Read (start_of ts, a) us) (h.at ts) (λ a us. same);
}

-- a word with more tokens behind it starts as it does alone
start_word : (first : Token → Bool) (w rest : List Token) → StartsIn first w → start_of (w ++ rest) ≡ (span_of w).start
start_word first w rest s = ap (λ w. start_of (w ++ rest)) s.parts ∙ ap (λ w. (span_of w).start) (sym s.parts)

module _ {A : Type 0} {p : Parser Token A} {L : Language Token A} {F : A → Type 0} {first : Token → Bool} {goes_on : A → Token → Bool}
    (g : Good p L F first goes_on) where
  abbrev Word : Language Token (ℕ × A)
  Word = Starting L

  abbrev Fits : ℕ × A → Type 0
  Fits c = F c.1

  begun : (w : List Token) → BeginsFitting L F w → BeginsFitting Word Fits w
  begun w b = record {
    value = ((span_of (w ++ b.more)).start, b.value);
    more = b.more;
    whole = record { word = b.whole; start = refl };
    fits = b.fits;
  }

  tells_start : (ts : List Token) (o : Answer Token A) → Tells p L F ts o →
      Tells (starting p) Word Fits ts (and_then o (λ a us. Read (start_of ts, a) us))
  tells_start ts (Read a us) r = record {
    taken = r.taken;
    parts = r.parts;
    whole = record { word = r.whole; start = ap start_of r.parts ∙ start_at us };
    fits = r.fits;
    at_next = go us r.parts r.at_next;
  }
    where
      start_at : (rest : List Token) → start_of (r.taken ++ rest) ≡ (span_of r.taken).start
      start_at rest = start_word first r.taken rest (g.starts a r.taken r.whole)

      go : (us : List Token) → ts ≡ r.taken ++ us → Local p r.taken us (Read a) → Local (starting p) r.taken us (Read (start_of ts, a))
      go [] parts h = tt
      go (x ∷ tail) parts h = λ other.
          ap (λ o. and_then o (λ a us. Read (start_of (r.taken ++ x ∷ other), a) us)) (h other)
          ∙ ap (λ n. Read (n, a) (x ∷ other)) (start_at (x ∷ other) ∙ sym (start_at (x ∷ tail)) ∙ ap start_of (sym parts))
  tells_start ts (Stuck f us) s = record {
    taken = s.taken;
    parts = s.parts;
    begun = begun s.taken s.begun;
    at_next = go us s.at_next;
    blames = blame us s.blames;
  }
    where
      go : (us : List Token) → Local p s.taken us (Stuck f) → Local (starting p) s.taken us (Stuck f)
      go [] h = tt
      go (x ∷ tail) h = λ other. ap (λ o. and_then o (λ a us. Read (start_of (s.taken ++ x ∷ other), a) us)) (h other)

      blame : (us : List Token) → Blames L f s.taken us → Blames Word f s.taken us
      blame [] h = h
      blame (x ∷ tail) h = λ e. record {
        value = ((span_of ((s.taken ++ x ∷ []) ++ (h e).more)).start, (h e).value);
        more = (h e).more;
        whole = record { word = (h e).whole; start = refl };
      }

  complete_start : (c : ℕ × A) (w rest : List Token) → Word c w → Fits c → Stops (goes_on c.1) rest → starting p (w ++ rest) ≡ Read c rest
  complete_start c w rest m fits stop =
      ap (λ o. and_then o (λ a us. Read (start_of (w ++ rest), a) us)) (g.complete c.1 w rest m.word fits stop)
      ∙ ap (λ n. Read (n, c.1) rest) (start_word first w rest (g.starts c.1 w m.word) ∙ sym m.start)

  pub starting_good : Good (starting p) (Starting L) (λ c. F c.1) first (λ c. goes_on c.1)
  starting_good = record {
    some = begun [] g.some;
    starts = λ c w m. g.starts c.1 w m.word;
    complete = complete_start;
    tells = λ ts. tells_start ts (p ts) (g.tells ts);
  }
