-- The laws of the parsers that others are made of: each reads its language if its parts do.
use Rattle.std.specs.Prelude.{◌≡◌, Bool, true, false, List, [], ◌∷◌, ◌++◌, length, Option, Some, None, is_some, if◌then◌else◌, refl}
use Rattle.std.proofs.Common.{sym, ◌∙◌, ap, subst, append_assoc, inl, inr, arith, length-append}
use Rattle.c_parse_base.specs.declared.fault.Fault.{Fault}
use Rattle.c_parse_base.specs.declared.fault.Fault.TheVariants.{TooDeep}
use Rattle.c_parse_base.specs.Reading.Answer.{Answer, Read, Stuck, Parser, and_then, word, word_or, thens, makes, either}
use Rattle.c_parse_base.specs.Reading.Good.{Language, Begins, BeginsFitting, Stops, Local, Reads, Blames, Tells, StartsIn, Good}
use Rattle.c_parse_base.specs.Reading.Languages.{Word, word_of, Then, join, Either, nothing, Always, Made}
use Rattle.c_parse_base.specs.Laws.Lists.{parts_join, local_at, stops_before, starts_append, Headed, headed}

-- the tokens that have a value
abbrev pub picks : {T A : Type 0} → (T → Option A) → T → Bool
picks pick x = is_some (pick x)

-- some token has a value
pub record Has {T A : Type 0} (pick : T → Option A) : Type 0 where
  pub token : T
  pub value : A
  pub is : pick token ≡ Some value

module _ {T A : Type 0} (pick : T → Option A) (has : Has pick) where
  word_begun : BeginsFitting (Word pick) Always []
  word_begun = record { value = has.value; more = has.token ∷ []; whole = word_of has.is; fits = tt }

  word_tells : (x : T) (ts : List T) (o : Option A) → pick x ≡ o → Tells (word pick) (Word pick) Always (x ∷ ts) (word_or o x ts)
  word_tells x ts None e = record {
    taken = [];
    parts = refl;
    begun = word_begun;
    at_next = λ other. ap (λ o. word_or o x other) e;
    blames = λ h. cc;
  }
  word_tells x ts (Some a) e = record {
    taken = x ∷ [];
    parts = refl;
    whole = word_of e;
    fits = tt;
    at_next = word_local ts;
  }
    where
      word_local : (rest : List T) → Local (word pick) (x ∷ []) rest (Read a)
      word_local [] = tt
      word_local (y ∷ rest) = λ other. ap (λ o. word_or o x (y ∷ other)) e

  word_starts : (a : A) (w : List T) → Word pick a w → StartsIn (picks pick) w
  word_starts a w (word_of {x = x} e) = record { head = x; tail = []; parts = refl; is_first = ap is_some e }

  word_complete : (a : A) (w rest : List T) → Word pick a w → word pick (w ++ rest) ≡ Read a rest
  word_complete a w rest (word_of {x = x} e) = ap (λ o. word_or o x rest) e

  word_all : (ts : List T) → Tells (word pick) (Word pick) Always ts (word pick ts)
  word_all [] = record { taken = []; parts = refl; begun = word_begun; at_next = tt; blames = refl }
  word_all (x ∷ ts) = word_tells x ts (pick x) refl

  pub word_good : Good (word pick) (Word pick) Always (picks pick) nothing
  word_good = record {
    some = word_begun;
    starts = word_starts;
    complete = λ a w rest h fits stops. word_complete a w rest h;
    tells = word_all;
  }

-- the one, then the other
module _ {T A B : Type 0} {p : Parser T A} {L : Language T A} {F : A → Type 0} {first : T → Bool} {more : A → T → Bool}
    (q : A → Parser T B) (M : A → Language T B) (G : A → B → Type 0) (second : T → Bool) (last : A → B → T → Bool)
    (gp : Good p L F first more) (gq : (a : A) → F a → Good (q a) (M a) (G a) second (last a))
    (any : (a : A) → Begins (M a) []) (apart : (a : A) (x : T) → second x ≡ true → more a x ≡ false) where
  abbrev Fits : A × B → Type 0
  Fits c = F c.0 × G c.0 c.1

  abbrev end : A × B → T → Bool
  end c = last c.0 c.1

  then_begins : (w : List T) → Begins L w → Begins (Then L M) w
  then_begins w b = record {
    value = (b.value, (any b.value).value);
    more = b.more ++ (any b.value).more;
    whole = subst (λ ts. Then L M (b.value, (any b.value).value) ts) (append_assoc w b.more (any b.value).more)
        (join b.whole (any b.value).whole);
  }

  then_fitting : (w : List T) → BeginsFitting L F w → BeginsFitting (Then L M) Fits w
  then_fitting w b = record {
    value = (b.value, (gq b.value b.fits).some.value);
    more = b.more ++ (gq b.value b.fits).some.more;
    whole = subst (λ ts. Then L M (b.value, (gq b.value b.fits).some.value) ts) (append_assoc w b.more (gq b.value b.fits).some.more)
        (join b.whole (gq b.value b.fits).some.whole);
    fits = (b.fits, (gq b.value b.fits).some.fits);
  }

  module _ (ts : List T) (a : A) (us : List T) (r : Reads p L F ts a us) where
    then_at : (v : List T) (x : T) (tail other : List T) → us ≡ v ++ x ∷ tail →
        thens p q ((r.taken ++ v) ++ x ∷ other) ≡ and_then (q a (v ++ x ∷ other)) (λ b vs. Read (a, b) vs)
    then_at v x tail other e = ap (thens p q) (append_assoc r.taken v (x ∷ other))
        ∙ ap (λ o. and_then o (λ a us. and_then (q a us) (λ b vs. Read (a, b) vs)))
        (local_at p (Read a) r.taken us v x tail other r.at_next e)

    then_tells : (o : Answer T B) → Tells (q a) (M a) (G a) us o →
        Tells (thens p q) (Then L M) Fits ts (and_then o (λ b vs. Read (a, b) vs))
    then_tells (Read b vs) s = record {
      taken = r.taken ++ s.taken;
      parts = parts_join ts r.taken us s.taken vs r.parts s.parts;
      whole = join r.whole s.whole;
      fits = (r.fits, s.fits);
      at_next = go vs s.parts s.at_next;
    }
      where
        go : (vs : List T) → us ≡ s.taken ++ vs → Local (q a) s.taken vs (Read b) → Local (thens p q) (r.taken ++ s.taken) vs (Read (a, b))
        go [] e h = tt
        go (x ∷ tail) e h = λ other. then_at s.taken x tail other e ∙ ap (λ o. and_then o (λ b vs. Read (a, b) vs)) (h other)
    then_tells (Stuck f vs) s = record {
      taken = r.taken ++ s.taken;
      parts = parts_join ts r.taken us s.taken vs r.parts s.parts;
      begun = record {
        value = (a, s.begun.value);
        more = s.begun.more;
        whole = subst (λ ts. Then L M (a, s.begun.value) ts) (sym (append_assoc r.taken s.taken s.begun.more)) (join r.whole s.begun.whole);
        fits = (r.fits, s.begun.fits);
      };
      at_next = go vs s.parts s.at_next;
      blames = blame vs s.blames;
    }
      where
        go : (vs : List T) → us ≡ s.taken ++ vs → Local (q a) s.taken vs (Stuck f) → Local (thens p q) (r.taken ++ s.taken) vs (Stuck f)
        go [] e h = tt
        go (x ∷ tail) e h = λ other. then_at s.taken x tail other e ∙ ap (λ o. and_then o (λ b vs. Read (a, b) vs)) (h other)

        begin : (x : T) → Begins (M a) (s.taken ++ x ∷ []) → Begins (Then L M) ((r.taken ++ s.taken) ++ x ∷ [])
        begin x b = record {
          value = (a, b.value);
          more = b.more;
          whole = subst (λ ts. Then L M (a, b.value) ts)
              (sym (ap (λ ts. ts ++ b.more) (append_assoc r.taken s.taken (x ∷ [])) ∙ append_assoc r.taken (s.taken ++ x ∷ []) b.more))
              (join r.whole b.whole);
        }

        blame : (vs : List T) → Blames (M a) f s.taken vs → Blames (Then L M) f (r.taken ++ s.taken) vs
        blame [] h = h
        blame (x ∷ tail) h = λ e. begin x (h e)

  thens_tells : (ts : List T) (o : Answer T A) → Tells p L F ts o →
      Tells (thens p q) (Then L M) Fits ts (and_then o (λ a us. and_then (q a us) (λ b vs. Read (a, b) vs)))
  thens_tells ts (Read a us) r = then_tells ts a us r (q a us) ((gq a r.fits).tells us)
  thens_tells ts (Stuck f us) s = record {
    taken = s.taken;
    parts = s.parts;
    begun = then_fitting s.taken s.begun;
    at_next = go us s.at_next;
    blames = blame us s.blames;
  }
    where
      go : (us : List T) → Local p s.taken us (Stuck f) → Local (thens p q) s.taken us (Stuck f)
      go [] h = tt
      go (x ∷ tail) h = λ other. ap (λ o. and_then o (λ a us. and_then (q a us) (λ b vs. Read (a, b) vs))) (h other)

      blame : (us : List T) → Blames L f s.taken us → Blames (Then L M) f s.taken us
      blame [] h = h
      blame (x ∷ tail) h = λ e. then_begins (s.taken ++ x ∷ []) (h e)

  thens_complete : (c : A × B) (w rest : List T) → Then L M c w → Fits c → Stops (end c) rest → thens p q (w ++ rest) ≡ Read c rest
  thens_complete c w rest (join {a = a} {b = b} {u = u} {v = v} l m) fits stops =
      ap (thens p q) (append_assoc u v rest)
      ∙ ap (λ o. and_then o (λ a us. and_then (q a us) (λ b vs. Read (a, b) vs)))
      (gp.complete a u (v ++ rest) l fits.0 (stops_before (more a) second v rest ((gq a fits.0).starts b v m) (apart a)))
      ∙ ap (λ o. and_then o (λ b vs. Read (a, b) vs)) ((gq a fits.0).complete b v rest m fits.1 stops)

  thens_starts : (c : A × B) (w : List T) → Then L M c w → StartsIn first w
  thens_starts c w (join {a = a} {u = u} {v = v} l m) = starts_append first u v (gp.starts a u l)

  pub thens_good : Good (thens p q) (Then L M) Fits first end
  thens_good = record {
    some = then_fitting [] gp.some;
    starts = thens_starts;
    complete = thens_complete;
    tells = λ ts. thens_tells ts (p ts) (gp.tells ts);
  }

-- what was read, made into another value
module _ {T A B : Type 0} {p : Parser T A} {L : Language T A} {F : A → Type 0} {first : T → Bool} {more : A → T → Bool}
    (f : A → B) (M : Language T B) (G : B → Type 0) (goes_on : B → T → Bool)
    (gp : Good p L F first more)
    (into : (a : A) (w : List T) → L a w → M (f a) w) (out : (b : B) (w : List T) → M b w → Made f L b w)
    (keeps : (a : A) (w : List T) → L a w → F a → G (f a)) (kept : (a : A) (w : List T) → L a w → G (f a) → F a)
    (stops : (a : A) (x : T) → goes_on (f a) x ≡ false → more a x ≡ false) where
  makes_fitting : (w : List T) → BeginsFitting L F w → BeginsFitting M G w
  makes_fitting w b = record {
    value = f b.value;
    more = b.more;
    whole = into b.value (w ++ b.more) b.whole;
    fits = keeps b.value (w ++ b.more) b.whole b.fits;
  }

  makes_local : (w : List T) (rest : List T) (answer : Parser T A) → Local p w rest answer →
      Local (makes f p) w rest (λ ts. and_then (answer ts) (λ a us. Read (f a) us))
  makes_local w [] answer h = tt
  makes_local w (x ∷ tail) answer h = λ other. ap (λ o. and_then o (λ a us. Read (f a) us)) (h other)

  makes_tells : (ts : List T) (o : Answer T A) → Tells p L F ts o → Tells (makes f p) M G ts (and_then o (λ a us. Read (f a) us))
  makes_tells ts (Read a us) r = record {
    taken = r.taken;
    parts = r.parts;
    whole = into a r.taken r.whole;
    fits = keeps a r.taken r.whole r.fits;
    at_next = makes_local r.taken us (Read a) r.at_next;
  }
  makes_tells ts (Stuck e us) s = record {
    taken = s.taken;
    parts = s.parts;
    begun = makes_fitting s.taken s.begun;
    at_next = makes_local s.taken us (Stuck e) s.at_next;
    blames = blame us s.blames;
  }
    where
      blame : (us : List T) → Blames L e s.taken us → Blames M e s.taken us
      blame [] h = h
      blame (x ∷ tail) h = λ d. record {
        value = f (h d).value;
        more = (h d).more;
        whole = into (h d).value ((s.taken ++ x ∷ []) ++ (h d).more) (h d).whole;
      }

  makes_stops : (a : A) (rest : List T) → Stops (goes_on (f a)) rest → Stops (more a) rest
  makes_stops a [] h = tt
  makes_stops a (x ∷ ts) h = stops a x h

  makes_complete : (b : B) (w rest : List T) → M b w → G b → Stops (goes_on b) rest → makes f p (w ++ rest) ≡ Read b rest
  makes_complete b w rest m fits stop = go (out b w m)
    where
      go : Made f L b w → makes f p (w ++ rest) ≡ Read b rest
      go d = ap (λ o. and_then o (λ a us. Read (f a) us))
          (gp.complete d.source w rest d.word (kept d.source w d.word (subst G (sym d.is) fits))
          (makes_stops d.source rest (subst (λ b. Stops (goes_on b) rest) (sym d.is) stop)))
          ∙ ap (λ b. Read b rest) d.is

  pub makes_good : Good (makes f p) M G first goes_on
  makes_good = record {
    some = makes_fitting [] gp.some;
    starts = λ b w m. gp.starts (out b w m).source w (out b w m).word;
    complete = makes_complete;
    tells = λ ts. makes_tells ts (p ts) (gp.tells ts);
  }

-- a choice by the next token
module _ {T A : Type 0} (test : T → Bool) (room : Bool) {p q : Parser T A} {L M : Language T A} {F : A → Type 0} {one other : T → Bool}
    (first : T → Bool) {goes_on : A → T → Bool}
    (gp : room ≡ true → Good p L F one goes_on) (gq : Good q M F other goes_on)
    (begins : (x : T) → test x ≡ true → Begins L (x ∷ [])) (needs : (a : A) (w : List T) → L a w → F a → room ≡ true)
    (starts : (a : A) (w : List T) → L a w → StartsIn test w) (apart : (x : T) → other x ≡ true → test x ≡ false)
    (first_one : (x : T) → test x ≡ true → first x ≡ true) (first_other : (x : T) → other x ≡ true → first x ≡ true) where
  either_one : (x : T) (ts : List T) → test x ≡ true → room ≡ true → either test room p q (x ∷ ts) ≡ p (x ∷ ts)
  either_one x ts e r = ap (λ b. if b then (if room then p (x ∷ ts) else Stuck TooDeep (x ∷ ts)) else q (x ∷ ts)) e
      ∙ ap (λ b. if b then p (x ∷ ts) else Stuck TooDeep (x ∷ ts)) r

  either_other : (x : T) (ts : List T) → test x ≡ false → either test room p q (x ∷ ts) ≡ q (x ∷ ts)
  either_other x ts e = ap (λ b. if b then (if room then p (x ∷ ts) else Stuck TooDeep (x ∷ ts)) else q (x ∷ ts)) e

  either_deep : (x : T) (ts : List T) → test x ≡ true → room ≡ false → either test room p q (x ∷ ts) ≡ Stuck TooDeep (x ∷ ts)
  either_deep x ts e r = ap (λ b. if b then (if room then p (x ∷ ts) else Stuck TooDeep (x ∷ ts)) else q (x ∷ ts)) e
      ∙ ap (λ b. if b then p (x ∷ ts) else Stuck TooDeep (x ∷ ts)) r

  -- the same answer where the first token is the same
  either_at : (x : T) (ts : List T) (chosen : Parser T A) → ((us : List T) → either test room p q (x ∷ us) ≡ chosen (x ∷ us)) →
      (w rest : List T) (answer : Parser T A) → x ∷ ts ≡ w ++ rest → Local chosen w rest answer → Local (either test room p q) w rest answer
  either_at x ts chosen same w [] answer e h = tt
  either_at x ts chosen same w (y ∷ tail) answer e h = λ zs. go zs (headed x ts w y tail zs e)
    where
      go : (zs : List T) → Headed x (w ++ y ∷ zs) → either test room p q (w ++ y ∷ zs) ≡ answer (y ∷ zs)
      go zs d = ap (either test room p q) d.parts ∙ same d.tail ∙ ap chosen (sym d.parts) ∙ h zs

  one_tells : (x : T) (ts : List T) → test x ≡ true → room ≡ true → (o : Answer T A) → Tells p L F (x ∷ ts) o →
      Tells (either test room p q) (Either L M) F (x ∷ ts) o
  one_tells x ts e r (Read a us) t = record {
    taken = t.taken;
    parts = t.parts;
    whole = inl t.whole;
    fits = t.fits;
    at_next = either_at x ts p (λ us. either_one x us e r) t.taken us (Read a) t.parts t.at_next;
  }
  one_tells x ts e r (Stuck f us) s = record {
    taken = s.taken;
    parts = s.parts;
    begun = record { value = s.begun.value; more = s.begun.more; whole = inl s.begun.whole; fits = s.begun.fits };
    at_next = either_at x ts p (λ us. either_one x us e r) s.taken us (Stuck f) s.parts s.at_next;
    blames = blame us s.blames;
  }
    where
      blame : (us : List T) → Blames L f s.taken us → Blames (Either L M) f s.taken us
      blame [] h = h
      blame (y ∷ tail) h = λ d. record { value = (h d).value; more = (h d).more; whole = inl (h d).whole }

  other_fitting : (w : List T) → BeginsFitting M F w → BeginsFitting (Either L M) F w
  other_fitting w b = record { value = b.value; more = b.more; whole = inr b.whole; fits = b.fits }

  other_blames : (f : Fault) (w us : List T) → Blames M f w us → Blames (Either L M) f w us
  other_blames f w [] h = h
  other_blames f w (y ∷ tail) h = λ d. record { value = (h d).value; more = (h d).more; whole = inr (h d).whole }

  other_tells : (x : T) (ts : List T) → test x ≡ false → (o : Answer T A) → Tells q M F (x ∷ ts) o →
      Tells (either test room p q) (Either L M) F (x ∷ ts) o
  other_tells x ts e (Read a us) t = record {
    taken = t.taken;
    parts = t.parts;
    whole = inr t.whole;
    fits = t.fits;
    at_next = either_at x ts q (λ us. either_other x us e) t.taken us (Read a) t.parts t.at_next;
  }
  other_tells x ts e (Stuck f us) s = record {
    taken = s.taken;
    parts = s.parts;
    begun = other_fitting s.taken s.begun;
    at_next = either_at x ts q (λ us. either_other x us e) s.taken us (Stuck f) s.parts s.at_next;
    blames = other_blames f s.taken us s.blames;
  }

  deep_tells : (x : T) (ts : List T) → test x ≡ true → room ≡ false →
      Tells (either test room p q) (Either L M) F (x ∷ ts) (Stuck TooDeep (x ∷ ts))
  deep_tells x ts e r = record {
    taken = [];
    parts = refl;
    begun = other_fitting [] gq.some;
    at_next = λ us. either_deep x us e r;
    blames = λ d. record { value = (begins x e).value; more = (begins x e).more; whole = inl (begins x e).whole };
  }

  by_room : (x : T) (ts : List T) → test x ≡ true → (r : Bool) → room ≡ r →
      Tells (either test room p q) (Either L M) F (x ∷ ts) (if r then p (x ∷ ts) else Stuck TooDeep (x ∷ ts))
  by_room x ts e true r = one_tells x ts e r (p (x ∷ ts)) ((gp r).tells (x ∷ ts))
  by_room x ts e false r = deep_tells x ts e r

  by_test : (x : T) (ts : List T) (b : Bool) → test x ≡ b →
      Tells (either test room p q) (Either L M) F (x ∷ ts) (if b then (if room then p (x ∷ ts) else Stuck TooDeep (x ∷ ts)) else q (x ∷ ts))
  by_test x ts true e = by_room x ts e room refl
  by_test x ts false e = other_tells x ts e (q (x ∷ ts)) (gq.tells (x ∷ ts))

  at_end : (o : Answer T A) → Tells q M F [] o → Tells (either test room p q) (Either L M) F [] o
  at_end (Read a us) t = record { taken = t.taken; parts = t.parts; whole = inr t.whole; fits = t.fits; at_next = go us t.parts }
    where
      go : (us : List T) → [] ≡ t.taken ++ us → Local (either test room p q) t.taken us (Read a)
      go [] e = tt
      go (y ∷ tail) e = absurd (omega (arith, ap length e, length-append t.taken (y ∷ tail)))
  at_end (Stuck f us) s = record {
    taken = s.taken;
    parts = s.parts;
    begun = other_fitting s.taken s.begun;
    at_next = go us s.parts;
    blames = other_blames f s.taken us s.blames;
  }
    where
      go : (us : List T) → [] ≡ s.taken ++ us → Local (either test room p q) s.taken us (Stuck f)
      go [] e = tt
      go (y ∷ tail) e = absurd (omega (arith, ap length e, length-append s.taken (y ∷ tail)))

  either_tells : (ts : List T) → Tells (either test room p q) (Either L M) F ts (either test room p q ts)
  either_tells [] = at_end (q []) (gq.tells [])
  either_tells (x ∷ ts) = by_test x ts (test x) refl

  either_starts : (a : A) (w : List T) → Either L M a w → StartsIn first w
  either_starts a w (inl h) = let s = starts a w h in record {
    head = s.head;
    tail = s.tail;
    parts = s.parts;
    is_first = first_one s.head s.is_first;
  }
  either_starts a w (inr h) = let s = gq.starts a w h in record {
    head = s.head;
    tail = s.tail;
    parts = s.parts;
    is_first = first_other s.head s.is_first;
  }

  -- a word with a first token is read as its language's parser reads it
  started : (chosen : Parser T A) (is : T → Bool) → ((x : T) (us : List T) → is x ≡ true →
      either test room p q (x ∷ us) ≡ chosen (x ∷ us)) →
      (w rest : List T) → StartsIn is w → either test room p q (w ++ rest) ≡ chosen (w ++ rest)
  started chosen is same w rest s =
      ap (λ ts. either test room p q (ts ++ rest)) s.parts ∙ same s.head (s.tail ++ rest) s.is_first
      ∙ ap (λ ts. chosen (ts ++ rest)) (sym s.parts)

  either_complete : (a : A) (w rest : List T) → Either L M a w → F a → Stops (goes_on a) rest →
      either test room p q (w ++ rest) ≡ Read a rest
  either_complete a w rest (inl h) fits stop =
      let r : room ≡ true = needs a w h fits in
      started p test (λ x us e. either_one x us e r) w rest (starts a w h) ∙ (gp r).complete a w rest h fits stop
  either_complete a w rest (inr h) fits stop =
      started q other (λ x us e. either_other x us (apart x e)) w rest (gq.starts a w h) ∙ gq.complete a w rest h fits stop

  pub either_good : Good (either test room p q) (Either L M) F first goes_on
  either_good = record { some = other_fitting [] gq.some; starts = either_starts; complete = either_complete; tells = either_tells }
