-- The law of a part that may follow.
use Rattle.std.specs.Prelude.{◌≡◌, Bool, true, false, List, [], ◌∷◌, ◌++◌, if◌then◌else◌, refl}
use Rattle.std.proofs.Common.{sym, ◌∙◌, ap, subst, append_assoc, append-nil}
use Rattle.c_parse_base.specs.declared.fault.Fault.TheVariants.{Unexpected, TooDeep}
use Rattle.c_parse_base.specs.Reading.Answer.{Answer, Read, Stuck, Parser, and_then, sees, follows, optional}
use Rattle.c_parse_base.specs.Reading.Good.{Language, Begins, BeginsFitting, Stops, Local, Reads, Blames, Tells, StartsIn, Good}
use Rattle.c_parse_base.specs.Reading.Languages.{Perhaps, alone, followed}
use Rattle.c_parse_base.specs.Laws.Lists.{parts_join, local_at, stops_before, starts_append, headed}

-- what a part that follows needs of what was read
pub record MayFollow {A : Type 0} (F : A → Type 0) (allowed room : A → Bool) (a : A) : Type 0 where
  pub fits : F a
  pub is_allowed : allowed a ≡ true
  pub has_room : room a ≡ true

module _ {T A : Type 0} (test : T → Bool) (allowed room : A → Bool) (q : A → Parser T A) where
  pub follows_stop : (a : A) (ts : List T) → sees test ts ≡ false → follows test allowed room q a ts ≡ Read a ts
  follows_stop a ts e = ap (λ b. if b then (if allowed a then (if room a then q a ts else Stuck TooDeep ts) else Stuck Unexpected ts)
      else Read a ts) e

  pub follows_wrong : (a : A) (ts : List T) → sees test ts ≡ true → allowed a ≡ false →
      follows test allowed room q a ts ≡ Stuck Unexpected ts
  follows_wrong a ts e n = ap (λ b. if b then (if allowed a then (if room a then q a ts else Stuck TooDeep ts) else Stuck Unexpected ts)
      else Read a ts) e
      ∙ ap (λ b. if b then (if room a then q a ts else Stuck TooDeep ts) else Stuck Unexpected ts) n

  pub follows_deep : (a : A) (ts : List T) → sees test ts ≡ true → allowed a ≡ true → room a ≡ false →
      follows test allowed room q a ts ≡ Stuck TooDeep ts
  follows_deep a ts e y n = ap (λ b. if b then (if allowed a then (if room a then q a ts else Stuck TooDeep ts) else Stuck Unexpected ts)
      else Read a ts) e
      ∙ ap (λ b. if b then (if room a then q a ts else Stuck TooDeep ts) else Stuck Unexpected ts) y
      ∙ ap (λ b. if b then q a ts else Stuck TooDeep ts) n

  pub follows_part : (a : A) (ts : List T) → sees test ts ≡ true → allowed a ≡ true → room a ≡ true →
      follows test allowed room q a ts ≡ q a ts
  follows_part a ts e y r = ap (λ b. if b then (if allowed a then (if room a then q a ts else Stuck TooDeep ts) else Stuck Unexpected ts)
      else Read a ts) e
      ∙ ap (λ b. if b then (if room a then q a ts else Stuck TooDeep ts) else Stuck Unexpected ts) y
      ∙ ap (λ b. if b then q a ts else Stuck TooDeep ts) r

  module _ {p : Parser T A} {L : Language T A} {F : A → Type 0} {first : T → Bool} {more last : A → T → Bool} (S : A → Language T A)
      (goes_on : A → T → Bool)
      (gp : Good p L F first more) (gs : (a : A) → MayFollow F allowed room a → Good (q a) (S a) F test last)
      (begins : (a : A) (x : T) → allowed a ≡ true → test x ≡ true → Begins (S a) (x ∷ []))
      (back : (a b : A) (u : List T) → S a b u → F b → MayFollow F allowed room a)
      (apart : (a : A) (x : T) → allowed a ≡ true → test x ≡ true → more a x ≡ false)
      (ends : (a : A) (w : List T) → L a w → (x : T) → goes_on a x ≡ false → (more a x ≡ false) × (test x ≡ false))
      (ends_behind : (a b : A) (u : List T) → S a b u → (x : T) → goes_on b x ≡ false → last b x ≡ false) where
    abbrev rest_of : A → Parser T A
    rest_of = follows test allowed room q

    abbrev whole : Parser T A
    whole = optional test allowed room p q

    lone : (w : List T) → BeginsFitting L F w → BeginsFitting (Perhaps L S) F w
    lone w b = record { value = b.value; more = b.more; whole = alone b.whole; fits = b.fits }

    whole_local : (w rest : List T) (answer : Parser T A) → Local p w rest answer → Local whole w rest (λ ts. and_then (answer ts) rest_of)
    whole_local w [] answer h = tt
    whole_local w (x ∷ tail) answer h = λ other. ap (λ o. and_then o rest_of) (h other)

    module _ (ts : List T) (a : A) (x : T) (us : List T) (r : Reads p L F ts a (x ∷ us)) where
      here : (other : List T) → whole (r.taken ++ x ∷ other) ≡ rest_of a (x ∷ other)
      here other = whole_local r.taken (x ∷ us) (Read a) r.at_next other

      stop_tells : test x ≡ false → Tells whole (Perhaps L S) F ts (Read a (x ∷ us))
      stop_tells e = record {
        taken = r.taken;
        parts = r.parts;
        whole = alone r.whole;
        fits = r.fits;
        at_next = λ other. here other
            ∙ follows_stop a (x ∷ other) e;
      }

      begun : BeginsFitting (Perhaps L S) F r.taken
      begun = record {
        value = a;
        more = [];
        whole = subst (λ w. Perhaps L S a w) (sym (append-nil r.taken)) (alone r.whole);
        fits = r.fits;
      }

      wrong_tells : test x ≡ true → allowed a ≡ false → Tells whole (Perhaps L S) F ts (Stuck Unexpected (x ∷ us))
      wrong_tells e n = record {
        taken = r.taken;
        parts = r.parts;
        begun = begun;
        at_next = λ other. here other ∙ follows_wrong a (x ∷ other) e n;
        blames = λ h. cc;
      }

      deep_tells : test x ≡ true → allowed a ≡ true → room a ≡ false → Tells whole (Perhaps L S) F ts (Stuck TooDeep (x ∷ us))
      deep_tells e y n = record {
        taken = r.taken;
        parts = r.parts;
        begun = begun;
        at_next = λ other. here other ∙ follows_deep a (x ∷ other) e y n;
        blames = λ h. let b = begins a x y e in record {
          value = b.value;
          more = b.more;
          whole = subst (λ w. Perhaps L S b.value w) (sym (append_assoc r.taken (x ∷ []) b.more)) (followed r.whole b.whole);
        };
      }

      -- what is answered after the part has begun
      part_at : test x ≡ true → allowed a ≡ true → room a ≡ true → (v : List T) (y : T) (tail other : List T) → x ∷ us ≡ v ++ y ∷ tail →
          whole ((r.taken ++ v) ++ y ∷ other) ≡ q a (v ++ y ∷ other)
      part_at e y' o v y tail other parts =
          let h = headed x us v y tail other parts in
          ap whole (append_assoc r.taken v (y ∷ other))
          ∙ local_at whole (rest_of a) r.taken (x ∷ us) v y tail other (whole_local r.taken (x ∷ us) (Read a) r.at_next) parts
          ∙ ap (rest_of a) h.parts ∙ follows_part a (x ∷ h.tail) e y' o ∙ ap (q a) (sym h.parts)

      part_tells : test x ≡ true → allowed a ≡ true → room a ≡ true → (o : Answer T A) → Tells (q a) (S a) F (x ∷ us) o →
          Tells whole (Perhaps L S) F ts o
      part_tells e y' o (Read b vs) t = record {
        taken = r.taken ++ t.taken;
        parts = parts_join ts r.taken (x ∷ us) t.taken vs r.parts t.parts;
        whole = followed r.whole t.whole;
        fits = t.fits;
        at_next = go vs t.parts t.at_next;
      }
        where
          go : (vs : List T) → x ∷ us ≡ t.taken ++ vs → Local (q a) t.taken vs (Read b) → Local whole (r.taken ++ t.taken) vs (Read b)
          go [] parts h = tt
          go (y ∷ tail) parts h = λ other. part_at e y' o t.taken y tail other parts ∙ h other
      part_tells e y' o (Stuck f vs) t = record {
        taken = r.taken ++ t.taken;
        parts = parts_join ts r.taken (x ∷ us) t.taken vs r.parts t.parts;
        begun = record {
          value = t.begun.value;
          more = t.begun.more;
          fits = t.begun.fits;
          whole = subst (λ w. Perhaps L S t.begun.value w) (sym (append_assoc r.taken t.taken t.begun.more))
              (followed r.whole t.begun.whole);
        };
        at_next = go vs t.parts t.at_next;
        blames = blame vs t.blames;
      }
        where
          go : (vs : List T) → x ∷ us ≡ t.taken ++ vs → Local (q a) t.taken vs (Stuck f) → Local whole (r.taken ++ t.taken) vs (Stuck f)
          go [] parts h = tt
          go (y ∷ tail) parts h = λ other. part_at e y' o t.taken y tail other parts ∙ h other

          blame : (vs : List T) → Blames (S a) f t.taken vs → Blames (Perhaps L S) f (r.taken ++ t.taken) vs
          blame [] h = h
          blame (y ∷ tail) h = λ d. record {
            value = (h d).value;
            more = (h d).more;
            whole = subst (λ w. Perhaps L S (h d).value w)
                (sym (ap (λ w. w ++ (h d).more) (append_assoc r.taken t.taken (y ∷ []))
                ∙ append_assoc r.taken (t.taken ++ y ∷ []) (h d).more)) (followed r.whole (h d).whole);
          }

      by_room : test x ≡ true → allowed a ≡ true → (b : Bool) → room a ≡ b →
          Tells whole (Perhaps L S) F ts (if b then q a (x ∷ us) else Stuck TooDeep (x ∷ us))
      by_room e y true o = part_tells e y o (q a (x ∷ us)) ((gs a (record { fits = r.fits; is_allowed = y; has_room = o })).tells (x ∷ us))
      by_room e y false o = deep_tells e y o

      by_allowed : test x ≡ true → (b : Bool) → allowed a ≡ b →
          Tells whole (Perhaps L S) F ts (if b then (if room a then q a (x ∷ us) else Stuck TooDeep (x ∷ us))
          else Stuck Unexpected (x ∷ us))
      by_allowed e true y = by_room e y (room a) refl
      by_allowed e false y = wrong_tells e y

      by_test : (b : Bool) → test x ≡ b →
          Tells whole (Perhaps L S) F ts (if b then (if allowed a then (if room a then q a (x ∷ us) else Stuck TooDeep (x ∷ us))
          else Stuck Unexpected (x ∷ us)) else Read a (x ∷ us))
      by_test true e = by_allowed e (allowed a) refl
      by_test false e = stop_tells e

    optional_tells : (ts : List T) (o : Answer T A) → Tells p L F ts o → Tells whole (Perhaps L S) F ts (and_then o rest_of)
    optional_tells ts (Read a []) r = record { taken = r.taken; parts = r.parts; whole = alone r.whole; fits = r.fits; at_next = tt }
    optional_tells ts (Read a (x ∷ us)) r = by_test ts a x us r (test x) refl
    optional_tells ts (Stuck f us) s = record {
      taken = s.taken;
      parts = s.parts;
      begun = lone s.taken s.begun;
      at_next = whole_local s.taken us (Stuck f) s.at_next;
      blames = blame us s.blames;
    }
      where
        blame : (us : List T) → Blames L f s.taken us → Blames (Perhaps L S) f s.taken us
        blame [] h = h
        blame (y ∷ tail) h = λ d. record { value = (h d).value; more = (h d).more; whole = alone (h d).whole }

    optional_starts : (a : A) (w : List T) → Perhaps L S a w → StartsIn first w
    optional_starts a w (alone l) = gp.starts a w l
    optional_starts a w (followed {a = b} {w = v} {u = u} l s) = starts_append first v u (gp.starts b v l)

    stops_more : (a : A) (w rest : List T) → L a w → Stops (goes_on a) rest → Stops (more a) rest
    stops_more a w [] l h = tt
    stops_more a w (x ∷ rest) l h = (ends a w l x h).0

    stops_test : (a : A) (w rest : List T) → L a w → Stops (goes_on a) rest → sees test rest ≡ false
    stops_test a w [] l h = refl
    stops_test a w (x ∷ rest) l h = (ends a w l x h).1

    stops_last : (a b : A) (u rest : List T) → S a b u → Stops (goes_on b) rest → Stops (last b) rest
    stops_last a b u [] s h = tt
    stops_last a b u (x ∷ rest) s h = ends_behind a b u s x h

    part_starts : (a b : A) (u rest : List T) → StartsIn test u → MayFollow F allowed room a → rest_of a (u ++ rest) ≡ q a (u ++ rest)
    part_starts a b u rest s may = ap (λ w. rest_of a (w ++ rest)) s.parts
        ∙ follows_part a (s.head ∷ s.tail ++ rest) s.is_first may.is_allowed may.has_room ∙ ap (λ w. q a (w ++ rest)) (sym s.parts)

    optional_complete : (a : A) (w rest : List T) → Perhaps L S a w → F a → Stops (goes_on a) rest → whole (w ++ rest) ≡ Read a rest
    optional_complete a w rest (alone l) fits stop =
        ap (λ o. and_then o rest_of) (gp.complete a w rest l fits (stops_more a w rest l stop))
        ∙ follows_stop a rest (stops_test a w rest l stop)
    optional_complete a w rest (followed {a = b} {w = v} {u = u} l s) fits stop =
        let may : MayFollow F allowed room b = back b a u s fits in
        let starts : StartsIn test u = (gs b may).starts a u s in
        ap whole (append_assoc v u rest)
        ∙ ap (λ o. and_then o rest_of) (gp.complete b v (u ++ rest) l may.fits
        (stops_before (more b) test u rest starts (λ x e. apart b x may.is_allowed e)))
        ∙ part_starts b a u rest starts may ∙ (gs b may).complete a u rest s fits (stops_last b a u rest s stop)

    -- what goes on behind the whole may hang on whether the part was there
    pub optional_good_by : Good whole (Perhaps L S) F first goes_on
    optional_good_by = record {
      some = lone [] gp.some;
      starts = optional_starts;
      complete = optional_complete;
      tells = λ ts. optional_tells ts (p ts) (gp.tells ts);
    }

  -- likewise, where no more goes on behind the whole than behind each part
  pub optional_good : {p : Parser T A} {L : Language T A} {F : A → Type 0} {first : T → Bool} {more last : A → T → Bool}
      (S : A → Language T A) (goes_on : A → T → Bool) →
      Good p L F first more → ((a : A) → MayFollow F allowed room a → Good (q a) (S a) F test last) →
      ((a : A) (x : T) → allowed a ≡ true → test x ≡ true → Begins (S a) (x ∷ [])) →
      ((a b : A) (u : List T) → S a b u → F b → MayFollow F allowed room a) →
      ((a : A) (x : T) → test x ≡ true → more a x ≡ false) →
      ((a : A) (x : T) → goes_on a x ≡ false → (more a x ≡ false) × (test x ≡ false) × (last a x ≡ false)) →
      Good (optional test allowed room p q) (Perhaps L S) F first goes_on
  optional_good S goes_on gp gs begins back apart ends =
      optional_good_by S goes_on gp gs begins back (λ a x may e. apart a x e) (λ a w l x h. ((ends a x h).0, (ends a x h).1))
      (λ a b u s x h. (ends b x h).2)
