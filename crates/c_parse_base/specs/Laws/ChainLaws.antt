-- The law of a chain: one part, and then turns of another, which begin with tokens that may hang on what was read so far.
use Rattle.std.specs.Prelude.{◌≡◌, ℕ, zero, suc, ◌≤◌, Bool, true, false, List, [], ◌∷◌, ◌++◌, length, if◌then◌else◌, refl}
use Rattle.std.proofs.Common.{sym, ◌∙◌, ap, subst, append_assoc, append-nil, arith, length-append}
use Rattle.c_parse_base.specs.declared.fault.Fault.{Fault}
use Rattle.c_parse_base.specs.declared.fault.Fault.TheVariants.{TooDeep}
use Rattle.c_parse_base.specs.Reading.Answer.{Answer, Read, Stuck, Parser, and_then, turns_by, repeats_by, chain_by, chain}
use Rattle.c_parse_base.specs.Reading.Good.{Language, Begins, Stops, Local, Reads, Blames, IsStuck, Tells, StartsIn, Good}
use Rattle.c_parse_base.specs.Reading.Languages.{Chain, once, again}
use Rattle.c_parse_base.specs.Laws.Lists.{local_at, stops_before, starts_append, headed, shorter}

-- what a turn needs of what was read so far
pub record MayTurn {A : Type 0} (F : A → Type 0) (room : A → Bool) (a : A) : Type 0 where
  pub fits : F a
  pub has_room : room a ≡ true

module _ {T A : Type 0} (test : A → T → Bool) (room : A → Bool) (step : A → Parser T A) where
  -- no turn begins here
  pub repeats_stop : (a : A) (x : T) (ts : List T) → test a x ≡ false → repeats_by test room step a (x ∷ ts) ≡ Read a (x ∷ ts)
  unfolding turns_by
  repeats_stop a x ts e = ap (λ b. if b then (if room a then and_then (step a (x ∷ ts)) (turns_by test room step (length ts))
      else Stuck TooDeep (x ∷ ts)) else Read a (x ∷ ts)) e

  -- a turn begins here, and there is no room for it
  pub repeats_deep : (a : A) (x : T) (ts : List T) → test a x ≡ true → room a ≡ false →
      repeats_by test room step a (x ∷ ts) ≡ Stuck TooDeep (x ∷ ts)
  unfolding turns_by
  repeats_deep a x ts e r =
      ap (λ b. if b then (if room a then and_then (step a (x ∷ ts)) (turns_by test room step (length ts)) else Stuck TooDeep (x ∷ ts))
      else Read a (x ∷ ts)) e
      ∙ ap (λ b. if b then and_then (step a (x ∷ ts)) (turns_by test room step (length ts)) else Stuck TooDeep (x ∷ ts)) r

  -- a turn is made here
  pub repeats_turn : (a : A) (x : T) (ts : List T) → test a x ≡ true → room a ≡ true →
      repeats_by test room step a (x ∷ ts) ≡ and_then (step a (x ∷ ts)) (turns_by test room step (length ts))
  unfolding turns_by
  repeats_turn a x ts e r =
      ap (λ b. if b then (if room a then and_then (step a (x ∷ ts)) (turns_by test room step (length ts)) else Stuck TooDeep (x ∷ ts))
      else Read a (x ∷ ts)) e
      ∙ ap (λ b. if b then and_then (step a (x ∷ ts)) (turns_by test room step (length ts)) else Stuck TooDeep (x ∷ ts)) r

  turns_end : (n : ℕ) (a : A) → turns_by test room step n a [] ≡ Read a []
  unfolding turns_by
  turns_end zero a = refl
  turns_end (suc n) a = refl

  pub repeats_end : (a : A) → repeats_by test room step a [] ≡ Read a []
  repeats_end = turns_end 0

  module _ {F : A → Type 0} {more : A → T → Bool} (S : A → Language T A)
      (gs : (a : A) → MayTurn F room a → Good (step a) (S a) F (test a) more) where
    abbrev Same : ℕ → ℕ → Type 0
    Same n m = (b : A) (us : List T) → F b → length us ≤ n → length us ≤ m → turns_by test room step n b us ≡ turns_by test room step m b us

    same_turn : (n m : ℕ) → Same n m → (a : A) (x : T) (ts : List T) → MayTurn F room a → length ts ≤ n → length ts ≤ m →
        (o : Answer T A) → Tells (step a) (S a) F (x ∷ ts) o →
        and_then o (turns_by test room step n) ≡ and_then o (turns_by test room step m)
    same_turn n m ih a x ts may hn hm (Read b us) r =
        let short : length us ≤ length ts = shorter x ts r.taken us (test a) r.parts ((gs a may).starts b r.taken r.whole) in
        ih b us r.fits (omega arith) (omega arith)
    same_turn n m ih a x ts may hn hm (Stuck f us) s = refl

    same_room : (n m : ℕ) → Same n m → (a : A) (x : T) (ts : List T) → F a → length ts ≤ n → length ts ≤ m → (b : Bool) → room a ≡ b →
        (if b then and_then (step a (x ∷ ts)) (turns_by test room step n) else Stuck TooDeep (x ∷ ts))
        ≡ (if b then and_then (step a (x ∷ ts)) (turns_by test room step m) else Stuck TooDeep (x ∷ ts))
    same_room n m ih a x ts fits hn hm true r =
        let may : MayTurn F room a = record { fits = fits; has_room = r } in
        same_turn n m ih a x ts may hn hm (step a (x ∷ ts)) ((gs a may).tells (x ∷ ts))
    same_room n m ih a x ts fits hn hm false r = refl

    same_test : (n m : ℕ) → Same n m → (a : A) (x : T) (ts : List T) → F a → length ts ≤ n → length ts ≤ m → (b : Bool) →
        (if b then (if room a then and_then (step a (x ∷ ts)) (turns_by test room step n) else Stuck TooDeep (x ∷ ts)) else Read a (x ∷ ts))
        ≡ (if b then (if room a then and_then (step a (x ∷ ts)) (turns_by test room step m) else Stuck TooDeep (x ∷ ts))
        else Read a (x ∷ ts))
    same_test n m ih a x ts fits hn hm true = same_room n m ih a x ts fits hn hm (room a) refl
    same_test n m ih a x ts fits hn hm false = refl

    -- as many turns as tokens are enough
    enough : (n m : ℕ) (a : A) (ts : List T) → F a → length ts ≤ n → length ts ≤ m →
        turns_by test room step n a ts ≡ turns_by test room step m a ts
    unfolding turns_by
    enough n m a [] fits hn hm = turns_end n a ∙ sym (turns_end m a)
    enough zero m a (x ∷ ts) fits hn hm = absurd (omega arith)
    enough (suc n) zero a (x ∷ ts) fits hn hm = absurd (omega arith)
    enough (suc n) (suc m) a (x ∷ ts) fits hn hm = same_test n m (λ b us. enough n m b us) a x ts fits (omega arith) (omega arith)
        (test a x)

    -- a turn that was made leaves the turns that are left
    pub repeats_read : (a b : A) (x : T) (ts us : List T) → MayTurn F room a → test a x ≡ true → step a (x ∷ ts) ≡ Read b us → F b →
        length us ≤ length ts →
        repeats_by test room step a (x ∷ ts) ≡ repeats_by test room step b us
    repeats_read a b x ts us may e h fits short =
        repeats_turn a x ts e may.has_room ∙ ap (λ o. and_then o (turns_by test room step (length ts))) h
        ∙ enough (length ts) (length us) b us fits short (omega arith)

    module _ {p : Parser T A} {L : Language T A} {first : T → Bool} (goes_on : A → T → Bool)
        (gp : Good p L F first more)
        (begins : (a : A) (x : T) → test a x ≡ true → room a ≡ false → Begins (S a) (x ∷ []))
        (back : (a b : A) (u : List T) → S a b u → F b → MayTurn F room a)
        (apart : (a : A) (x : T) → test a x ≡ true → more a x ≡ false)
        (ends : (a : A) (x : T) → goes_on a x ≡ false → (more a x ≡ false) × (test a x ≡ false)) where
      abbrev run : A → Parser T A
      run = repeats_by test room step

      abbrev whole : Parser T A
      whole = chain_by test room p step

      -- these tokens were taken, and what follows is read from there on
      record Reached (w : List T) (a : A) (ts : List T) : Type 0 where
        word : Chain L S a w
        fits : F a
        at_next : Local whole w ts (run a)

      stopped : (a : A) (w ts : List T) → Reached w a ts → Stops (test a) ts → Tells whole (Chain L S) F (w ++ ts) (Read a ts)
      stopped a w ts r stop = record { taken = w; parts = refl; whole = r.word; fits = r.fits; at_next = go ts stop r.at_next }
        where
          go : (ts : List T) → Stops (test a) ts → Local whole w ts (run a) → Local whole w ts (Read a)
          go [] h l = tt
          go (x ∷ tail) h l = λ other. l other ∙ repeats_stop a x other h

      deep : (a : A) (w : List T) (x : T) (ts : List T) → Reached w a (x ∷ ts) → test a x ≡ true → room a ≡ false →
          Tells whole (Chain L S) F (w ++ x ∷ ts) (Stuck TooDeep (x ∷ ts))
      deep a w x ts r e full = record {
        taken = w;
        parts = refl;
        begun = record { value = a; more = []; whole = subst (λ ts. Chain L S a ts) (sym (append-nil w)) r.word; fits = r.fits };
        at_next = λ other. r.at_next other ∙ repeats_deep a x other e full;
        blames = λ d. let b = begins a x e full in record {
          value = b.value;
          more = b.more;
          whole = subst (λ ts. Chain L S b.value ts) (sym (append_assoc w (x ∷ []) b.more)) (again r.word b.whole);
        };
      }

      -- what is answered after a turn has begun
      turn_at : (a : A) (w : List T) (x : T) (ts : List T) → Reached w a (x ∷ ts) → test a x ≡ true → room a ≡ true →
          (v : List T) (y : T) (tail other : List T) → x ∷ ts ≡ v ++ y ∷ tail →
          (zs : List T) × (v ++ y ∷ other ≡ x ∷ zs) × (whole ((w ++ v) ++ y ∷ other) ≡ and_then (step a (v ++ y ∷ other))
          (turns_by test room step (length zs)))
      turn_at a w x ts r e open_ v y tail other parts =
          let h = headed x ts v y tail other parts in (
            h.tail,
            h.parts,
            ap whole (append_assoc w v (y ∷ other)) ∙ local_at whole (run a) w (x ∷ ts) v y tail other r.at_next parts
                ∙ ap (run a) h.parts ∙ repeats_turn a x h.tail e open_
                ∙ ap (λ ts. and_then (step a ts) (turns_by test room step (length h.tail))) (sym h.parts),
          )

      stuck : (a : A) (w : List T) (x : T) (ts : List T) → Reached w a (x ∷ ts) → test a x ≡ true → room a ≡ true →
          (f : Fault) (us : List T) →
          IsStuck (step a) (S a) F (x ∷ ts) f us → Tells whole (Chain L S) F (w ++ x ∷ ts) (Stuck f us)
      stuck a w x ts r e open_ f us s = record {
        taken = w ++ s.taken;
        parts = ap (λ ts. w ++ ts) s.parts ∙ sym (append_assoc w s.taken us);
        begun = record {
          value = s.begun.value;
          more = s.begun.more;
          fits = s.begun.fits;
          whole = subst (λ ts. Chain L S s.begun.value ts) (sym (append_assoc w s.taken s.begun.more)) (again r.word s.begun.whole);
        };
        at_next = go us s.parts s.at_next;
        blames = blame us s.blames;
      }
        where
          go : (us : List T) → x ∷ ts ≡ s.taken ++ us → Local (step a) s.taken us (Stuck f) → Local whole (w ++ s.taken) us (Stuck f)
          go [] parts h = tt
          go (y ∷ tail) parts h = λ other.
              let t = turn_at a w x ts r e open_ s.taken y tail other parts in
              t.2 ∙ ap (λ o. and_then o (turns_by test room step (length t.0))) (h other)

          blame : (us : List T) → Blames (S a) f s.taken us → Blames (Chain L S) f (w ++ s.taken) us
          blame [] h = h
          blame (y ∷ tail) h = λ d. record {
            value = (h d).value;
            more = (h d).more;
            whole = subst (λ ts. Chain L S (h d).value ts)
                (sym (ap (λ ts. ts ++ (h d).more) (append_assoc w s.taken (y ∷ [])) ∙ append_assoc w (s.taken ++ y ∷ []) (h d).more))
                (again r.word (h d).whole);
          }

      turned : (a : A) (w : List T) (x : T) (ts : List T) → Reached w a (x ∷ ts) → test a x ≡ true → room a ≡ true → (b : A) (us : List T) →
          (t : Reads (step a) (S a) F (x ∷ ts) b us) → Reached (w ++ t.taken) b us
      turned a w x ts r e open_ b us t = record { word = again r.word t.whole; fits = t.fits; at_next = go us t.parts t.at_next }
        where
          go : (us : List T) → x ∷ ts ≡ t.taken ++ us → Local (step a) t.taken us (Read b) → Local whole (w ++ t.taken) us (run b)
          go [] parts h = tt
          go (y ∷ tail) parts h = λ other.
              let d = turn_at a w x ts r e open_ t.taken y tail other parts in
              d.2 ∙ ap (λ o. and_then o (turns_by test room step (length d.0))) (h other)
              ∙ enough (length d.0) (length (y ∷ other)) b (y ∷ other) t.fits
              (shorter x d.0 t.taken (y ∷ other) (test a) (sym d.1)
              ((gs a (record { fits = r.fits; has_room = open_ })).starts b t.taken t.whole)) (omega arith)

      abbrev Tell : ℕ → Type 0
      Tell n = (b : A) (w us : List T) → Reached w b us → length us ≤ n →
          Tells whole (Chain L S) F (w ++ us) (turns_by test room step n b us)

      told_turn : (n : ℕ) → Tell n → (a : A) (w : List T) (x : T) (ts : List T) → Reached w a (x ∷ ts) → length ts ≤ n →
          test a x ≡ true → room a ≡ true →
          (o : Answer T A) → Tells (step a) (S a) F (x ∷ ts) o →
          Tells whole (Chain L S) F (w ++ x ∷ ts) (and_then o (turns_by test room step n))
      told_turn n ih a w x ts r h e open_ (Read b us) t =
          let may : MayTurn F room a = record { fits = r.fits; has_room = open_ } in
          let short : length us ≤ length ts = shorter x ts t.taken us (test a) t.parts ((gs a may).starts b t.taken t.whole) in
          subst (λ ts. Tells whole (Chain L S) F ts (turns_by test room step n b us))
          (append_assoc w t.taken us ∙ ap (λ ts. w ++ ts) (sym t.parts))
          (ih b (w ++ t.taken) us (turned a w x ts r e open_ b us t) (omega arith))
      told_turn n ih a w x ts r h e open_ (Stuck f us) t = stuck a w x ts r e open_ f us t

      told_room : (n : ℕ) → Tell n → (a : A) (w : List T) (x : T) (ts : List T) → Reached w a (x ∷ ts) → length ts ≤ n →
          test a x ≡ true → (b : Bool) → room a ≡ b →
          Tells whole (Chain L S) F (w ++ x ∷ ts) (if b then and_then (step a (x ∷ ts)) (turns_by test room step n)
          else Stuck TooDeep (x ∷ ts))
      told_room n ih a w x ts r h e true is = told_turn n ih a w x ts r h e is (step a (x ∷ ts))
          ((gs a (record { fits = r.fits; has_room = is })).tells (x ∷ ts))
      told_room n ih a w x ts r h e false is = deep a w x ts r e is

      told_test : (n : ℕ) → Tell n → (a : A) (w : List T) (x : T) (ts : List T) → Reached w a (x ∷ ts) → length ts ≤ n → (b : Bool) →
          test a x ≡ b →
          Tells whole (Chain L S) F (w ++ x ∷ ts) (if b then (if room a then and_then (step a (x ∷ ts)) (turns_by test room step n)
          else Stuck TooDeep (x ∷ ts)) else Read a (x ∷ ts))
      told_test n ih a w x ts r h true e = told_room n ih a w x ts r h e (room a) refl
      told_test n ih a w x ts r h false e = stopped a w (x ∷ ts) r e

      turns_tell : (n : ℕ) (a : A) (w ts : List T) → Reached w a ts → length ts ≤ n →
          Tells whole (Chain L S) F (w ++ ts) (turns_by test room step n a ts)
      unfolding turns_by
      turns_tell zero a w [] r h = stopped a w [] r tt
      turns_tell (suc n) a w [] r h = stopped a w [] r tt
      turns_tell zero a w (x ∷ ts) r h = absurd (omega arith)
      turns_tell (suc n) a w (x ∷ ts) r h = told_test n (λ b w us. turns_tell n b w us) a w x ts r (omega arith) (test a x) refl

      chain_local : (w rest : List T) (answer : Parser T A) → Local p w rest answer → Local whole w rest (λ ts. and_then (answer ts) run)
      chain_local w [] answer h = tt
      chain_local w (x ∷ tail) answer h = λ other. ap (λ o. and_then o run) (h other)

      chain_tells : (ts : List T) (o : Answer T A) → Tells p L F ts o → Tells whole (Chain L S) F ts (and_then o run)
      chain_tells ts (Read a us) r = subst (λ ts. Tells whole (Chain L S) F ts (run a us)) (sym r.parts)
          (turns_tell (length us) a r.taken us (record {
            word = once r.whole;
            fits = r.fits;
            at_next = chain_local r.taken us (Read a) r.at_next;
          }) (omega arith))
      chain_tells ts (Stuck f us) s = record {
        taken = s.taken;
        parts = s.parts;
        begun = record { value = s.begun.value; more = s.begun.more; whole = once s.begun.whole; fits = s.begun.fits };
        at_next = chain_local s.taken us (Stuck f) s.at_next;
        blames = blame us s.blames;
      }
        where
          blame : (us : List T) → Blames L f s.taken us → Blames (Chain L S) f s.taken us
          blame [] h = h
          blame (y ∷ tail) h = λ d. record { value = (h d).value; more = (h d).more; whole = once (h d).whole }

      chain_starts : (a : A) (w : List T) → Chain L S a w → StartsIn first w
      chain_starts a w (once l) = gp.starts a w l
      chain_starts a w (again {a = b} {w = v} {u = u} c s) = starts_append first v u (chain_starts b v c)

      one_turn : (a b : A) (u ts : List T) → MayTurn F room a → StartsIn (test a) u → step a (u ++ ts) ≡ Read b ts → F b →
          run a (u ++ ts) ≡ run b ts
      one_turn a b u ts may s h fits =
          ap (λ us. run a (us ++ ts)) s.parts
          ∙ repeats_read a b s.head (s.tail ++ ts) ts may s.is_first (ap (λ us. step a (us ++ ts)) (sym s.parts) ∙ h) fits
          (omega (arith, length-append s.tail ts))

      reaches : (a : A) (w : List T) → Chain L S a w → F a → (ts : List T) → Stops (more a) ts → whole (w ++ ts) ≡ run a ts
      reaches a w (once l) fits ts stop = ap (λ o. and_then o run) (gp.complete a w ts l fits stop)
      reaches a w (again {a = b} {w = v} {u = u} c s) fits ts stop =
          let may : MayTurn F room b = back b a u s fits in
          let starts : StartsIn (test b) u = (gs b may).starts a u s in
          ap whole (append_assoc v u ts)
          ∙ reaches b v c may.fits (u ++ ts) (stops_before (more b) (test b) u ts starts (apart b))
          ∙ one_turn b a u ts may starts ((gs b may).complete a u ts s fits stop) fits

      chain_complete : (a : A) (w rest : List T) → Chain L S a w → F a → Stops (goes_on a) rest → whole (w ++ rest) ≡ Read a rest
      chain_complete a w [] c fits stop = reaches a w c fits [] tt ∙ turns_end zero a
      chain_complete a w (x ∷ rest) c fits stop = reaches a w c fits (x ∷ rest) (ends a x stop).0 ∙ repeats_stop a x rest (ends a x stop).1

      pub chain_by_good : Good whole (Chain L S) F first goes_on
      chain_by_good = record {
        some = record { value = gp.some.value; more = gp.some.more; whole = once gp.some.whole; fits = gp.some.fits };
        starts = chain_starts;
        complete = chain_complete;
        tells = λ ts. chain_tells ts (p ts) (gp.tells ts);
      }

-- the same, where the test does not hang on what was read
module _ {T A : Type 0} (test : T → Bool) (room : A → Bool) (step : A → Parser T A) {F : A → Type 0} {more : A → T → Bool}
    (S : A → Language T A)
    (gs : (a : A) → MayTurn F room a → Good (step a) (S a) F test more) {p : Parser T A} {L : Language T A} {first : T → Bool}
    (goes_on : A → T → Bool)
    (gp : Good p L F first more)
    (begins : (a : A) (x : T) → test x ≡ true → Begins (S a) (x ∷ []))
    (back : (a b : A) (u : List T) → S a b u → F b → MayTurn F room a)
    (apart : (a : A) (x : T) → test x ≡ true → more a x ≡ false)
    (ends : (a : A) (x : T) → goes_on a x ≡ false → (more a x ≡ false) × (test x ≡ false)) where
  pub chain_good : Good (chain test room p step) (Chain L S) F first goes_on
  chain_good = chain_by_good (λ _. test) room step S gs goes_on gp (λ a x e full. begins a x e) back apart ends
