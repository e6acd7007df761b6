-- Parsers that read a language, one for each limit on depth, answer exactly what a whole list of tokens gives.
use Rattle.std.specs.Prelude.{◌≡◌, ℕ, suc, ◌≤◌, ◌<◌, ◌-◌, ◌⊎◌, max, Bool, List, [], ◌∷◌, ◌++◌, length, refl}
use Rattle.std.proofs.Common.{sym, ◌∙◌, ap, subst, append_assoc, append-nil, length-append, arith, inl, inr}
use Rattle.std.proofs.lemmas.Bool.{cases_lt}
use Rattle.c_parse_base.specs.declared.fault.Fault.TheVariants.{Unexpected, TooDeep}
use Rattle.c_parse_base.specs.Reading.Answer.{Answer, Read, Stuck, Parser, and_then}
use Rattle.c_parse_base.specs.Reading.Good.{Language, Begins, BeginsFitting, Local, Reads, IsStuck, Tells, Good}
use Rattle.c_parse_base.specs.Laws.Deeper.{Grows, grows_by, agrees_is}
use Rattle.c_parse_base.specs.Reading.Exact.{finish, ended, Within, Breaks, FirstWrong, FirstDeep, place_in, Exact}

place_is : {T : Type 0} (ts taken rest : List T) → ts ≡ taken ++ rest → length taken ≡ place_in ts rest
place_is ts taken rest e = omega (arith, ap length e, length-append taken rest)

module _ {T A : Type 0} (p : ℕ → Parser T A) (L : Language T A) (height : A → ℕ) {first : T → Bool} {goes_on : A → T → Bool}
    (good : (d : ℕ) → Good (p d) L (λ a. height a ≤ d) first goes_on) (grows : (d : ℕ) → Grows (p d) (p (suc d))) where
  reads_word : (d : ℕ) (a : A) (w : List T) → L a w → height a ≤ d → p d w ≡ Read a []
  reads_word d a w l low = ap (p d) (sym (append-nil w)) ∙ (good d).complete a w [] l low tt

  agree : (d e : ℕ) → d ≤ e → Grows (p d) (p e)
  agree d e low = grows_by p grows d (e - d) e (omega arith)

  -- a word is read, whatever the limit, or it is said to be too deep
  at_limit : (d : ℕ) (a : A) (w : List T) → L a w → (p d w ≡ Read a []) ⊎ ((us : List T) × (p d w ≡ Stuck TooDeep us))
  at_limit d a w l = go (agrees_is (p d w) (p (max d (height a)) w) ((agree d (max d (height a)) (omega arith)).at w))
    where
      go : (p d w ≡ p (max d (height a)) w) ⊎ ((us : List T) × (p d w ≡ Stuck TooDeep us)) →
          (p d w ≡ Read a []) ⊎ ((us : List T) × (p d w ≡ Stuck TooDeep us))
      go (inl e) = inl (e ∙ reads_word (max d (height a)) a w l (omega arith))
      go (inr e) = inr e

  -- where the answer at a token is none of these, no word goes on with it
  no_word : (d : ℕ) (taken : List T) (x : T) (answer : Parser T A) → ((other : List T) → p d (taken ++ x ∷ other) ≡ answer (x ∷ other)) →
      ((other : List T) (a : A) → ¬ (answer (x ∷ other) ≡ Read a [])) → ((other us : List T) → ¬ (answer (x ∷ other) ≡ Stuck TooDeep us)) →
      ¬ Begins L (taken ++ x ∷ [])
  no_word d taken x answer local unread shallow b =
      go (at_limit d b.value (taken ++ x ∷ b.more) (subst (λ w. L b.value w) (append_assoc taken (x ∷ []) b.more) b.whole))
    where
      go : (p d (taken ++ x ∷ b.more) ≡ Read b.value []) ⊎ ((us : List T) × (p d (taken ++ x ∷ b.more) ≡ Stuck TooDeep us)) → ⊥
      go (inl e) = unread b.more b.value (sym (local b.more) ∙ e)
      go (inr e) = shallow b.more e.0 (sym (local b.more) ∙ e.1)

  within_read : (d : ℕ) (ts taken rest : List T) (a : A) → ts ≡ taken ++ rest → L a taken → height a ≤ d → Within L height d ts taken rest
  within_read d ts taken rest a parts l low = record {
    parts = parts;
    value = a;
    more = [];
    low = low;
    whole = subst (λ w. L a w) (sym (append-nil taken)) l;
  }

  within_begun : (d : ℕ) (ts taken rest : List T) → ts ≡ taken ++ rest → BeginsFitting L (λ a. height a ≤ d) taken →
      Within L height d ts taken rest
  within_begun d ts taken rest parts b = record { parts = parts; value = b.value; more = b.more; low = b.fits; whole = b.whole }

  exact_read : (d : ℕ) (ts : List T) (a : A) (us : List T) → Reads (p d) L (λ a. height a ≤ d) ts a us → Exact L height d ts (finish a us)
  exact_read d ts a [] r = (refl, subst (λ w. L a w) (sym (append-nil r.taken) ∙ sym r.parts) r.whole, r.fits)
  exact_read d ts a (x ∷ us) r = record {
    taken = r.taken;
    rest = x ∷ us;
    before = within_read d ts r.taken (x ∷ us) a r.parts r.whole r.fits;
    at = place_is ts r.taken (x ∷ us) r.parts;
    breaks = no_word d r.taken x (Read a) r.at_next (λ other b h. cc) (λ other us h. cc);
  }

  exact_wrong : (d : ℕ) (ts us : List T) → p d ts ≡ Stuck Unexpected us → IsStuck (p d) L (λ a. height a ≤ d) ts Unexpected us →
      FirstWrong L height d ts (place_in ts us)
  exact_wrong d ts us is s = record {
    taken = s.taken;
    rest = us;
    before = within_begun d ts s.taken us s.parts s.begun;
    at = place_is ts s.taken us s.parts;
    breaks = go us is s.parts s.at_next;
  }
    where
      go : (us : List T) → p d ts ≡ Stuck Unexpected us → ts ≡ s.taken ++ us → Local (p d) s.taken us (Stuck Unexpected) →
          Breaks L s.taken us
      go [] e parts h = λ a l. at_end a (at_limit d a s.taken l)
        where
          whole : ts ≡ s.taken
          whole = parts ∙ append-nil s.taken

          at_end : (a : A) → (p d s.taken ≡ Read a []) ⊎ ((us : List T) × (p d s.taken ≡ Stuck TooDeep us)) → ⊥
          at_end a (inl f) = let g = sym e ∙ ap (p d) whole ∙ f in cc
          at_end a (inr f) = let g = sym e ∙ ap (p d) whole ∙ f.1 in cc
      go (x ∷ tail) e parts h = no_word d s.taken x (Stuck Unexpected) h (λ other b k. cc) (λ other vs k. cc)

  exact_deep : (d : ℕ) (ts us : List T) → IsStuck (p d) L (λ a. height a ≤ d) ts TooDeep us → FirstDeep L height d ts (place_in ts us)
  exact_deep d ts [] s = absurd (let h = s.blames in cc)
  exact_deep d ts (x ∷ us) s = record {
    taken = s.taken;
    token = x;
    rest = us;
    before = within_begun d ts s.taken (x ∷ us) s.parts s.begun;
    at = place_is ts s.taken (x ∷ us) s.parts;
    begins = s.blames refl;
    deep = λ a more l. go a more l (cases_lt d (height a));
  }
    where
      go : (a : A) (more : List T) → L a ((s.taken ++ x ∷ []) ++ more) → (d < height a) ⊎ (height a ≤ d) → d < height a
      go a more l (inl h) = h
      go a more l (inr low) =
          let read = reads_word d a (s.taken ++ x ∷ more) (subst (λ w. L a w) (append_assoc s.taken (x ∷ []) more) l) low in
          let stuck = s.at_next more in
          absurd (cc)

  exact_answer : (d : ℕ) (ts : List T) (o : Answer T A) → p d ts ≡ o → Tells (p d) L (λ a. height a ≤ d) ts o →
      Exact L height d ts (and_then o finish)
  exact_answer d ts (Read a us) e r = exact_read d ts a us r
  exact_answer d ts (Stuck Unexpected us) e s = exact_wrong d ts us e s
  exact_answer d ts (Stuck TooDeep us) e s = exact_deep d ts us s

  -- each answer says what the tokens give
  pub exact : (d : ℕ) (ts : List T) → Exact L height d ts (ended (p d) ts)
  exact d ts = exact_answer d ts (p d ts) refl ((good d).tells ts)

  -- tokens are one word at most
  pub one_word : (a b : A) (ts : List T) → L a ts → L b ts → a ≡ b
  one_word a b ts l m =
      let e = reads_word (max (height a) (height b)) a ts l (omega arith) in
      let f = reads_word (max (height a) (height b)) b ts m (omega arith) in
      cc

  -- a word within the limit is read
  pub read_whole : (d : ℕ) (a : A) (ts : List T) → L a ts → height a ≤ d → ended (p d) ts ≡ Read a []
  read_whole d a ts l low = ap (λ o. and_then o finish) (reads_word d a ts l low)
