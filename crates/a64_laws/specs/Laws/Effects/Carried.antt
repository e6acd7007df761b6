-- Instructions carried out one after another without a fetch: the effect of each in turn, whatever PC is (this project's
-- own). For instructions without branches that is what the code of them does; behind a branch it is not.
use Rattle.std.specs.Prelude.{◌≡◌, List, [], ◌∷◌, ◌++◌, refl}
use Rattle.std.proofs.Common.{ap, sym, ◌∙◌}
use Rattle.a64_code.specs.declared.instr.Instr.{Instr}
use Rattle.a64_code.specs.State.{State}
use Rattle.a64_code.specs.Stepped.{Stepped, Leads, Ends}
use Rattle.a64_code.specs.Effect.{effect}

-- what comes behind an effect, unless it ended the run
abbrev pub followed_by : Stepped → (State → Stepped) → Stepped
followed_by (Leads next) go = go next
followed_by (Ends end) go = Ends end

-- each in turn, up to the first that ends the run
unfoldable pub carried : List Instr → State → Stepped
carried [] s = Leads s
carried (instr ∷ instrs) s = followed_by (effect instr s) (carried instrs)

-- they lead from one state to another, and none of them ends the run
pub record Carries (instrs : List Instr) (from to : State) : Type 0 where
  pub leads : carried instrs from ≡ Leads to

-- ---- in pieces

pub carried-nil : (s : State) → carried [] s ≡ Leads s
unfolding carried
carried-nil s = refl

pub carried-cons : (instr : Instr) (instrs : List Instr) (s : State) →
    carried (instr ∷ instrs) s ≡ followed_by (effect instr s) (carried instrs)
unfolding carried
carried-cons instr instrs s = refl

-- the rest in pieces as well, where that holds of each state that the first leads to
followed_by-append : (ys : List Instr) (first : Stepped) (xs : List Instr) →
    ((t : State) → carried (xs ++ ys) t ≡ followed_by (carried xs t) (carried ys)) →
    followed_by first (carried (xs ++ ys)) ≡ followed_by (followed_by first (carried xs)) (carried ys)
followed_by-append ys (Leads next) xs rest = rest next
followed_by-append ys (Ends end) xs rest = refl

pub carried-append : (xs ys : List Instr) (s : State) → carried (xs ++ ys) s ≡ followed_by (carried xs s) (carried ys)
unfolding carried
carried-append [] ys s = refl
carried-append (x ∷ xs) ys s = followed_by-append ys (effect x s) xs (λ t. carried-append xs ys t)

-- ---- what they lead to

pub Carries-nil : (s : State) → Carries [] s s
Carries-nil s = record { leads = carried-nil s }

pub Carries-cons : {instr : Instr} {instrs : List Instr} {r s t : State} → effect instr r ≡ Leads s → Carries instrs s t →
    Carries (instr ∷ instrs) r t
Carries-cons {instr} {instrs} {r} first rest =
    record { leads = carried-cons instr instrs r ∙ ap (λ (done : Stepped). followed_by done (carried instrs)) first ∙ rest.leads }

pub Carries-one : {instr : Instr} {s t : State} → effect instr s ≡ Leads t → Carries (instr ∷ []) s t
Carries-one {instr} {s} {t} first = Carries-cons first (Carries-nil t)

-- what they lead to, composed
pub Carries-append : {xs ys : List Instr} {r s t : State} → Carries xs r s → Carries ys s t → Carries (xs ++ ys) r t
Carries-append {xs} {ys} {r} first rest =
    record { leads = carried-append xs ys r ∙ ap (λ (done : Stepped). followed_by done (carried ys)) first.leads ∙ rest.leads }

-- the state between two pieces
pub record CarriesBy (xs ys : List Instr) (from to : State) : Type 0 where
  pub between : State
  pub before : Carries xs from between
  pub behind : Carries ys between to

pub Carries-split : (xs ys : List Instr) (r t : State) → Carries (xs ++ ys) r t → CarriesBy xs ys r t
Carries-split xs ys r t both = by_first (carried xs r) refl
  where
    by_first : (first : Stepped) → carried xs r ≡ first → CarriesBy xs ys r t
    by_first (Leads s) is = record {
      between = s;
      before = record { leads = is };
      behind =
          record { leads = sym (ap (λ (done : Stepped). followed_by done (carried ys)) is) ∙ sym (carried-append xs ys r) ∙ both.leads };
    }
    by_first (Ends end) is = let led : Ends end ≡ Leads t = sym (ap (λ (done : Stepped). followed_by done (carried ys)) is)
        ∙ sym (carried-append xs ys r) ∙ both.leads in absurd (cc)

-- the first of them, and the others
pub record CarriesFrom (instr : Instr) (instrs : List Instr) (from to : State) : Type 0 where
  pub next : State
  pub first : effect instr from ≡ Leads next
  pub rest : Carries instrs next to

pub Carries-first : (instr : Instr) (instrs : List Instr) (r t : State) → Carries (instr ∷ instrs) r t → CarriesFrom instr instrs r t
Carries-first instr instrs r t all = by_first (effect instr r) refl
  where
    by_first : (first : Stepped) → effect instr r ≡ first → CarriesFrom instr instrs r t
    by_first (Leads s) is = record {
      next = s;
      first = is;
      rest =
          record {
            leads = sym (ap (λ (done : Stepped). followed_by done (carried instrs)) is) ∙ sym (carried-cons instr instrs r)
                ∙ all.leads;
          };
    }
    by_first (Ends end) is = let led : Ends end ≡ Leads t = sym (ap (λ (done : Stepped). followed_by done (carried instrs)) is)
        ∙ sym (carried-cons instr instrs r) ∙ all.leads in absurd (cc)

-- they lead to one state
pub Carries-same : {instrs : List Instr} {r s t : State} → Carries instrs r s → Carries instrs r t → s ≡ t
Carries-same first second = let same : Leads _ ≡ Leads _ = sym first.leads ∙ second.leads in cc
