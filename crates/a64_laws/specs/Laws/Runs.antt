-- Lists run by position, composed (this project's own).
use Rattle.std.specs.Prelude.{◌≡◌, ℕ, zero, suc, ◌+◌, ◌*◌, ◌%◌, ◌^◌, ◌<◌, List, [], ◌∷◌, ◌++◌, length, Some, refl}
use Rattle.std.proofs.Common.{arith, ap, sym, ◌∙◌, subst, length-append}
use Rattle.a64_code.specs.declared.instr.Instr.{Instr}
use Rattle.a64_code.specs.declared.end.MachineEnd.{MachineEnd}
use Rattle.a64_code.specs.State.{State}
use Rattle.a64_code.specs.Stepped.{Leads, Ends}
use Rattle.a64_code.specs.Effect.{effect}
use Rattle.a64_laws.specs.Runs.{instr_at, Moves, RunsFrom, Runs, RunsInto}

-- ---- positions in longer lists

instr_at-front : (xs ys : List Instr) (k : ℕ) (instr : Instr) → instr_at xs k ≡ Some instr → instr_at (xs ++ ys) k ≡ Some instr
instr_at-front [] ys k instr is = absurd (cc)
instr_at-front (x ∷ xs) ys zero instr is = is
instr_at-front (x ∷ xs) ys (suc k) instr is = instr_at-front xs ys k instr is

instr_at-back : (xs ys : List Instr) (k : ℕ) → instr_at (xs ++ ys) (length xs + k) ≡ instr_at ys k
instr_at-back [] ys k = ap (instr_at ys) (omega arith)
instr_at-back (x ∷ xs) ys k =
    ap (instr_at (x ∷ xs ++ ys)) (let e : suc (length xs) + k ≡ suc (length xs + k) = omega arith in e) ∙ instr_at-back xs ys k

Moves-front : {xs : List Instr} {base : ℕ} {s t : State} (ys : List Instr) → Moves xs base s t → Moves (xs ++ ys) base s t
Moves-front {xs} ys m = record {
  instr = m.instr;
  next = record { position = m.next.position; pc = m.next.pc; there = instr_at-front xs ys m.next.position m.instr m.next.there };
  leads = m.leads;
}

Moves-back : {ys : List Instr} {base : ℕ} {s t : State} (xs : List Instr) → Moves ys (base + 4 * length xs) s t → Moves (xs ++ ys) base s t
Moves-back {ys} {base} xs m = record {
  instr = m.instr;
  next = record {
    position = length xs + m.next.position;
    pc = omega (arith, m.next.pc);
    there = instr_at-back xs ys m.next.position ∙ m.next.there;
  };
  leads = m.leads;
}

-- ---- steps

pub RunsFrom-one : {instrs : List Instr} {base : ℕ} {s t : State} → Moves instrs base s t → RunsFrom instrs base 1 s t
RunsFrom-one {t = t} m = (t, m, refl)

pub RunsFrom-add : (instrs : List Instr) (base m n : ℕ) (r s t : State) → RunsFrom instrs base m r s → RunsFrom instrs base n s t →
    RunsFrom instrs base (m + n) r t
RunsFrom-add instrs base zero n r s t first rest =
    subst (λ (k : ℕ). RunsFrom instrs base k r t) (omega arith) (subst (λ (u : State). RunsFrom instrs base n u t) (sym first) rest)
RunsFrom-add instrs base (suc m) n r s t first rest =
    subst (λ (k : ℕ). RunsFrom instrs base k r t) (let e : suc (m + n) ≡ suc m + n =
    omega arith in e) (first.0, first.1, RunsFrom-add instrs base m n first.0 s t first.2 rest)

pub RunsFrom-front : (xs ys : List Instr) (base n : ℕ) (s t : State) → RunsFrom xs base n s t → RunsFrom (xs ++ ys) base n s t
RunsFrom-front xs ys base zero s t runs = runs
RunsFrom-front xs ys base (suc n) s t runs = (runs.0, Moves-front ys runs.1, RunsFrom-front xs ys base n runs.0 t runs.2)

pub RunsFrom-back : (xs ys : List Instr) (base n : ℕ) (s t : State) → RunsFrom ys (base + 4 * length xs) n s t → RunsFrom
    (xs ++ ys) base n s t
RunsFrom-back xs ys base zero s t runs = runs
RunsFrom-back xs ys base (suc n) s t runs = (runs.0, Moves-back xs runs.1, RunsFrom-back xs ys base n runs.0 t runs.2)

-- ---- whole lists

pub Runs-nil : (s : State) → Runs [] 0 s s
Runs-nil s = record { steps = refl; pc = omega arith }

-- one instruction that goes on to the next
pub Runs-one : {instr : Instr} {s t : State} → effect instr s ≡ Leads t → t.pc ≡ (s.pc + 4) % 2 ^ 64 → s.pc + 4 < 2 ^ 64 → Runs
    (instr ∷ []) 1 s t
Runs-one {instr} {s} {t} leads pc fits = record {
  steps = (t, record { instr = instr; next = record { position = 0; pc = omega arith; there = refl }; leads = leads }, refl);
  pc = pc ∙ omega (arith, fits);
}

pub Runs-append : {xs ys : List Instr} {m n : ℕ} {r s t : State} → Runs xs m r s → Runs ys n s t → Runs (xs ++ ys) (m + n) r t
Runs-append {xs} {ys} {m} {n} {r} {s} {t} first rest = record {
  steps = RunsFrom-add (xs ++ ys) r.pc m n r s t (RunsFrom-front xs ys r.pc m r s first.steps)
      (RunsFrom-back xs ys r.pc n s t (subst (λ (base : ℕ). RunsFrom ys base n s t) first.pc rest.steps));
  pc = rest.pc ∙ omega (arith, first.pc, length-append xs ys);
}

pub Runs-cons : {instr : Instr} {instrs : List Instr} {n : ℕ} {r s t : State} → effect instr r ≡ Leads s → s.pc ≡
    (r.pc + 4) % 2 ^ 64 → r.pc + 4 < 2 ^ 64 → Runs instrs n s t →
    Runs (instr ∷ instrs) (suc n) r t
Runs-cons {instr} {instrs} {n} {r} {s} {t} leads pc fits rest =
    subst (λ (k : ℕ). Runs (instr ∷ instrs) k r t) (omega arith) (Runs-append (Runs-one leads pc fits) rest)

pub Runs-two : {first second : Instr} {r s t : State} → effect first r ≡ Leads s → s.pc ≡ (r.pc + 4) % 2 ^ 64 →
    effect second s ≡ Leads t → t.pc ≡ (s.pc + 4) % 2 ^ 64 → r.pc + 8 < 2 ^ 64 → Runs (first ∷ second ∷ []) 2 r t
Runs-two leads pc leads_too pc_too fits =
    Runs-cons leads pc (omega (arith, fits)) (Runs-one leads_too pc_too (omega (arith, pc, fits)))

-- ---- lists that end the run

pub RunsInto-one : {instr : Instr} {s : State} {end : MachineEnd} → effect instr s ≡ Ends end → RunsInto (instr ∷ []) 0 s s end
RunsInto-one {instr} {s} ends =
    record { steps = refl; instr = instr; next = record { position = 0; pc = omega arith; there = refl }; ends = ends }

-- in front of other instructions, which are never reached
pub RunsInto-front : {xs : List Instr} {n : ℕ} {s t : State} {end : MachineEnd} (ys : List Instr) → RunsInto xs n s t end → RunsInto
    (xs ++ ys) n s t end
RunsInto-front {xs} {n} {s} {t} ys into = record {
  steps = RunsFrom-front xs ys s.pc n s t into.steps;
  instr = into.instr;
  next = record {
    position = into.next.position;
    pc = into.next.pc;
    there = instr_at-front xs ys into.next.position into.instr into.next.there;
  };
  ends = into.ends;
}

-- behind others that lead to their end
pub RunsInto-behind : {xs ys : List Instr} {m n : ℕ} {r s t : State} {end : MachineEnd} → Runs xs m r s → RunsInto ys n s t end →
    RunsInto (xs ++ ys) (m + n) r t end
RunsInto-behind {xs} {ys} {m} {n} {r} {s} {t} first into = record {
  steps = RunsFrom-add (xs ++ ys) r.pc m n r s t (RunsFrom-front xs ys r.pc m r s first.steps)
      (RunsFrom-back xs ys r.pc n s t (subst (λ (base : ℕ). RunsFrom ys base n s t) first.pc into.steps));
  instr = into.instr;
  next = record {
    position = length xs + into.next.position;
    pc = omega (arith, into.next.pc, first.pc);
    there = instr_at-back xs ys into.next.position ∙ into.next.there;
  };
  ends = into.ends;
}

-- ---- one instruction at a position

pub Moves-at : {instrs : List Instr} {base : ℕ} {s t : State} (position : ℕ) (instr : Instr) → s.pc ≡ base + 4 * position →
    instr_at instrs position ≡ Some instr → effect instr s ≡ Leads t →
    Moves instrs base s t
Moves-at position instr pc there leads =
    record { instr = instr; next = record { position = position; pc = pc; there = there }; leads = leads }

pub RunsFrom-one_at : {instrs : List Instr} {base : ℕ} {s t : State} (position : ℕ) (instr : Instr) → s.pc ≡ base + 4 * position →
    instr_at instrs position ≡ Some instr → effect instr s ≡ Leads t →
    RunsFrom instrs base 1 s t
RunsFrom-one_at position instr pc there leads = RunsFrom-one (Moves-at position instr pc there leads)
