-- Inside a call: what is kept on the way, and how the way ends (this project's own).
use Rattle.std.specs.Prelude.{◌≡◌, ℕ, ◌+◌, ◌*◌, ◌≤◌, List, ◌∷◌, length}
use Rattle.std.proofs.Common.{arith, ap, sym, subst, ◌∙◌}
use Rattle.mt_base.specs.Memory.{load}
use Rattle.a64_code.specs.State.{State}
use Rattle.a64_laws.specs.Frames.{HasPair}
use Rattle.block_meaning.specs.declared.value.Value.{Value}
use Rattle.block_meaning.specs.Running.{Call, Context, Result, Goes, Stops, Divide, Deep, More, IsUndefined, Stuck}
use Rattle.block_meaning.specs.Running.{State as MeaningState}
use Rattle.code_runs.specs.Bounded.{Account, Room, just, Bounded}
use Rattle.code_runs.specs.Laws.Bounded.{IsWider-same, Reaches-changes, after, done}
use Rattle.code_relation.specs.Calls.{lowest}
use Rattle.code_relation.specs.Follows.{Code, setting, Returns, call_room}
use Rattle.code_relation.specs.Kept.{KeepsFrom}
use Rattle.code_relation.specs.Outcomes.{outcome_of}
use Rattle.code_relation.specs.Sites.{Given, units_of}
use Rattle.code_relation.specs.Laws.Keeps.{KeepsAll-bytes, KeepsAll-then}
use Rattle.unit_follows.specs.Laws.Finishing.{InCall, Finished}
use Rattle.unit_follows.specs.Laws.Ended.{with_ended, moment}
use Rattle.unit_follows.specs.Laws.Spares.Runs.{IsKept}

-- ---- bounds and room at once

-- what an account leaves may be room
pub Bounded-joint : {A : Type 0} (c : Code) {a b : Account} {first second : A → Room} {s : State} {P Q : A → MeaningState → State → Type 0}
    (r : Result A) → b.least + a.so_far ≤ a.least + b.so_far → a.most + b.so_far ≤ b.most + a.so_far →
    ((v : A) → a.most + b.so_far + (second v).spare + (first v).over ≤ b.most + a.so_far + (first v).spare + (second v).over) →
    ((v : A) (now : MeaningState) (t : State) → P v now t → Q v now t) → Bounded (setting c) a first s P (outcome_of r) →
    Bounded (setting c) b second s Q (outcome_of r)
Bounded-joint c {a} {b} {first} {second} (Goes v now) least most joint weaker bounded =
    let r = bounded.does in
    record {
      does = record {
        steps = r.steps;
        to = r.to;
        led = r.led;
        least = omega (arith, r.least, least);
        most = omega (arith, r.most, joint v);
        there = weaker v now r.to r.there;
      };
    }
Bounded-joint c (Stops Divide now) least most joint weaker bounded = record {
  does = Reaches-changes (record { least = omega (arith, least); most = omega (arith, most) }) (IsWider-same just) (λ t h. h) bounded.does;
}
Bounded-joint c (Stops Deep now) least most joint weaker bounded = record {
  does = Reaches-changes (record { least = omega (arith, least); most = omega (arith, most) }) (IsWider-same just) (λ t h. h) bounded.does;
}
Bounded-joint c (Stops More now) least most joint weaker bounded = record {
  does = Reaches-changes (record { least = omega (arith, least); most = omega (arith, most) }) (IsWider-same just) (λ t h. h) bounded.does;
}
Bounded-joint c (Stops (IsUndefined u) now) least most joint weaker bounded = record {
  does = Reaches-changes (record { least = omega (arith, least); most = omega (arith, most) }) (IsWider-same just) (λ t h. h) bounded.does;
}
Bounded-joint c (Stops Stuck now) least most joint weaker bounded = record { does = tt }

-- ---- what is kept

word_at : (byte : ℕ → ℕ) (a b value : ℕ) → a ≡ b → load 8 byte b ≡ value → load 8 byte a ≡ value
word_at byte a b value same is = ap (load 8 byte) same ∙ is

pub InCall-kept : {g : Given} {here : Context} {call : Call} {s t u : State} (first : ℕ) → InCall g here call s t →
    KeepsFrom (units_of g) first t u (call ∷ here.open_calls) → InCall g here call s u
InCall-kept {g} {here} {call} {s} {t} {u} first in_call kept = record {
  pair = record {
    has_first = word_at u.byte (lowest call) (lowest call + 0) (s.register 29) (omega arith)
        (kept.0.0 ∙ word_at t.byte (lowest call + 0) (lowest call) (s.register 29) (omega arith) in_call.pair.has_first);
    has_second = kept.0.1 ∙ in_call.pair.has_second;
  };
  kept = KeepsAll-then (units_of g) s t u here.open_calls in_call.kept kept.2;
}

pub InCall-bytes : {g : Given} {here : Context} {call : Call} {s t u : State} → InCall g here call s t → u.byte ≡ t.byte →
    InCall g here call s u
InCall-bytes {g} {here} {call} {s} {t} {u} in_call same =
    let pair : HasPair u.byte (lowest call) (s.register 29) (s.register 30) =
    subst (λ byte. HasPair byte (lowest call) (s.register 29) (s.register 30)) (sym same) in_call.pair in
    record {
      pair = pair;
      kept = KeepsAll-then (units_of g) s t u here.open_calls in_call.kept
          (KeepsAll-bytes (units_of g) t u here.open_calls same);
    }

-- ---- the end

-- where the run has kept what it has to, the call comes back
abbrev pub Back : Code → Context → MeaningState → State → Value → MeaningState → State → Type 0
Back c here now s v last u = IsKept (moment now) now last → Returns c.given (s.register 30) here s v last u

pub Bounded-finished : {c : Code} {here : Context} {now done' : MeaningState} {call : Call} {v : Value} {s t : State}
    {a : Account} (vs : List Value) → Finished c here now call v done' s t → a.least ≤ done'.work + a.so_far →
    a.so_far + 12 + c.per * done'.work ≤ a.most + length vs →
    Bounded (setting c) a (λ v. call_room vs) t (Back c here now s) (outcome_of (Goes v (with_ended call done')))
Bounded-finished vs f least most =
    after f.led (done (record { least = omega (arith, least); most = omega (arith, most, f.most) }) f.returns)
