-- How the code of a statement is put together of that of its parts (this project's own).
use Rattle.std.specs.Prelude.{◌≡◌, ℕ, ◌+◌, ◌≤◌, refl}
use Rattle.std.proofs.Common.{arith}
use Rattle.a64_code.specs.State.{State}
use Rattle.block_meaning.specs.Running.{Run, gives, stuck, and_then, State as MeaningState}
use Rattle.block_meaning.specs.Statements.{Flow, Next, Broke, Continued, Returned}
use Rattle.code_follows.specs.Scene.{Scene, given_in}
use Rattle.code_follows.specs.Laws.Coming.{Came-start, Came-walks}
use Rattle.code_follows.specs.Steps.{Walks}
use Rattle.code_relation.specs.Follows.{setting}
use Rattle.code_relation.specs.Kept.{KeepsFrom}
use Rattle.code_relation.specs.Laws.Keeps.{KeepsFrom-then}
use Rattle.code_relation.specs.Sites.{units_of}
use Rattle.code_relation.specs.Trees.{Comes}
use Rattle.code_runs.specs.Bounded.{Account, Room, later}
use Rattle.code_runs.specs.Laws.Bounded.{opened, after, done}
use Rattle.gen_stmt.specs.Loops.{Around, Emits}
use Rattle.stmt_follows.specs.Parts.{Ways, ways, Standing, Ends, flow_room, Bounds, Here, After, Proceeds, Flows, StmtPart}
use Rattle.stmt_follows.specs.Laws.Proceeding.{Proceeds-stuck, Proceeds-done, Proceeds-then, Bounds-here}

-- ---- where code has come

-- counted from an earlier state
pub Comes-since : (k : Scene) {s t : State} {to : ℕ} {then : MeaningState} {u : State} →
    KeepsFrom (units_of (given_in k)) 0 s t k.here.open_calls → Comes (given_in k) 0 to k.here t then u →
    Comes (given_in k) 0 to k.here s then u
Comes-since k {s} {t} {u = u} kept comes = record {
  relates = comes.relates;
  pc = comes.pc;
  kept = KeepsFrom-then (units_of (given_in k)) 0 0 0 s t u k.here.open_calls (omega arith) (omega arith) kept comes.kept;
}

pub Ends-since : (k : Scene) (w : Ways) (s t : State) (to : ℕ) (x : Flow) (then : MeaningState) (u : State) →
    KeepsFrom (units_of (given_in k)) 0 s t k.here.open_calls → Ends k w t to x then u → Ends k w s to x then u
Ends-since k w s t to Next then u kept ends = Comes-since k kept ends
Ends-since k w s t to Broke then u kept ends = Comes-since k kept ends
Ends-since k w s t to Continued then u kept ends = Comes-since k kept ends
Ends-since k w s t to (Returned v) then u kept left =
    record { at = left.at; leaving = left.leaving; value = left.value; comes = Comes-since k kept left.comes }

-- it has come to an address, with so much to spare
pub Here-comes : {k : Scene} {s : State} {to : ℕ} {a : Account} {spare over : ℕ} {then : MeaningState} {u : State} (left : ℕ) →
    Comes (given_in k) 0 to k.here s then u → Bounds k a spare over then → left + over ≤ spare → Here k s to a 0 left then u
Here-comes left comes bounds fits = record {
  came = record { comes = comes; registers = λ is r other. absurd (cc) };
  least = omega (arith, bounds.least);
  most = omega (arith, bounds.most, fits);
  within = bounds.within;
}

-- ---- a statement's parts

pub over_few : (x : Flow) → (flow_room x).over ≤ 8
over_few Next = omega arith
over_few Broke = omega arith
over_few Continued = omega arith
over_few (Returned v) = omega arith

pub no_spare : (x : Flow) → (flow_room x).spare ≡ 0
no_spare Next = refl
no_spare Broke = refl
no_spare Continued = refl
no_spare (Returned v) = refl

-- a statement, and then what stands on how it is left
pub Proceeds-flow : {A : Type 0} {k : Scene} {room : A → Room} {Q : A → MeaningState → State → Type 0} {s : State} {w : Ways}
    {a : Account} {spare from middle : ℕ} {m : Run Flow} {f : Flow → Run A} {now : MeaningState} {t : State} →
    Flows k w from middle m → 96 ≤ k.code.per → Here k s from a 0 spare now t →
    ((x : Flow) (then : MeaningState) (u : State) (n : ℕ) → After k w s middle (later n a) spare x then u →
    Proceeds k.code room Q (later n a) (f x) then u) →
    Proceeds k.code room Q a (and_then m f) now t
Proceeds-flow {k = k} {s = s} {w = w} {middle = middle} {now = now} {t} flows pays on more =
    Proceeds-then (flows.flows now t on.within on.came.comes.relates on.came.comes.pc) over_few pays (Bounds-here on)
    (λ x then u n bounds ends. more x then u n (record {
      ends = Ends-since k w s t middle x then u on.came.comes.kept ends;
      bounds = record {
        least = bounds.least;
        most = omega (arith, bounds.most, no_spare x);
        within = bounds.within;
      };
    }))

-- it is left as a part of it was
pub Proceeds-as : {k : Scene} {w : Ways} {s : State} {to : ℕ} {a : Account} {spare : ℕ} {now : MeaningState} {t : State} (x : Flow) →
    After k w s to a spare x now t → Proceeds k.code flow_room (Ends k w s to) a (gives x) now t
Proceeds-as x after = Proceeds-done x after.bounds (omega (arith, no_spare x)) after.ends

-- and goes on to what follows it
pub Proceeds-next : {k : Scene} {w : Ways} {s : State} {to : ℕ} {a : Account} {spare : ℕ} {now : MeaningState} {t : State} →
    Here k s to a 0 spare now t → Proceeds k.code flow_room (Ends k w s to) a (gives Next) now t
Proceeds-next on = Proceeds-done Next (Bounds-here on) (omega arith) on.came.comes

-- it is left by some steps more, for which nothing has to be to spare
pub Proceeds-leaves : {k : Scene} {w : Ways} {s : State} {from at to n : ℕ} {a : Account} {spare : ℕ} {now : MeaningState} {t u : State}
    (x : Flow) → Walks k at n t u → Here k s from a 0 spare now t → n ≤ (flow_room x).over + spare →
    (Comes (given_in k) 0 at k.here s now u → Ends k w s to x now u) → Proceeds k.code flow_room (Ends k w s to) a (gives x) now t
Proceeds-leaves x walks on few ends = record {
  bounded = after walks.led
      (done (record { least = omega (arith, on.least); most = omega (arith, on.most, few, no_spare x) })
      (ends (Came-walks walks (λ is. absurd (cc)) on.came).comes));
}

-- ---- a part

pub StmtPart-by : {k : Scene} {emits : Emits} {run : Run Flow} →
    ((around : Around) (Leaving : ℕ → Type 0) (from to : ℕ) → Standing k Leaving (emits around) from to → (a : Account)
    (now : MeaningState) (s : State) → Here k s from a 0 0 now s →
    Proceeds k.code flow_room (Ends k (ways k around Leaving) s to) a run now s) →
    StmtPart k emits run
StmtPart-by {k = k} each = record {
  part = λ around Leaving from to stands. record {
    flows = λ now s within relates at.
        each around Leaving from to stands (opened (setting k.code) now.work) now s (record {
          came = Came-start relates at;
          least = omega arith;
          most = omega arith;
          within = within;
        });
  };
}

pub StmtPart-stuck : {k : Scene} {emits : Emits} → StmtPart k emits stuck
StmtPart-stuck = StmtPart-by (λ around Leaving from to stands a now s on. Proceeds-stuck)
