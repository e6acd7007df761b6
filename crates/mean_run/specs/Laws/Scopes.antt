-- How the code stands inside of a scope and behind it, as the machine does.
use Rattle.std.proofs.Common.{◌≡◌, refl, sym, subst, ap, ◌∙◌, inl, inr, ℕ, true, false, List, [], ◌∷◌, ◌++◌, map, Option}
use Rattle.std.proofs.Common.{Some, None, Result, Ok, Err}
use Rattle.c_type_base.specs.declared.expr.TExpr.{TExpr}
use Rattle.c_type_base.specs.declared.statement.TDecl.{TDecl}
use Rattle.c_type_base.specs.declared.statement.TItem.TheOpen.{TStmt-F}
use Rattle.c_type_base.specs.declared.statement.TItem.{TItem}
use Rattle.c_type_base.specs.declared.statement.TStmt.{TStmt, Block, For, out-TStmt, out-roll-TStmt}
use Rattle.c_type_base.specs.Laws.Opened.{given_typed}
use Rattle.block_meaning.specs.Statements.{local_of}
use Rattle.block_meaning.specs.Locals.{latest, new_local, new_locals, end_locals}
use Rattle.block_meaning.specs.Running.{Call, Context, State, Stop, Stuck, Goes, goes_on, with_some, unit_gives}
use Rattle.block_meaning.specs.Running as meaning
use Rattle.mean_machine.specs.Execution.{scope, execute}
use Rattle.mean_machine.specs.Frames as machine
use Rattle.mean_machine.specs.Going.{Stand, go_by, by, spend, flow}
use Rattle.mean_expressions.specs.declared.frames.Control.{Control}
use Rattle.mean_expressions.specs.declared.frames.Control.TheVariants.{GivesFlow}
use Rattle.mean_expressions.specs.declared.frames.Declarations.{Declarations}
use Rattle.mean_expressions.specs.declared.frames.Flow.{Flow}
use Rattle.mean_expressions.specs.declared.frames.FlowFrame.TheVariants as of_flow
use Rattle.mean_expressions.specs.declared.frames.Frame.{Frame}
use Rattle.mean_expressions.specs.declared.frames.Frame.TheVariants.{OnFlow}
use Rattle.mean_effects.specs.declared.here.Here.{Here}
use Rattle.mean_effects.specs.declared.now.Ending.{Ending}
use Rattle.mean_effects.specs.declared.now.Ending.TheVariants as ending
use Rattle.mean_effects.specs.declared.now.Now.{Now}
use Rattle.mean_run.specs.declared.process.Process.{Process}
use Rattle.mean_run.specs.Entering.{Made, Closed, EntersBy, Enters, Pushed, for_first, has_any}
use Rattle.mean_effects.specs.Laws.Giving.{quiet-itself, quiet-through, ends_stuck}
use Rattle.mean_expressions.specs.Laws.Standing.{stops_later, stops_by, free_by, spend_is}
use Rattle.mean_run.specs.Laws.Moving.{moves-later}
use Rattle.mean_effects.specs.Shown.{IsNow, Quiet, Gives}
use Rattle.mean_expressions.specs.Stacked.{World, IsAt, Stacked, Sticks, numbers_of, flow_of, outside_scope}
use Rattle.mean_run.specs.Processes.{IsProcess, Moves, MovesBy}

abbrev Inside : Type 0
Inside = Context → List machine.Frame → Stand

-- ---- a scope is entered

-- it runs where the code is
pub enters-at : {p : Process} {here : Context} {k : List machine.Frame} {now : State} {m : machine.Machine} (inside : Inside) →
    m ≡ inside here k now → IsProcess p here k now → Enters p now (Ok tt) inside m
enters-at {here = here} {k = k} {now = now} inside same process = record {
  told = inl (record { inner = here; frames = k; after = now; is = same; process = process; quiet = quiet-itself now });
}

pub enters-free : (p : Process) (a : State) (inside : Inside) (m : machine.Machine) → Enters p a (Err ending.NoMemory) inside m
enters-free p a inside m = record { told = free_by a m }

stuck_by : (p : Process) (a : State) (r : Result (Unit {0}) Ending) (inside : Inside) (after : State) →
    EntersBy p a r inside (machine.Ended Stuck after)
stuck_by p a (Ok u) inside after = inr tt
stuck_by p a (Err e) inside after = ends_stuck e a after

enters_stuck : (p : Process) (a : State) (r : Result (Unit {0}) Ending) (inside : Inside) (after : State) →
    Enters p a r inside (machine.Ended Stuck after)
enters_stuck p a r inside after = record { told = stuck_by p a r inside after }

later_by : (p : Process) (a b : State) (r : Result (Unit {0}) Ending) (inside : Inside) (m : machine.Machine) → Quiet a b →
    EntersBy p b r inside m → EntersBy p a r inside m
later_by p a b (Ok u) inside m first (inl e) = inl (record {
  inner = e.inner;
  frames = e.frames;
  after = e.after;
  is = e.is;
  process = e.process;
  quiet = quiet-through first e.quiet;
})
later_by p a b (Ok u) inside m first (inr sticks) = inr sticks
later_by p a b (Err e) inside m first stops = stops_later a b e m first stops

-- a unit was spent, and then
pub enters-spent : {middle : Now} {p : Process} {start : State} {first r : Result (Unit {0}) Ending} {u : Unit {0}} (inside : Inside)
    (next : Stand) → first ≡ Ok u → Gives middle start first (unit_gives tt start) →
    ((now : State) → IsNow middle now → Enters p now r inside (next now)) → Enters p start r inside (spend next start)
enters-spent {middle = middle} {p = p} {start = start} {r = r} {u = u} inside next is first each =
    subst (Enters p start r inside) (sym (spend_is start.work next start))
    (by_unit (unit_gives tt start) (subst (λ x. Gives middle start x (unit_gives tt start)) is first)) where
      by_unit : (m : meaning.Result (Unit {0})) → Gives middle start (Ok u) m → Enters p start r inside (go_by m (λ v. next))
      by_unit (meaning.Goes v after) g =
          record { told = later_by p start after r inside (next after) g.told.quiet (each after g.told.shown).told }
      by_unit (meaning.Stops Stuck after) g = enters_stuck p start r inside after
      by_unit (meaning.Stops why after) g = absurd g.told

pub enters-unspent : {middle : Now} {p : Process} {start : State} {first : Result (Unit {0}) Ending} {e : Ending} (inside : Inside)
    (next : Stand) → first ≡ Err e → Gives middle start first (unit_gives tt start) → Enters p start (Err e) inside (spend next start)
enters-unspent {middle = middle} {p = p} {start = start} {e = e} inside next is first =
    subst (Enters p start (Err e) inside) (sym (spend_is start.work next start))
    (record {
      told = stops_by middle start e (unit_gives tt start) (λ v. next)
          (subst (λ x. Gives middle start x (unit_gives tt start)) is first).told;
    })

-- ---- by its locals

pub scope-with : (here : Context) (k : List machine.Frame) (ns : List ℕ) (inside : Inside) (now : State) → has_any ns ≡ true →
    scope here k ns inside now
    ≡ spend (by (new_locals here ns) (λ inner. inside inner (machine.OnFlow (machine.Scope here ns) ∷ k))) now
scope-with here k [] inside now any = absurd (no_any any) where
  no_any : false ≡ true → ⊥
  no_any e = cc
scope-with here k (n ∷ ns) inside now any = refl

pub scope-without : (here : Context) (k : List machine.Frame) (ns : List ℕ) (inside : Inside) (now : State) → has_any ns ≡ false →
    scope here k ns inside now ≡ inside here k now
scope-without here k [] inside now none = refl
scope-without here k (n ∷ ns) inside now none = absurd (any_not none) where
  any_not : true ≡ false → ⊥
  any_not e = cc

in_call : (p : Process) (a : State) (r : Result (Unit {0}) Ending) (inside : Inside) (here : Context) (n : ℕ) (ns : List ℕ)
    (f : Context → Stand) (x : Option Call) → ((c : Call) → x ≡ Some c →
    Enters p a r inside (go_by (goes_on (with_some x (new_local here n) a) (λ inner. new_locals inner ns)) f)) →
    Enters p a r inside (go_by (goes_on (with_some x (new_local here n) a) (λ inner. new_locals inner ns)) f)
in_call p a r inside here n ns f None each = enters_stuck p a r inside a
in_call p a r inside here n ns f (Some c) each = each c refl

-- outside of calls there are no locals
pub enters-in-call : (p : Process) (a : State) (r : Result (Unit {0}) Ending) (inside : Inside) (here : Context) (ns : List ℕ)
    (f : Context → Stand) → has_any ns ≡ true →
    ((c : Call) → latest here.open_calls ≡ Some c → Enters p a r inside (by (new_locals here ns) f a)) →
    Enters p a r inside (by (new_locals here ns) f a)
enters-in-call p a r inside here [] f any each = absurd (no_any any) where
  no_any : false ≡ true → ⊥
  no_any e = cc
enters-in-call p a r inside here (n ∷ ns) f any each = in_call p a r inside here n ns f (latest here.open_calls) each

-- no local yet
pub made-none : {h : Here} {here : Context} {now : State} {n : Now} {l : List (Option ℕ)} (c : Call) →
    IsAt (record { code = h; locals = l }) here → latest here.open_calls ≡ Some c → IsNow n now →
    Made h (record { here = here; locals = l; start = now }) [] n l
made-none {here = here} {now = now} c at runs shown = record {
  reached = record {
    inner = here;
    after = now;
    call = c;
    is = refl;
    at = at;
    runs = runs;
    shown = shown;
    quiet = quiet-itself now;
  };
  back = refl;
}

-- the locals have their blocks, and the scope waits
pub enters-made : {h : Here} {p : Process} {here : Context} {now : State} (k : List machine.Frame) (inside : Inside) (d : Declarations)
    (before : List (Option ℕ)) (front : List Frame) → p.here ≡ h →
    Made h (record { here = here; locals = before; start = now }) (numbers_of d) p.now p.locals.items →
    p.stack.items ≡ front ++ OnFlow (of_flow.Scope d) ∷ [] → IsAt (record { code = h; locals = before }) here →
    Stacked k front (record { code = h; locals = before }) here → Enters p now (Ok tt) inside
    (by (new_locals here (numbers_of d)) (λ inner. inside inner (machine.OnFlow (machine.Scope here (numbers_of d)) ∷ k)) now)
enters-made {h = h} {p = p} {here = here} {now = now} k inside d before front same made pushed at stacked =
    let r = made.reached in
    let ns = numbers_of d in
    let f : Context → Stand = λ inner. inside inner (machine.OnFlow (machine.Scope here ns) ∷ k) in
    record {
      told = inl (record {
        inner = r.inner;
        frames = machine.OnFlow (machine.Scope here ns) ∷ k;
        after = r.after;
        is = ap (λ x. go_by x f) r.is;
        process = record {
          at = subst (λ x. IsAt (record { code = x; locals = p.locals.items }) r.inner) (sym same) r.at;
          stack = subst (λ x. Stacked (machine.OnFlow (machine.Scope here ns) ∷ k) p.stack.items
              (record { code = x; locals = p.locals.items }) r.inner) (sym same) (record {
                front = front;
                top = OnFlow (of_flow.Scope d);
                is = pushed;
                shown = record {
                  outer = here;
                  is = refl;
                  outside = subst (λ l. IsAt (record { code = h; locals = l }) here) (sym made.back) at;
                  shown = subst (λ l. Stacked k front (record { code = h; locals = l }) here) (sym made.back) stacked;
                };
              });
          shown = r.shown;
        };
        quiet = r.quiet;
      });
    }

pub enters-pushed : {h : Here} {p : Process} {here : Context} {now : State} (r : Result (Unit {0}) Ending) (k : List machine.Frame)
    (inside : Inside) (d : Declarations) (before : List (Option ℕ)) (front : List Frame) → p.here ≡ h →
    Made h (record { here = here; locals = before; start = now }) (numbers_of d) p.now p.locals.items →
    Pushed r (OnFlow (of_flow.Scope d)) front p.stack.items → IsAt (record { code = h; locals = before }) here →
    Stacked k front (record { code = h; locals = before }) here → Enters p now r inside
    (by (new_locals here (numbers_of d)) (λ inner. inside inner (machine.OnFlow (machine.Scope here (numbers_of d)) ∷ k)) now)
enters-pushed (Ok u) k inside d before front same made pushed at stacked =
    enters-made k inside d before front same made pushed at stacked
enters-pushed {p = p} {here = here} {now = now} (Err ending.NoMemory) k inside d before front same made pushed at stacked =
    enters-free p now inside _
enters-pushed (Err _) k inside d before front same made pushed at stacked = absurd pushed

-- ---- it runs inside

entered_by : (p middle : Process) (a : State) (r : Result Control Ending) (inside : Inside) (m : machine.Machine) (u : Unit {0}) →
    EntersBy middle a (Ok u) inside m → ((inner : Context) (frames : List machine.Frame) (after : State) →
    IsProcess middle inner frames after → Moves p after r (inside inner frames after)) → Moves p a r m
entered_by p middle a r inside m u (inl e) each =
    subst (Moves p a r) (sym e.is) (moves-later e.quiet (each e.inner e.frames e.after e.process))
entered_by p middle a r inside m u (inr sticks) each = record { told = sticks_by p a r m sticks } where
  sticks_by : (p : Process) (a : State) (r : Result Control Ending) (m : machine.Machine) → Sticks m → MovesBy p a r m
  sticks_by p a (Ok c) m sticks = inr sticks
  sticks_by p a (Err e) (machine.Runs c there k after) sticks = absurd sticks
  sticks_by p a (Err e) (machine.Ended Stuck after) sticks = ends_stuck e a after
  sticks_by p a (Err e) (machine.Ended _ after) sticks = absurd sticks

pub moves-entered : {p middle : Process} {a : State} {first : Result (Unit {0}) Ending} {r : Result Control Ending} {m : machine.Machine}
    {u : Unit {0}} (inside : Inside) → first ≡ Ok u → Enters middle a first inside m → ((inner : Context) (frames : List machine.Frame)
    (after : State) → IsProcess middle inner frames after → Moves p after r (inside inner frames after)) → Moves p a r m
moves-entered {p = p} {middle = middle} {a = a} {r = r} {m = m} {u = u} inside is enters each =
    entered_by p middle a r inside m u (subst (λ x. Enters middle a x inside m) is enters).told each

pub moves-not-entered : {p middle : Process} {a : State} {first : Result (Unit {0}) Ending} {e : Ending} {m : machine.Machine}
    (inside : Inside) → first ≡ Err e → Enters middle a first inside m → Moves p a (Err e) m
moves-not-entered {middle = middle} {a = a} {m = m} inside is enters =
    record { told = (subst (λ x. Enters middle a x inside m) is enters).told }

-- ---- it is left

-- no local has ended yet
pub closed-none : {h : Here} {here : Context} {now : State} {n : Now} {l : List (Option ℕ)} →
    IsAt (record { code = h; locals = l }) here → IsNow n now → Closed h (record { here = here; locals = l; start = now }) [] n l
closed-none {now = now} at shown = record {
  after = now;
  window = at.window;
  is = refl;
  cleared = refl;
  shown = shown;
  quiet = quiet-itself now;
}

-- all have
pub moves-left : {h : Here} {p : Process} {here outer : Context} {now : State} (k : List machine.Frame) (d : Declarations) (f : Flow)
    (before : List (Option ℕ)) → p.here ≡ h →
    Closed h (record { here = here; locals = before; start = now }) (numbers_of d) p.now p.locals.items →
    IsAt (outside_scope d (record { code = h; locals = before })) outer →
    Stacked k p.stack.items (outside_scope d (record { code = h; locals = before })) outer → Moves p now (Ok (GivesFlow f))
    (by (end_locals here (numbers_of d)) (λ u. flow outer k (flow_of f)) now)
moves-left {h = h} {p = p} {here = here} {outer = outer} {now = now} k d f before same closed outside stacked =
    let there : Here → List (Option ℕ) → World = λ x l. record { code = x; locals = l } in
    let locals = sym closed.cleared in
    record {
      told = inl (record {
        there = outer;
        at = subst (λ x. IsAt (there x p.locals.items) outer) (sym same) (subst (λ l. IsAt (there h l) outer) locals outside);
        stood = record {
          frames_below = k;
          after = closed.after;
          is = ap (λ x. go_by x (λ u. flow outer k (flow_of f))) closed.is;
          stack = subst (λ x. Stacked k p.stack.items (there x p.locals.items) outer) (sym same)
              (subst (λ l. Stacked k p.stack.items (there h l) outer) locals stacked);
          now = closed.shown;
          quiet = closed.quiet;
        };
      });
    }

-- ---- a `for`

-- by its parts
pub moves-for : {p : Process} {r : Result Control Ending} {ds ds' : List TDecl} {a a' b b' c c' : Option TExpr} {s s' : TStmt}
    (here : Context) (k : List machine.Frame) (now : State) → ds ≡ ds' → a ≡ a' → b ≡ b' → c ≡ c' → s ≡ s' →
    Moves p now r (scope here k (map local_of ds)
    (for_first (record { declared = ds; first = a; condition = b; next = c }) s) now) →
    Moves p now r (execute here k (TStmt-F.For ds' a' b' c' s') now)
moves-for {p = p} {r = r} here k now decls first condition next body moves = subst (Moves p now r)
    (λ i. scope here k (map local_of (decls i))
    (for_first (record { declared = decls i; first = first i; condition = condition i; next = next i }) (body i)) now) moves

-- ---- the statements that open a scope

out_block : (items : List TItem) → out-TStmt (Block items) ≡ TStmt-F.Block items
unfolding given_typed
out_block items = out-roll-TStmt (TStmt-F.Block items)

out_for : (ds : List TDecl) (first condition next : Option TExpr) (body : TStmt) →
    out-TStmt (For ds first condition next body) ≡ TStmt-F.For ds first condition next body
unfolding given_typed
out_for ds first condition next body = refl

pub block-opened : {s : TStmt} {items : List TItem} → s ≡ Block items → out-TStmt s ≡ TStmt-F.Block items
block-opened {items = items} is = ap out-TStmt is ∙ out_block items

pub for-opened : {s body : TStmt} {ds : List TDecl} {first condition next : Option TExpr} → s ≡ For ds first condition next body →
    out-TStmt s ≡ TStmt-F.For ds first condition next body
for-opened {body = body} {ds = ds} {first = first} {condition = condition} {next = next} is =
    ap out-TStmt is ∙ out_for ds first condition next body
