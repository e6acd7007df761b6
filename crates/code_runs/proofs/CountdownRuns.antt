-- The loop does what its source means, with both bounds.
use Rattle.std.specs.Prelude.{◌≡◌, ℕ, zero, suc, ◌+◌, ◌*◌, ◌≤◌, [], ◌∷◌, refl}
use Rattle.std.proofs.Common.{arith, sym, ◌∙◌, subst}
use Rattle.a64_code.specs.State.{State}
use Rattle.a64_code.specs.declared.end.MachineEnd.{MachineEnd}
use Rattle.a64_code.specs.declared.end.MachineEnd.TheVariants.{Exited}
use Rattle.mte_machine.specs.Run.{Stopped, run}
use Rattle.code_runs.specs.Laws.CodeAt.{step-at}
use Rattle.a64_laws.specs.Forms.{puts_register}
use Rattle.a64_laws.specs.Laws.Results.{constant_moved}
use Rattle.a64_laws.specs.Laws.Services.{exited}
use Rattle.code_runs.specs.Outcome.{Finishes}
use Rattle.code_runs.specs.Bounded.{Account, Room, just, sparing, later, Bounded}
use Rattle.code_runs.specs.Items.{HasAt}
use Rattle.code_runs.specs.Within.{StepsWithin}
use Rattle.code_runs.specs.Laws.Bounded.{IsWider-same, Stands, opened, Stands-opened, done, finishes, unsaid, after, ticks, binds, changes}
use Rattle.code_runs.specs.Laws.Items.{item-there}
use Rattle.code_runs.specs.Laws.Told.{RunStops, run_stops, RunsOn, runs_on, stopped_lacks}
use Rattle.code_runs.proofs.Countdown.{Now, spent, turned, body, turns, program, items, x0, setting, Relates}
use Rattle.code_runs.proofs.CountdownSteps.{step, after_register, tested, left, put, lowered}

-- the loop's last turn leaves six steps
abbrev rooms : Unit {0} → Room
rooms _ = sparing 6

-- a turn may begin where its unit has still to be spent
abbrev Turns : State → ℕ → ℕ → Type 0
Turns loaded at fuel =
    (a : Account) (now : Now) (s : State) → HasAt loaded at items → Relates loaded at 0 now.cell now.output s →
    Stands (setting at) a just now →
    Bounded (setting at) a rooms s (λ _ now t. Relates loaded at 8 now.cell now.output t) (turns fuel now)

-- behind the test
turn : (loaded : State) (at fuel more cell : ℕ) (a : Account) (now : Now) (s : State) → HasAt loaded at items →
    Relates loaded at 1 now.cell now.output s → s.register 1 ≡ now.cell →
    Stands (setting at) a just now → now.left ≡ suc more → Turns loaded at fuel → now.cell ≡ cell →
    Bounded (setting at) (later 1 a) rooms s (λ _ now t. Relates loaded at 8 now.cell now.output t) (body cell (turns fuel) (spent now))
turn loaded at fuel more zero a now s has related in_x1 bounds work again is =
    let out = left has (subst (λ (n : ℕ). Relates loaded at 1 n now.output s) is related) (in_x1 ∙ is) in
    after out.led
    (done (record { least = omega (arith, bounds.least, work); most = omega (arith, bounds.most, work) })
    (subst (λ (n : ℕ). Relates loaded at 8 n now.output out.to) (sym is) out.related))
turn loaded at fuel more (suc less) a now s has related in_x1 bounds work again is =
    let told = put has (subst (λ (n : ℕ). Relates loaded at 1 n now.output s) is related) (in_x1 ∙ is) in
    let less_now = lowered has told.related in
    after told.led (after less_now.led
    (again _ (turned less (spent now)) less_now.to has less_now.related
    (record { least = omega (arith, bounds.least, work); most = omega (arith, bounds.most, work) })))

loop : (loaded : State) (at fuel : ℕ) → Turns loaded at fuel
loop loaded at zero a now s has related bounds = unsaid
loop loaded at (suc fuel) a now s has related bounds = ticks spent (λ (n : Now). body n.cell (turns fuel) n) bounds related.output
    (λ more work. let first = tested has related in
    after first.led (turn loaded at fuel more now.cell a now first.to has first.related first.in_x1 bounds work
    (loop loaded at fuel) refl))

-- the end: X0 becomes 0, and the run exits with it
exits : (loaded : State) (at : ℕ) (a : Account) (now : Now) (s : State) → HasAt loaded at items →
    Relates loaded at 8 now.cell now.output s → Stands (setting at) a (sparing 6) now →
    Bounded (setting at) a (λ (value : Unit {0}). just) s (λ value _ t. Unit {0}) (Finishes 0 now)
unfolding puts_register
exits loaded at a now s has related bounds =
    after (step 8 (omega arith) has related refl (constant_moved 0 x0 s (omega arith)))
    (finishes (record { least = omega (arith, bounds.least); most = omega (arith, bounds.most) })
    (record {
      inside = (omega (arith, at_9.is_at.pc), omega (arith, at_9.is_at.pc));
      output = related.output;
      over = step-at _ _ (item-there 9 has at_9.is_at refl).instr ∙ exited (puts_register x0 0 s);
    }))
  where
    at_9 : Relates loaded at 9 now.cell now.output (puts_register x0 0 s)
    at_9 = after_register 8 0 0 s (omega arith) has related

-- The whole program, from its first item: a unit of work is one to eight steps.
pub runs : (loaded : State) (at fuel : ℕ) (now : Now) (s : State) → HasAt loaded at items → Relates loaded at 0 now.cell now.output s →
    Bounded (setting at) (opened (setting at) now.left) (λ (value : Unit {0}). just) s (λ value _ t. Unit {0}) (program fuel now)
runs loaded at fuel now s has related =
    binds (loop loaded at fuel _ now s has related (Stands-opened (setting at) now))
    (λ value after t n bounds there. exits loaded at _ after t has there bounds)

-- where n steps among its items have led to its start, the bound from above has n more
pub runs_behind : (loaded : State) (at fuel n : ℕ) (now : Now) (r s : State) → StepsWithin (setting at).Inside n r s →
    HasAt loaded at items → Relates loaded at 0 now.cell now.output s →
    Bounded (setting at) (record { so_far = 0; least = now.left; most = 8 * now.left + n }) (λ (value : Unit {0}). just) r
    (λ value _ t. Unit {0}) (program fuel now)
runs_behind loaded at fuel n now r s led has related =
    after led (changes (record { least = omega arith; most = omega arith }) (λ value. IsWider-same just) (λ value now t holds. holds)
    (runs loaded at fuel now s has related))

-- ---- what that says of runs of the machine

-- of the cell 2 the source means the bytes 2 and 1, and the exit with 0, in three units
two : Now
two = record { cell = 2; left = 3; output = [] }

two_means : program 4 two ≡ Finishes 0 (record { cell = 0; left = 0; output = 2 ∷ 1 ∷ [] })
unfolding two
two_means = refl

-- so each run of at least 24 steps from such a state exits with 0, and has put the two bytes
pub two_runs : (loaded : State) (at n : ℕ) (s : State) → HasAt loaded at items → Relates loaded at 0 2 [] s → 24 ≤ n →
    RunStops (setting at) n s (Exited 0) 0 (record { cell = 0; left = 0; output = 2 ∷ 1 ∷ [] })
unfolding two
two_runs loaded at n s has related enough = run_stops {work = 3} n (Exited 0) (λ t over. over) enough (runs loaded at 4 two s has related)

-- with a unit less it lacks work: two steps are made, of which the output so far begins 2, 1
pub two_lacks : (loaded : State) (at : ℕ) (s : State) → HasAt loaded at items → Relates loaded at 0 2 [] s →
    RunsOn (setting at) 2 s (record { cell = 0; left = 0; output = 2 ∷ 1 ∷ [] })
two_lacks loaded at s has related =
    runs_on {work = 2} 2 (omega arith) (runs loaded at 4 (record { cell = 2; left = 2; output = [] }) s has related)

-- so no run of at most two steps has stopped
pub two_goes_on : (loaded : State) (at n : ℕ) (s t : State) (end : MachineEnd) → HasAt loaded at items → Relates loaded at 0 2 [] s →
    n ≤ 2 → run n s ≡ Stopped end t → ⊥
two_goes_on loaded at n s t end has related few stopped =
    stopped_lacks {work = 2} few stopped (runs loaded at 4 (record { cell = 2; left = 2; output = [] }) s has related)
