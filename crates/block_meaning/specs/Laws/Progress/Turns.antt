-- Turns of loops are safe where their parts are: each spends a unit of work, so there are at most as many as units.
use Rattle.std.proofs.Common.{◌≡◌, refl, sym, subst, ℕ, zero, suc, ◌≤◌, ◌<◌, arith}
use Rattle.std.proofs.Common.{Option, Some, None}
use Rattle.c_type_base.specs.declared.ty.Ty.{Ty}
use Rattle.c_type_base.specs.declared.expr.TExpr.{TExpr}
use Rattle.c_type_base.specs.declared.statement.TStmt.{TStmt}
use Rattle.block_meaning.specs.Expressions.{Calls}
use Rattle.block_meaning.specs.Laws.Progress.Fits.{Fits, fits-more}
use Rattle.block_meaning.specs.Laws.Progress.Safe.{Safe, Any, safe-gives, safe-then, safe-unit, safe-unit_first, safe-choice}
use Rattle.block_meaning.specs.Locals.{declarations}
use Rattle.block_meaning.specs.Running.{Run, gives, and_then, unit_then, choice, Context}
use Rattle.block_meaning.specs.Statements.{Flow, Next, Broke, Continued, Returned, StmtParts}
use Rattle.block_meaning.specs.Statements.{condition, condition_or_true, effect, Turn}
use Rattle.block_meaning.specs.Statements.{Again, Leaves, after_body, around, loop, if_again, while_turn, do_turn, Heading, for_turn}
use Rattle.block_meaning.specs.Statements.{if_node, statements_at}

-- a value that is returned fits the result
abbrev pub FlowFits : Ty → ℕ → Flow → Type 0
FlowFits t n (Returned v) = Fits t n v
FlowFits t n _ = Unit {0}

abbrev pub TurnFits : Ty → ℕ → Turn → Type 0
TurnFits t n Again = Unit {0}
TurnFits t n (Leaves flow) = FlowFits t n flow

pub flow-more : (t : Ty) (n k : ℕ) → n ≤ k → (flow : Flow) → FlowFits t n flow → FlowFits t k flow
flow-more t n k more (Returned v) fits = fits-more t n k more v fits
flow-more t n k more _ fits = tt

pub around_safe : {n w : ℕ} (t : Ty) (turn : Turn) {m : Run Flow} → TurnFits t n turn → Safe n w m (FlowFits t) →
    Safe n w (around turn m) (FlowFits t)
around_safe t Again fits safe = safe
around_safe {n = n} t (Leaves flow) fits safe = safe-gives flow (λ k more. flow-more t n k more flow fits)

pub again_safe : {n w : ℕ} (t : Ty) (turn : Turn) {m : Run Turn} → TurnFits t n turn → Safe n w m (TurnFits t) →
    Safe n w (if_again turn m) (TurnFits t)
again_safe t Again fits safe = safe
again_safe {n = n} t (Leaves flow) fits safe = safe-gives (Leaves flow) (λ k more. flow-more t n k more flow fits)

pub after_fits : (t : Ty) (n : ℕ) (flow : Flow) → FlowFits t n flow → TurnFits t n (after_body flow)
after_fits t n Next fits = tt
after_fits t n Continued fits = tt
after_fits t n Broke fits = tt
after_fits t n (Returned v) fits = fits

-- a loop has at most as many turns as there is work
pub loop_safe : {n w : ℕ} (t : Ty) (m : Run Turn) (turns : ℕ) → w < turns → ((k v : ℕ) → n ≤ k → v < w → Safe k v m (TurnFits t)) →
    Safe n w (loop turns (unit_then m)) (FlowFits t)
loop_safe t m zero enough each = absurd (omega (arith, enough))
loop_safe {n = n} t m (suc turns) enough each = safe-unit_first m (λ turn. around turn (loop turns (unit_then m))) (safe-unit (λ v less.
    safe-then (each n v (omega arith) less) (λ k more turn fits. around_safe t turn fits
    (loop_safe t m turns (omega (arith, enough, less)) (λ j u further fewer.
    each j u (omega (arith, more, further)) (omega (arith, less, fewer)))))))

pub bound_is : (calls : Calls) (levels : ℕ) → (statements_at calls levels).bound ≡ levels
bound_is calls zero = refl
bound_is calls (suc levels) = refl

pub bound_within : (calls : Calls) (levels w : ℕ) → w < levels → w < (statements_at calls levels).bound
bound_within calls levels w less = subst (λ b. w < b) (sym (bound_is calls levels)) less

-- it is safe from here on: with as many blocks or more, and with as much work or less
abbrev pub Always : {A : Type 0} → ℕ → ℕ → Run A → (ℕ → A → Type 0) → Type 0
Always n w m P = (k v : ℕ) → n ≤ k → v ≤ w → Safe k v m P

abbrev pub while_body : StmtParts → Context → TExpr → TStmt → Run Turn
while_body p here e st = and_then (condition p here e) (λ holds.
    choice holds (and_then (p.run here st) (λ flow. gives (after_body flow))) (gives (Leaves Next)))

abbrev pub condition_last : StmtParts → Context → TExpr → Run Turn
condition_last p here e = and_then (condition p here e) (λ holds. choice holds (gives Again) (gives (Leaves Next)))

abbrev pub do_body : StmtParts → Context → TStmt → TExpr → Run Turn
do_body p here st e = and_then (p.run here st) (λ flow. if_again (after_body flow) (condition_last p here e))

abbrev pub next_turn : StmtParts → Context → Option TExpr → Run Turn
next_turn p here e = and_then (effect p here e) (λ _. gives Again)

abbrev pub for_body : StmtParts → Context → Heading → TStmt → Run Turn
for_body p here h st = and_then (condition_or_true p here h.condition) (λ holds.
    choice holds (and_then (p.run here st) (λ flow. if_again (after_body flow) (next_turn p here h.next))) (gives (Leaves Next)))

-- what stands in the scope of a `for`
abbrev pub for_inside : StmtParts → Heading → TStmt → Context → Run Flow
for_inside p h st here = and_then (declarations here (p.expr here) p.bound h.declared) (λ _.
    and_then (effect p here h.first) (λ _. loop p.bound (for_turn p here h st)))

module _ (t : Ty) (p : StmtParts) (here : Context) where
  pub while_by : {n w : ℕ} (e : TExpr) (st : TStmt) → w < p.bound → Always n w (condition p here e) Any →
      Always n w (p.run here st) (FlowFits t) → Safe n w (loop p.bound (while_turn p here e st)) (FlowFits t)
  while_by e st enough of_e of_st = loop_safe t (while_body p here e st) p.bound enough (λ k v more less.
      safe-then (of_e k v more (omega (arith, less))) (λ j further holds any.
      safe-choice holds
      (safe-then (of_st j v (omega (arith, more, further)) (omega (arith, less))) (λ i last flow fits.
      safe-gives (after_body flow) (λ h again. after_fits t h flow (flow-more t i h again flow fits))))
      (safe-gives (Leaves Next) (λ i last. tt))))

  pub last_by : {n w : ℕ} (e : TExpr) → Safe n w (condition p here e) Any → Safe n w (condition_last p here e) (TurnFits t)
  last_by e of_e = safe-then of_e (λ k more holds any.
      safe-choice holds (safe-gives Again (λ j further. tt)) (safe-gives (Leaves Next) (λ j further. tt)))

  pub do_by : {n w : ℕ} (st : TStmt) (e : TExpr) → w < p.bound → Always n w (p.run here st) (FlowFits t) →
      Always n w (condition p here e) Any → Safe n w (loop p.bound (do_turn p here st e)) (FlowFits t)
  do_by st e enough of_st of_e = loop_safe t (do_body p here st e) p.bound enough (λ k v more less.
      safe-then (of_st k v more (omega (arith, less))) (λ j further flow fits.
      again_safe t (after_body flow) (after_fits t j flow fits)
      (last_by e (of_e j v (omega (arith, more, further)) (omega (arith, less))))))

  pub next_by : {n w : ℕ} (e : Option TExpr) → Safe n w (effect p here e) Any → Safe n w (next_turn p here e) (TurnFits t)
  next_by e of_e = safe-then of_e (λ k more a any. safe-gives Again (λ j further. tt))

  pub for_by : {n w : ℕ} (h : Heading) (st : TStmt) → w < p.bound → Always n w (condition_or_true p here h.condition) Any →
      Always n w (p.run here st) (FlowFits t) → Always n w (effect p here h.next) Any →
      Safe n w (loop p.bound (for_turn p here h st)) (FlowFits t)
  for_by h st enough of_condition of_st of_next = loop_safe t (for_body p here h st) p.bound enough (λ k v more less.
      safe-then (of_condition k v more (omega (arith, less))) (λ j further holds any.
      safe-choice holds
      (safe-then (of_st j v (omega (arith, more, further)) (omega (arith, less))) (λ i last flow fits.
      again_safe t (after_body flow) (after_fits t i flow fits)
      (next_by h.next (of_next i v (omega (arith, more, further, last)) (omega (arith, less))))))
      (safe-gives (Leaves Next) (λ i last. tt))))

  pub for_inside_by : {n w : ℕ} (h : Heading) (st : TStmt) → w < p.bound →
      Safe n w (declarations here (p.expr here) p.bound h.declared) Any → Always n w (effect p here h.first) Any →
      Always n w (condition_or_true p here h.condition) Any → Always n w (p.run here st) (FlowFits t) →
      Always n w (effect p here h.next) Any → Safe n w (for_inside p h st here) (FlowFits t)
  for_inside_by {w = w} h st enough of_ds of_first of_condition of_st of_next = safe-then of_ds (λ k more a any.
      safe-then (of_first k w more (omega arith)) (λ j further b any.
      for_by h st enough
      (λ i v last less. of_condition i v (omega (arith, more, further, last)) less)
      (λ i v last less. of_st i v (omega (arith, more, further, last)) less)
      (λ i v last less. of_next i v (omega (arith, more, further, last)) less)))

  pub if_alone_by : {n w : ℕ} (e : TExpr) (st : TStmt) → Safe n w (condition p here e) Any → Always n w (p.run here st) (FlowFits t) →
      Safe n w (if_node p here e st None) (FlowFits t)
  if_alone_by {w = w} e st of_e of_st = safe-then of_e (λ k more holds any.
      safe-choice holds (of_st k w more (omega arith)) (safe-gives Next (λ j further. tt)))

  pub if_else_by : {n w : ℕ} (e : TExpr) (st other : TStmt) → Safe n w (condition p here e) Any → Always n w (p.run here st) (FlowFits t) →
      Always n w (p.run here other) (FlowFits t) → Safe n w (if_node p here e st (Some other)) (FlowFits t)
  if_else_by {w = w} e st other of_e of_st of_other = safe-then of_e (λ k more holds any.
      safe-choice holds (of_st k w more (omega arith)) (of_other k w more (omega arith)))
