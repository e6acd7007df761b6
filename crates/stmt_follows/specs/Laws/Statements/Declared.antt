-- Declarations among statements, and what a `for` has before its turns (this project's own).
use Rattle.std.specs.Prelude.{ℕ, [], ◌∷◌, Option, Some, None, refl}
use Rattle.std.proofs.Common.{arith, sym, ◌∙◌}
use Rattle.a64_code.specs.State.{State}
use Rattle.block_meaning.specs.Expressions.{value_of}
use Rattle.block_meaning.specs.Running.{Run, gives, and_then, State as MeaningState}
use Rattle.block_meaning.specs.Statements.{StmtParts, Flow, Next, effect}
use Rattle.c_type_base.specs.declared.expr.TExpr.{TExpr}
use Rattle.code_follows.specs.Scene.{Scene, IsScene, structs_in, frame_in, Lies}
use Rattle.code_follows.specs.Laws.Coming.{pays}
use Rattle.code_follows.specs.Laws.Going.{On-at}
use Rattle.code_follows.specs.Laws.Here.{and_then-gives}
use Rattle.code_runs.specs.Bounded.{Account, Room, later}
use Rattle.gen_base.specs.Code.{Code as Items, in_turn}
use Rattle.gen_stmt.specs.Loops.{Emits}
use Rattle.gen_stmt.specs.Statements.{maybe_value}
use Rattle.stmt_follows.specs.Expressions.{MaybeRuns}
use Rattle.stmt_follows.specs.Parts.{Here, Proceeds, DeclsPart, StmtPart}
use Rattle.stmt_follows.specs.Laws.Conditions.{and_then-apart, Proceeds-value}
use Rattle.stmt_follows.specs.Laws.Flowing.{Comes-since, Here-comes, Proceeds-flow, Proceeds-as, Proceeds-next, StmtPart-by}
use Rattle.stmt_follows.specs.Laws.Proceeding.{Proceeds-same, Proceeds-then, Bounds-here, Here-less}
use Rattle.stmt_follows.specs.Laws.Standing.{Standing-turn, Standing-two}

module _ {A : Type 0} {k : Scene} {room : A → Room} {Q : A → MeaningState → State → Type 0} {s : State} where
  -- declarations, and then what follows them
  pub Proceeds-declarations : {a : Account} {spare from middle : ℕ} {code : Items} {m : Run (Unit {0})}
      {now : MeaningState} {t : State} (f : Unit {0} → Run A) → DeclsPart k code m → IsScene k → Lies k code from middle →
      Here k s from a 0 spare now t →
      ((then : MeaningState) (u : State) (n : ℕ) → Here k s middle (later n a) 0 spare then u →
      Proceeds k.code room Q (later n a) (f (tt {0})) then u) →
      Proceeds k.code room Q a (and_then m f) now t
  Proceeds-declarations {spare = spare} {now = now} {t} f follows scene lies on more =
      Proceeds-then (follows.part _ _ lies now t on.within on.came.comes.relates on.came.comes.pc) (λ x. omega arith) (pays scene)
      (Bounds-here on)
      (λ x then u n bounds comes. more then u n (Here-comes spare (Comes-since k on.came.comes.kept comes) bounds (omega arith)))

  -- an expression that may be there
  pub Proceeds-effect : {a : Account} {spare from middle : ℕ} {now : MeaningState} {t : State} (f : Unit {0} → Run A) → IsScene k →
      (parts : StmtParts) (e : Option TExpr) → MaybeRuns k (parts.expr k.here) e →
      Lies k (maybe_value (structs_in k) (frame_in k) e) from middle → Here k s from a 0 spare now t →
      ((then : MeaningState) (u : State) (b : Account) → Here k s middle b 0 spare then u →
      Proceeds k.code room Q b (f (tt {0})) then u) →
      Proceeds k.code room Q a (and_then (effect parts k.here e) f) now t
  Proceeds-effect {a} {now = now} {t} f scene parts None runs lies on more =
      Proceeds-same refl (more now t a (On-at (sym lies.from_is ∙ lies.to_is) on))
  Proceeds-effect {a} {now = now} f scene parts (Some e) runs lies on more =
      Proceeds-same (and_then-apart (value_of (parts.expr k.here) e) (λ v. gives tt) f now)
      (Proceeds-value scene parts e runs lies on (λ v then u n came is.
      Proceeds-same refl (more then u (later n a) (Here-less _ (omega arith) came))))

-- declarations as a part of a block
pub declarations_part : {k : Scene} {code : Items} {m : Run (Unit {0})} → IsScene k → DeclsPart k code m →
    StmtPart k (λ around. code) (and_then m (λ x. gives Next))
declarations_part scene follows = StmtPart-by (λ around Leaving from to stands a now s on.
    Proceeds-declarations (λ x. gives Next) follows scene stands.lies on (λ later u n came. Proceeds-next came))

-- declarations, an expression, and then a statement
pub heading_follows : {k : Scene} {code : Items} {m : Run (Unit {0})} {emits : Emits} {run : Run Flow} → IsScene k → (parts : StmtParts) →
    DeclsPart k code m → (first : Option TExpr) → MaybeRuns k (parts.expr k.here) first → StmtPart k emits run →
    StmtPart k (λ around. in_turn (code ∷ maybe_value (structs_in k) (frame_in k) first ∷ emits around ∷ []))
    (and_then m (λ x. and_then (effect parts k.here first) (λ y. run)))
heading_follows {k} {code} {emits = emits} {run} scene parts follows first runs part =
    StmtPart-by (λ around Leaving from to stands a now s on.
    let p = Standing-turn code (maybe_value (structs_in k) (frame_in k) first ∷ emits around ∷ []) stands in
    let q = Standing-two (maybe_value (structs_in k) (frame_in k) first) (emits around) p.back in
    Proceeds-declarations (λ x. and_then (effect parts k.here first) (λ y. run)) follows scene p.front.lies on (λ then u n came.
    Proceeds-effect (λ y. run) scene parts first runs q.front.lies came (λ last v b there.
    Proceeds-same (and_then-gives run last)
    (Proceeds-flow (part.part around Leaving q.middle to q.back) (pays scene) there (λ x end w m left. Proceeds-as x left)))))
