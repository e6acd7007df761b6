-- The code of `break` and `continue` does what they mean, where no scope has tagged slots (this project's own).
use Rattle.std.specs.Prelude.{◌≡◌, ℕ, zero, suc, ◌+◌, ◌-◌, Bool, true, false, ◌||◌, List, [], ◌∷◌, take, drop, Option, Some, None, refl}
use Rattle.std.specs.Prelude.{if◌then◌else◌}
use Rattle.std.specs.List.{list_any}
use Rattle.std.proofs.Common.{arith, ap, sym, subst}
use Rattle.block_meaning.specs.Statements.{StmtParts, Broke, Continued, stmt_node}
use Rattle.c_ast.specs.declared.token.Span.{Span}
use Rattle.c_type_base.specs.declared.statement.TItem.TheOpen.{TStmt-F}
use Rattle.code_follows.specs.Scene.{Scene, frame_in}
use Rattle.code_follows.specs.Laws.Jumping.{Jumps, Lies-jump}
use Rattle.code_follows.specs.Laws.Operand.{IsAt-on}
use Rattle.frame_layout.specs.WellFormed.{is_tagged_slot}
use Rattle.gen_base.specs.Code.{Code as Items, nothing, only}
use Rattle.gen_stmt.specs.Loops.{jump_out}
use Rattle.gen_stmt.specs.Scopes.{Range, leave}
use Rattle.sym_code.specs.declared.item.SymItem.TheVariants as item
use Rattle.stmt_follows.specs.Expressions.{AllSafe}
use Rattle.stmt_follows.specs.Parts.{Standing, StmtPart}
use Rattle.stmt_follows.specs.Laws.Flowing.{Proceeds-leaves, StmtPart-by}
use Rattle.stmt_follows.specs.Laws.Proceeding.{Walks-jump}
use Rattle.stmt_follows.specs.Laws.Standing.{Standing-two, Standing-none}

none_in_front : {A : Type 0} (f : A → Bool) (n : ℕ) (xs : List A) → list_any f xs ≡ false → list_any f (take n xs) ≡ false
none_in_front f zero xs none = refl
none_in_front f (suc n) [] none = refl
none_in_front {A} f (suc n) (x ∷ xs) none = by_first (f x) none (none_in_front f n xs)
  where
    by_first : (b : Bool) → (b || list_any f xs) ≡ false → (list_any f xs ≡ false → list_any f (take n xs) ≡ false) →
        (b || list_any f (take n xs)) ≡ false
    by_first false none rest = rest none
    by_first true none rest = absurd (cc)

none_behind : {A : Type 0} (f : A → Bool) (n : ℕ) (xs : List A) → list_any f xs ≡ false → list_any f (drop n xs) ≡ false
none_behind f zero xs none = none
none_behind f (suc n) [] none = refl
none_behind {A} f (suc n) (x ∷ xs) none = by_first (f x) none (none_behind f n xs)
  where
    by_first : (b : Bool) → (b || list_any f xs) ≡ false → (list_any f xs ≡ false → list_any f (drop n xs) ≡ false) →
        list_any f (drop n xs) ≡ false
    by_first false none rest = rest none
    by_first true none rest = absurd (cc)

-- no item leaves a scope
pub leaves_nothing : {k : Scene} → AllSafe k → (opened : Option Range) → leave (frame_in k) opened ≡ nothing
leaves_nothing safe None = refl
leaves_nothing {k} safe (Some r) =
    ap (λ (b : Bool). (if b then only (item.LeaveScope r.first r.last) else nothing))
    (none_in_front is_tagged_slot (r.last + 1 - r.first) (drop r.first (frame_in k).slots)
    (none_behind is_tagged_slot r.first (frame_in k).slots safe.safe))

-- where that is all, the code ends where it begins
pub past_nothing : {k : Scene} {Leaving : ℕ → Type 0} {from to : ℕ} → AllSafe k → (opened : Option Range) →
    Standing k Leaving (leave (frame_in k) opened) from to → from ≡ to
past_nothing {k} {Leaving} {from} {to} safe opened stands = by_code (leave (frame_in k) opened) (leaves_nothing safe opened) stands
  where
    by_code : (code : Items) → code ≡ nothing → Standing k Leaving code from to → from ≡ to
    by_code code is front =
        let here : Standing k Leaving nothing from to = subst (λ c. Standing k Leaving c from to) is front in
        Standing-none here

-- to a label, past nothing
jump_stands : {k : Scene} {Leaving : ℕ → Type 0} {from to : ℕ} → AllSafe k → (opened : Option Range) (label : ℕ) →
    Standing k Leaving (jump_out (frame_in k) opened label) from to → Jumps k from (k.label label)
jump_stands {k} {Leaving} {from} safe opened label stands =
    let pieces = Standing-two (leave (frame_in k) opened) (only (item.Jump label)) stands in
    subst (λ (at : ℕ). Jumps k at (k.label label)) (sym (past_nothing safe opened pieces.front)) (Lies-jump label pieces.back.lies)

pub break_follows : {k : Scene} → AllSafe k → (parts : StmtParts) (span : Span) →
    StmtPart k (λ around. jump_out (frame_in k) around.opened around.broke) (stmt_node parts k.here (TStmt-F.Break span))
break_follows safe parts span = StmtPart-by (λ around Leaving from to stands a now s on.
    let goes = (jump_stands safe around.opened around.broke stands).jumps s (IsAt-on on) in
    Proceeds-leaves Broke (Walks-jump goes) on (omega (arith, goes.most)) (λ comes. comes))

pub continue_follows : {k : Scene} → AllSafe k → (parts : StmtParts) (span : Span) →
    StmtPart k (λ around. jump_out (frame_in k) around.opened around.continued) (stmt_node parts k.here (TStmt-F.Continue span))
continue_follows safe parts span = StmtPart-by (λ around Leaving from to stands a now s on.
    let goes = (jump_stands safe around.opened around.continued stands).jumps s (IsAt-on on) in
    Proceeds-leaves Continued (Walks-jump goes) on (omega (arith, goes.most)) (λ comes. comes))
