-- Blocks of locals come and go safely.
use Rattle.std.proofs.Common.{◌≡◌, refl, sym, subst, ap, ◌∙◌, ℕ, suc, ◌+◌, ◌≤◌, ◌<◌, arith, Bool, true, false, List, [], ◌∷◌, ◌++◌}
use Rattle.std.proofs.Common.{length, Option, Some, nat_eq}
use Rattle.std.specs.Prelude.{slice_get, if◌then◌else◌}
use Rattle.std.specs.List.{All}
use Rattle.std.proofs.lemmas.Bool.{eq-eqb}
use Rattle.std.proofs.lemmas.List.{length_push}
use Rattle.std.proofs.lemmas.List.Elements.{All-nil, All-cons, All-head, All-tail, All-append, All-push, All-replicate, All-weaker}
use Rattle.c_type_base.specs.declared.typed.LocalInfo.{LocalInfo}
use Rattle.c_type_base.specs.declared.typed.TFunction.{TFunction}
use Rattle.block_meaning.specs.declared.cell.Cell.TheVariants.{Nothing}
use Rattle.block_meaning.specs.declared.kind.Kind.TheVariants.{Local}
use Rattle.block_meaning.specs.Blocks.{Block, fresh, ended, with_block}
use Rattle.block_meaning.specs.ExpressionsInOrder.{Scope, within}
use Rattle.block_meaning.specs.Laws.Progress.Memory.{cells-more, with_block-changes}
use Rattle.block_meaning.specs.Laws.Progress.Safe.{CellWithin, BlockWithin, BlocksWithin, Went, further, Ends, Safe}
use Rattle.block_meaning.specs.Laws.Progress.Safe.{Any}
use Rattle.block_meaning.specs.Laws.Progress.Safe.{safe-gives, safe-then, safe-unit, safe-some, safe-with_blocks}
use Rattle.block_meaning.specs.Laws.Progress.Scenes.{LocalAt, LocalsWithin, locals-more, inside_of, Scene, here_of}
use Rattle.block_meaning.specs.Locals.{latest, local_in, local_info, with_local, new_block, new_local, new_locals, end_locals, scoped}
use Rattle.block_meaning.specs.Memory.{bytes_of}
use Rattle.block_meaning.specs.Running.{State, Result, Goes, Stops, Run, gives, goes_on, and_then, with_some, Context}

-- ---- one after another, in another order of brackets

assoc_ends : {A B C : Type 0} (P : ℕ → C → Type 0) (g : A → Run B) (f : B → Run C) (now : State) (r : Result A) →
    Ends P now (goes_on r (λ a. and_then (g a) f)) → Ends P now (goes_on (goes_on r g) f)
assoc_ends P g f now (Goes a later) ends = ends
assoc_ends P g f now (Stops why later) ends = ends

pub safe-assoc : {A B C : Type 0} {n w : ℕ} {P : ℕ → C → Type 0} (m : Run A) (g : A → Run B) (f : B → Run C) →
    Safe n w (and_then m (λ a. and_then (g a) f)) P → Safe n w (and_then (and_then m g) f) P
safe-assoc {P = P} m g f safe = record { ends = λ now kept. assoc_ends P g f now (m now) (safe.ends now kept) }

pub safe-some_first : {A B C : Type 0} {n w : ℕ} {P : ℕ → C → Type 0} {o : Option A} (g : A → Run B) (f : B → Run C) (a : A) →
    o ≡ Some a → Safe n w (and_then (g a) f) P → Safe n w (and_then (with_some o g) f) P
safe-some_first {n = n} {w = w} {P = P} g f a is safe =
    subst (λ o. Safe n w (and_then (with_some o g) f) P) (sym is) safe

-- ---- a new block for a local

block_more : (n k : ℕ) → n ≤ k → (b : Block) → BlockWithin n b → BlockWithin k b
block_more n k more b within = cells-more n k more b.cells within

-- what follows has one block more
pub new_block-safe : {A : Type 0} {n w : ℕ} {P : ℕ → A → Type 0} (f : Context → Run A) (here : Context) (k : ℕ) (b : Block) →
    BlockWithin n b → ((m : ℕ) → n ≤ m → (block : ℕ) → block < m → Safe m w (f (with_local k block here)) P) →
    Safe n w (and_then (new_block here k b) f) P
new_block-safe {n = n} {P = P} f here k b new each = record {
  ends = λ now kept.
      let count : ℕ = length now.blocks in
      let pushed : length (now.blocks ++ b ∷ []) ≡ count + 1 = length_push now.blocks b in
      let longer : length (now.blocks ++ b ∷ []) ≡ suc count = omega (arith, pushed) in
      let more : State = record now { blocks = now.blocks ++ b ∷ [] } in
      let old = All-weaker (BlockWithin count) (BlockWithin (suc count)) (block_more count (suc count) (omega arith)) now.blocks
      kept.within in
      let all = All-push (BlockWithin (suc count)) now.blocks b old (block_more n (suc count) (omega (arith, kept.blocks)) b new) in
      let within = subst (λ m. BlocksWithin m (now.blocks ++ b ∷ [])) (sym longer) all in
      let safe = each (suc count) (omega (arith, kept.blocks)) count (omega arith) in
      let went : Went {A = Unit {0}} Any now tt more =
      record { blocks = omega (arith, longer); work = omega arith; within = within; value = tt } in
      further P went (f (with_local k count here) more)
      (safe.ends more (record { blocks = omega (arith, longer); work = kept.work; within = within }));
}

-- a local has a block, the new one or that which it had
at_either : (n : ℕ) (block : ℕ) → block < n → (new : Bool) (o : Option ℕ) (old : ℕ) → o ≡ Some old → old < n →
    (x : ℕ) × ((if new then Some block else o) ≡ Some x) × (x < n)
at_either n block within true o old is before = (block, refl, within)
at_either n block within false o old is before = (old, is, before)

pub with_local-kept : (n m : ℕ) → n ≤ m → (local : ℕ → Option ℕ) (k block : ℕ) → block < m → (js : List ℕ) → LocalsWithin n local js →
    LocalsWithin m (λ j. (if nat_eq j k then Some block else local j)) js
with_local-kept n m more local k block within js all =
    All-weaker (LocalAt n local) (LocalAt m (λ j. (if nat_eq j k then Some block else local j))) (λ j at.
    let x = at_either m block within (nat_eq j k) (local j) at.block at.is (omega (arith, more, at.within)) in
    record { block = x.0; is = x.1; within = x.2 }) js all

pub with_local-new : (m : ℕ) (local : ℕ → Option ℕ) (k block : ℕ) → block < m →
    LocalAt m (λ j. (if nat_eq j k then Some block else local j)) k
with_local-new m local k block within = record {
  block = block;
  is = ap (λ b. (if b then Some block else local k)) (eq-eqb k k refl);
  within = within;
}

-- ---- the locals of a scope

-- the function has a local of a number
pub record HasLocal (f : TFunction) (k : ℕ) : Type 0 where
  pub info : LocalInfo
  pub is : slice_get f.locals k ≡ Some info

pub info-is : {s : Scope} {n w : ℕ} (scene : Scene s n w) (local : ℕ → Option ℕ) (k : ℕ) (l : LocalInfo) →
    slice_get s.function.locals k ≡ Some l → local_info (inside_of s.program s.unit scene.opened local) scene.call k ≡ Some l
info-is scene local k l is = ap (λ f. local_in f k) scene.function_is ∙ is

-- new locals, of which each has a block in what follows, as have those before
pub new_locals-safe : {A : Type 0} {s : Scope} {i u : ℕ} (scene : Scene s i u) {n w : ℕ} {P : ℕ → A → Type 0} (f : Context → Run A)
    (ks : List ℕ) → All (HasLocal s.function) ks → (local : ℕ → Option ℕ) (before : List ℕ) → LocalsWithin n local before →
    ((m : ℕ) → n ≤ m → (inner : ℕ → Option ℕ) → LocalsWithin m inner ks → LocalsWithin m inner before →
    Safe m w (f (inside_of s.program s.unit scene.opened inner)) P) →
    Safe n w (and_then (new_locals (inside_of s.program s.unit scene.opened local) ks) f) P
new_locals-safe scene {n = n} f [] has local before of_before each =
    let safe = each n (omega arith) local (All-nil (LocalAt n local)) of_before in record { ends = λ now kept. safe.ends now kept }
new_locals-safe {s = s} scene {n = n} f (k ∷ ks) has local before of_before each =
    let here = inside_of s.program s.unit scene.opened local in
    let one = All-head (HasLocal s.function) k ks has in
    let bytes = bytes_of here one.info.ty in
    let cells = All-replicate (CellWithin n) bytes Nothing tt in
    let next : Context → Run Context = λ inner. new_locals inner ks in
    let rest : Context → Run _ = λ inner. and_then (next inner) f in
    let info = info-is scene local k one.info one.is in
    safe-assoc (with_some (latest scene.opened) (new_local here k)) next f
    (safe-some_first (new_local here k) rest scene.call scene.call_is
    (safe-some_first (λ l. new_block here k (fresh (Local scene.call.number k) (bytes_of here l.ty))) rest one.info info
    (new_block-safe rest here k (fresh (Local scene.call.number k) bytes) cells (λ m more block within.
    let inner : ℕ → Option ℕ = λ j. (if nat_eq j k then Some block else local j) in
    let of_before = with_local-kept n m more local k block within before of_before in
    let new = All-cons (LocalAt m inner) k before (with_local-new m local k block within) of_before in
    new_locals-safe scene f ks (All-tail (HasLocal s.function) k ks has) inner (k ∷ before) new (λ j further last of_ks of_all.
    each j (omega (arith, more, further)) last
    (All-cons (LocalAt j last) k ks (All-head (LocalAt j last) k before of_all) of_ks) (All-tail (LocalAt j last) k before of_all))))))

ended_within : (n : ℕ) (b : Block) → BlockWithin n b → BlockWithin n (ended b)
ended_within n b within = All-nil (CellWithin n)

pub end_locals-safe : {n w : ℕ} (here : Context) (ks : List ℕ) → LocalsWithin n here.local ks → Safe n w (end_locals here ks) Any
end_locals-safe here [] all = safe-gives tt (λ k more. tt)
end_locals-safe {n = n} here (k ∷ ks) all =
    let at = All-head (LocalAt n here.local) k ks all in
    safe-then (safe-some _ at.block at.is (safe-with_blocks (with_block at.block ended) (λ blocks longer within.
    with_block-changes ended at.block blocks within (ended_within (length blocks))))) (λ m more a any.
    end_locals-safe here ks (locals-more n m more here.local ks (All-tail (LocalAt n here.local) k ks all)))

-- a scope
pub scoped-safe : {A : Type 0} {s : Scope} {n w : ℕ} {P : ℕ → A → Type 0} (scene : Scene s n w) (ks : List ℕ) →
    All (HasLocal s.function) ks → ((m k : ℕ) → m ≤ k → (a : A) → P m a → P k a) → (body : Context → Run A) →
    ((m v : ℕ) → n ≤ m → v ≤ w → (inner : ℕ → Option ℕ) → LocalsWithin m inner (ks ++ s.locals) →
    Safe m v (body (inside_of s.program s.unit scene.opened inner)) P) →
    Safe n w (scoped (here_of scene) ks body) P
scoped-safe {n = n} {w = w} scene [] has lifts body each = each n w (omega arith) (omega arith) scene.local scene.of_locals
scoped-safe {s = s} {n = n} {w = w} scene (k ∷ ks) has lifts body each = safe-unit (λ v less.
    new_locals-safe scene (λ inner. and_then (body inner) (λ a. and_then (end_locals inner (k ∷ ks)) (λ _. gives a)))
    (k ∷ ks) has scene.local s.locals scene.of_locals (λ m more inner of_new of_old.
    let all = All-append (LocalAt m inner) (k ∷ ks) s.locals of_new of_old in
    let here = inside_of s.program s.unit scene.opened inner in
    safe-then (each m v more (omega (arith, less)) inner all) (λ j further a value.
    safe-then (end_locals-safe here (k ∷ ks) (locals-more m j further inner (k ∷ ks) of_new)) (λ i last b any.
    safe-gives a (λ h again. lifts j h (omega (arith, last, again)) a value)))))
