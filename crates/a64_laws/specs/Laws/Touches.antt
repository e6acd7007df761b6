-- What a list that passes the test leaves as it was (this project's own).
use Rattle.std.specs.Prelude.{◌≡◌, ℕ, zero, suc, ◌+◌, ◌*◌, ◌^◌, ◌≤◌, Bool, true, false, ◌&&◌}
use Rattle.std.specs.Prelude.{List, [], ◌∷◌, ◌++◌, Some, refl}
use Rattle.std.proofs.Common.{arith, sym, ◌∙◌, subst, true≢false}
use Rattle.mt_base.specs.Extension.{sign_extend}
use Rattle.a64_code.specs.declared.instr.Instr.{Instr}
use Rattle.a64_code.specs.declared.instr.Instr.TheVariants.{Str, Strb, Strh, Stp, Stg, St2g, Stzg, Stz2g}
use Rattle.a64_code.specs.State.{State}
use Rattle.a64_code.specs.Services.{service_register}
use Rattle.a64_code.specs.Shape.{Result, Shape, GoesOn, Puts, PutsWithFlags, PutsAndDraws, Branches, BranchesWithLink, Loads, LoadsPair}
use Rattle.a64_code.specs.Shape.{Stores, StoresPair, StoresTags, Clears, Serves, link_register}
use Rattle.a64_code.specs.LoadsAndStores.{register_bytes}
use Rattle.a64_code.specs.Effect.{shape}
use Rattle.a64_laws.specs.Laws.Effects.EffectLeaves.{effect-led}
use Rattle.a64_laws.specs.Laws.Effects.Kept.{keeps_same}
use Rattle.a64_laws.specs.Laws.Effects.Leaves.{Keeps}
use Rattle.a64_code.specs.Laws.Reach.{reach_of}
use Rattle.a64_laws.specs.Laws.Effects.Reaches.{IsNarrower, Keeps-wider, Keeps-then}
use Rattle.a64_laws.specs.Runs.{instr_at, RunsFrom}
use Rattle.a64_laws.specs.Laws.TouchedPlaces.{first_true, second_true, register_within, result_register, result_sp, neither}
use Rattle.a64_laws.specs.Laws.TouchedPlaces.{StoresWithin, store_bytes, store_moved, TagsWithin, store_tags, tags_moved}
use Rattle.a64_laws.specs.Touches.{Touch, result_within, shape_within, instr_within, touches_only, reach_from}

-- ---- one instruction

abbrev IsShapeWithin : Touch → ℕ → Shape → Type 0
IsShapeWithin touch sp (Stores count pointer checked value) = StoresWithin touch sp count pointer
IsShapeWithin touch sp (StoresPair pointer checked first second) = StoresWithin touch sp 16 pointer
IsShapeWithin touch sp (StoresTags count pointer tag) = TagsWithin touch sp count pointer
IsShapeWithin touch sp (Clears count pointer tag) = TagsWithin touch sp count pointer
IsShapeWithin touch sp other = shape_within touch other ≡ true

width_some : (wide : Bool) → 1 ≤ register_bytes wide
width_some true = omega arith
width_some false = omega arith

shape_moved : (touch : Touch) (sp : ℕ) (instr : Instr) (u : State) → (touch.sp ≡ false → u.sp ≡ sp) → sp + touch.frame ≤ 2 ^ 56 →
    instr_within touch instr u ≡ true → IsShapeWithin touch sp (shape instr u)
shape_moved touch sp (Str wide imm12 rn rt) u same below h =
    store_moved touch sp (register_bytes wide) (imm12 * register_bytes wide) u rn (width_some wide) same below h
shape_moved touch sp (Strb imm12 rn rt) u same below h = store_moved touch sp 1 (imm12 * 1) u rn (omega arith) same below h
shape_moved touch sp (Strh imm12 rn rt) u same below h = store_moved touch sp 2 (imm12 * 2) u rn (omega arith) same below h
shape_moved touch sp (Stp imm7 rt2 rn rt) u same below h =
    store_moved touch sp 16 (8 * sign_extend 7 64 imm7) u rn (omega arith) same below h
shape_moved touch sp (Stg simm9 rn rt) u same below h = tags_moved touch sp 1 simm9 u rn (omega arith) same below h
shape_moved touch sp (St2g simm9 rn rt) u same below h = tags_moved touch sp 2 simm9 u rn (omega arith) same below h
shape_moved touch sp (Stzg simm9 rn rt) u same below h = tags_moved touch sp 1 simm9 u rn (omega arith) same below h
shape_moved touch sp (Stz2g simm9 rn rt) u same below h = tags_moved touch sp 2 simm9 u rn (omega arith) same below h
shape_moved touch sp _ u same below h = h

result_narrow : (touch : Touch) (sp : ℕ) (r : Result) → result_within touch r ≡ true → IsNarrower (reach_of (Puts r)) (reach_from touch sp)
result_narrow touch sp r within = record {
  registers = λ n h. register_within touch r.register sp n (result_register touch r within) h;
  sp = λ h. result_sp touch r within h;
  flags = λ h. refl;
  bytes = λ a h. refl;
  tags = λ granule h. refl;
  draws = λ h. refl;
  asks = λ h. refl;
}

stored_narrow : (touch : Touch) (sp count pointer : ℕ) → StoresWithin touch sp count pointer →
    IsNarrower (reach_of (Stores count pointer true 0)) (reach_from touch sp)
stored_narrow touch sp count pointer within = record {
  registers = λ n h. refl;
  sp = λ h. refl;
  flags = λ h. refl;
  bytes = λ a h. store_bytes touch sp count pointer a within h;
  tags = λ granule h. refl;
  draws = λ h. refl;
  asks = λ h. refl;
}

shape_narrow : (touch : Touch) (sp : ℕ) (shape : Shape) → IsShapeWithin touch sp shape → IsNarrower (reach_of shape) (reach_from touch sp)
shape_narrow touch sp GoesOn within = record {
  registers = λ n h. refl;
  sp = λ h. refl;
  flags = λ h. refl;
  bytes = λ a h. refl;
  tags = λ granule h. refl;
  draws = λ h. refl;
  asks = λ h. refl;
}
shape_narrow touch sp (Puts r) within = result_narrow touch sp r within
shape_narrow touch sp (PutsWithFlags flags r) within =
    let narrow = result_narrow touch sp r (second_true touch.flags _ within) in record {
      registers = narrow.registers;
      sp = narrow.sp;
      flags = λ h. absurd (true≢false (sym (first_true touch.flags _ within) ∙ h));
      bytes = λ a h. refl;
      tags = λ granule h. refl;
      draws = λ h. refl;
      asks = λ h. refl;
    }
shape_narrow touch sp (PutsAndDraws r) within =
    let narrow = result_narrow touch sp r (second_true touch.draws _ within) in record {
      registers = narrow.registers;
      sp = narrow.sp;
      flags = λ h. refl;
      bytes = λ a h. refl;
      tags = λ granule h. refl;
      draws = λ h. absurd (true≢false (sym (first_true touch.draws _ within) ∙ h));
      asks = λ h. refl;
    }
shape_narrow touch sp (Branches taken address) within = record {
  registers = λ n h. refl;
  sp = λ h. refl;
  flags = λ h. refl;
  bytes = λ a h. refl;
  tags = λ granule h. refl;
  draws = λ h. refl;
  asks = λ h. refl;
}
shape_narrow touch sp (BranchesWithLink address) within = record {
  registers = λ n h. register_within touch link_register sp n (λ small. within) h;
  sp = λ h. refl;
  flags = λ h. refl;
  bytes = λ a h. refl;
  tags = λ granule h. refl;
  draws = λ h. refl;
  asks = λ h. refl;
}
shape_narrow touch sp (Loads access r) within = result_narrow touch sp r within
shape_narrow touch sp (LoadsPair access first second) within =
    let narrow = result_narrow touch sp first (first_true _ (result_within touch second) within) in
    let narrow_too = result_narrow touch sp second (second_true (result_within touch first) _ within) in record {
      registers = λ n h. neither _ _ (narrow.registers n h) (narrow_too.registers n h);
      sp = λ h. neither _ _ (narrow.sp h) (narrow_too.sp h);
      flags = λ h. refl;
      bytes = λ a h. refl;
      tags = λ granule h. refl;
      draws = λ h. refl;
      asks = λ h. refl;
    }
shape_narrow touch sp (Stores count pointer checked value) within = stored_narrow touch sp count pointer within
shape_narrow touch sp (StoresPair pointer checked first second) within = stored_narrow touch sp 16 pointer within
shape_narrow touch sp (StoresTags count pointer tag) within = record {
  registers = λ n h. refl;
  sp = λ h. refl;
  flags = λ h. refl;
  bytes = λ a h. refl;
  tags = λ granule h. store_tags touch sp count pointer granule within h;
  draws = λ h. refl;
  asks = λ h. refl;
}
shape_narrow touch sp (Clears count pointer tag) within = record {
  registers = λ n h. refl;
  sp = λ h. refl;
  flags = λ h. refl;
  bytes = λ a h. store_bytes touch sp (16 * count) pointer a within.bytes h;
  tags = λ granule h. store_tags touch sp count pointer granule within h;
  draws = λ h. refl;
  asks = λ h. refl;
}
shape_narrow touch sp (Serves number) within = record {
  registers = λ n h. register_within touch service_register sp n (λ small. second_true touch.asks _ within) h;
  sp = λ h. refl;
  flags = λ h. refl;
  bytes = λ a h. refl;
  tags = λ granule h. refl;
  draws = λ h. refl;
  asks = λ h. absurd (true≢false (sym (first_true touch.asks _ within) ∙ h));
}

-- ---- lists

-- the test of two lists, one behind the other
pub touches_only-append : (touch : Touch) (xs ys : List Instr) (s : State) →
    touches_only touch (xs ++ ys) s ≡ (touches_only touch xs s && touches_only touch ys s)
touches_only-append touch [] ys s = refl
touches_only-append touch (x ∷ xs) ys s = by_first (instr_within touch x s) (touches_only-append touch xs ys s)
  where
    by_first : (within : Bool) → touches_only touch (xs ++ ys) s ≡ (touches_only touch xs s && touches_only touch ys s) →
        (within && touches_only touch (xs ++ ys) s) ≡ ((within && touches_only touch xs s) && touches_only touch ys s)
    by_first true again = again
    by_first false again = refl

listed_within : (touch : Touch) (instrs : List Instr) (k : ℕ) (instr : Instr) (u : State) → instr_at instrs k ≡ Some instr →
    touches_only touch instrs u ≡ true → instr_within touch instr u ≡ true
listed_within touch [] k instr u is within = absurd (cc)
listed_within touch (first ∷ instrs) zero instr u is within =
    let same : first ≡ instr = cc in
    subst (λ (i : Instr). instr_within touch i u ≡ true) same (first_true _ (touches_only touch instrs u) within)
listed_within touch (first ∷ instrs) (suc k) instr u is within =
    listed_within touch instrs k instr u is (second_true (instr_within touch first u) _ within)

-- from a state on whose SP is as it was, where it is not touched
pub RunsFrom-keeps : (touch : Touch) (instrs : List Instr) (base sp n : ℕ) (s t : State)
    → ((u : State) → touches_only touch instrs u ≡ true) →
    sp + touch.frame ≤ 2 ^ 56 → (touch.sp ≡ false → s.sp ≡ sp) → RunsFrom instrs base n s t → Keeps (reach_from touch sp) s t
RunsFrom-keeps touch instrs base sp zero s t passes below same runs =
    subst (Keeps (reach_from touch sp) s) runs (keeps_same (reach_from touch sp) s)
RunsFrom-keeps touch instrs base sp (suc n) s t passes below same runs =
    let moves = runs.1 in
    let narrow = shape_narrow touch sp (shape moves.instr s) (shape_moved touch sp moves.instr s same below
    (listed_within touch instrs moves.next.position moves.instr s moves.next.there (passes s))) in
    let first = Keeps-wider narrow (effect-led moves.instr moves.leads).keeps in
    Keeps-then first (RunsFrom-keeps touch instrs base sp n runs.0 t passes below (λ none. first.sp none ∙ same none) runs.2)

-- Steps of a list, branches inside or not, leave as it was what the test does not name. In each state the test is a `refl`.
pub RunsFrom-touches : (touch : Touch) (instrs : List Instr) (base n : ℕ) (s t : State) →
    ((u : State) → touches_only touch instrs u ≡ true) → s.sp + touch.frame ≤ 2 ^ 56 → RunsFrom instrs base n s t
    → Keeps (reach_from touch s.sp) s t
RunsFrom-touches touch instrs base n s t passes below runs =
    RunsFrom-keeps touch instrs base s.sp n s t passes below (λ none. refl) runs
