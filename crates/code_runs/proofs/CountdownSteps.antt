-- The steps of the loop's instructions.
use Rattle.std.specs.Prelude.{◌≡◌, ℕ, suc, ◌+◌, ◌-◌, ◌*◌, ◌%◌, ◌^◌, ◌<◌, ◌==◌, true, List, [], ◌∷◌, ◌++◌}
use Rattle.std.specs.Prelude.{Some, refl}
use Rattle.std.proofs.Common.{arith, ap, ◌∙◌}
use Rattle.std.proofs.lemmas.Bool.{ne_eqb}
use Rattle.mt_base.specs.Memory.{load, store}
use Rattle.mt_base.specs.Laws.Memory.{load-store_same, store_bytes_below}
use Rattle.a64_code.specs.Outside.{after_put}
use Rattle.a64_code.specs.State.{State}
use Rattle.a64_code.specs.Stepped.{Leads}
use Rattle.a64_code.specs.Effect.{effect}
use Rattle.a64_laws.specs.Forms.{Whole, StoreWhole, next, puts_register, puts_bytes, puts_pc, with_outside}
use Rattle.a64_laws.specs.Laws.OpenMemory.{IsOpen-kept}
use Rattle.a64_laws.specs.Laws.Loads.{load_at_sp}
use Rattle.a64_laws.specs.Laws.Stores.{store_at_sp}
use Rattle.a64_laws.specs.Laws.Results.{moved, number_taken}
use Rattle.a64_laws.specs.Laws.Services.{byte_put}
use Rattle.code_runs.specs.Within.{StepsWithin}
use Rattle.a64_laws.specs.Branches.{Forward, Back, Always, OnZero}
use Rattle.a64_laws.specs.Laws.Branches.{jump-taken, jump-passed}
use Rattle.code_runs.specs.Items.{Item, instr_of, item_at, HasAt}
use Rattle.code_runs.specs.Laws.Within.{StepsWithin-one, StepsWithin-add}
use Rattle.code_runs.specs.Laws.Items.{item-there, Steps-item, IsAt-next}
use Rattle.code_runs.proofs.Countdown.{items, x0, x1, setting, Relates}

abbrev pub Inside : ℕ → State → Type 0
Inside at = (setting at).Inside

-- an item's effect is a step inside
pub step : {loaded s t : State} {at : ℕ} {number : ℕ} {bytes : List ℕ} {item : Item} (k : ℕ) → k < 10 → HasAt loaded at items →
    Relates loaded at k number bytes s → item_at items k ≡ Some item →
    effect (instr_of item) s ≡ Leads t → StepsWithin (Inside at) 1 s t
unfolding next puts_register puts_bytes puts_pc with_outside
step k small has related is leads =
    StepsWithin-one (Steps-item k has related.is_at is leads) (omega (arith, related.is_at.pc), omega (arith, related.is_at.pc, small))

-- ---- what each kind of step leaves

pub after_register : {loaded : State} {at : ℕ} {number : ℕ} {bytes : List ℕ} (k r value : ℕ) (s : State) → k < 10 →
    HasAt loaded at items → Relates loaded at k number bytes s →
    Relates loaded at (k + 1) number bytes (puts_register (record { 0 = r }) value s)
unfolding next puts_register puts_bytes puts_pc with_outside
after_register k r value s small has related = record {
  is_at = IsAt-next has related.is_at small (record { regions = refl; bytes = λ a from to. refl }) refl;
  aligned = related.aligned;
  below = related.below;
  above = related.above;
  memory = IsOpen-kept (record { regions = refl; guard = refl }) related.memory;
  cell = related.cell;
  small = related.small;
  output = related.output;
  whole = related.whole;
}

-- PC elsewhere among the items
moved_to : {loaded : State} {at : ℕ} {number : ℕ} {bytes : List ℕ} (k to address : ℕ) (s : State) → Relates loaded at k number bytes s →
    address ≡ at + 4 * to → Relates loaded at to number bytes (puts_pc address s)
unfolding next puts_register puts_bytes puts_pc with_outside
moved_to k to address s related is = record {
  is_at = record { code = record { regions = related.is_at.code.regions; bytes = related.is_at.code.bytes }; pc = is };
  aligned = related.aligned;
  below = related.below;
  above = related.above;
  memory = IsOpen-kept (record { regions = refl; guard = refl }) related.memory;
  cell = related.cell;
  small = related.small;
  output = related.output;
  whole = related.whole;
}

after_put_byte : {loaded : State} {at : ℕ} {number : ℕ} {bytes : List ℕ} (byte : ℕ) (s : State) → HasAt loaded at items →
    Relates loaded at 3 number bytes s →
    Relates loaded at 4 number (bytes ++ byte ∷ []) (puts_register x0 byte (with_outside (after_put byte s.outside) s))
unfolding next puts_register puts_bytes puts_pc with_outside
after_put_byte byte s has related = record {
  is_at = IsAt-next has related.is_at (omega arith) (record { regions = refl; bytes = λ a from to. refl }) refl;
  aligned = related.aligned;
  below = related.below;
  above = related.above;
  memory = IsOpen-kept (record { regions = refl; guard = refl }) related.memory;
  cell = related.cell;
  small = related.small;
  output = ap (λ (put : List ℕ). put ++ byte ∷ []) related.output;
  whole = rw related.whole refl;
}

after_store : {loaded : State} {at : ℕ} {number : ℕ} {bytes : List ℕ} (value : ℕ) (s : State) → value < 2 ^ 64 → HasAt loaded at items →
    Relates loaded at 6 number bytes s →
    Relates loaded at 7 value bytes (puts_bytes (store 8 s.byte s.sp value) s)
unfolding next puts_register puts_bytes puts_pc with_outside
after_store {at = at} value s fits has related = record {
  is_at = IsAt-next has related.is_at (omega arith)
      (record { regions = refl; bytes = λ a from to. store_bytes_below s.byte s.sp _ a (omega (arith, to, related.above)) }) refl;
  aligned = related.aligned;
  below = related.below;
  above = related.above;
  memory = IsOpen-kept (record { regions = refl; guard = refl }) related.memory;
  cell = load-store_same 8 s.byte s.sp value ∙ omega (arith, fits);
  small = fits;
  output = related.output;
  whole = related.whole;
}

-- ---- the pieces of a turn

-- the cell is in X1
pub record Tested (loaded : State) (at number : ℕ) (bytes : List ℕ) (s : State) : Type 0 where
  pub to : State
  pub led : StepsWithin (Inside at) 1 s to
  pub related : Relates loaded at 1 number bytes to
  pub in_x1 : to.register 1 ≡ number

pub tested : {loaded s : State} {at number : ℕ} {bytes : List ℕ} → HasAt loaded at items → Relates loaded at 0 number bytes s →
    Tested loaded at number bytes s
unfolding next puts_register puts_bytes puts_pc with_outside
tested {s = s} has related = record {
  to = _;
  led = step 0 (omega arith) has related refl (load_at_sp Whole 0 s.sp x1 s (omega arith)
      (omega arith) related.below related.aligned related.memory.readable);
  related = after_register 0 1 (load 8 s.byte s.sp) s (omega arith) has related;
  in_x1 = related.cell;
}

-- so many steps lead to a position
pub record Gets (loaded : State) (at steps position number : ℕ) (bytes : List ℕ) (s : State) : Type 0 where
  pub to : State
  pub led : StepsWithin (Inside at) steps s to
  pub related : Relates loaded at position number bytes to

-- where it is zero the branch goes to the end
pub left : {loaded s : State} {at : ℕ} {bytes : List ℕ} → HasAt loaded at items → Relates loaded at 1 0 bytes s → s.register 1 ≡ 0 →
    Gets loaded at 1 8 0 bytes s
unfolding next puts_register puts_bytes puts_pc with_outside
left {s = s} has related zero_in_x1 = record {
  to = _;
  led = step 1 (omega arith) has related refl
      (jump-taken (OnZero true x1) (Forward 7) s (omega (arith, related.is_at.pc, has.below)) (item-there 1 has related.is_at refl).reach
      (ap (λ n. n == 0) zero_in_x1));
  related = moved_to 1 8 _ s related (omega (arith, related.is_at.pc));
}

-- where it is not, the byte is put,
pub put : {loaded s : State} {at less : ℕ} {bytes : List ℕ} → HasAt loaded at items → Relates loaded at 1 (suc less) bytes s →
    s.register 1 ≡ suc less →
    Gets loaded at 3 4 (suc less) (bytes ++ suc less % 256 ∷ []) s
unfolding next puts_register puts_bytes puts_pc with_outside
put {loaded} {s} {at} {less} {bytes} has related in_x1 = record {
  to = _;
  led = StepsWithin-add (StepsWithin-add first second) third;
  related = after_put_byte (suc less % 256) u has at_3;
}
  where
    t : State
    t = next s

    u : State
    u = puts_register x0 (t.register 1) t

    at_2 : Relates loaded at 2 (suc less) bytes t
    at_2 = moved_to 1 2 _ s related (omega (arith, related.is_at.pc, has.below))

    at_3 : Relates loaded at 3 (suc less) bytes u
    at_3 = after_register 2 0 (t.register 1) t (omega arith) has at_2

    first : StepsWithin (Inside at) 1 s t
    first = step 1 (omega arith) has related refl (jump-passed (OnZero true x1) (Forward 7) s
        (ne_eqb (s.register 1) 0 (λ is. absurd (omega (arith, is, in_x1)))))

    second : StepsWithin (Inside at) 1 t u
    second = step 2 (omega arith) has at_2 refl (moved x1 x0 t (omega arith) (omega arith))

    third : StepsWithin (Inside at) 1 u (puts_register x0 (suc less % 256) (with_outside (after_put (suc less % 256) u.outside) u))
    third = step 3 (omega arith) has at_3 refl
        (byte_put u at_3.whole ∙ ap (λ (n : ℕ). Leads (puts_register x0 (n % 256)
        (with_outside (after_put (n % 256) u.outside) u))) in_x1)

-- and the cell is lowered
pub lowered : {loaded s : State} {at less : ℕ} {bytes : List ℕ} → HasAt loaded at items → Relates loaded at 4 (suc less) bytes s →
    Gets loaded at 4 0 less bytes s
unfolding next puts_register puts_bytes puts_pc with_outside
lowered {loaded} {s} {at} {less} {bytes} has related = record {
  to = _;
  led = StepsWithin-add (StepsWithin-add (StepsWithin-add first second) third) fourth;
  related = moved_to 7 0 _ v at_7 (omega (arith, at_7.is_at.pc));
}
  where
    t : State
    t = puts_register x1 (load 8 s.byte s.sp) s

    at_5 : Relates loaded at 5 (suc less) bytes t
    at_5 = after_register 4 1 (load 8 s.byte s.sp) s (omega arith) has related

    u : State
    u = puts_register x1 less t

    at_6 : Relates loaded at 6 (suc less) bytes u
    at_6 = after_register 5 1 less t (omega arith) has at_5

    v : State
    v = puts_bytes (store 8 u.byte u.sp less) u

    at_7 : Relates loaded at 7 less bytes v
    at_7 = after_store less u (omega (arith, related.small)) has at_6

    first : StepsWithin (Inside at) 1 s t
    first = step 4 (omega arith) has related refl (load_at_sp Whole 0 s.sp x1 s (omega arith)
        (omega arith) related.below related.aligned related.memory.readable)

    second : StepsWithin (Inside at) 1 t u
    second = step 5 (omega arith) has at_5 refl
        (number_taken 0 1 1 x1 x1 t (omega arith) (omega arith) refl (omega (arith, related.cell))
        (omega (arith, related.cell, related.small))
        ∙ ap (λ (n : ℕ). Leads (puts_register x1 n t)) (omega (arith, related.cell)))

    third : StepsWithin (Inside at) 1 u v
    third = step 6 (omega arith) has at_6 refl (store_at_sp StoreWhole 0 u.sp x1 u
        (omega arith) related.below related.aligned at_6.memory)

    fourth : StepsWithin (Inside at) 1 v (puts_pc (v.pc - 4 * 7) v)
    fourth = step 7 (omega arith) has at_7 refl
        (jump-taken Always (Back 7) v (omega (arith, at_7.is_at.pc, has.below)) (item-there 7 has at_7.is_at refl).reach refl)
