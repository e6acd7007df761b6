-- A scalar is stored in a local by one instruction, whichever it is: at its bytes from SP on, or behind a register with its address (this
-- project's own).
use Rattle.std.specs.Prelude.{◌≡◌, ℕ, ◌+◌, ◌^◌, ◌<◌, ◌≤◌, true, false, refl}
use Rattle.std.proofs.Common.{arith, ap, sym, subst, ◌∙◌}
use Rattle.mt_base.specs.Granules.{granule_of}
use Rattle.mt_base.specs.Memory.{store}
use Rattle.c_ast.specs.declared.token.Span.{Span}
use Rattle.c_type_base.specs.Sizes.{size}
use Rattle.c_type_base.specs.Types.{is_scalar}
use Rattle.c_type_base.specs.declared.ty.Ty.{Ty}
use Rattle.a64_code.specs.declared.instr.Instr.{Instr}
use Rattle.a64_code.specs.declared.instr.Reg.{Reg}
use Rattle.a64_code.specs.Effect.{effect}
use Rattle.a64_code.specs.State.{State, general}
use Rattle.a64_code.specs.Stepped.{Leads}
use Rattle.a64_laws.specs.Forms.{Points, puts_bytes}
use Rattle.a64_laws.specs.Laws.Effects.InRange.{IsInRange}
use Rattle.block_meaning.specs.Expressions.{start_of}
use Rattle.block_meaning.specs.Memory.{access, object, write}
use Rattle.block_meaning.specs.Running.{Call, Run, goes_on, and_then, State as MeaningState}
use Rattle.block_meaning.specs.Values.{cells_of}
use Rattle.block_meaning.specs.declared.access.Access.{Access}
use Rattle.block_meaning.specs.declared.value.Value.{Value}
use Rattle.code_relation.specs.Calls.{frame_of}
use Rattle.code_relation.specs.Items.{HasInstr, IsAt}
use Rattle.code_relation.specs.Numbers.{IsNumber}
use Rattle.code_relation.specs.Relates.{Relates}
use Rattle.code_relation.specs.Sites.{units_of, site_of}
use Rattle.code_relation.specs.Laws.BytesPut.{Writes-put, Relates-put, KeepsFrom-all}
use Rattle.code_relation.specs.Laws.Stores.{Stores}
use Rattle.code_follows.specs.Laws.StoresAny.{stores_any}
use Rattle.code_runs.specs.Bounded.{Account, later}
use Rattle.code_runs.specs.Laws.Ranges.{IsInRange-Steps}
use Rattle.code_runs.specs.Within.{StepsWithin}
use Rattle.gen_base.specs.Accesses.{OnStack, Behind, store_scalar}
use Rattle.code_follows.specs.Parts.{Result, On, Goes}
use Rattle.code_follows.specs.Scene.{Scene, IsScene, given_in, structs_in, frame_in}
use Rattle.code_follows.specs.Values.{ValueIs}
use Rattle.code_follows.specs.Laws.Accessing.{LetsThrough, lets_through}
use Rattle.code_follows.specs.Laws.Here.{structs_here}
use Rattle.code_follows.specs.Laws.ScalarBytes.{bytes_in, size-scalar, store_near-scalar, store_far-scalar, Stored, stored-scalar}
use Rattle.code_follows.specs.Laws.ScalarSizes.{load_some}
use Rattle.code_follows.specs.Laws.Slots.{SlotPlace, slot_in_order}
use Rattle.code_follows.specs.Laws.Storing.{write-is, general-low, Goes-changes, HasStored, slot_then}
use Rattle.code_follows.specs.Laws.Walking.{step_within}

put_pc : (byte : ℕ → ℕ) (s : State) (from : ℕ) → s.pc ≡ from → from < 2 ^ 56 → (puts_bytes byte s).pc ≡ from + 4
unfolding puts_bytes
put_pc byte s from is below = omega (arith, is, below)

put_registers : (byte : ℕ → ℕ) (s : State) → (puts_bytes byte s).register ≡ s.register
unfolding puts_bytes
put_registers byte s = refl

-- an instruction stands there that stores so many bytes of a register, so far above SP
pub record StoresFrom (k : Scene) (t : Ty) (start : ℕ) (r : Reg) (from middle : ℕ) (s : State) : Type 0 where
  pub instr : Instr
  pub has : HasInstr k.code from instr
  pub to_is : middle ≡ from + 4
  pub stores : effect instr s ≡ Leads (puts_bytes (store (bytes_in t) s.byte (s.sp + start) (general s r)) s)

module _ {k : Scene} (scene : IsScene k) (t : Ty) (scalar : is_scalar t ≡ true) {start number : ℕ} {now : MeaningState} {s : State}
    (relates : Relates (given_in k) k.here now s) (p : SlotPlace k t start now s number) where
  -- from SP
  pub stores_near : {from middle : ℕ} (r : Reg) → HasInstr k.code from (store_scalar t (OnStack start) r) → middle ≡ from + 4 →
      StoresFrom k t start r from middle s
  stores_near r has to_is = record {
    instr = store_scalar t (OnStack start) r;
    has = has;
    to_is = to_is;
    stores = store_near-scalar t scalar r s start p.near p.memory;
  }

  -- behind a register that has the pointer to the local
  pub stores_behind : {from middle : ℕ} (base r : Reg) → base.0 < 31 → IsNumber (given_in k) now (start_of number) (s.register base.0) →
      HasInstr k.code from (store_scalar t (Behind base) r) → middle ≡ from + 4 → StoresFrom k t start r from middle s
  stores_behind base r low is has to_is =
      let a : Access = access k.here true (object t (start_of number)) in
      let bytes : a.size ≡ bytes_in t =
      ap (λ structs. size structs t) (structs_here scene relates) ∙ size-scalar (structs_in k) t scalar in
      let through : LetsThrough (given_in k) now s a p.block (s.register base.0) =
      lets_through scene relates a p.block (s.register base.0) p.lives.is is (slot_in_order scene relates scalar p true)
      (omega (arith, bytes, load_some t)) in
      let place_is : (site_of (given_in k) now number p.block).start + 0 ≡ s.sp + start = omega (arith, p.start_is) in
      record {
        instr = store_scalar t (Behind base) r;
        has = has;
        to_is = to_is;
        stores = store_far-scalar t scalar r s base (s.sp + start) (site_of (given_in k) now number p.block).tag low
            (subst (λ (at : ℕ). Points (s.register base.0) at (site_of (given_in k) now number p.block).tag) place_is through.points)
            p.near.aligned p.memory
            (subst (λ (at : ℕ). s.tag (granule_of at) ≡ (site_of (given_in k) now number p.block).tag) place_is through.agrees);
      }

  pub store_done : {first from middle : ℕ} (v : Value) (r : Reg) → r.0 < 31 → StoresFrom k t start r from middle s → s.pc ≡ from →
      ValueIs (given_in k) t v now (s.register r.0) → first ≤ (frame_in k).temps →
      HasStored k first middle s now (slot_then p v) (puts_bytes (store (bytes_in t) s.byte (s.sp + start) (general s r)) s)
  store_done {first} {from} {middle} v r low from_there at is room =
      let byte : ℕ → ℕ = store (bytes_in t) s.byte (s.sp + start) (general s r) in
      let here : IsAt k.code from s =
      record { pc = at; as_loaded = relates.injects.as_loaded; in_range = relates.injects.in_range } in
      let led : StepsWithin k.code.Inside 1 s (puts_bytes byte s) =
      step_within k from_there.instr from_there.has here from_there.stores in
      let is_general : ValueIs (given_in k) t v now (general s r) =
      subst (λ n. ValueIs (given_in k) t v now n) (sym (general-low s r low)) is in
      let cells : Stored (given_in k) now t v s.byte (s.sp + start) (general s r) =
      stored-scalar t v (general s r) s.byte (s.sp + start) scalar is_general in
      let stores : Stores (given_in k) k.here now number p.block 0 (cells_of t v) s (puts_bytes byte s) =
      stores_any relates.injects scene.file.meant.in_order number p.block 0 (cells_of t v) p.lives p.not_null p.not_text
      (omega (arith, p.size_is, load_some t))
      (Writes-put number p.block 0 (bytes_in t) (s.sp + start) (general s r) (cells_of t v) (omega (arith, p.start_is))
      (omega (arith, p.size_is)) cells.as_many cells.cells) in
      let range : IsInRange (puts_bytes byte s) = IsInRange-Steps 1 led.steps relates.injects.in_range in
      let c : Call = scene.inside.0 in
      record {
        led = led;
        comes = record {
          relates = Relates-put p.lives byte stores.stored range relates;
          pc = omega (arith, put_pc byte s from at (omega (arith, from_there.has.below)), from_there.to_is);
          kept = KeepsFrom-all (units_of (given_in k)) first s (puts_bytes byte s) k.here.open_calls c scene.inside.1
              (subst (λ f. first ≤ (frame_of (units_of (given_in k)) f).temps) (sym scene.inside.2) room) stores.kept;
        };
        registers = put_registers byte s;
        work = refl;
      }

-- the local is written, which pays for what is owed
pub Goes-stores : {A : Type 0} {k : Scene} {first : ℕ} {reg : Reg} {result : Result A} {s : State} {to leaves : ℕ} {a : Account}
    {owes spare from middle start number : ℕ} {f : Unit {0} → Run A} {now : MeaningState} {u : State} (scene : IsScene k) (t : Ty)
    (scalar : is_scalar t ≡ true) (left : ℕ) (p : SlotPlace k t start now u number) (span : Span) (v : Value) (r : Reg) → r.0 < 31 →
    StoresFrom k t start r from middle u → ValueIs (given_in k) t v now (u.register r.0) → first ≤ (frame_in k).temps →
    On k first reg false s from a owes spare now u → owes ≤ 1 → 1 + left ≤ spare →
    ((w : State) → w.register ≡ u.register → On k first reg false s middle (later 1 a) 0 left (slot_then p v) w →
    Goes k first reg false result s to leaves (later 1 a) (f tt) (slot_then p v) w) →
    Goes k first reg false result s to leaves a (and_then (write k.here span (object t (start_of number)) v) f) now u
Goes-stores {k = k} {first} {number = number} {f} {now} {u} scene t scalar left p span v r low from_there is room on pays fits more =
    let done = store_done scene t scalar on.came.comes.relates p {first = first} v r low from_there on.came.comes.pc is room in
    Goes-changes {n = f tt} left
    (ap (λ x. goes_on x f)
    (write-is k.here span t (start_of number) v now p.block p.lives.is (slot_in_order scene on.came.comes.relates scalar p true)))
    done.work done.led done.comes on pays fits (λ behind. more _ done.registers behind)
