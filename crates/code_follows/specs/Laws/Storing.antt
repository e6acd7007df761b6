-- A scalar is written to a local in a safe slot, as a word of a run (this project's own).
use Rattle.std.specs.Prelude.{◌≡◌, ℕ, ◌+◌, ◌*◌, ◌^◌, ◌<◌, ◌≤◌, false, true, [], ◌∷◌, slice_get, slice_set, Some, None, refl}
use Rattle.std.proofs.Common.{arith, ap, sym, subst}
use Rattle.std.proofs.lemmas.Bool.{lt-ltb}
use Rattle.c_ast.specs.declared.token.Span.{Span}
use Rattle.c_type_base.specs.Types.{is_scalar}
use Rattle.c_type_base.specs.declared.ty.Ty.{Ty}
use Rattle.mt_base.specs.Memory.{store}
use Rattle.a64_code.specs.declared.instr.Reg.{Reg}
use Rattle.a64_code.specs.State.{State, general}
use Rattle.a64_laws.specs.Forms.{puts_bytes}
use Rattle.a64_laws.specs.Laws.Effects.InRange.{IsInRange}
use Rattle.block_meaning.specs.Access.{reason_against}
use Rattle.block_meaning.specs.Blocks.{Block, with_cells_in}
use Rattle.block_meaning.specs.Expressions.{start_of}
use Rattle.block_meaning.specs.Memory.{access, object, write}
use Rattle.block_meaning.specs.Running.{Goes as Goes', Call, Context, Run, goes_on, and_then, State as MeaningState}
use Rattle.block_meaning.specs.Values.{cells_of}
use Rattle.block_meaning.specs.declared.value.Pointer.{Pointer}
use Rattle.block_meaning.specs.declared.value.Value.{Value}
use Rattle.block_meaning.specs.declared.value.Value.TheVariants.{Number, Address, Struct, NoValue}
use Rattle.code_relation.specs.Calls.{frame_of}
use Rattle.code_relation.specs.Follows.{setting}
use Rattle.code_relation.specs.Items.{HasInstr}
use Rattle.code_relation.specs.Numbers.{Holds}
use Rattle.code_relation.specs.Outcomes.{outcome_of}
use Rattle.code_relation.specs.Relates.{Relates}
use Rattle.code_relation.specs.Sites.{Given, units_of}
use Rattle.code_relation.specs.Trees.{Comes}
use Rattle.code_relation.specs.Laws.BytesPut.{Writes-put, Relates-put, KeepsFrom-all}
use Rattle.code_relation.specs.Laws.Changing.{Change, changed, IsNumber-changed}
use Rattle.code_relation.specs.Laws.Storing.{with_new}
use Rattle.code_relation.specs.Laws.Stores.{Stores}
use Rattle.code_runs.specs.Bounded.{Account, sparing, later, Bounded}
use Rattle.code_runs.specs.Laws.Bounded.{after}
use Rattle.code_runs.specs.Laws.Ranges.{IsInRange-Steps}
use Rattle.code_runs.specs.Within.{StepsWithin}
use Rattle.gen_base.specs.Accesses.{OnStack, store_scalar}
use Rattle.code_follows.specs.Parts.{Result, Gave, On, Goes}
use Rattle.code_follows.specs.Scene.{Scene, IsScene, given_in, frame_in}
use Rattle.code_follows.specs.Values.{ValueIs}
use Rattle.code_follows.specs.Laws.Coming.{Came-part}
use Rattle.code_follows.specs.Laws.Lying.{HasInstrs}
use Rattle.code_follows.specs.Laws.Operand.{IsAt-on}
use Rattle.code_follows.specs.Laws.ScalarBytes.{bytes_in, store_near-scalar, Stored, stored-scalar}
use Rattle.code_follows.specs.Laws.ScalarSizes.{load_some}
use Rattle.code_follows.specs.Laws.Slots.{SlotPlace, slot_in_order}
use Rattle.code_follows.specs.Laws.StoresAny.{stores_any}
use Rattle.code_follows.specs.Laws.Walking.{step_within}

-- ---- the meaning

-- where no reason is against it, cells are written
pub write-is : (here : Context) (span : Span) (t : Ty) (p : Pointer) (v : Value) (now : MeaningState) (b : Block) →
    slice_get now.blocks p.block ≡ Some b → reason_against b (access here true (object t p)) ≡ None →
    write here span (object t p) v now
    ≡ Goes' tt (record now { blocks = slice_set now.blocks p.block (with_cells_in p.offset (cells_of t v) b) })
write-is here span t p v now b there none = rw there (rw none (rw there refl))

-- values have the numbers that they had
pub Holds-changed : {g : Given} {now : MeaningState} (x : Change g now) (v : Value) (n : ℕ) → Holds g now v n → Holds g (changed x) v n
Holds-changed x (Number m) n holds = holds
Holds-changed x (Address p) n holds = IsNumber-changed x holds
Holds-changed x (Struct p) n holds = IsNumber-changed x holds
Holds-changed x NoValue n holds = tt

pub ValueIs-changed : {g : Given} {now : MeaningState} (x : Change g now) (t : Ty) (v : Value) (n : ℕ) → ValueIs g t v now n →
    ValueIs g t v (changed x) n
ValueIs-changed x t v n is = record { of = is.of; holds = Holds-changed x v n is.holds }

-- ---- the machine

pub general-low : (s : State) (r : Reg) → r.0 < 31 → general s r ≡ s.register r.0
general-low s r low = rw (lt-ltb r.0 31 low) refl

pub put_pc : (byte : ℕ → ℕ) (s : State) (from : ℕ) → s.pc ≡ from → from < 2 ^ 56 → (puts_bytes byte s).pc ≡ from + 4
unfolding puts_bytes
put_pc byte s from is below = omega (arith, is, below)

pub put_registers : (byte : ℕ → ℕ) (s : State) → (puts_bytes byte s).register ≡ s.register
unfolding puts_bytes
put_registers byte s = refl

never : {X : Type 0} → false ≡ true → X
never is = absurd (cc)

-- ---- the words of a run

-- One step leads to another state of the meaning too, which goes on with another run.
pub Goes-changes : {A : Type 0} {k : Scene} {first : ℕ} {reg : Reg} {result : Result A} {s : State} {to leaves : ℕ} {a : Account}
    {owes spare from middle : ℕ} {m n : Run A} {now then : MeaningState} {t u : State} (left : ℕ) → m now ≡ n then →
    then.work ≡ now.work → StepsWithin k.code.Inside 1 t u → Comes (given_in k) first middle k.here t then u →
    On k first reg false s from a owes spare now t → owes ≤ 1 → 1 + left ≤ spare →
    (On k first reg false s middle (later 1 a) 0 left then u → Goes k first reg false result s to leaves (later 1 a) n then u) →
    Goes k first reg false result s to leaves a m now t
Goes-changes {k = k} {first} {reg} {result} {s} {to} {leaves} {a} {t = t} left same work led comes on pays fits more = record {
  bounded = subst (λ r. Bounded (setting k.code) a (λ v. sparing leaves) t (Gave k first reg false result s to) (outcome_of r)) (sym same)
      (after led (more (record {
        came = Came-part {sub_reg = reg} {sub_alone = false} (omega arith) never
            (record { comes = comes; registers = λ alone. never alone }) on.came;
        least = omega (arith, on.least, pays, work);
        most = omega (arith, on.most, fits, ap (λ (n : ℕ). k.code.per * n) work);
        within = omega (arith, on.within, work);
      })).bounded);
}

-- what is known where a scalar was stored
pub record HasStored (k : Scene) (first middle : ℕ) (here : State) (now then : MeaningState) (u : State) : Type 0 where
  pub led : StepsWithin k.code.Inside 1 here u
  pub comes : Comes (given_in k) first middle k.here here then u
  pub registers : u.register ≡ here.register
  pub work : then.work ≡ now.work

-- the state of the meaning then
abbrev pub slot_then : {k : Scene} {t : Ty} {start : ℕ} {now : MeaningState} {s : State} {number : ℕ} → SlotPlace k t start now s number →
    Value → MeaningState
slot_then {k} {t} p v = changed (with_new {g = given_in k} p.lives 0 (cells_of t v))

module _ {k : Scene} (scene : IsScene k) (t : Ty) (scalar : is_scalar t ≡ true) (start number : ℕ) where
  store_done : {first from middle : ℕ} {now : MeaningState} {s : State} (p : SlotPlace k t start now s number) (v : Value) (r : Reg) →
      r.0 < 31 → HasInstrs k (store_scalar t (OnStack start) r ∷ []) from middle → Relates (given_in k) k.here now s → s.pc ≡ from →
      ValueIs (given_in k) t v now (s.register r.0) → first ≤ (frame_in k).temps →
      StepsWithin k.code.Inside 1 s (puts_bytes (store (bytes_in t) s.byte (s.sp + start) (general s r)) s) →
      HasStored k first middle s now (slot_then p v) (puts_bytes (store (bytes_in t) s.byte (s.sp + start) (general s r)) s)
  store_done {first} {from} {middle} {now} {s} p v r low has relates at is room led =
      let byte : ℕ → ℕ = store (bytes_in t) s.byte (s.sp + start) (general s r) in
      let is_general : ValueIs (given_in k) t v now (general s r) =
      subst (λ n. ValueIs (given_in k) t v now n) (sym (general-low s r low)) is in
      let cells : Stored (given_in k) now t v s.byte (s.sp + start) (general s r) =
      stored-scalar t v (general s r) s.byte (s.sp + start) scalar is_general in
      let stores : Stores (given_in k) k.here now number p.block 0 (cells_of t v) s (puts_bytes byte s) =
      stores_any relates.injects scene.file.meant.in_order number p.block 0 (cells_of t v) p.lives p.not_null p.not_text
      (omega (arith, p.size_is, load_some t))
      (Writes-put number p.block 0 (bytes_in t) (s.sp + start) (general s r) (cells_of t v) (omega (arith, p.start_is))
      (omega (arith, p.size_is)) cells.as_many cells.cells) in
      let range : IsInRange (puts_bytes byte s) = IsInRange-Steps 1 led.steps relates.injects.in_range in
      let c : Call = scene.inside.0 in
      record {
        led = led;
        comes = record {
          relates = Relates-put p.lives byte stores.stored range relates;
          pc = omega (arith, put_pc byte s from at (omega (arith, (has.each 0 _ refl).below)), has.to_is);
          kept = KeepsFrom-all (units_of (given_in k)) first s (puts_bytes byte s) k.here.open_calls c scene.inside.1
              (subst (λ f. first ≤ (frame_of (units_of (given_in k)) f).temps) (sym scene.inside.2) room) stores.kept;
        };
        registers = put_registers byte s;
        work = refl;
      }

  -- a scalar in a register is written to the local, which pays for what is owed
  pub Goes-writes_slot : {A : Type 0} {first : ℕ} {reg : Reg} {result : Result A} {s : State} {to leaves : ℕ} {a : Account}
      {owes spare from middle : ℕ} {f : Unit {0} → Run A} {now : MeaningState} {u : State} (left : ℕ) (p : SlotPlace k t start now u number)
      (span : Span) (v : Value) (r : Reg) → r.0 < 31 → HasInstrs k (store_scalar t (OnStack start) r ∷ []) from middle →
      ValueIs (given_in k) t v now (u.register r.0) → first ≤ (frame_in k).temps → On k first reg false s from a owes spare now u →
      owes ≤ 1 → 1 + left ≤ spare →
      ((w : State) → w.register ≡ u.register → On k first reg false s middle (later 1 a) 0 left (slot_then p v) w →
      Goes k first reg false result s to leaves (later 1 a) (f tt) (slot_then p v) w) →
      Goes k first reg false result s to leaves a (and_then (write k.here span (object t (start_of number)) v) f) now u
  Goes-writes_slot {first = first} {from = from} {f = f} {now} {u} left p span v r low has is room on pays fits more =
      let one : HasInstr k.code from (store_scalar t (OnStack start) r) =
      subst (λ (at : ℕ). HasInstr k.code at (store_scalar t (OnStack start) r)) (omega arith) (has.each 0 _ refl) in
      let led = step_within k (store_scalar t (OnStack start) r) one (IsAt-on on) (store_near-scalar t scalar r u start p.near p.memory) in
      let done = store_done {first = first} p v r low has on.came.comes.relates on.came.comes.pc is room led in
      let in_order = slot_in_order scene on.came.comes.relates scalar p true in
      Goes-changes {n = f tt} left
      (ap (λ x. goes_on x f) (write-is k.here span t (start_of number) v now p.block p.lives.is in_order)) done.work led done.comes on pays
      fits (λ behind. more _ done.registers behind)
