-- A scalar is read and written through a pointer in a register, as words of a run (this project's own).
use Rattle.std.specs.Prelude.{◌≡◌, ◌≢◌, ℕ, ◌+◌, ◌*◌, ◌%◌, ◌^◌, ◌<◌, ◌≤◌, true, false, [], ◌∷◌, refl}
use Rattle.std.proofs.Common.{arith, sym, subst, ◌∙◌}
use Rattle.mt_base.specs.Memory.{store}
use Rattle.mt_base.specs.Wrapping.{wrapping_add}
use Rattle.c_ast.specs.declared.token.Span.{Span}
use Rattle.c_type_base.specs.Types.{is_scalar}
use Rattle.c_type_base.specs.declared.ty.Ty.{Ty}
use Rattle.a64_code.specs.declared.instr.Reg.{Reg}
use Rattle.a64_code.specs.State.{State, general}
use Rattle.a64_laws.specs.Forms.{Load, Whole, Word, Half, Byte, SignedWord, SignedHalf, SignedByte, load_size, store_size, puts_bytes}
use Rattle.a64_laws.specs.Laws.Effects.InRange.{IsInRange}
use Rattle.a64_laws.specs.Laws.Effects.Open.{IsOpen}
use Rattle.block_meaning.specs.Blocks.{Block, stored}
use Rattle.block_meaning.specs.Memory.{access, object, judged, read_scalar, write}
use Rattle.block_meaning.specs.Running.{Call, Run, and_then, with_blocks, State as MeaningState}
use Rattle.block_meaning.specs.Values.{cells_of}
use Rattle.block_meaning.specs.declared.access.Access.{Access}
use Rattle.block_meaning.specs.declared.value.Pointer.{Pointer}
use Rattle.block_meaning.specs.declared.value.Value.{Value}
use Rattle.code_relation.specs.Calls.{frame_of}
use Rattle.code_relation.specs.Ends.{loads, stores}
use Rattle.code_relation.specs.Items.{HasInstr}
use Rattle.code_relation.specs.Numbers.{IsNumber}
use Rattle.code_relation.specs.Relates.{Relates}
use Rattle.code_relation.specs.Sites.{Lives, site_of, units_of}
use Rattle.code_relation.specs.Laws.BytesPut.{Writes-put, Relates-put, KeepsFrom-all}
use Rattle.code_relation.specs.Laws.Changing.{changed}
use Rattle.code_relation.specs.Laws.Storing.{with_new}
use Rattle.code_relation.specs.Laws.Stores.{Stores}
use Rattle.code_runs.specs.Bounded.{Account}
use Rattle.code_runs.specs.Laws.Ranges.{IsInRange-Steps}
use Rattle.code_runs.specs.Within.{StepsWithin}
use Rattle.gen_base.specs.Accesses.{load_of, store_of, store_of_load, Behind, load_scalar, store_scalar}
use Rattle.gen_laws.specs.Computes.{all}
use Rattle.gen_laws.specs.Laws.Computing.{Computes-put}
use Rattle.code_follows.specs.Aligned.{AlignedSlots}
use Rattle.code_follows.specs.Parts.{Result, On, Goes}
use Rattle.code_follows.specs.Scene.{Scene, IsScene, given_in, frame_in}
use Rattle.code_follows.specs.Values.{ValueIs}
use Rattle.code_follows.specs.Laws.Accessing.{IsInOrder, LetsThrough, address_in}
use Rattle.code_follows.specs.Laws.Aligning.{aligned_there}
use Rattle.code_follows.specs.Laws.Computing.{Suits-other}
use Rattle.code_follows.specs.Laws.Going.{Goes-same, Goes-computes}
use Rattle.code_follows.specs.Laws.Judging.{Accesses, at_code, and_then-then, Goes-judged, Goes-scalar}
use Rattle.code_follows.specs.Laws.LoadingScalars.{PutsValue, puts_far}
use Rattle.code_follows.specs.Laws.Lying.{HasInstrs}
use Rattle.code_follows.specs.Laws.ScalarBytes.{bytes_in, store_far-scalar, Stored, stored-scalar}
use Rattle.code_follows.specs.Laws.ScalarLoads.{load_quiet, AccessBytes, access_bytes}
use Rattle.code_follows.specs.Laws.Storing.{ValueIs-changed, general-low, put_pc, put_registers, HasStored, Goes-changes}
use Rattle.code_follows.specs.Laws.StoresAny.{stores_any}
use Rattle.code_follows.specs.Laws.Walking.{step_within}

store_size-load : (l : Load) → store_size (store_of_load l) ≡ load_size l
store_size-load Whole = refl
store_size-load Word = refl
store_size-load Half = refl
store_size-load Byte = refl
store_size-load SignedWord = refl
store_size-load SignedHalf = refl
store_size-load SignedByte = refl

no_offset : (x n : ℕ) → x < 2 ^ 64 → wrapping_add 64 x (0 * n) ≡ x
no_offset x n fits = omega (arith, fits)

module _ {k : Scene} (scene : IsScene k) (slots : AlignedSlots (units_of (given_in k))) (t : Ty) (scalar : is_scalar t ≡ true)
    (p : Pointer) (span : Span) where
  -- what a pointer in a register points to comes into another, which pays for what is owed; or the run is over
  pub Goes-reads_far : {A : Type 0} {first : ℕ} {reg : Reg} {result : Result A} {s : State} {to leaves : ℕ} {a : Account}
      {owes spare from middle : ℕ} {f : Value → Run A} {now : MeaningState} {u : State} (left : ℕ) (place r : Reg) → place.0 < 31 →
      r.0 < 28 → HasInstrs k (load_scalar t (Behind place) r ∷ []) from middle → IsNumber (given_in k) now p (u.register place.0) →
      On k first reg false s from a owes spare now u → owes ≤ 1 → 1 + left ≤ spare →
      ((v : Value) (w : State) (c : Account) → ValueIs (given_in k) t v now (w.register r.0) →
      ((q : ℕ) → q ≢ r.0 → w.register q ≡ u.register q) → w.byte ≡ u.byte → On k first reg false s middle c 0 left now w →
      Goes k first reg false result s to leaves c (f v) now w) →
      Goes k first reg false result s to leaves a (and_then (read_scalar k.here span (object t p)) f) now u
  Goes-reads_far {reg = reg} {from = from} {f = f} {now} {u} left place r base low has is_number on pays fits more =
      let relates : Relates (given_in k) k.here now u = on.came.comes.relates in
      let acc : Access = access k.here false (object t p) in
      let bytes : AccessBytes k t p false = access_bytes scene relates t p false scalar in
      let instr : HasInstr k.code from (load_scalar t (Behind place) r) =
      subst (λ (x : ℕ). HasInstr k.code x (load_scalar t (Behind place) r)) (omega arith) (has.each 0 _ refl) in
      let next : Accesses k from acc (u.register place.0) now u = record {
        instr = load_scalar t (Behind place) r;
        has = instr;
        accesses = loads (load_of t) 0 place r base (sym bytes.size_is)
            (no_offset (u.register place.0) (load_size (load_of t)) (relates.injects.in_range.registers place.0));
        is_number = is_number;
        some = bytes.some;
      } in
      Goes-scalar scene on pays (omega (arith, fits)) span acc (u.register place.0) next t p f refl (λ b v lets order reads.
      let puts : PutsValue (given_in k) t v now (load_scalar t (Behind place) r) r u =
      puts_far relates.injects t scalar acc bytes.size_is b lets.lives v reads r (omega (arith, low)) place
      (site_of (given_in k) now p.block b).tag base lets.points
      (aligned_there relates.injects scene.file.meant.in_order slots acc (record { size = bytes.is_size; align_is = bytes.align_is }) b
      lets.lives order) lets.readable lets.agrees in
      let computes =
      Computes-put (load_scalar t (Behind place) r) r puts.number u puts.leads (omega (arith, on.came.comes.pc, instr.below)) in
      Goes-computes left has (load_quiet (load_of t) (Behind place) r) computes (Suits-other reg r all low tt) on (omega (arith, pays))
      (omega (arith, fits))
      (λ done. more v computes.to _ (subst (λ n. ValueIs (given_in k) t v now n) (sym computes.holds) puts.is)
      (λ q other. computes.registers q other tt) computes.same.byte done))

  -- the state of the meaning where it is written
  abbrev pub far_then : {now : MeaningState} {b : Block} → Lives now p.block b → Value → MeaningState
  far_then lives v = changed (with_new {g = given_in k} lives p.offset (cells_of t v))

  far_done : {first from middle : ℕ} {now : MeaningState} {s : State} (v : Value) (r : Reg) (b : Block) (at : ℕ) →
      (lets : LetsThrough (given_in k) now s (access k.here true (object t p)) b at) → IsInOrder b (access k.here true (object t p)) →
      r.0 < 31 → from < 2 ^ 56 → middle ≡ from + 4 → Relates (given_in k) k.here now s → s.pc ≡ from →
      ValueIs (given_in k) t v now (s.register r.0) → first ≤ (frame_in k).temps →
      StepsWithin k.code.Inside 1 s (puts_bytes (store (bytes_in t) s.byte (address_in (given_in k) now (access k.here true (object t p)) b)
      (general s r)) s) →
      HasStored k first middle s now (far_then lets.lives v) (puts_bytes (store (bytes_in t) s.byte
      (address_in (given_in k) now (access k.here true (object t p)) b) (general s r)) s)
  far_done {first} {from} {middle} {now} {s} v r b number lets order low below to_is relates at is room led =
      let acc : Access = access k.here true (object t p) in
      let bytes : AccessBytes k t p true = access_bytes scene relates t p true scalar in
      let place : ℕ = address_in (given_in k) now acc b in
      let byte : ℕ → ℕ = store (bytes_in t) s.byte place (general s r) in
      let is_general : ValueIs (given_in k) t v now (general s r) =
      subst (λ n. ValueIs (given_in k) t v now n) (sym (general-low s r low)) is in
      let cells : Stored (given_in k) now t v s.byte place (general s r) = stored-scalar t v (general s r) s.byte place scalar is_general in
      let written : Stores (given_in k) k.here now p.block b p.offset (cells_of t v) s (puts_bytes byte s) =
      stores_any relates.injects scene.file.meant.in_order p.block b p.offset (cells_of t v) lets.lives order.not_null (order.not_text refl)
      (omega (arith, lets.within, bytes.some))
      (Writes-put p.block b p.offset (bytes_in t) place (general s r) (cells_of t v) refl (omega (arith, lets.within, bytes.size_is))
      cells.as_many cells.cells) in
      let range : IsInRange (puts_bytes byte s) = IsInRange-Steps 1 led.steps relates.injects.in_range in
      let c : Call = scene.inside.0 in
      record {
        led = led;
        comes = record {
          relates = Relates-put lets.lives byte written.stored range relates;
          pc = omega (arith, put_pc byte s from at below, to_is);
          kept = KeepsFrom-all (units_of (given_in k)) first s (puts_bytes byte s) k.here.open_calls c scene.inside.1
              (subst (λ f. first ≤ (frame_of (units_of (given_in k)) f).temps) (sym scene.inside.2) room) written.kept;
        };
        registers = put_registers byte s;
        work = refl;
      }

  -- a scalar in a register is written there, which pays for what is owed; or the run is over
  pub Goes-writes_far : {A : Type 0} {first : ℕ} {reg : Reg} {result : Result A} {s : State} {to leaves : ℕ} {a : Account}
      {owes spare from middle : ℕ} {f : Unit {0} → Run A} {now : MeaningState} {u : State} (left : ℕ) (v : Value) (place r : Reg) →
      place.0 < 31 → r.0 < 31 → HasInstrs k (store_scalar t (Behind place) r ∷ []) from middle →
      IsNumber (given_in k) now p (u.register place.0) → ValueIs (given_in k) t v now (u.register r.0) → first ≤ (frame_in k).temps →
      On k first reg false s from a owes spare now u → owes ≤ 1 → 1 + left ≤ spare →
      ((then : MeaningState) (w : State) (c : Account) → w.register ≡ u.register →
      ((x : Value) (n : ℕ) → ValueIs (given_in k) t x now n → ValueIs (given_in k) t x then n) →
      On k first reg false s middle c 0 left then w → Goes k first reg false result s to leaves c (f tt) then w) →
      Goes k first reg false result s to leaves a (and_then (write k.here span (object t p) v) f) now u
  Goes-writes_far {first = first} {from = from} {middle} {f} {now} {u} left v place r base low has is_number is room on pays fits more =
      let relates : Relates (given_in k) k.here now u = on.came.comes.relates in
      let acc : Access = access k.here true (object t p) in
      let bytes : AccessBytes k t p true = access_bytes scene relates t p true scalar in
      let instr : HasInstr k.code from (store_scalar t (Behind place) r) =
      subst (λ (x : ℕ). HasInstr k.code x (store_scalar t (Behind place) r)) (omega arith) (has.each 0 _ refl) in
      let next : Accesses k from acc (u.register place.0) now u = record {
        instr = store_scalar t (Behind place) r;
        has = instr;
        accesses = stores (store_of t) 0 place r base (store_size-load (load_of t) ∙ sym bytes.size_is)
            (no_offset (u.register place.0) (store_size (store_of t)) (relates.injects.in_range.registers place.0));
        is_number = is_number;
        some = bytes.some;
      } in
      Goes-same (and_then-then (judged k.here span acc) (λ x. with_blocks (stored p (cells_of t v))) f now)
      (Goes-judged scene on pays (omega (arith, fits)) span acc (u.register place.0) next
      (λ x. and_then (with_blocks (stored p (cells_of t v))) f) (λ b lets order.
      let at : ℕ = address_in (given_in k) now acc b in
      let whole : at % bytes_in t ≡ 0 =
      subst (λ (n : ℕ). at % n ≡ 0) bytes.size_is
      (aligned_there relates.injects scene.file.meant.in_order slots acc (record { size = bytes.is_size; align_is = bytes.align_is }) b
      lets.lives order) in
      let memory : IsOpen u at (bytes_in t) = subst (λ n. IsOpen u at n) bytes.size_is (lets.writable refl) in
      let led = step_within k (store_scalar t (Behind place) r) instr (at_code on)
      (store_far-scalar t scalar r u place at (site_of (given_in k) now p.block b).tag base lets.points whole memory lets.agrees) in
      let done = far_done {first = first} {middle = middle} v r b (u.register place.0) lets order low instr.below (omega (arith, has.to_is))
      relates on.came.comes.pc is room led in
      Goes-changes {n = f tt} left (rw lets.lives.is refl) done.work led done.comes on pays fits
      (λ behind. more (far_then lets.lives v) _ _ done.registers
      (λ x n value. ValueIs-changed (with_new {g = given_in k} lets.lives p.offset (cells_of t v)) t x n value) behind)))
