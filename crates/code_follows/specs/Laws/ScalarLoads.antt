-- A scalar is loaded into a register, from SP or through a pointer in it: what a read does, as words of a run (this project's own).
use Rattle.std.specs.Prelude.{◌≡◌, ℕ, ◌+◌, ◌*◌, ◌%◌, ◌<◌, ◌≤◌, Bool, true, false, [], ◌∷◌, None, refl}
use Rattle.std.proofs.Common.{arith, ap, sym, subst}
use Rattle.c_ast.specs.declared.token.Span.{Span}
use Rattle.c_type_base.specs.Sizes.{size}
use Rattle.c_type_base.specs.Types.{is_scalar}
use Rattle.c_type_base.specs.declared.ty.Ty.{Ty}
use Rattle.a64_code.specs.declared.instr.Reg.{Reg}
use Rattle.a64_code.specs.State.{State}
use Rattle.a64_laws.specs.Forms.{Load, Whole, Word, Half, Byte, SignedWord, SignedHalf, SignedByte, load_size}
use Rattle.a64_laws.specs.Laws.Effects.Open.{IsReadable}
use Rattle.block_meaning.specs.Access.{reason_against}
use Rattle.block_meaning.specs.Expressions.{start_of}
use Rattle.block_meaning.specs.Memory.{object, access, structs_at, read_scalar}
use Rattle.block_meaning.specs.Running.{gives}
use Rattle.block_meaning.specs.Running.{State as MeaningState}
use Rattle.block_meaning.specs.declared.access.Access.{Access}
use Rattle.block_meaning.specs.declared.value.Pointer.{Pointer}
use Rattle.block_meaning.specs.declared.value.Value.{Value}
use Rattle.code_relation.specs.Numbers.{IsNumber, number_at}
use Rattle.code_relation.specs.Items.{IsAt, HasInstr}
use Rattle.code_relation.specs.Ends.{loads}
use Rattle.a64_laws.specs.Laws.Effects.Accesses.{IsSize}
use Rattle.a64_laws.specs.Laws.Loads.{load_is_size}
use Rattle.gen_laws.specs.Laws.Accesses.{IsNear}
use Rattle.code_relation.specs.Relates.{Relates}
use Rattle.code_relation.specs.Sites.{site_of, units_of}
use Rattle.code_runs.specs.Bounded.{Account}
use Rattle.gen_base.specs.Accesses.{load_of, load_from, Where, OnStack, Behind, load_scalar}
use Rattle.gen_laws.specs.Laws.Computing.{Computes-put}
use Rattle.code_follows.specs.Leaves.{value_leaves}
use Rattle.code_follows.specs.Parts.{Goes, On}
use Rattle.code_follows.specs.Scene.{Scene, IsScene, given_in, structs_in}
use Rattle.code_follows.specs.Values.{ValueIs}
use Rattle.code_follows.specs.Aligned.{AlignedSlots}
use Rattle.code_follows.specs.Laws.Aligning.{aligned_there}
use Rattle.code_follows.specs.Laws.Accessing.{none_against, lets_through, address_in, granule_aligned}
use Rattle.code_follows.specs.Laws.Coming.{starts_low}
use Rattle.code_follows.specs.Laws.Computing.{Suits-own}
use Rattle.code_follows.specs.Laws.Going.{Goes-same, Goes-done, Goes-computes}
use Rattle.code_follows.specs.Laws.Here.{and_then-gives, structs_here}
use Rattle.code_follows.specs.Laws.Judging.{Accesses, at_code, Goes-scalar, Goes-cells}
use Rattle.code_follows.specs.Laws.LoadingScalars.{PutsValue, puts_near, puts_far}
use Rattle.code_follows.specs.Laws.Lying.{HasInstrs}
use Rattle.code_follows.specs.Laws.ScalarSizes.{ScalarBytes, scalar_bytes, load_some}
use Rattle.code_follows.specs.Laws.SlotScalars.{SlotIs}
use Rattle.code_follows.specs.Laws.Walking.{are_quiet}

-- a load leaves memory as it is
pub load_quiet : (l : Load) (w : Where) (r : Reg) → are_quiet (load_from l w r ∷ []) ≡ true
load_quiet Whole (OnStack offset) r = refl
load_quiet Word (OnStack offset) r = refl
load_quiet Half (OnStack offset) r = refl
load_quiet Byte (OnStack offset) r = refl
load_quiet SignedWord (OnStack offset) r = refl
load_quiet SignedHalf (OnStack offset) r = refl
load_quiet SignedByte (OnStack offset) r = refl
load_quiet Whole (Behind p) r = refl
load_quiet Word (Behind p) r = refl
load_quiet Half (Behind p) r = refl
load_quiet Byte (Behind p) r = refl
load_quiet SignedWord (Behind p) r = refl
load_quiet SignedHalf (Behind p) r = refl
load_quiet SignedByte (Behind p) r = refl

-- how many bytes an access takes, and on what multiples it stands
pub record AccessBytes (k : Scene) (t : Ty) (p : Pointer) (writes : Bool) : Type 0 where
  pub size_is : (access k.here writes (object t p)).size ≡ load_size (load_of t)
  pub align_is : (access k.here writes (object t p)).align ≡ (access k.here writes (object t p)).size
  pub size_in : (access k.here writes (object t p)).size ≡ size (structs_in k) t
  pub is_size : IsSize (access k.here writes (object t p)).size
  pub some : 1 ≤ (access k.here writes (object t p)).size

pub access_bytes : {k : Scene} {now : MeaningState} {s : State} → IsScene k → Relates (given_in k) k.here now s → (t : Ty) (p : Pointer)
    (writes : Bool) → is_scalar t ≡ true → AccessBytes k t p writes
access_bytes {k} scene relates t p writes scalar =
    let bytes : ScalarBytes (structs_at k.here) t = scalar_bytes (structs_at k.here) t scalar in
    record {
      size_is = sym bytes.size_is;
      align_is = bytes.align_is;
      size_in = ap (λ structs. size structs t) (structs_here scene relates);
      is_size = subst (λ n. IsSize n) bytes.size_is (load_is_size (load_of t));
      some = omega (arith, bytes.size_is, load_some t);
    }

module _ {k : Scene} (scene : IsScene k) {first : ℕ} {reg : Reg} {alone : Bool} {s : State} {to : ℕ} {a : Account} {owes spare from : ℕ}
    {now : MeaningState} {u : State} (t : Ty) (scalar : is_scalar t ≡ true) (span : Span) (low : reg.0 < 28)
    (on : On k first reg alone s from a owes spare now u) (owing : owes ≤ 1) (enough : 8 ≤ spare) where
  -- a load that puts the value that is read
  pub puts_value : (w : Where) → HasInstrs k (load_scalar t w reg ∷ []) from to → (v : Value) →
      PutsValue (given_in k) t v now (load_scalar t w reg) reg u →
      Goes k first reg alone (ValueIs (given_in k) t) s to value_leaves a (gives v) now u
  puts_value w has v puts =
      let computes = Computes-put (load_scalar t w reg) reg puts.number u puts.leads (omega (arith, starts_low has on)) in
      Goes-computes value_leaves has (load_quiet (load_of t) w reg) computes (Suits-own alone reg low) on owing (omega (arith, enough))
      (λ done. Goes-done v done (omega arith) (subst (λ n. ValueIs (given_in k) t v now n) (sym computes.holds) puts.is))

  -- a local in a safe slot
  pub loads_slot : (start number : ℕ) → HasInstrs k (load_scalar t (OnStack start) reg ∷ []) from to → SlotIs k now u t start number →
      Goes k first reg alone (ValueIs (given_in k) t) s to value_leaves a (read_scalar k.here span (object t (start_of number))) now u
  loads_slot start number has slot =
      let relates = on.came.comes.relates in
      let acc : Access = access k.here false (object t (start_of number)) in
      let bytes : AccessBytes k t (start_of number) false = access_bytes scene relates t (start_of number) false scalar in
      let none : reason_against slot.block acc ≡ None = none_against slot.block acc (record {
        aligned = subst (λ (n : ℕ). 0 % n ≡ 0) (sym bytes.align_is) (granule_aligned acc.size 0 bytes.is_size refl);
        not_null = slot.not_null;
        live = slot.lives.live;
        within = omega (arith, slot.size_is, bytes.size_in);
        not_text = λ writes. slot.not_text;
      }) in
      let is_number : IsNumber (given_in k) now (start_of number) (number_at (site_of (given_in k) now number slot.block) 0) =
      record { block = slot.block; is = slot.lives.is; fits = omega arith; number = refl } in
      let lets = lets_through scene relates acc slot.block (number_at (site_of (given_in k) now number slot.block) 0) slot.lives.is
      is_number none bytes.some in
      let at : u.sp + start ≡ address_in (given_in k) now acc slot.block = omega (arith, slot.at) in
      Goes-same (and_then-gives (read_scalar k.here span (object t (start_of number))) now)
      (Goes-cells on owing (omega (arith, enough)) span slot.block t (start_of number) gives
      ((has.each 0 (load_scalar t (OnStack start) reg) refl).inside u (inside_at (at_code on))) slot.lives.is none (λ v reads.
      puts_value (OnStack start) has v
      (puts_near relates.injects t scalar acc bytes.size_is slot.block slot.lives v reads reg (omega (arith, low)) start at
      (subst (λ n. IsNear u start n) (sym bytes.size_in) slot.near) (subst (λ at. IsReadable u at acc.size) (sym at) lets.readable))))
    where
      inside_at : IsAt k.code from u → IsAt k.code (from + 4 * 0) u
      inside_at at = subst (λ (x : ℕ). IsAt k.code x u) (omega arith) at

  -- what a pointer points to
  pub loads_through : AlignedSlots (units_of (given_in k)) → (p : Pointer) → HasInstrs k (load_scalar t (Behind reg) reg ∷ []) from to →
      IsNumber (given_in k) now p (u.register reg.0) →
      Goes k first reg alone (ValueIs (given_in k) t) s to value_leaves a (read_scalar k.here span (object t p)) now u
  loads_through slots p has is_number =
      let relates = on.came.comes.relates in
      let acc : Access = access k.here false (object t p) in
      let bytes : AccessBytes k t p false = access_bytes scene relates t p false scalar in
      let instr : HasInstr k.code from (load_scalar t (Behind reg) reg) =
      subst (λ (x : ℕ). HasInstr k.code x (load_scalar t (Behind reg) reg)) (omega arith)
      (has.each 0 (load_scalar t (Behind reg) reg) refl) in
      let next : Accesses k from acc (u.register reg.0) now u = record {
        instr = load_scalar t (Behind reg) reg;
        has = instr;
        accesses = loads (load_of t) 0 reg reg (omega (arith, low)) (sym bytes.size_is)
            (omega (arith, relates.injects.in_range.registers reg.0));
        is_number = is_number;
        some = bytes.some;
      } in
      Goes-same (and_then-gives (read_scalar k.here span (object t p)) now)
      (Goes-scalar scene on owing (omega (arith, enough)) span acc (u.register reg.0) next t p gives refl (λ b v lets order reads.
      puts_value (Behind reg) has v
      (puts_far relates.injects t scalar acc bytes.size_is b lets.lives v reads reg (omega (arith, low)) reg
      (site_of (given_in k) now p.block b).tag (omega (arith, low)) lets.points
      (aligned_there relates.injects scene.file.meant.in_order slots acc (record { size = bytes.is_size; align_is = bytes.align_is }) b
      lets.lives order) lets.readable lets.agrees)))
