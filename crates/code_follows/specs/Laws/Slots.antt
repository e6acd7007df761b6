-- The place of a local in a safe slot in reach from SP: its block, where it lies, and that loads and stores of it are let through (this
-- project's own).
use Rattle.std.specs.Prelude.{◌≡◌, ℕ, zero, suc, ◌+◌, ◌%◌, Bool, true, false, slice_get, Option, Some, None, refl}
use Rattle.std.proofs.Common.{arith, sym, subst, ◌∙◌}
use Rattle.c_type_base.specs.Sizes.{size}
use Rattle.c_type_base.specs.Types.{is_scalar}
use Rattle.c_type_base.specs.declared.ty.Ty.{Ty}
use Rattle.c_type_base.specs.declared.typed.LocalInfo.{LocalInfo}
use Rattle.a64_code.specs.State.{State}
use Rattle.a64_laws.specs.Laws.Effects.Open.{IsOpen}
use Rattle.block_meaning.specs.Access.{reason_against, is_null_block, is_text}
use Rattle.block_meaning.specs.Blocks.{Block}
use Rattle.block_meaning.specs.Expressions.{starts, start_of}
use Rattle.block_meaning.specs.Memory.{access, object}
use Rattle.block_meaning.specs.Running.{Run, gives, and_then, unit_then, one_of, goes_on, with_some, State as MeaningState}
use Rattle.block_meaning.specs.declared.access.Access.{Access}
use Rattle.block_meaning.specs.declared.value.Pointer.{Pointer}
use Rattle.code_relation.specs.Numbers.{IsNumber, number_at}
use Rattle.code_relation.specs.Relates.{Relates}
use Rattle.code_relation.specs.Sites.{Lives, site_of}
use Rattle.gen_base.specs.Accesses.{reached}
use Rattle.gen_laws.specs.Laws.Accesses.{IsNear}
use Rattle.code_follows.specs.Scene.{Scene, IsScene, given_in, structs_in, frame_in}
use Rattle.code_follows.specs.Laws.Accessing.{address_in, lets_through, none_against, granule_aligned}
use Rattle.code_follows.specs.Laws.ScalarBytes.{bytes_in}
use Rattle.code_follows.specs.Laws.ScalarLoads.{AccessBytes, access_bytes}
use Rattle.code_follows.specs.Laws.SlotAccess.{is_reached}
use Rattle.code_follows.specs.Laws.SlotScalars.{SlotIs, slot_is}

-- ---- the place

-- a block of a type that starts so many bytes above SP
pub record SlotPlace (k : Scene) (t : Ty) (start : ℕ) (now : MeaningState) (s : State) (number : ℕ) : Type 0 where
  pub block : Block
  pub lives : Lives now number block
  pub not_null : is_null_block block.kind ≡ false
  pub not_text : is_text block.kind ≡ false
  pub size_is : block.size ≡ bytes_in t
  pub start_is : (site_of (given_in k) now number block).start ≡ s.sp + start
  pub near : IsNear s start (bytes_in t)
  pub memory : IsOpen s (s.sp + start) (bytes_in t)

-- no reason is against an access to all of it
in_order_by : {k : Scene} {now : MeaningState} {s : State} → IsScene k → Relates (given_in k) k.here now s → (t : Ty) (number : ℕ) →
    is_scalar t ≡ true → (b : Block) → is_null_block b.kind ≡ false → is_text b.kind ≡ false → b.live ≡ true → b.size ≡ bytes_in t →
    (writes : Bool) → reason_against b (access k.here writes (object t (start_of number))) ≡ None
in_order_by {k} scene relates t number scalar b not_null not_text live size_is writes =
    let acc : Access = access k.here writes (object t (start_of number)) in
    let bytes : AccessBytes k t (start_of number) writes = access_bytes scene relates t (start_of number) writes scalar in
    none_against b acc (record {
      aligned = subst (λ (n : ℕ). 0 % n ≡ 0) (sym bytes.align_is) (granule_aligned acc.size 0 bytes.is_size refl);
      not_null = not_null;
      live = live;
      within = omega (arith, size_is, bytes.size_is);
      not_text = λ writing. not_text;
    })

pub slot_in_order : {k : Scene} {t : Ty} {start : ℕ} {now : MeaningState} {s : State} {number : ℕ} → IsScene k →
    Relates (given_in k) k.here now s → is_scalar t ≡ true → (p : SlotPlace k t start now s number) → (writes : Bool) →
    reason_against p.block (access k.here writes (object t (start_of number))) ≡ None
slot_in_order {t = t} {number = number} scene relates scalar p writes =
    in_order_by scene relates t number scalar p.block p.not_null p.not_text p.lives.live p.size_is writes

pub slot_place : {k : Scene} {now : MeaningState} {s : State} → IsScene k → Relates (given_in k) k.here now s → (t : Ty)
    (start local number : ℕ) (l : LocalInfo) → slice_get k.scope.function.locals local ≡ Some l → l.ty ≡ t →
    reached t (slice_get (frame_in k).slots local) ≡ Some start → k.here.local local ≡ Some number → SlotPlace k t start now s number
slot_place {k} {now} {s} scene relates t start local number l local_is type_is reached_is scope =
    let scalar : is_scalar t ≡ true = (is_reached t (slice_get (frame_in k).slots local) start reached_is).scalar in
    let at : SlotIs k now s t start number = slot_is scene relates t start local number l local_is type_is reached_is scope in
    let acc : Access = access k.here true (object t (start_of number)) in
    let bytes : AccessBytes k t (start_of number) true = access_bytes scene relates t (start_of number) true scalar in
    let size_same : size (structs_in k) t ≡ bytes_in t = sym bytes.size_in ∙ bytes.size_is in
    let own : at.block.size ≡ bytes_in t = at.size_is ∙ size_same in
    let is_number : IsNumber (given_in k) now (start_of number) (number_at (site_of (given_in k) now number at.block) 0) =
    record { block = at.block; is = at.lives.is; fits = omega arith; number = refl } in
    let lets = lets_through scene relates acc at.block (number_at (site_of (given_in k) now number at.block) 0) at.lives.is is_number
    (in_order_by scene relates t number scalar at.block at.not_null at.not_text at.lives.live own true) bytes.some in
    let place_same : address_in (given_in k) now acc at.block ≡ s.sp + start = omega (arith, at.at) in
    record {
      block = at.block;
      lives = at.lives;
      not_null = at.not_null;
      not_text = at.not_text;
      size_is = own;
      start_is = sym at.at;
      near = subst (λ n. IsNear s start n) size_same at.near;
      memory = subst (λ n. IsOpen s (s.sp + start) n) bytes.size_is
          (subst (λ place. IsOpen s place acc.size) place_same (lets.writable refl));
    }

-- ---- the run that comes to it

pub starts-then : {A : Type 0} (o : Option ℕ) (f : Pointer → Run A) (now : MeaningState) →
    and_then (starts o) f now ≡ unit_then (with_some o (λ b. f (start_of b))) now
starts-then o f now = by_option o now.work
  where
    by_option : (o : Option ℕ) (work : ℕ) → goes_on (one_of work (with_some o (λ b. gives (start_of b))) now) f
        ≡ one_of work (with_some o (λ b. f (start_of b))) now
    by_option None zero = refl
    by_option None (suc work) = refl
    by_option (Some b) zero = refl
    by_option (Some b) (suc work) = refl
