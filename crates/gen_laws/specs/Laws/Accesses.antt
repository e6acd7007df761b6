-- Loads and stores of scalars by their types, from SP and behind a register (this project's own).
use Rattle.std.specs.Prelude.{◌≡◌, ℕ, ◌+◌, ◌*◌, ◌/◌, ◌%◌, ◌^◌, ◌<◌, refl}
use Rattle.std.proofs.Common.{arith, ap, sym, subst, ◌∙◌, div-add-mod'}
use Rattle.mt_base.specs.Granules.{granule_of}
use Rattle.mt_base.specs.Memory.{load, store}
use Rattle.mt_base.specs.Laws.Memory.{load-lt}
use Rattle.c_ast.specs.declared.int_type.IntType.{IntType}
use Rattle.c_ast.specs.declared.int_type.IntType.TheVariants as int
use Rattle.c_type_base.specs.declared.ty.Ty.{Ty, out-Ty}
use Rattle.c_type_base.specs.declared.ty.Ty.TheOpen.{Ty-F}
use Rattle.c_type_base.specs.Conversions.{wrap}
use Rattle.c_type_base.specs.Sizes.{int_bytes}
use Rattle.a64_code.specs.declared.instr.Reg.{Reg}
use Rattle.a64_code.specs.State.{State, general}
use Rattle.a64_code.specs.Stepped.{Leads}
use Rattle.a64_code.specs.Effect.{effect}
use Rattle.a64_laws.specs.Forms.{Load, Whole, load_size, extended, Points, Store, StoreWhole, store_size, puts_register, puts_bytes}
use Rattle.a64_laws.specs.Laws.Effects.Open.{IsReadable, IsOpen}
use Rattle.a64_laws.specs.Laws.Loads.{load_at_sp, load_through}
use Rattle.a64_laws.specs.Laws.Stores.{store_at_sp, store_through}
use Rattle.gen_base.specs.Accesses.{load_of_int, store_of_load, OnStack, Behind, load_from, store_to, load_scalar, store_scalar}
use Rattle.gen_laws.specs.Laws.Numbers.{wrap-extends, wrap-long}

-- ---- the number in the register

-- a type's load is of as many bytes as it has
pub load_size-int : (t : IntType) → load_size (load_of_int t) ≡ int_bytes t
load_size-int int.Char = refl
load_size-int int.SignedChar = refl
load_size-int int.UnsignedChar = refl
load_size-int int.Short = refl
load_size-int int.UShort = refl
load_size-int int.Int = refl
load_size-int int.UInt = refl
load_size-int int.Long = refl
load_size-int int.ULong = refl

-- what an integer type's load makes of a number of its size is that number wrapped to the type
pub extended-wraps : (t : IntType) (n : ℕ) → n < 256 ^ int_bytes t → extended (load_of_int t) n ≡ wrap t n
extended-wraps int.Char n fits = omega (arith, fits)
extended-wraps int.SignedChar n fits = wrap-extends int.SignedChar n
extended-wraps int.UnsignedChar n fits = omega (arith, fits)
extended-wraps int.Short n fits = wrap-extends int.Short n
extended-wraps int.UShort n fits = omega (arith, fits)
extended-wraps int.Int n fits = wrap-extends int.Int n
extended-wraps int.UInt n fits = omega (arith, fits)
extended-wraps int.Long n fits = omega (arith, fits, wrap-long n)
extended-wraps int.ULong n fits = omega (arith, fits)

-- what a load of it puts
loaded-wraps : (t : IntType) (byte : ℕ → ℕ) (at : ℕ) → ((a : ℕ) → byte a < 256) →
    extended (load_of_int t) (load (int_bytes t) byte at) ≡ wrap t (load (int_bytes t) byte at)
loaded-wraps t byte at bytes = extended-wraps t (load (int_bytes t) byte at) (load-lt (int_bytes t) byte at bytes)

in_units : (offset n : ℕ) → offset % n ≡ 0 → offset / n * n ≡ offset
in_units offset n whole = omega (arith, div-add-mod' offset n, whole)

-- ---- from SP, so many bytes on

-- the bytes of a scalar from SP on, as many as it has
pub record IsNear (s : State) (offset bytes : ℕ) : Type 0 where
  pub whole : offset % bytes ≡ 0
  pub aligned : (s.sp + offset) % bytes ≡ 0
  pub below : s.sp + offset < 2 ^ 56

near_load : (l : Load) (offset : ℕ) (r : Reg) (s : State) (n : ℕ) → load_size l ≡ n → r.0 < 31 → IsNear s offset n →
    IsReadable s (s.sp + offset) n →
    effect (load_from l (OnStack offset) r) s ≡ Leads (puts_register r (extended l (load n s.byte (s.sp + offset))) s)
near_load l offset r s n size small =
    subst (λ (n : ℕ). IsNear s offset n → IsReadable s (s.sp + offset) n →
    effect (load_from l (OnStack offset) r) s ≡ Leads (puts_register r (extended l (load n s.byte (s.sp + offset))) s)) size
    (λ near readable. load_at_sp l (offset / load_size l) (s.sp + offset) r s small
    (ap (λ n. s.sp + n) (sym (in_units offset (load_size l) near.whole))) near.below near.aligned readable)

near_store : (k : Store) (offset : ℕ) (r : Reg) (s : State) (n : ℕ) → store_size k ≡ n → IsNear s offset n → IsOpen s (s.sp + offset) n →
    effect (store_to k (OnStack offset) r) s ≡ Leads (puts_bytes (store n s.byte (s.sp + offset) (general s r)) s)
near_store k offset r s n size =
    subst (λ (n : ℕ). IsNear s offset n → IsOpen s (s.sp + offset) n →
    effect (store_to k (OnStack offset) r) s ≡ Leads (puts_bytes (store n s.byte (s.sp + offset) (general s r)) s)) size
    (λ near memory. store_at_sp k (offset / store_size k) (s.sp + offset) r s
    (ap (λ n. s.sp + n) (sym (in_units offset (store_size k) near.whole))) near.below near.aligned memory)

-- ---- behind a register, whose tag is that of the granule

far_load : (l : Load) (at tag : ℕ) (p r : Reg) (s : State) (n : ℕ) → load_size l ≡ n → p.0 < 31 → r.0 < 31 →
    Points (s.register p.0) at tag →
    at % n ≡ 0 → IsReadable s at n → s.tag (granule_of at) ≡ tag →
    effect (load_from l (Behind p) r) s ≡ Leads (puts_register r (extended l (load n s.byte at)) s)
far_load l at tag p r s n size base small points =
    subst (λ (n : ℕ). at % n ≡ 0 → IsReadable s at n → s.tag (granule_of at) ≡ tag →
    effect (load_from l (Behind p) r) s ≡ Leads (puts_register r (extended l (load n s.byte at)) s)) size
    (λ aligned readable agrees. load_through l 0 at tag p r s base small (points_there l
    (s.register p.0) at tag points) aligned readable agrees)
  where
    points_there : (l : Load) (pointer at tag : ℕ) → Points pointer at tag → Points ((pointer + 0 * load_size l) % 2 ^ 64) at tag
    points_there l pointer at tag points = record { is_at = omega (arith, points.is_at); has_tag = omega (arith, points.has_tag) }

far_store : (k : Store) (at tag : ℕ) (p r : Reg) (s : State) (n : ℕ) → store_size k ≡ n → p.0 < 31 → Points (s.register p.0) at tag →
    at % n ≡ 0 → IsOpen s at n → s.tag (granule_of at) ≡ tag →
    effect (store_to k (Behind p) r) s ≡ Leads (puts_bytes (store n s.byte at (general s r)) s)
far_store k at tag p r s n size base points =
    subst (λ (n : ℕ). at % n ≡ 0 → IsOpen s at n → s.tag (granule_of at) ≡ tag →
    effect (store_to k (Behind p) r) s ≡ Leads (puts_bytes (store n s.byte at (general s r)) s)) size
    (λ aligned memory agrees. store_through k 0 at tag p r s base (points_there (s.register p.0) points) aligned memory agrees)
  where
    points_there : (pointer : ℕ) → Points pointer at tag → Points ((pointer + 0 * store_size k) % 2 ^ 64) at tag
    points_there pointer points = record { is_at = omega (arith, points.is_at); has_tag = omega (arith, points.has_tag) }

-- ---- scalars of an integer type

store_size-int : (t : IntType) → store_size (store_of_load (load_of_int t)) ≡ int_bytes t
store_size-int int.Char = refl
store_size-int int.SignedChar = refl
store_size-int int.UnsignedChar = refl
store_size-int int.Short = refl
store_size-int int.UShort = refl
store_size-int int.Int = refl
store_size-int int.UInt = refl
store_size-int int.Long = refl
store_size-int int.ULong = refl

module _ (t : Ty) (u : IntType) (is : out-Ty t ≡ Ty-F.Int u) (r : Reg) (s : State) where
  pub load_near-integer : (offset : ℕ) → r.0 < 31 → ((a : ℕ) → s.byte a < 256) → IsNear s offset (int_bytes u) →
      IsReadable s (s.sp + offset) (int_bytes u) →
      effect (load_scalar t (OnStack offset) r) s ≡ Leads (puts_register r (wrap u (load (int_bytes u) s.byte (s.sp + offset))) s)
  load_near-integer offset small bytes near readable =
      rw is (near_load (load_of_int u) offset r s (int_bytes u) (load_size-int u) small near readable
      ∙ ap (λ n. Leads (puts_register r n s)) (loaded-wraps u s.byte (s.sp + offset) bytes))

  pub load_far-integer : (p : Reg) (at tag : ℕ) → p.0 < 31 → r.0 < 31 → ((a : ℕ) → s.byte a < 256) → Points (s.register p.0) at tag →
      at % int_bytes u ≡ 0 → IsReadable s at (int_bytes u) → s.tag (granule_of at) ≡ tag →
      effect (load_scalar t (Behind p) r) s ≡ Leads (puts_register r (wrap u (load (int_bytes u) s.byte at)) s)
  load_far-integer p at tag base small bytes points aligned readable agrees =
      rw is (far_load (load_of_int u) at tag p r s (int_bytes u) (load_size-int u) base small points aligned readable agrees
      ∙ ap (λ n. Leads (puts_register r n s)) (loaded-wraps u s.byte at bytes))

  -- the register 31 stores zero
  pub store_near-integer : (offset : ℕ) → IsNear s offset (int_bytes u) → IsOpen s (s.sp + offset) (int_bytes u) →
      effect (store_scalar t (OnStack offset) r) s ≡ Leads (puts_bytes (store (int_bytes u) s.byte (s.sp + offset) (general s r)) s)
  store_near-integer offset near memory =
      rw is (near_store (store_of_load (load_of_int u)) offset r s (int_bytes u) (store_size-int u) near memory)

  pub store_far-integer : (p : Reg) (at tag : ℕ) → p.0 < 31 → Points (s.register p.0) at tag → at % int_bytes u ≡ 0 →
      IsOpen s at (int_bytes u) → s.tag (granule_of at) ≡ tag →
      effect (store_scalar t (Behind p) r) s ≡ Leads (puts_bytes (store (int_bytes u) s.byte at (general s r)) s)
  store_far-integer p at tag base points aligned memory agrees =
      rw is (far_store (store_of_load (load_of_int u)) at tag p r s (int_bytes u) (store_size-int u) base points aligned memory agrees)

-- ---- pointers: all eight bytes

module _ (t target : Ty) (is : out-Ty t ≡ Ty-F.Pointer target) (r : Reg) (s : State) where
  pub load_near-pointer : (offset : ℕ) → r.0 < 31 → IsNear s offset 8 → IsReadable s (s.sp + offset) 8 →
      effect (load_scalar t (OnStack offset) r) s ≡ Leads (puts_register r (load 8 s.byte (s.sp + offset)) s)
  load_near-pointer offset small near readable = rw is (near_load Whole offset r s 8 refl small near readable)

  pub load_far-pointer : (p : Reg) (at tag : ℕ) → p.0 < 31 → r.0 < 31 → Points (s.register p.0) at tag → at % 8 ≡ 0 →
      IsReadable s at 8 → s.tag (granule_of at) ≡ tag →
      effect (load_scalar t (Behind p) r) s ≡ Leads (puts_register r (load 8 s.byte at) s)
  load_far-pointer p at tag base small points aligned readable agrees =
      rw is (far_load Whole at tag p r s 8 refl base small points aligned readable agrees)

  pub store_near-pointer : (offset : ℕ) → IsNear s offset 8 → IsOpen s (s.sp + offset) 8 →
      effect (store_scalar t (OnStack offset) r) s ≡ Leads (puts_bytes (store 8 s.byte (s.sp + offset) (general s r)) s)
  store_near-pointer offset near memory = rw is (near_store StoreWhole offset r s 8 refl near memory)

  pub store_far-pointer : (p : Reg) (at tag : ℕ) → p.0 < 31 → Points (s.register p.0) at tag → at % 8 ≡ 0 → IsOpen s at 8 →
      s.tag (granule_of at) ≡ tag →
      effect (store_scalar t (Behind p) r) s ≡ Leads (puts_bytes (store 8 s.byte at (general s r)) s)
  store_far-pointer p at tag base points aligned memory agrees =
      rw is (far_store StoreWhole at tag p r s 8 refl base points aligned memory agrees)
