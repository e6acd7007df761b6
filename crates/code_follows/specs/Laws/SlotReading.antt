-- A scalar is read from a local in a safe slot, as a word of a run (this project's own).
use Rattle.std.specs.Prelude.{◌≡◌, ◌≢◌, ℕ, ◌+◌, ◌<◌, ◌≤◌, true, false, [], ◌∷◌, refl}
use Rattle.std.proofs.Common.{arith, ap, sym, subst, ◌∙◌}
use Rattle.c_ast.specs.declared.token.Span.{Span}
use Rattle.c_type_base.specs.Sizes.{size}
use Rattle.c_type_base.specs.Types.{is_scalar}
use Rattle.c_type_base.specs.declared.ty.Ty.{Ty}
use Rattle.a64_code.specs.declared.instr.Reg.{Reg}
use Rattle.a64_code.specs.State.{State}
use Rattle.a64_laws.specs.Forms.{Load, Whole, Word, Half, Byte, SignedWord, SignedHalf, SignedByte, load_instr}
use Rattle.a64_laws.specs.Laws.Effects.Open.{IsReadable}
use Rattle.block_meaning.specs.Expressions.{start_of}
use Rattle.block_meaning.specs.Memory.{access, object, read_scalar}
use Rattle.block_meaning.specs.Running.{Run, and_then, State as MeaningState}
use Rattle.block_meaning.specs.declared.access.Access.{Access}
use Rattle.block_meaning.specs.declared.value.Value.{Value}
use Rattle.code_relation.specs.Items.{HasInstr}
use Rattle.code_runs.specs.Bounded.{Account, later}
use Rattle.gen_base.specs.Accesses.{OnStack, Behind, Where, load_of, load_from, load_scalar}
use Rattle.gen_laws.specs.Computes.{all}
use Rattle.gen_laws.specs.Laws.Accesses.{IsNear}
use Rattle.gen_laws.specs.Laws.Computing.{Computes-put}
use Rattle.code_follows.specs.Parts.{Result, On, Goes}
use Rattle.code_follows.specs.Scene.{Scene, IsScene, given_in, structs_in}
use Rattle.code_follows.specs.Values.{ValueIs}
use Rattle.code_follows.specs.Laws.Computing.{Suits-other}
use Rattle.code_follows.specs.Laws.Going.{Goes-computes}
use Rattle.code_follows.specs.Laws.Here.{structs_here}
use Rattle.code_follows.specs.Laws.Judging.{Goes-cells}
use Rattle.code_follows.specs.Laws.LoadingScalars.{PutsValue, puts_near}
use Rattle.code_follows.specs.Laws.Lying.{HasInstrs}
use Rattle.code_follows.specs.Laws.Operand.{IsAt-on}
use Rattle.code_follows.specs.Laws.ScalarBytes.{bytes_in, size-scalar}
use Rattle.code_follows.specs.Laws.Slots.{SlotPlace, slot_in_order}
use Rattle.code_follows.specs.Laws.Walking.{are_quiet}

-- ---- the instruction leaves memory

quiet_load : (l : Load) (imm12 : ℕ) (rn rt : Reg) → are_quiet (load_instr l imm12 rn rt ∷ []) ≡ true
quiet_load Whole imm12 rn rt = refl
quiet_load Word imm12 rn rt = refl
quiet_load Half imm12 rn rt = refl
quiet_load Byte imm12 rn rt = refl
quiet_load SignedWord imm12 rn rt = refl
quiet_load SignedHalf imm12 rn rt = refl
quiet_load SignedByte imm12 rn rt = refl

quiet_from : (l : Load) (w : Where) (r : Reg) → are_quiet (load_from l w r ∷ []) ≡ true
quiet_from l (OnStack offset) r = quiet_load l _ _ r
quiet_from l (Behind p) r = quiet_load l 0 p r

pub load-quiet : (t : Ty) (w : Where) (r : Reg) → are_quiet (load_scalar t w r ∷ []) ≡ true
load-quiet t w r = quiet_from (load_of t) w r

-- ---- the word

module _ {k : Scene} (scene : IsScene k) (t : Ty) (scalar : is_scalar t ≡ true) (start number : ℕ) where
  abbrev reading : Access
  reading = access k.here false (object t (start_of number))

  -- The local is read into a register, which pays for what is owed; or what it holds has no value.
  pub Goes-reads_slot : {A : Type 0} {first : ℕ} {reg : Reg} {result : Result A} {s : State} {to leaves : ℕ} {a : Account}
      {owes spare from middle : ℕ} {f : Value → Run A} {now : MeaningState} {u : State} (left : ℕ) → SlotPlace k t start now u number →
      (span : Span) (r : Reg) → r.0 < 28 → HasInstrs k (load_scalar t (OnStack start) r ∷ []) from middle →
      On k first reg false s from a owes spare now u → owes ≤ 1 → 1 + left ≤ spare →
      ((v : Value) (w : State) → ValueIs (given_in k) t v now (w.register r.0) →
      ((q : ℕ) → q ≢ r.0 → w.register q ≡ u.register q) → On k first reg false s middle (later 1 a) 0 left now w →
      Goes k first reg false result s to leaves (later 1 a) (f v) now w) →
      Goes k first reg false result s to leaves a (and_then (read_scalar k.here span (object t (start_of number))) f) now u
  Goes-reads_slot {reg = reg} {from = from} {f = f} {now} {u} left p span r low has on pays fits more =
      let one : HasInstr k.code from (load_scalar t (OnStack start) r) =
      subst (λ (at : ℕ). HasInstr k.code at (load_scalar t (OnStack start) r)) (omega arith) (has.each 0 _ refl) in
      let bytes_are : reading.size ≡ bytes_in t =
      ap (λ structs. size structs t) (structs_here scene on.came.comes.relates) ∙ size-scalar (structs_in k) t scalar in
      let near : IsNear u start reading.size = subst (λ n. IsNear u start n) (sym bytes_are) p.near in
      let memory : IsReadable u (u.sp + start) reading.size =
      subst (λ n. IsReadable u (u.sp + start) n) (sym bytes_are) p.memory.readable in
      Goes-cells on pays (omega (arith, fits)) span p.block t (start_of number) f (one.inside u (IsAt-on on)) p.lives.is
      (slot_in_order scene on.came.comes.relates scalar p false)
      (λ v is.
      let puts : PutsValue (given_in k) t v now (load_scalar t (OnStack start) r) r u =
      puts_near on.came.comes.relates.injects t scalar reading bytes_are p.block p.lives v is r (omega (arith, low)) start
      (omega (arith, p.start_is)) near memory in
      let computes =
      Computes-put (load_scalar t (OnStack start) r) r puts.number u puts.leads (omega (arith, on.came.comes.pc, one.below)) in
      Goes-computes left has (load-quiet t (OnStack start) r) computes (Suits-other reg r all low tt) on (omega (arith, pays))
      (omega (arith, fits))
      (λ done. more v computes.to (subst (λ n. ValueIs (given_in k) t v now n) (sym computes.holds) puts.is)
      (λ q other. computes.registers q other tt) done))
