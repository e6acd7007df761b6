-- Examples: an access through a tagged pointer to its own slot, one to the slot behind it, and a pair with a half in each.
use Rattle.std.specs.Prelude.{◌≡◌, ℕ, ◌+◌, ◌-◌, ◌*◌, ◌%◌, ◌^◌, ◌<◌, ◌≤◌, true}
use Rattle.std.proofs.Common.{arith, ap, sym, ◌∙◌, subst, inr}
use Rattle.mt_base.specs.Granules.{granule_of}
use Rattle.mt_base.specs.Memory.{load, store}
use Rattle.a64_code.specs.declared.instr.Instr.TheVariants.{Ldr, Ldrb, Strb, Stp, Ldp}
use Rattle.a64_code.specs.declared.instr.Reg.{Reg}
use Rattle.a64_code.specs.declared.end.MachineEnd.TheVariants.{TagFault}
use Rattle.a64_code.specs.State.{State}
use Rattle.a64_code.specs.Stepped.{Leads, Ends}
use Rattle.a64_laws.specs.Laws.Effects.Open.{IsReadable, IsOpen}
use Rattle.a64_code.specs.Effect.{effect}
use Rattle.a64_laws.specs.Forms.{Points, Whole, Byte, StoreByte, puts_register, puts_bytes}
use Rattle.a64_laws.specs.Laws.Pointers.{Points-start, Points-on, Points-behind, Points-before}
use Rattle.a64_laws.specs.Laws.OpenMemory.{IsOpen-part}
use Rattle.a64_laws.specs.Laws.Loads.{load_through, load_caught}
use Rattle.a64_laws.specs.Laws.Pairs.{pair_on}
use Rattle.a64_laws.specs.Laws.PairsThrough.{pair_stored_through, pair_store_caught, pair_load_caught}
use Rattle.a64_laws.specs.Laws.Stores.{store_through, store_caught}

abbrev x0 : Reg
x0 = record { 0 = 0 }

abbrev x1 : Reg
x1 = record { 0 = 1 }

-- X1 points to a slot of 16 bytes with the tag 3, and the granule behind it has the tag 4
record Slots (a : ℕ) (s : State) : Type 0 where
  aligned : a % 16 ≡ 0
  below : a < 2 ^ 48
  memory : IsOpen s a 32
  pointer : s.register 1 ≡ a + 3 * 2 ^ 56
  own : s.tag (granule_of a) ≡ 3
  behind : s.tag (granule_of a + 1) ≡ 4

-- the number at 8 behind the start is loaded
own_is_read : (a : ℕ) (s : State) → Slots a s → effect (Ldr true 1 x1 x0) s ≡ Leads (puts_register x0 (load 8 s.byte (a + 8)) s)
unfolding puts_register
own_is_read a s slots =
    load_through Whole 1 (a + 8) 3 x1 x0 s (omega arith) (omega arith)
    (subst (λ (p : ℕ). Points ((p + 8) % 2 ^ 64) (a + 8) 3) (sym slots.pointer) (Points-on 8 (omega (arith, slots.below))
    (Points-start a 3 (omega (arith, slots.below)) (omega arith))))
    (omega (arith, slots.aligned)) (IsOpen-part (a + 8) 8 (omega arith) (omega arith) slots.memory).readable
    (ap s.tag (let e : granule_of (a + 8) ≡ granule_of a = omega (arith, slots.aligned) in e) ∙ slots.own)

-- the last byte is stored
last_is_stored : (a : ℕ) (s : State) → Slots a s →
    effect (Strb 15 x1 x0) s ≡ Leads (puts_bytes (store 1 s.byte (a + 15) (s.register 0)) s)
last_is_stored a s slots =
    store_through StoreByte 15 (a + 15) 3 x1 x0 s (omega arith)
    (rw slots.pointer (Points-behind a 3 15 (omega (arith, slots.below)) (omega arith)))
    (omega arith) (IsOpen-part (a + 15) 1 (omega arith) (omega arith) slots.memory)
    (ap s.tag (let e : granule_of (a + 15) ≡ granule_of a = omega (arith, slots.aligned) in e) ∙ slots.own)

-- a byte one behind the end is not stored: the run ends with the address, the pointer's tag and that of memory
next_is_caught : (a : ℕ) (s : State) → Slots a s → effect (Strb 16 x1 x0) s ≡ Ends (TagFault (a + 16) 3 4)
next_is_caught a s slots =
    store_caught StoreByte 16 (a + 16) 3 x1 x0 s (omega arith)
    (subst (λ (p : ℕ). Points ((p + 16) % 2 ^ 64) (a + 16) 3) (sym slots.pointer) (Points-on 16 (omega (arith, slots.below))
    (Points-start a 3 (omega (arith, slots.below)) (omega arith))))
    (omega arith) (IsOpen-part (a + 16) 1 (omega arith) (omega arith) slots.memory)
    (λ same. absurd (omega (arith, same, tag)))
    ∙ ap (λ (t : ℕ). Ends (TagFault (a + 16) 3 t)) tag
  where
    tag : s.tag (granule_of (a + 16)) ≡ 4
    tag = ap s.tag (let e : granule_of (a + 16) ≡ granule_of a + 1 = omega (arith, slots.aligned) in e) ∙ slots.behind

-- a pair that begins in the slot's last 8 bytes is not stored: its second half lies in the granule behind
pair_is_caught : (a : ℕ) (s : State) → Slots a s → effect (Stp 1 x0 x1 x0) s ≡ Ends (TagFault (a + 8) 3 4)
pair_is_caught a s slots =
    pair_store_caught 1 (a + 8) 3 4 x0 x1 x0 s (omega arith)
    (rw (pair_on 1 (omega arith)) (subst (λ (p : ℕ). Points ((p + 8) % 2 ^ 64) (a + 8) 3) (sym slots.pointer)
    (Points-on 8 (omega (arith, slots.below)) (Points-start a 3 (omega (arith, slots.below)) (omega arith)))))
    (omega (arith, slots.aligned)) (IsOpen-part (a + 8) 16 (omega arith) (omega arith) slots.memory)
    (inr (first, last, λ same. absurd (omega (arith, same))))
  where
    first : s.tag (granule_of (a + 8)) ≡ 3
    first = ap s.tag (let e : granule_of (a + 8) ≡ granule_of a = omega (arith, slots.aligned) in e) ∙ slots.own

    last : s.tag (granule_of (a + 8 + 15)) ≡ 4
    last = ap s.tag (let e : granule_of (a + 8 + 15) ≡ granule_of a + 1 = omega (arith, slots.aligned) in e) ∙ slots.behind

-- nor is it loaded
pair_load_is_caught : (a : ℕ) (s : State) → Slots a s → effect (Ldp 1 x1 x1 x0) s ≡ Ends (TagFault (a + 8) 3 4)
pair_load_is_caught a s slots =
    pair_load_caught 1 (a + 8) 3 4 x1 x1 x0 s (omega arith)
    (rw (pair_on 1 (omega arith), slots.pointer) (Points-behind a 3 8 (omega (arith, slots.below)) (omega arith)))
    (omega (arith, slots.aligned)) (IsOpen-part (a + 8) 16 (omega arith) (omega arith) slots.memory).readable
    (inr (first, last, λ same. absurd (omega (arith, same))))
  where
    first : s.tag (granule_of (a + 8)) ≡ 3
    first = ap s.tag (let e : granule_of (a + 8) ≡ granule_of a = omega (arith, slots.aligned) in e) ∙ slots.own

    last : s.tag (granule_of (a + 8 + 15)) ≡ 4
    last = ap s.tag (let e : granule_of (a + 8 + 15) ≡ granule_of a + 1 = omega (arith, slots.aligned) in e) ∙ slots.behind

-- a pair that fills the slot is stored
pair_is_stored : (a : ℕ) (s : State) → Slots a s →
    effect (Stp 0 x1 x1 x0) s ≡ Leads (puts_bytes (store 8 (store 8 s.byte a (s.register 0)) (a + 8) (s.register 1)) s)
pair_is_stored a s slots =
    pair_stored_through 0 a 3 x1 x1 x0 s (omega arith)
    (rw (pair_on 0 (omega arith), slots.pointer) (subst (λ (at : ℕ). Points ((a + 3 * 2 ^ 56 + 0) % 2 ^ 64) at 3)
    (let e : a + 0 ≡ a = omega arith in e) (Points-behind a 3 0 (omega (arith, slots.below)) (omega arith))))
    (omega (arith, slots.aligned)) (IsOpen-part a 16 (omega arith) (omega arith) slots.memory)
    (record {
      first = slots.own;
      last = ap s.tag (let e : granule_of (a + 15) ≡ granule_of a = omega (arith, slots.aligned) in e) ∙ slots.own;
    })

-- a byte that is one before the start, with a tag of its own, is not loaded through a pointer that was moved back
before_is_caught : (a : ℕ) (s : State) → 16 ≤ a → a < 2 ^ 48 → IsReadable s (a - 1) 1 →
    s.register 1 ≡ (a + 3 * 2 ^ 56 + (2 ^ 64 - 1)) % 2 ^ 64 → s.tag (granule_of (a - 1)) ≡ 5 →
    effect (Ldrb 0 x1 x0) s ≡ Ends (TagFault (a - 1) 3 5)
before_is_caught a s within below memory pointer before =
    load_caught Byte 0 (a - 1) 3 x1 x0 s (omega arith)
    (subst (λ (p : ℕ). Points p (a - 1) 3) (let e : (a + 3 * 2 ^ 56 + (2 ^ 64 - 1)) % 2 ^ 64 ≡ (s.register 1 + 0 * 1) % 2 ^ 64 =
    omega (arith, pointer) in e) (Points-before a 3 1 (omega (arith, below)) (omega (arith, within)) (omega arith)))
    (omega arith) memory (λ same. absurd (omega (arith, same, before))) ∙ ap (λ (t : ℕ). Ends (TagFault (a - 1) 3 t)) before
