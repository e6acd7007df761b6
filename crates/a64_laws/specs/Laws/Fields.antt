-- What the fields of the states are that instructions lead to, the closed words of `Forms`: the field that a word names, PC, and that all
-- else is kept, as `Keeps` of a reach says. `Keeps-then` joins two of them (this project's own).
use Rattle.std.specs.Prelude.{◌≡◌, ◌≢◌, ℕ, ◌+◌, ◌%◌, ◌^◌, ◌==◌, Bool, true, false, ◌||◌, refl}
use Rattle.std.proofs.Common.{◌∙◌, true≢false}
use Rattle.a64_alu.specs.declared.flags.Flags.{Flags}
use Rattle.a64_code.specs.declared.instr.Reg.{Reg}
use Rattle.a64_code.specs.Outside.{Outside}
use Rattle.a64_code.specs.State.{State, with_value}
use Rattle.a64_code.specs.Laws.Reach.{Reach, nothing, register, registers}
use Rattle.a64_laws.specs.Laws.Effects.Leaves.{Keeps}
use Rattle.a64_laws.specs.Laws.Effects.Kept.{keeps_same, keeps_at_pc, keeps_register, keeps_sp, keeps_flags, keeps_bytes, keeps_tags}
use Rattle.a64_laws.specs.Laws.Effects.Kept.{keeps_drawn, keeps_outside}
use Rattle.a64_laws.specs.Laws.Effects.Registers.{with_value-same, with_value-other}
use Rattle.a64_laws.specs.Forms.{next, puts_register, puts_registers, puts_sp, puts_flags, puts_bytes, puts_tags, puts_pc, puts_link}
use Rattle.a64_laws.specs.Forms.{with_tags, with_outside, draws_choice}

-- ---- what is kept

-- what is outside a reach is kept, and PC goes on to the next instruction
pub record GoesOn (r : Reach) (s t : State) : Type 0 where
  pub keeps : Keeps r s t
  pub pc : t.pc ≡ (s.pc + 4) % 2 ^ 64

either_false : (a b : Bool) → (a || b) ≡ false → (a ≡ false) × (b ≡ false)
either_false true b h = absurd (true≢false h)
either_false false b h = (refl, h)

pub next-keeps : (s : State) → GoesOn nothing s (next s)
unfolding next
next-keeps s = record { keeps = keeps_at_pc _ (keeps_same nothing s); pc = refl }

pub puts_register-keeps : (r : Reg) (value : ℕ) (s : State) → GoesOn (register false r) s (puts_register r value s)
unfolding puts_register
puts_register-keeps r value s =
    record { keeps = keeps_at_pc _ (keeps_register r.0 value (λ n h. h) (keeps_same (register false r) s)); pc = refl }

pub puts_registers-keeps : (r : Reg) (value : ℕ) (q : Reg) (other : ℕ) (s : State) →
    GoesOn (registers false r false q) s (puts_registers r value q other s)
unfolding puts_registers
puts_registers-keeps r value q other s = record {
  keeps = keeps_at_pc _ (keeps_register q.0 other (λ n h. (either_false (n == r.0) (n == q.0) h).1)
      (keeps_register r.0 value (λ n h. (either_false (n == r.0) (n == q.0) h).0) (keeps_same (registers false r false q) s)));
  pc = refl;
}

pub puts_sp-keeps : (value : ℕ) (s : State) → GoesOn (record nothing { sp = true }) s (puts_sp value s)
unfolding puts_sp
puts_sp-keeps value s =
    record { keeps = keeps_at_pc _ (keeps_sp value (λ h. h) (keeps_same (record nothing { sp = true }) s)); pc = refl }

pub puts_flags-keeps : (flags : Flags) (s : State) → GoesOn (record nothing { flags = true }) s (puts_flags flags s)
unfolding puts_flags
puts_flags-keeps flags s =
    record { keeps = keeps_at_pc _ (keeps_flags flags refl (keeps_same (record nothing { flags = true }) s)); pc = refl }

-- the bytes or tags outside a reach that the new ones do not change
pub puts_bytes-keeps : (r : Reach) (byte : ℕ → ℕ) (s : State) → ((at : ℕ) → r.bytes at ≡ false → byte at ≡ s.byte at) →
    GoesOn r s (puts_bytes byte s)
unfolding puts_bytes
puts_bytes-keeps r byte s within = record { keeps = keeps_at_pc _ (keeps_bytes byte within (keeps_same r s)); pc = refl }

pub puts_tags-keeps : (r : Reach) (tag : ℕ → ℕ) (s : State) → ((granule : ℕ) → r.tags granule ≡ false → tag granule ≡ s.tag granule) →
    GoesOn r s (puts_tags tag s)
unfolding puts_tags
puts_tags-keeps r tag s within = record { keeps = keeps_at_pc _ (keeps_tags tag within (keeps_same r s)); pc = refl }

-- PC at an address
pub puts_pc-keeps : (address : ℕ) (s : State) → Keeps nothing s (puts_pc address s)
unfolding puts_pc
puts_pc-keeps address s = keeps_at_pc address (keeps_same nothing s)

pub puts_link-keeps : (address : ℕ) (s : State) → Keeps (register false (record { 0 = 30 })) s (puts_link address s)
unfolding puts_link
puts_link-keeps address s = keeps_at_pc address (keeps_register 30 _ (λ n h. h) (keeps_same (register false (record { 0 = 30 })) s))

pub with_tags-keeps : (r : Reach) (tag : ℕ → ℕ) (s : State) → ((granule : ℕ) → r.tags granule ≡ false → tag granule ≡ s.tag granule) →
    Keeps r s (with_tags tag s)
unfolding with_tags
with_tags-keeps r tag s within = keeps_tags tag within (keeps_same r s)

pub with_outside-keeps : (outside : Outside) (s : State) → Keeps (record nothing { asks = true }) s (with_outside outside s)
unfolding with_outside
with_outside-keeps outside s = keeps_outside outside refl (keeps_same (record nothing { asks = true }) s)

pub draws_choice-keeps : (s : State) → Keeps (record nothing { draws = true }) s (draws_choice s)
unfolding draws_choice
draws_choice-keeps s = keeps_drawn refl (keeps_same (record nothing { draws = true }) s)

-- ---- what is put

pub puts_register-value : (r : Reg) (value : ℕ) (s : State) → (puts_register r value s).register r.0 ≡ value
unfolding puts_register
puts_register-value r value s = with_value-same s.register r.0 value

pub puts_registers-second : (r : Reg) (value : ℕ) (q : Reg) (other : ℕ) (s : State) →
    (puts_registers r value q other s).register q.0 ≡ other
unfolding puts_registers
puts_registers-second r value q other s = with_value-same (with_value s.register r.0 value) q.0 other

pub puts_registers-first : (r : Reg) (value : ℕ) (q : Reg) (other : ℕ) (s : State) → r.0 ≢ q.0 →
    (puts_registers r value q other s).register r.0 ≡ value
unfolding puts_registers
puts_registers-first r value q other s apart =
    with_value-other (with_value s.register r.0 value) q.0 other r.0 apart
    ∙ with_value-same s.register r.0 value

pub puts_sp-value : (value : ℕ) (s : State) → (puts_sp value s).sp ≡ value
unfolding puts_sp
puts_sp-value value s = refl

pub puts_flags-value : (flags : Flags) (s : State) → (puts_flags flags s).flags ≡ flags
unfolding puts_flags
puts_flags-value flags s = refl

pub puts_bytes-value : (byte : ℕ → ℕ) (s : State) → (puts_bytes byte s).byte ≡ byte
unfolding puts_bytes
puts_bytes-value byte s = refl

pub puts_tags-value : (tag : ℕ → ℕ) (s : State) → (puts_tags tag s).tag ≡ tag
unfolding puts_tags
puts_tags-value tag s = refl

pub puts_pc-value : (address : ℕ) (s : State) → (puts_pc address s).pc ≡ address
unfolding puts_pc
puts_pc-value address s = refl

pub puts_link-value : (address : ℕ) (s : State) → (puts_link address s).pc ≡ address
unfolding puts_link
puts_link-value address s = refl

pub puts_link-link : (address : ℕ) (s : State) → (puts_link address s).register 30 ≡ (s.pc + 4) % 2 ^ 64
unfolding puts_link
puts_link-link address s = refl

pub with_tags-value : (tag : ℕ → ℕ) (s : State) → (with_tags tag s).tag ≡ tag
unfolding with_tags
with_tags-value tag s = refl

pub with_outside-value : (outside : Outside) (s : State) → (with_outside outside s).outside ≡ outside
unfolding with_outside
with_outside-value outside s = refl
