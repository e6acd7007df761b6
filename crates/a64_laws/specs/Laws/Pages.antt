-- Addresses relative to the page of PC, and words that hold addresses (this project's own).
use Rattle.std.specs.Prelude.{◌≡◌, ℕ, ◌+◌, ◌*◌, ◌/◌, ◌^◌, ◌<◌, ◌≤◌}
use Rattle.std.proofs.Common.{arith, ap, ◌∙◌, inl, inr}
use Rattle.std.proofs.lemmas.Bool.{lt-ltb, cases_lt}
use Rattle.mt_base.specs.Laws.Extension.{sign_extend_low, sign_extend_high}
use Rattle.a64_code.specs.declared.instr.Instr.TheVariants.{Adrp}
use Rattle.a64_code.specs.declared.instr.Reg.{Reg}
use Rattle.a64_code.specs.State.{State}
use Rattle.a64_code.specs.Stepped.{Leads}
use Rattle.a64_code.specs.Branches.{page_target}
use Rattle.a64_code.specs.Effect.{effect}
use Rattle.a64_laws.specs.Forms.{puts_register}
use Rattle.a64_laws.specs.Sequences.{page_field}

-- within 2 ^ 20 pages it gives the page of the address
pub page_is : (address : ℕ) (s : State) → address < 2 ^ 64 → s.pc < 2 ^ 64 → address / 4096 < s.pc / 4096 + 2 ^ 20 →
    s.pc / 4096 ≤ address / 4096 + 2 ^ 20 →
    page_target (page_field s.pc address) s ≡ address / 4096 * 4096
page_is address s fits pc_fits on back = elim (cases_lt address_page pc_page) [
  | inl before ↦ omega (
    arith,
    fits,
    pc_fits,
    on,
    back,
    before,
    sign_extend_high 21 64 (page_field s.pc address) (omega arith)
        (omega (arith, before, back)),
  )
  | inr behind ↦ omega (
    arith,
    fits,
    pc_fits,
    on,
    back,
    behind,
    sign_extend_low 21 64 (page_field s.pc address) (omega arith) (omega
        (arith, behind, on)),
  )
]
  where
    address_page : ℕ
    address_page = address / 4096

    pc_page : ℕ
    pc_page = s.pc / 4096

pub page_put : (address immlo immhi : ℕ) (rd : Reg) (s : State) → rd.0 < 31 → immhi * 4 + immlo ≡ page_field s.pc address →
    address < 2 ^ 64 → s.pc < 2 ^ 64 →
    address / 4096 < s.pc / 4096 + 2 ^ 20 → s.pc / 4096 ≤ address / 4096 + 2 ^ 20 →
    effect (Adrp immlo immhi rd) s ≡ Leads (puts_register rd (address / 4096 * 4096) s)
unfolding puts_register
page_put address immlo immhi rd s small field fits pc_fits on back =
    rw (lt-ltb rd.0 31 small) (ap (λ (value : ℕ). Leads (puts_register rd value s)) (ap (λ (pages : ℕ). page_target pages s) field
    ∙ page_is address s fits pc_fits on back))
