-- Addresses of an image by ADRP and ADD, and words of the GOT by ADRP and LDR (this project's own).
use Rattle.std.specs.Prelude.{◌≡◌, ℕ, ◌+◌, ◌*◌, ◌/◌, ◌%◌, ◌^◌, ◌<◌, List, length, refl}
use Rattle.std.proofs.Common.{arith, ap, sym, ◌∙◌, subst}
use Rattle.mt_base.specs.Granules.{granule_of}
use Rattle.mt_base.specs.Memory.{load}
use Rattle.a64_code.specs.declared.instr.Instr.{Instr}
use Rattle.a64_code.specs.declared.instr.Reg.{Reg}
use Rattle.a64_code.specs.State.{State, with_value}
use Rattle.a64_code.specs.Stepped.{Leads}
use Rattle.a64_code.specs.Effect.{effect}
use Rattle.a64_laws.specs.Laws.Effects.Open.{IsReadable}
use Rattle.a64_laws.specs.Laws.Effects.Registers.{with_value-same, with_value-other}
use Rattle.a64_laws.specs.Forms.{Points, Whole, puts_register}
use Rattle.a64_laws.specs.Constants.{PutsConstant}
use Rattle.a64_laws.specs.Sequences.{page_field, page_instr, address_instrs, got_instrs, IsPageNear}
use Rattle.a64_laws.specs.Runs.{Runs}
use Rattle.a64_laws.specs.Laws.OpenMemory.{IsReadable-kept}
use Rattle.a64_laws.specs.Laws.Constants.{SameButRegisters-put, SameButRegisters-then}
use Rattle.a64_laws.specs.Laws.Loads.{load_through}
use Rattle.a64_laws.specs.Laws.Pages.{page_put}
use Rattle.a64_laws.specs.Laws.Results.{number_added}
use Rattle.a64_laws.specs.Laws.Runs.{Runs-one, Runs-cons}

in_two : (field : ℕ) → field / 4 * 4 + field % 4 ≡ field
in_two field = omega arith

page_placed : (address : ℕ) (rd : Reg) (s : State) → rd.0 < 31 → address < 2 ^ 64 → s.pc < 2 ^ 64 → IsPageNear s.pc address →
    effect (page_instr s.pc address rd) s ≡ Leads (puts_register rd (address / 4096 * 4096) s)
page_placed address rd s small fits pc near =
    page_put address (page_field s.pc address % 4) (page_field s.pc address / 4) rd s small (in_two (page_field s.pc address)) fits pc
    near.on near.back

-- two steps put one number and then another into a register
puts_second : (rd : Reg) (first second : ℕ) {instrs : List Instr} (s : State) → length instrs ≡ 2 →
    Runs instrs 2 s (puts_register rd second (puts_register rd first s)) → PutsConstant rd second instrs s
unfolding puts_register
puts_second rd first second {instrs} s two runs = record {
  to = t;
  runs = subst (λ (n : ℕ). Runs instrs n s t) (sym two) runs;
  holds = with_value-same (with_value s.register rd.0 first) rd.0 second;
  registers = λ r other. with_value-other (with_value s.register rd.0 first) rd.0 second r other
      ∙ with_value-other s.register rd.0 first r other;
  same = SameButRegisters-then (SameButRegisters-put rd first s) (SameButRegisters-put rd second (puts_register rd first s));
}
  where
    t : State
    t = puts_register rd second (puts_register rd first s)

-- any address less than 2 ^ 20 pages away
pub address_put : (address : ℕ) (rd : Reg) (s : State) → rd.0 < 31 → address < 2 ^ 64 → s.pc + 8 < 2 ^ 64 → IsPageNear s.pc address →
    PutsConstant rd address (address_instrs s.pc address rd) s
unfolding puts_register
address_put address rd s small fits pc near =
    puts_second rd page address s refl (Runs-cons (page_placed address rd s small fits (omega (arith, pc)) near) refl (omega (arith, pc))
    (Runs-one (number_added 0 (address % 4096) (address % 4096) rd rd t small small (omega arith)
    ∙ ap (λ (value : ℕ). Leads (puts_register rd value t)) sum) refl (omega (arith, pc))))
  where
    page : ℕ
    page = address / 4096 * 4096

    t : State
    t = puts_register rd page s

    sum : (t.register rd.0 + address % 4096) % 2 ^ 64 ≡ address
    sum = rw (with_value-same s.register rd.0 page) (omega (arith, fits))

-- the word at a slot of the GOT, whose granule has the tag 0
pub got_loaded : (slot : ℕ) (rd : Reg) (s : State) → rd.0 < 31 → slot < 2 ^ 56 → slot % 8 ≡ 0 → IsReadable s slot 8 →
    s.tag (granule_of slot) ≡ 0 → s.pc + 8 < 2 ^ 64 → IsPageNear s.pc slot →
    PutsConstant rd (load 8 s.byte slot) (got_instrs s.pc slot rd) s
unfolding puts_register
got_loaded slot rd s small below aligned memory untagged pc near =
    puts_second rd page (load 8 s.byte slot) s refl
    (Runs-cons (page_placed slot rd s small (omega (arith, below)) (omega (arith, pc)) near) refl (omega (arith, pc))
    (Runs-one (load_through Whole (slot % 4096 / 8) slot 0 rd rd t small small points aligned
    (IsReadable-kept (record { regions = refl; guard = refl }) memory) untagged) refl (omega (arith, pc))))
  where
    page : ℕ
    page = slot / 4096 * 4096

    t : State
    t = puts_register rd page s

    points : Points ((t.register rd.0 + slot % 4096 / 8 * 8) % 2 ^ 64) slot 0
    points = rw (with_value-same s.register rd.0 page)
        (record { is_at = omega (arith, below, aligned); has_tag = omega (arith, below, aligned) })
