-- Lists that tag granules: short ones, and loops (this project's own).
use Rattle.std.specs.Prelude.{◌≡◌, ◌≢◌, ◌<◌, ℕ, zero, suc, ◌+◌, ◌-◌, ◌*◌, ◌/◌, ◌%◌, ◌^◌, ◌==◌, ◌||◌, nat_lt, Bool, true, false, List, []}
use Rattle.std.specs.Prelude.{◌∷◌, ◌++◌}
use Rattle.std.specs.Prelude.{if◌then◌else◌}
use Rattle.a64_code.specs.declared.instr.Instr.{Instr}
use Rattle.a64_code.specs.declared.instr.Instr.TheVariants.{Movz, AddImm, SubImm, Cbnz, Stg, St2g}
use Rattle.a64_code.specs.declared.instr.Reg.{Reg}
use Rattle.a64_code.specs.State.{State}
use Rattle.a64_code.specs.State.{general_or_sp, tagged}
use Rattle.a64_laws.specs.Laws.Effects.Open.{IsOpen}
use Rattle.mt_base.specs.Pointers.{tag_of}
use Rattle.a64_laws.specs.Forms.{Points}
use Rattle.a64_laws.specs.Runs.{Runs}

-- n granules from so many behind the base on get the tag of Rt, two at a time and the last one alone
abbrev pub tags_from : Reg → Reg → ℕ → ℕ → List Instr
tags_from rt rn first zero = []
tags_from rt rn first (suc zero) = Stg first rn rt ∷ []
tags_from rt rn first (suc (suc n)) = St2g first rn rt ∷ tags_from rt rn (first + 2) n

-- 2 * pairs granules from the base on, the base behind them, and the same again until the count is zero
abbrev pub loop_end : Reg → Reg → ℕ → List Instr
loop_end rn count pairs = AddImm true 0 (32 * pairs) rn rn ∷ SubImm true 0 1 count count ∷ Cbnz true (2 ^ 19 - (pairs + 2)) count ∷ []

abbrev pub tag_loop : Reg → Reg → Reg → ℕ → List Instr
tag_loop rt rn count pairs = tags_from rt rn 0 (2 * pairs) ++ loop_end rn count pairs

-- all but PC, tags and registers is the same in both states
pub record SameButTags (s t : State) : Type 0 where
  pub sp : t.sp ≡ s.sp
  pub flags : t.flags ≡ s.flags
  pub byte : t.byte ≡ s.byte
  pub regions : t.regions ≡ s.regions
  pub guard : t.guard ≡ s.guard
  pub choices : t.choices ≡ s.choices
  pub drawn : t.drawn ≡ s.drawn
  pub outside : t.outside ≡ s.outside

-- which registers: the source of the tag is not the count, nor is the base
pub record LoopRegisters (rt rn count : Reg) : Type 0 where
  pub base : rn.0 < 31
  pub counter : count.0 < 31
  pub apart : count.0 ≢ rn.0
  pub source : rt.0 ≢ count.0

-- the loop is ahead: so many rounds of 2 * pairs granules, from an address on
pub record IsAhead (rt rn count : Reg) (pairs rounds at tag value : ℕ) (s : State) : Type 0 where
  pub points : Points (s.register rn.0) at tag
  pub has_tag : tag_of (general_or_sp s rt) ≡ value
  pub counts : s.register count.0 ≡ rounds
  pub rounds_fit : rounds < 2 ^ 64
  pub aligned : at % 16 ≡ 0
  pub reach : pairs < 128
  pub below : at + 32 * (rounds * pairs) < 2 ^ 56
  pub memory : IsOpen s at (32 * (rounds * pairs))
  pub fits : s.pc + 4 * (pairs + 3) < 2 ^ 64

-- so many steps of a list lead to a state where n granules from an address on have a tag, and nothing else is changed but scratch
-- registers
pub record TagsGranules (instrs : List Instr) (steps n at value : ℕ) (is_scratch : ℕ → Bool) (from to : State) : Type 0 where
  pub runs : Runs instrs steps from to
  pub tags : to.tag ≡ tagged n from.tag at value
  pub registers : (r : ℕ) → is_scratch r ≡ false → to.register r ≡ from.register r
  pub same : SameButTags from to

-- A loop of so many rounds of 2 * pairs granules, and the rest. The count is moved first.
abbrev pub tags_in_rounds : Reg → Reg → Reg → ℕ → ℕ → ℕ → List Instr
tags_in_rounds rt rn count pairs rounds rest = Movz true 0 rounds count ∷ tag_loop rt rn count pairs ++ tags_from rt rn 0 rest

-- n granules, in a list for less than 16 and in a loop of 16 for more: few steps
abbrev pub tag_quickly : Reg → Reg → Reg → ℕ → List Instr
tag_quickly rt rn count n = if nat_lt n 16 then tags_from rt rn 0 n else tags_in_rounds rt rn count 8 (n / 16) (n % 16)

-- in a list for less than 4 and in a loop of 2 for more: few instructions
abbrev pub tag_shortly : Reg → Reg → Reg → ℕ → List Instr
tag_shortly rt rn count n = if nat_lt n 4 then tags_from rt rn 0 n else tags_in_rounds rt rn count 1 (n / 2) (n % 2)

-- the registers that they may change: the base and the count
abbrev pub base_or_count : Reg → Reg → ℕ → Bool
base_or_count rn count r = (r == rn.0) || (r == count.0)
