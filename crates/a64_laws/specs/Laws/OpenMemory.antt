-- Memory that can be read or written: its parts, and the same in a state with the same regions (this project's own).
use Rattle.std.specs.Prelude.{ℕ, ◌+◌, ◌≤◌}
use Rattle.std.proofs.Common.{arith, ap, ◌∙◌}
use Rattle.mt_base.specs.Memory.{is_in_span, is_mapped, is_protected}
use Rattle.a64_code.specs.State.{State}
use Rattle.a64_laws.specs.Forms.{SameRegions}
use Rattle.a64_laws.specs.Laws.Effects.Open.{IsReadable, IsOpen}

pub IsReadable-part : {s : State} {start bytes : ℕ} (first fewer : ℕ) → start ≤ first → first + fewer ≤ start + bytes →
    IsReadable s start bytes → IsReadable s first fewer
IsReadable-part first fewer from to memory = record {
  mapped = λ a above below. memory.mapped a (omega (arith, from, above)) (omega (arith, to, below));
  unguarded = λ a above below. memory.unguarded a (omega (arith, from, above)) (omega (arith, to, below));
}

pub IsOpen-part : {s : State} {start bytes : ℕ} (first fewer : ℕ) → start ≤ first → first + fewer ≤ start + bytes →
    IsOpen s start bytes → IsOpen s first fewer
IsOpen-part first fewer from to memory = record {
  readable = IsReadable-part first fewer from to memory.readable;
  unprotected = λ a above below. memory.unprotected a (omega (arith, from, above)) (omega (arith, to, below));
}

pub IsReadable-kept : {s t : State} {start bytes : ℕ} → SameRegions s t → IsReadable s start bytes → IsReadable t start bytes
IsReadable-kept same memory = record {
  mapped = λ a above below. ap (λ regions. is_mapped regions a) same.regions ∙ memory.mapped a above below;
  unguarded = λ a above below. ap (λ guard. is_in_span guard a) same.guard ∙ memory.unguarded a above below;
}

pub IsOpen-kept : {s t : State} {start bytes : ℕ} → SameRegions s t → IsOpen s start bytes → IsOpen t start bytes
IsOpen-kept same memory = record {
  readable = IsReadable-kept same memory.readable;
  unprotected = λ a above below. ap (λ regions. is_protected regions a) same.regions ∙ memory.unprotected a above below;
}
