-- The instructions of the Memory Tagging Extension: random tags, the tags of slots, and the tags of granules (this project's
-- own).
use Rattle.std.specs.Prelude.{◌≡◌, ℕ, ◌+◌, ◌-◌, ◌*◌, ◌%◌, ◌^◌, ◌<◌, ◌≤◌, true, false, refl}
use Rattle.std.proofs.Common.{arith, ap, ◌∙◌}
use Rattle.std.proofs.lemmas.Bool.{lt-ltb}
use Rattle.mt_base.specs.Wrapping.{wrapping_sub}
use Rattle.mt_base.specs.Extension.{sign_extend}
use Rattle.mt_base.specs.Laws.Extension.{sign_extend_low, sign_extend_high}
use Rattle.mt_base.specs.Memory.{store}
use Rattle.mt_base.specs.Pointers.{tag_of, with_tag, address_of}
use Rattle.mt_base.specs.Laws.Pointers.{tag_of-with_tag, address_of-with_tag, address_of-wrapping_sub}
use Rattle.mt_base.specs.Tags.{next_tag, zero_excluded, base, slot_tag}
use Rattle.mt_base.specs.Laws.TagChoice.{next_tag-lt}
use Rattle.a64_code.specs.declared.instr.Instr.TheVariants.{Addg, Subg, Irg, Stg, Stzg, St2g, Stz2g, Ldg}
use Rattle.a64_code.specs.declared.instr.Reg.{Reg}
use Rattle.a64_code.specs.State.{State, general, general_or_sp}
use Rattle.a64_code.specs.Stepped.{Leads}
use Rattle.a64_code.specs.Access.{tag_store, tag_load}
use Rattle.a64_laws.specs.Laws.Effects.Accesses.{IsAdmitted}
use Rattle.a64_code.specs.TagInstructions.{next_choice}
use Rattle.a64_code.specs.State.{tagged}
use Rattle.a64_laws.specs.Laws.Effects.Open.{IsReadable, IsOpen, in_readable, in_open, allowed_unchecked}
use Rattle.a64_laws.specs.Laws.Effects.Open.{loads-done, stores_tags-done, clears-done}
use Rattle.a64_code.specs.Results.{result_of}
use Rattle.mt_base.specs.Granules.{granule_of}
use Rattle.a64_code.specs.Effect.{effect}
use Rattle.a64_laws.specs.Forms.{Points, zero_register, puts_register, puts_bytes, puts_tags, with_tags, draws_choice}

-- ---- the tags of pointers

-- Rn with the base tag of the choice that comes next, where no tag but 0 is excluded
pub base_inserted : (rn rd : Reg) (s : State) → rd.0 < 31 →
    effect (Irg zero_register rn rd) s ≡ Leads (puts_register rd (with_tag (general_or_sp s rn) (base (next_choice s)))
    (draws_choice s))
unfolding puts_register draws_choice
base_inserted rn rd s small = rw (lt-ltb rd.0 31 small) refl

pub Points-base : (pointer at tag choice : ℕ) → Points pointer at tag → Points (with_tag pointer (base choice)) at (base choice)
Points-base pointer at tag choice p = record {
  is_at = address_of-with_tag pointer (base choice) ∙ p.is_at;
  has_tag = tag_of-with_tag pointer (base choice) (next_tag-lt choice 0 zero_excluded);
}

-- a pointer with the base tag of a choice becomes the pointer to a slot, so many granules on
pub tag_stepped : (uimm6 uimm4 : ℕ) (rn rd : Reg) (s : State) → rn.0 < 31 → rd.0 < 31 →
    effect (Addg uimm6 uimm4 rn rd) s
    ≡ Leads (puts_register rd (with_tag ((s.register rn.0 + 16 * uimm6) % 2 ^ 64) (next_tag (tag_of
    (s.register rn.0)) uimm4 zero_excluded)) s)
unfolding puts_register
tag_stepped uimm6 uimm4 rn rd s first small = rw (lt-ltb rn.0 31 first, lt-ltb rd.0 31 small) refl

pub Points-slot : (pointer at choice uimm6 uimm4 : ℕ) → at + 16 * uimm6 < 2 ^ 56 → Points pointer at (base choice) →
    Points (with_tag ((pointer + 16 * uimm6) % 2 ^ 64) (next_tag (tag_of pointer) uimm4 zero_excluded)) (at + 16 * uimm6)
    (slot_tag choice uimm4)
Points-slot pointer at choice uimm6 uimm4 below p = record {
  is_at = address_of-with_tag ((pointer + 16 * uimm6) % 2 ^ 64) (next_tag (tag_of pointer) uimm4 zero_excluded) ∙ omega
      (arith, below, p.is_at);
  has_tag = tag_of-with_tag ((pointer + 16 * uimm6) % 2 ^ 64) (next_tag (tag_of pointer) uimm4 zero_excluded) (next_tag-lt
      (tag_of pointer) uimm4 zero_excluded)
      ∙ ap (λ (tag : ℕ). next_tag tag uimm4 zero_excluded) p.has_tag;
}

-- the same so many granules back
pub tag_stepped_back : (uimm6 uimm4 : ℕ) (rn rd : Reg) (s : State) → rn.0 < 31 → rd.0 < 31 →
    effect (Subg uimm6 uimm4 rn rd) s
    ≡ Leads (puts_register rd (with_tag (wrapping_sub 64 (s.register rn.0) (16 * uimm6))
    (next_tag (tag_of (s.register rn.0)) uimm4 zero_excluded)) s)
unfolding puts_register
tag_stepped_back uimm6 uimm4 rn rd s first small = rw (lt-ltb rn.0 31 first, lt-ltb rd.0 31 small) refl

pub Points-slot_back : (pointer at choice uimm6 uimm4 : ℕ) → 16 * uimm6 ≤ at → Points pointer at (base choice) →
    Points (with_tag (wrapping_sub 64 pointer (16 * uimm6)) (next_tag (tag_of pointer) uimm4 zero_excluded)) (at - 16 * uimm6)
    (slot_tag choice uimm4)
Points-slot_back pointer at choice uimm6 uimm4 within p = record {
  is_at = address_of-with_tag (wrapping_sub 64 pointer (16 * uimm6)) (next_tag (tag_of pointer) uimm4 zero_excluded)
      ∙ address_of-wrapping_sub pointer (16 * uimm6) (omega (arith, p.is_at, within)) ∙ ap (λ (a : ℕ). a - 16 * uimm6) p.is_at;
  has_tag = tag_of-with_tag (wrapping_sub 64 pointer (16 * uimm6)) (next_tag (tag_of pointer) uimm4 zero_excluded)
      (next_tag-lt (tag_of pointer) uimm4 zero_excluded)
      ∙ ap (λ (tag : ℕ). next_tag tag uimm4 zero_excluded) p.has_tag;
}

-- ---- the tags of granules

-- the field of an offset in granules, on or back
pub granules_on : (n : ℕ) → n < 256 → sign_extend 9 64 n ≡ n
granules_on n small = sign_extend_low 9 64 n (omega arith) (omega (arith, small)) ∙ omega (arith, small)

pub granules_back : (n : ℕ) → 1 ≤ n → n ≤ 256 → sign_extend 9 64 (512 - n) ≡ 2 ^ 64 - n
granules_back n some small = omega (arith, some, small, sign_extend_high 9 64 (512 - n) (omega arith) (omega (arith, some, small)))

-- and the address
pub tag_place_on : (pointer at n : ℕ) → n < 256 → address_of pointer ≡ at → at + 16 * n < 2 ^ 56 → address_of
    ((pointer + 16 * sign_extend 9 64 n) % 2 ^ 64) ≡ at + 16 * n
tag_place_on pointer at n small is below = rw (granules_on n small) (omega (arith, is, below))

pub tag_place_back : (pointer at n : ℕ) → 1 ≤ n → n ≤ 256 → address_of pointer ≡ at → 16 * n ≤ at → address_of
    ((pointer + 16 * sign_extend 9 64 (512 - n)) % 2 ^ 64) ≡ at - 16 * n
tag_place_back pointer at n some small is within = rw (granules_back n some small) (omega (arith, is, within, some, small))

admitted_at : (n pointer at : ℕ) (s : State) → address_of pointer ≡ at → at % 16 ≡ 0 → IsOpen s at (16 * n) → IsAdmitted s
    (tag_store n pointer)
admitted_at n pointer at s same aligned memory =
    in_open s (tag_store n pointer) at (16 * n) memory (record { from = omega (arith, same); to = omega (arith, same) }) (rw same aligned)

-- one granule, or two, get the tag of Rt, where the number 31 is SP and has the tag 0
pub tag_stored : (simm9 at : ℕ) (rn rt : Reg) (s : State) → address_of
    ((general_or_sp s rn + 16 * sign_extend 9 64 simm9) % 2 ^ 64) ≡ at → at % 16 ≡ 0 → IsOpen s at 16 →
    effect (Stg simm9 rn rt) s ≡ Leads (puts_tags (tagged 1 s.tag at (tag_of (general_or_sp s rt))) s)
unfolding puts_tags
tag_stored simm9 at rn rt s same aligned memory =
    stores_tags-done 1 ((general_or_sp s rn + 16 * sign_extend 9 64 simm9) % 2 ^ 64) (tag_of (general_or_sp s rt)) s
    (admitted_at 1 _ at s same aligned memory)
    ∙ ap (λ (a : ℕ). Leads (puts_tags (tagged 1 s.tag a (tag_of (general_or_sp s rt))) s)) same

pub two_tags_stored : (simm9 at : ℕ) (rn rt : Reg) (s : State) → address_of
    ((general_or_sp s rn + 16 * sign_extend 9 64 simm9) % 2 ^ 64) ≡ at → at % 16 ≡ 0 → IsOpen s at 32 →
    effect (St2g simm9 rn rt) s ≡ Leads (puts_tags (tagged 2 s.tag at (tag_of (general_or_sp s rt))) s)
unfolding puts_tags
two_tags_stored simm9 at rn rt s same aligned memory =
    stores_tags-done 2 ((general_or_sp s rn + 16 * sign_extend 9 64 simm9) % 2 ^ 64) (tag_of (general_or_sp s rt)) s
    (admitted_at 2 _ at s same aligned memory)
    ∙ ap (λ (a : ℕ). Leads (puts_tags (tagged 2 s.tag a (tag_of (general_or_sp s rt))) s)) same

-- the same with zeros for their bytes
pub granule_cleared : (simm9 at : ℕ) (rn rt : Reg) (s : State) → address_of
    ((general_or_sp s rn + 16 * sign_extend 9 64 simm9) % 2 ^ 64) ≡ at → at % 16 ≡ 0 → IsOpen s at 16 →
    effect (Stzg simm9 rn rt) s ≡ Leads (puts_bytes (store 16 s.byte at 0) (with_tags (tagged 1 s.tag at (tag_of (general_or_sp s rt))) s))
unfolding puts_bytes with_tags
granule_cleared simm9 at rn rt s same aligned memory =
    clears-done 1 ((general_or_sp s rn + 16 * sign_extend 9 64 simm9) % 2 ^ 64) (tag_of (general_or_sp s rt)) s
    (admitted_at 1 _ at s same aligned memory)
    ∙ ap (λ (a : ℕ). Leads (puts_bytes (store 16 s.byte a 0) (with_tags (tagged 1 s.tag a (tag_of (general_or_sp s rt))) s))) same

pub two_granules_cleared : (simm9 at : ℕ) (rn rt : Reg) (s : State) → address_of
    ((general_or_sp s rn + 16 * sign_extend 9 64 simm9) % 2 ^ 64) ≡ at → at % 16 ≡ 0 → IsOpen s at 32 →
    effect (Stz2g simm9 rn rt) s ≡ Leads (puts_bytes (store 32 s.byte at 0)
    (with_tags (tagged 2 s.tag at (tag_of (general_or_sp s rt))) s))
unfolding puts_bytes with_tags
two_granules_cleared simm9 at rn rt s same aligned memory =
    clears-done 2 ((general_or_sp s rn + 16 * sign_extend 9 64 simm9) % 2 ^ 64) (tag_of (general_or_sp s rt)) s
    (admitted_at 2 _ at s same aligned memory)
    ∙ ap (λ (a : ℕ). Leads (puts_bytes (store 32 s.byte a 0) (with_tags (tagged 2 s.tag a (tag_of (general_or_sp s rt))) s))) same

-- LDG puts the tag of the granule that the address is in into the pointer in Rt
pub tag_loaded : (simm9 at : ℕ) (rn rt : Reg) (s : State) → rt.0 < 31 →
    address_of ((general_or_sp s rn + 16 * sign_extend 9 64 simm9) % 2 ^ 64) ≡ at → IsReadable s (granule_of at * 16) 16 →
    effect (Ldg simm9 rn rt) s ≡ Leads (puts_register rt (with_tag (s.register rt.0) (s.tag (granule_of at))) s)
unfolding puts_register
tag_loaded simm9 at rn rt s small same memory =
    loads-done (tag_load pointer) (result_of false true rt (with_tag (general s rt) (s.tag (granule_of (address_of pointer))))) s
    (allowed_unchecked s (tag_load pointer) admitted refl)
    ∙ rw (lt-ltb rt.0 31 small, same) refl
  where
    pointer : ℕ
    pointer = (general_or_sp s rn + 16 * sign_extend 9 64 simm9) % 2 ^ 64

    admitted : IsAdmitted s (tag_load pointer)
    admitted = in_readable s (tag_load pointer) (granule_of at * 16) 16 memory
        (record { from = omega (arith, same); to = omega (arith, same) }) refl (omega arith)
