-- What the list of a slot's address does (this project's own).
use Rattle.std.specs.Prelude.{◌≡◌, ◌≢◌, ℕ, ◌+◌, ◌*◌, ◌/◌, ◌%◌, ◌^◌, ◌<◌, ◌≤◌, nat_lt, Bool, true, false, List, [], ◌∷◌, ◌++◌, length, refl}
use Rattle.std.proofs.Common.{arith, ap, sym, ◌∙◌, subst, inl, inr, length-append, lit≤}
use Rattle.std.proofs.lemmas.Bool.{cases_lt, lt-ltb, le-ltb}
use Rattle.mt_base.specs.Laws.Pointers.{with_tag-add, with_tag-with_tag, tag_of-with_tag}
use Rattle.mt_base.specs.Laws.TagChoice.{next_tag-lt}
use Rattle.mt_base.specs.Pointers.{tag_of, with_tag}
use Rattle.mt_base.specs.Tags.{next_tag, zero_excluded}
use Rattle.a64_code.specs.declared.instr.Instr.{Instr}
use Rattle.a64_code.specs.declared.instr.Instr.TheVariants.{AddImm, Addg}
use Rattle.a64_code.specs.declared.instr.Reg.{Reg}
use Rattle.a64_code.specs.State.{State}
use Rattle.a64_laws.specs.Forms.{puts_register, stack_pointer}
use Rattle.a64_laws.specs.Laws.Effects.Registers.{with_value-same, with_value-other}
use Rattle.a64_laws.specs.Laws.Results.{number_added}
use Rattle.a64_laws.specs.Laws.Runs.{Runs-one, Runs-two, Runs-append}
use Rattle.a64_laws.specs.Laws.TagLoop.{SameButTags-then}
use Rattle.a64_laws.specs.Laws.Tags.{tag_stepped}
use Rattle.a64_laws.specs.Runs.{Runs}
use Rattle.frame_layout.specs.declared.frame.Slot.{Slot}
use Rattle.frame_layout.specs.WellFormed.{is_tagged_slot}
use Rattle.tag_plan.specs.Effects.{IsFrame, Does, Puts, pointer_by, pointer_to}
use Rattle.tag_plan.specs.Lists.{tagged_base, offset_from, tagged_place, address_by, slot_address_list}
use Rattle.tag_plan.specs.Laws.Slots.{Offset, offset_placed, length-offset}

-- ---- additions alone

-- it adds, and neither loads nor stores
abbrev pub Adds : Instr → Type 0
Adds (AddImm wide sh imm12 rn rd) = Unit {0}
Adds (Addg uimm6 uimm4 rn rd) = Unit {0}
Adds _ = ⊥

abbrev pub AllAdd : List Instr → Type 0
AllAdd [] = Unit {0}
AllAdd (instr ∷ instrs) = Adds instr × AllAdd instrs

all_add-append : (xs ys : List Instr) → AllAdd xs → AllAdd ys → AllAdd (xs ++ ys)
all_add-append [] ys first second = second
all_add-append (x ∷ xs) ys first second = (first.0, all_add-append xs ys first.1 second)

offset_adds : (rn : Reg) (n : ℕ) (rd : Reg) → AllAdd (offset_from rn n rd)
offset_adds rn n rd = elim (cases_lt n 4096) [
  | inl few ↦ rw (lt-ltb n 4096 few) (tt, tt)
  | inr many ↦ rw (le-ltb n 4096 many) (tt, (tt, tt))
]

place_adds : (n index : ℕ) (rd : Reg) → AllAdd (tagged_place n index rd)
place_adds n index rd = elim (cases_lt n 1024) [
  | inl few ↦ rw (lt-ltb n 1024 few) (tt, tt)
  | inr many ↦ rw (le-ltb n 1024 many)
      (all_add-append (offset_from tagged_base n rd) (Addg 0 index rd rd ∷ []) (offset_adds tagged_base n rd) (tt, tt))
]

adds_by : (b : Bool) (s : Slot) (rd : Reg) → AllAdd (address_by b s rd)
adds_by true s rd = place_adds s.start s.index rd
adds_by false s rd = offset_adds stack_pointer s.start rd

-- the list of an address holds no load
pub slot_address-adds : (s : Slot) (rd : Reg) → AllAdd (slot_address_list s rd)
slot_address-adds s rd = adds_by (is_tagged_slot s) s rd

place_length : (n index : ℕ) (rd : Reg) → length (tagged_place n index rd) ≤ 3
place_length n index rd = elim (cases_lt n 1024) [
  | inl few ↦ rw (lt-ltb n 1024 few) (omega arith)
  | inr many ↦ rw (le-ltb n 1024 many)
      (omega (arith, length-append (offset_from tagged_base n rd) (Addg 0 index rd rd ∷ []), length-offset tagged_base n rd))
]

length_by : (b : Bool) (s : Slot) (rd : Reg) → length (address_by b s rd) ≤ 3
length_by true s rd = place_length s.start s.index rd
length_by false s rd = omega (arith, length-offset stack_pointer s.start rd)

pub length-slot_address : (s : Slot) (rd : Reg) → length (slot_address_list s rd) ≤ 3
length-slot_address s rd = length_by (is_tagged_slot s) s rd

-- ---- what it leaves

puts_of : (rd : Reg) (value : ℕ) (s : State) → Puts rd value s (puts_register rd value s)
unfolding puts_register
puts_of rd value s = record {
  is = with_value-same s.register rd.0 value;
  tags = refl;
  registers = λ r other. with_value-other s.register rd.0 value r other;
  same = record { sp = refl; flags = refl; byte = refl; regions = refl; guard = refl; choices = refl; drawn = refl; outside = refl };
}

puts_again : {rd : Reg} {value : ℕ} {r s t : State} (first : ℕ) → Puts rd first r s → Puts rd value s t → Puts rd value r t
puts_again first once rest = record {
  is = rest.is;
  tags = rest.tags ∙ once.tags;
  registers = λ r other. rest.registers r other ∙ once.registers r other;
  same = SameButTags-then once.same rest.same;
}

-- so many steps of a list put a number into a register
pub record PutsBy (instrs : List Instr) (most : ℕ) (rd : Reg) (value : ℕ) (s : State) : Type 0 where
  pub to : State
  pub steps : ℕ
  pub few : steps ≤ most
  pub runs : Runs instrs steps s to
  pub puts : Puts rd value s to

-- a pointer with a tag, so many bytes on
base_on : (sp tag n : ℕ) → tag < 16 → sp + n < 2 ^ 56 → (with_tag sp tag + n) % 2 ^ 64 ≡ with_tag (sp + n) tag
base_on sp tag n small below = omega (arith, small, below)

retagged : (sp tag n other : ℕ) → tag < 16 → sp + n < 2 ^ 56 → with_tag (with_tag (sp + n) tag) other ≡ with_tag (sp + n) other
retagged sp tag n other small below = with_tag-with_tag (sp + n) tag other small

-- bytes on from the tagged base
base_offset : (sp tag n : ℕ) (rd : Reg) (s : State) → rd.0 < 31 → s.register tagged_base.0 ≡ with_tag sp tag → tag < 16 → n < 2 ^ 24 →
    sp + n < 2 ^ 56 → s.pc + 8 < 2 ^ 64 → PutsBy (offset_from tagged_base n rd) 2 rd (with_tag (sp + n) tag) s
unfolding puts_register
base_offset sp tag n rd s small base tag_small reach below fits = elim (cases_lt n 4096) [
  | inl few ↦ record {
    to = puts_register rd ((s.register tagged_base.0 + n) % 2 ^ 64) s;
    steps = 1;
    few = omega arith;
    runs = rw (lt-ltb n 4096 few) (Runs-one (number_added 0 n n tagged_base rd s (lit≤ tt) small (omega arith)) refl
        (omega (arith, fits)));
    puts = subst (λ value. Puts rd value s (puts_register rd ((s.register tagged_base.0 + n) % 2 ^ 64) s))
        (ap (λ pointer. (pointer + n) % 2 ^ 64) base ∙ base_on sp tag n tag_small below)
        (puts_of rd ((s.register tagged_base.0 + n) % 2 ^ 64) s);
  }
  | inr many ↦ record {
    to = puts_register rd ((u.register rd.0 + n % 4096) % 2 ^ 64) u;
    steps = 2;
    few = omega arith;
    runs = rw (le-ltb n 4096 many) (Runs-two (number_added 1 (n / 4096) high tagged_base rd s (lit≤ tt) small (omega arith)) refl
        (number_added 0 (n % 4096) (n % 4096) rd rd u small small (omega arith)) refl fits);
    puts = puts_again ((s.register tagged_base.0 + high) % 2 ^ 64) (puts_of rd ((s.register tagged_base.0 + high) % 2 ^ 64) s)
        (subst (λ value. Puts rd value u (puts_register rd ((u.register rd.0 + n % 4096) % 2 ^ 64) u)) second
        (puts_of rd ((u.register rd.0 + n % 4096) % 2 ^ 64) u));
  }
]
  where
    high : ℕ
    high = n / 4096 * 4096

    u : State
    u = puts_register rd ((s.register tagged_base.0 + high) % 2 ^ 64) s

    first : u.register rd.0 ≡ with_tag (sp + high) tag
    first = with_value-same s.register rd.0 ((s.register tagged_base.0 + high) % 2 ^ 64)
        ∙ ap (λ pointer. (pointer + high) % 2 ^ 64) base
        ∙ base_on sp tag high tag_small (omega (arith, below))

    second : (u.register rd.0 + n % 4096) % 2 ^ 64 ≡ with_tag (sp + n) tag
    second = ap (λ pointer. (pointer + n % 4096) % 2 ^ 64) first
        ∙ base_on (sp + high) tag (n % 4096) tag_small (omega (arith, below))
        ∙ ap (λ place. with_tag place tag) (let e : sp + high + n % 4096 ≡ sp + n = omega arith in e)

-- the tag of an index, after that of a pointer
stepped : (pointer n u sp tag index : ℕ) → pointer ≡ with_tag sp tag → tag < 16 → n ≡ 16 * u → sp + n < 2 ^ 56 →
    with_tag ((pointer + 16 * u) % 2 ^ 64) (next_tag (tag_of pointer) index zero_excluded)
    ≡ with_tag (sp + n) (next_tag tag index zero_excluded)
stepped pointer n u sp tag index is small counts below =
    ap (λ pointer. with_tag ((pointer + 16 * u) % 2 ^ 64) (next_tag (tag_of pointer) index zero_excluded)) is
    ∙ ap (λ bytes. with_tag ((with_tag sp tag + bytes) % 2 ^ 64) (next_tag (tag_of (with_tag sp tag)) index zero_excluded)) (sym counts)
    ∙ ap (λ place. with_tag place (next_tag (tag_of (with_tag sp tag)) index zero_excluded)) (base_on sp tag n small below)
    ∙ retagged sp tag n (next_tag (tag_of (with_tag sp tag)) index zero_excluded) small below
    ∙ ap (λ own. with_tag (sp + n) (next_tag own index zero_excluded)) (tag_of-with_tag sp tag small)

-- the pointer to a tagged slot
place_done : (sp tag n index : ℕ) (rd : Reg) (s : State) → rd.0 < 31 → s.register tagged_base.0 ≡ with_tag sp tag → tag < 16 →
    n % 16 ≡ 0 → n < 2 ^ 24 → sp + n < 2 ^ 56 → s.pc + 12 < 2 ^ 64 →
    PutsBy (tagged_place n index rd) 3 rd (with_tag (sp + n) (next_tag tag index zero_excluded)) s
unfolding puts_register
place_done sp tag n index rd s small base tag_small whole reach below fits = elim (cases_lt n 1024) [
  | inl few ↦ record {
    to = puts_register rd near s;
    steps = 1;
    few = omega arith;
    runs = rw (lt-ltb n 1024 few) (Runs-one (tag_stepped (n / 16) index tagged_base rd s (lit≤ tt) small) refl (omega (arith, fits)));
    puts = subst (λ value. Puts rd value s (puts_register rd near s))
        (stepped (s.register tagged_base.0) n (n / 16) sp tag index base tag_small (omega (arith, whole)) below) (puts_of rd near s);
  }
  | inr many ↦ record {
    to = puts_register rd far offset.to;
    steps = offset.steps + 1;
    few = omega (arith, offset.few);
    runs = rw (le-ltb n 1024 many) (Runs-append offset.runs (Runs-one (tag_stepped 0 index rd rd offset.to small small) refl
        (omega (arith, offset.runs.pc, length-offset tagged_base n rd, fits))));
    puts = puts_again (with_tag (sp + n) tag) offset.puts (subst (λ value. Puts rd value offset.to (puts_register rd far offset.to))
        (stepped (offset.to.register rd.0) 0 0 (sp + n) tag index offset.puts.is tag_small (omega arith) (omega (arith, below))
        ∙ ap (λ place. with_tag place (next_tag tag index zero_excluded)) (let e : sp + n + 0 ≡ sp + n = omega arith in e))
        (puts_of rd far offset.to));
  }
]
  where
    near : ℕ
    near = with_tag ((s.register tagged_base.0 + 16 * (n / 16)) % 2 ^ 64) (next_tag (tag_of (s.register tagged_base.0)) index zero_excluded)

    offset : PutsBy (offset_from tagged_base n rd) 2 rd (with_tag (sp + n) tag) s
    offset = base_offset sp tag n rd s small base tag_small reach below (omega (arith, fits))

    far : ℕ
    far = with_tag ((offset.to.register rd.0 + 16 * 0) % 2 ^ 64) (next_tag (tag_of (offset.to.register rd.0)) index zero_excluded)

-- ---- the address of a slot

-- a slot of a frame of so many bytes; a tagged one stands on a granule
pub record IsSlotOf (bytes : ℕ) (slot : Slot) : Type 0 where
  pub within : slot.start < bytes
  pub whole : is_tagged_slot slot ≡ true → slot.start % 16 ≡ 0

address_by_done : (bytes tag : ℕ) (slot : Slot) (b : Bool) (rd : Reg) (s : State) → rd.0 < 31 → IsFrame bytes s → bytes ≤ 262144 →
    slot.start < bytes → (b ≡ true → slot.start % 16 ≡ 0) → (b ≡ true → s.register tagged_base.0 ≡ with_tag s.sp tag) → tag < 16 →
    s.pc + 12 < 2 ^ 64 → PutsBy (address_by b slot rd) 3 rd (pointer_by b s.sp tag slot) s
address_by_done bytes tag slot true rd s small frame most within whole base tag_small fits =
    place_done s.sp tag slot.start slot.index rd s small (base refl) tag_small (whole refl) (omega (arith, within, most))
    (omega (arith, within, frame.below)) fits
address_by_done bytes tag slot false rd s small frame most within whole base tag_small fits =
    let offset = offset_placed slot.start rd s small (omega (arith, within, most)) (omega (arith, within, frame.below))
    (omega (arith, fits)) in
    record {
      to = offset.to;
      steps = offset.steps;
      few = omega (arith, offset.few);
      runs = offset.runs;
      puts = record {
        is = offset.placed.is;
        tags = offset.placed.tags;
        registers = offset.placed.registers;
        same = offset.placed.same;
      };
    }

-- The register has the pointer to the slot: for a tagged one X28 has to be the tagged base.
pub address-done : (bytes tag : ℕ) (slot : Slot) (rd : Reg) (s : State) → rd.0 < 31 → IsFrame bytes s → bytes ≤ 262144 →
    IsSlotOf bytes slot → (is_tagged_slot slot ≡ true → s.register tagged_base.0 ≡ with_tag s.sp tag) → tag < 16 → s.pc + 12 < 2 ^ 64 →
    PutsBy (slot_address_list slot rd) 3 rd (pointer_to s.sp tag slot) s
address-done bytes tag slot rd s small frame most stands base tag_small fits =
    address_by_done bytes tag slot (is_tagged_slot slot) rd s small frame most stands.within stands.whole base tag_small fits
