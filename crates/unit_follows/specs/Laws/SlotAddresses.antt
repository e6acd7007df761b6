-- Items that put the address of a safe slot, where their words stand (this project's own).
use Rattle.std.specs.Prelude.{◌≡◌, ℕ, zero, suc, ◌+◌, ◌*◌, ◌^◌, ◌<◌, ◌≤◌, false, List, [], ◌∷◌, length, slice_get}
use Rattle.std.specs.Prelude.{Some, refl}
use Rattle.std.proofs.Common.{arith, ap, sym, subst, ◌∙◌, inl, inr}
use Rattle.std.proofs.lemmas.Bool.{cases_lt, lt-ltb, le-ltb}
use Rattle.a64_code.specs.declared.instr.Instr.{Instr}
use Rattle.a64_code.specs.declared.instr.Reg.{Reg}
use Rattle.a64_code.specs.State.{State}
use Rattle.a64_laws.specs.Forms.{stack_pointer}
use Rattle.a64_laws.specs.Runs.{Runs}
use Rattle.block_meaning.specs.declared.value.Pointer.{Pointer}
use Rattle.block_meaning.specs.Blocks.{pointer}
use Rattle.block_meaning.specs.Locals.{latest}
use Rattle.block_meaning.specs.Meaning.{open_bytes}
use Rattle.block_meaning.specs.Running.{Function, Call, Context, State as MeaningState}
use Rattle.code_relation.specs.Calls.{stack_end, lowest, frame_of}
use Rattle.code_relation.specs.Follows.{Code, IsIn}
use Rattle.code_relation.specs.Injects.{Injects}
use Rattle.code_relation.specs.Items.{IsAt, PutsPointer, PutsAddress}
use Rattle.code_relation.specs.Numbers.{number_at, IsNumber}
use Rattle.code_relation.specs.Sites.{Given, Site, site, units_of, site_of_local, site_of_slot, site_by, slot_in}
use Rattle.code_relation.specs.Stands.{AreCalls, IsInScope}
use Rattle.frame_layout.specs.declared.frame.Slot.{Slot}
use Rattle.frame_layout.specs.WellFormed.{is_tagged_slot}
use Rattle.tag_plan.specs.Effects.{Puts}
use Rattle.tag_plan.specs.Laws.Slots.{Offset, offset_placed}
use Rattle.tag_plan.specs.Lists.{offset_from, address_by, slot_address_list}
use Rattle.unit_follows.specs.Laws.Standing.{Standing, Comes-Runs, AreQuiet}

-- ---- a list that puts a number into a register, in any number of steps

some_steps : (instrs : List Instr) (n : ℕ) (s t : State) → Runs instrs n s t → 1 ≤ length instrs → 1 ≤ n
some_steps instrs zero s t runs some = absurd (omega (arith, some, runs.pc, ap (λ u. u.pc) (same s t runs)))
  where
    same : (s t : State) → Runs instrs zero s t → s ≡ t
    same s t runs = runs.steps
some_steps instrs (suc n) s t runs some = omega arith

pub PutsPointer-runs : {c : Code} {from n number : ℕ} {r : Reg} {now : MeaningState} {s t : State} {p : Pointer} (instrs : List Instr) →
    Standing c from instrs → AreQuiet instrs → IsAt c from s → Runs instrs n s t → Puts r number s t → 1 ≤ length instrs → n ≤ 3 →
    IsNumber c.given now p number → PutsPointer c (from + 4 * length instrs) r p now s
PutsPointer-runs {n = n} {number = number} {s = s} {t = t} instrs stands quiet is_at runs puts some few is =
    let comes = Comes-Runs stands quiet is_at runs in
    record {
      steps = n;
      least = some_steps instrs n s t runs some;
      most = few;
      state = t;
      led = comes.led;
      pc = comes.is_at.pc;
      number = number;
      number_is = is;
      puts = puts;
    }

-- ---- bytes on from SP

pub offset-quiet : (rn : Reg) (n : ℕ) (rd : Reg) → AreQuiet (offset_from rn n rd)
offset-quiet rn n rd = elim (cases_lt n 4096) [
  | inl few ↦ rw (lt-ltb n 4096 few) (λ u a. refl, tt)
  | inr many ↦ rw (le-ltb n 4096 many) (λ u a. refl, (λ u a. refl, tt))
]

pub offset-some : (rn : Reg) (n : ℕ) (rd : Reg) → 1 ≤ length (offset_from rn n rd)
offset-some rn n rd = elim (cases_lt n 4096) [
  | inl few ↦ rw (lt-ltb n 4096 few) (omega arith)
  | inr many ↦ rw (le-ltb n 4096 many) (omega arith)
]

-- ---- where a local of the innermost call lies

latest_call : (cs : List Call) (c : Call) → latest cs ≡ Some c → (rest : List Call) × (cs ≡ c ∷ rest)
latest_call [] c is = absurd (cc)
latest_call (d ∷ ds) c is = (ds, ap (λ x. x ∷ ds) (let e : d ≡ c = cc in e))

-- the innermost call, in states that are related
pub record Innermost (g : Given) (here : Context) (now : MeaningState) (s : State) (c : Call) : Type 0 where
  pub sp : s.sp ≡ lowest c
  pub top : s.sp ≤ stack_end
  pub number : slice_get now.calls c.number ≡ Some c

pub innermost : {g : Given} {here : Context} {now : MeaningState} {s : State} (c : Call) → latest here.open_calls ≡ Some c →
    Injects g here now s → Innermost g here now s c
innermost {g} {here} {now} {s} c is injects =
    let found = latest_call here.open_calls c is in
    let sp : s.sp + open_bytes here.open_calls ≡ stack_end = injects.frames.sp in
    let place : open_bytes here.open_calls ≡ c.place = ap open_bytes found.1 in
    let calls : AreCalls (units_of g) now.calls (c ∷ found.0) = subst (AreCalls (units_of g) now.calls) found.1 injects.stands.calls in
    record { sp = omega (arith, sp, place); top = omega (arith, sp); number = calls.0 }

safe_site : (g : Given) (calls : List Call) (c : Call) (slot : Slot) → is_tagged_slot slot ≡ false →
    site_of_slot g calls c (Some slot) ≡ site (lowest c + slot.start) 0
safe_site g calls c slot safe = rw safe refl

-- the number of a pointer to a local in a safe slot
safe_number : {g : Given} {here : Context} {now : MeaningState} {s : State} (f : Function) (n number : ℕ) (slot : Slot) →
    slice_get (frame_of (units_of g) f).slots n ≡ Some slot → is_tagged_slot slot ≡ false → slot.start < 2 ^ 24 → Injects g here now s →
    IsIn f here → here.local n ≡ Some number → IsNumber g now (pointer number 0) (s.sp + slot.start)
safe_number {g} {here} {now} {s} f n number slot there safe small injects within local =
    let scope : IsInScope now (latest here.open_calls) n number = injects.stands.scope n number local in
    let c : Call = within.0 in
    let of_is : scope.of ≡ c = let e : Some scope.of ≡ Some c = sym scope.call_is ∙ within.1 in cc in
    let inner : Innermost g here now s c = innermost c within.1 injects in
    let call_is : slice_get now.calls scope.of.number ≡ Some c = ap (λ x. slice_get now.calls x.number) of_is ∙ inner.number in
    let slot_is : slot_in g c n ≡ Some slot = ap (λ x. slice_get (frame_of (units_of g) x).slots n) within.2 ∙ there in
    let place : site_by g now.calls scope.block.kind number ≡ site (lowest c + slot.start) 0 =
    ap (λ kind. site_by g now.calls kind number) scope.kind_is ∙ ap (λ o. site_of_local g now.calls o n) call_is
    ∙ ap (λ o. site_of_slot g now.calls c o) slot_is ∙ safe_site g now.calls c slot safe in
    record {
      block = scope.block;
      is = scope.lives.is;
      fits = omega arith;
      number = number_is (s.sp + slot.start) (lowest c + slot.start) (omega (arith, inner.sp)) (omega (arith, inner.top, small))
          ∙ sym (ap (λ (x : Site). number_at x 0) place);
    }
  where
    number_is : (a b : ℕ) → a ≡ b → a < 2 ^ 64 → a ≡ number_at (site b 0) 0
    number_is a b same fits = omega (arith, same, fits)

-- ---- the item

abbrev pub quiet_address : Slot → Reg → Type 0
quiet_address slot r = AreQuiet (slot_address_list slot r)

pub safe_slot_put : {c : Code} (f : Function) (from n : ℕ) (r : Reg) (slot : Slot) → Standing c from (slot_address_list slot r) →
    slice_get (frame_of (units_of c.given) f).slots n ≡ Some slot → is_tagged_slot slot ≡ false → slot.start < 2 ^ 24 → r.0 < 31 →
    PutsAddress c f from (from + 4 * length (slot_address_list slot r)) r (λ here. here.local n)
safe_slot_put {c} f from n r slot stands there safe start small = record {
  puts = λ here now s number injects within pc local.
      subst (λ is. PutsPointer c (from + 4 * length is) r (pointer number 0) now s) (sym list_is)
      (put here now s number injects within pc local);
}
  where
    list_is : slot_address_list slot r ≡ offset_from stack_pointer slot.start r
    list_is = ap (λ b. address_by b slot r) safe

    put : (here : Context) (now : MeaningState) (s : State) (number : ℕ) → Injects c.given here now s → IsIn f here → s.pc ≡ from →
        here.local n ≡ Some number →
        PutsPointer c (from + 4 * length (offset_from stack_pointer slot.start r)) r (pointer number 0) now s
    put here now s number injects within pc local =
        let c0 : Call = within.0 in
        let inner : Innermost c.given here now s c0 = innermost c0 within.1 injects in
        let offset : Offset slot.start r s =
        offset_placed slot.start r s small start (omega (arith, inner.top, start)) (omega (arith, pc, stands.below)) in
        PutsPointer-runs (offset_from stack_pointer slot.start r) (subst (λ is. Standing c from is) list_is stands)
        (offset-quiet stack_pointer slot.start r)
        (record { pc = pc; as_loaded = injects.as_loaded; in_range = injects.in_range }) offset.runs
        (record { is = offset.placed.is; tags = offset.placed.tags; registers = offset.placed.registers; same = offset.placed.same })
        (offset-some stack_pointer slot.start r) (omega (arith, offset.few))
        (safe_number f n number slot there safe start injects within local)
