-- The steps of the exit of a function without tagged slots, and an entry that meets the guard (this project's own).
use Rattle.std.specs.Prelude.{◌≡◌, ◌≢◌, ℕ, suc, ◌+◌, ◌*◌, ◌%◌, ◌^◌, ◌<◌, ◌≤◌, true, false, List, [], ◌∷◌, ◌++◌, length, refl}
use Rattle.std.specs.List.{list_any}
use Rattle.std.proofs.Common.{arith, ap, ◌∙◌, length-append}
use Rattle.std.proofs.lemmas.Bool.{ne_eqb}
use Rattle.mt_base.specs.Laws.Memory.{some_byte_from}
use Rattle.mt_base.specs.Memory.{load, is_in_span}
use Rattle.mt_base.specs.Pointers.{address_of}
use Rattle.mt_base.specs.Extension.{sign_extend}
use Rattle.a64_code.specs.Access.{pair}
use Rattle.a64_code.specs.declared.end.MachineEnd.TheVariants.{StackFault}
use Rattle.a64_code.specs.declared.instr.Instr.{Instr}
use Rattle.a64_code.specs.declared.instr.Instr.TheVariants.{Stp, Ldp, Ret}
use Rattle.a64_code.specs.declared.instr.Reg.{Reg}
use Rattle.a64_code.specs.Effect.{effect}
use Rattle.a64_code.specs.State.{State}
use Rattle.a64_code.specs.Stepped.{Ends}
use Rattle.a64_laws.specs.Forms.{stack_pointer, puts_registers, puts_pc}
use Rattle.a64_laws.specs.Frames.{frame_pointer, link_register, HasPair}
use Rattle.a64_laws.specs.Laws.Branches.{returned}
use Rattle.a64_laws.specs.Laws.Effects.Accesses.{access_end-guard}
use Rattle.a64_laws.specs.Laws.Effects.Open.{IsReadable}
use Rattle.a64_laws.specs.Laws.Pairs.{pair_on, pair_loaded}
use Rattle.a64_laws.specs.Laws.Runs.{Runs-cons}
use Rattle.a64_laws.specs.Runs.{Runs}
use Rattle.code_runs.specs.Within.{StepsWithin}
use Rattle.code_runs.specs.Laws.Within.{StepsWithin-add}
use Rattle.code_relation.specs.Follows.{Code}
use Rattle.code_relation.specs.Items.{IsAt, HasInstr}
use Rattle.frame_layout.specs.declared.frame.Frame.{Frame}
use Rattle.frame_layout.specs.WellFormed.{is_tagged_slot}
use Rattle.gen_unit.specs.Functions.{exit}
use Rattle.tag_plan.specs.Lists.{offset_from}
use Rattle.unit_follows.specs.Laws.EntrySteps.{Raised, raised, raise_quiet, exit-safe}
use Rattle.unit_follows.specs.Laws.Jumps.{StepsWithin-instr}
use Rattle.unit_follows.specs.Laws.Leaving.{IsLeft}
use Rattle.unit_follows.specs.Laws.Standing.{Standing, Standing-as, Standing-front, Standing-back, HasInstr-first, Comes, Comes-Runs}
use Rattle.unit_follows.specs.Laws.Standing.{AreQuiet}

-- ---- a pair that meets the guard

pub pair_guarded : (rt2 rt : Reg) (s : State) → s.sp % 8 ≡ 0 → s.sp < 2 ^ 56 → is_in_span s.guard s.sp ≡ true →
    effect (Stp 0 rt2 stack_pointer rt) s ≡ Ends StackFault
pair_guarded rt2 rt s aligned below guarded =
    let pointer = (s.sp + 8 * sign_extend 7 64 0) % 2 ^ 64 in
    let same : address_of pointer ≡ s.sp = rw (pair_on 0 (omega arith)) (omega (arith, below)) in
    rw (access_end-guard s (pair pointer true false) (omega (arith, same, aligned))
    (some_byte_from (is_in_span s.guard) (address_of pointer) 16 0 (omega arith)
    (ap (is_in_span s.guard) (let e : address_of pointer + 0 ≡ s.sp = omega (arith, same) in e) ∙ guarded))) refl

-- ---- the exit

-- the frame that is left
pub record IsAtExit (f : Frame) (first second : ℕ) (t : State) : Type 0 where
  pub safe : list_any is_tagged_slot f.slots ≡ false
  pub small : f.bytes < 2 ^ 24
  pub below : t.sp + f.bytes < 2 ^ 56
  pub aligned : t.sp % 8 ≡ 0
  pub readable : IsReadable t t.sp 16
  pub pair : HasPair t.byte t.sp first second

pub record ExitDone (c : Code) (f : Frame) (first second : ℕ) (t : State) : Type 0 where
  pub to : State
  pub steps : ℕ
  pub least : 3 ≤ steps
  pub most : steps ≤ 4
  pub led : StepsWithin c.Inside steps t to
  pub pc : to.pc ≡ second
  pub left : IsLeft f.bytes t to
  pub others : (r : ℕ) → r ≢ 29 → r ≢ 30 → to.register r ≡ t.register r
  pub outside : to.outside ≡ t.outside

-- X29 and X30 are loaded
record Reloaded (first second : ℕ) (t v : State) : Type 0 where
  link : v.register 30 ≡ second
  others : (r : ℕ) → r ≢ 29 → r ≢ 30 → v.register r ≡ t.register r
  sp : v.sp ≡ t.sp
  byte : v.byte ≡ t.byte
  tag : v.tag ≡ t.tag
  regions : v.regions ≡ t.regions
  guard : v.guard ≡ t.guard
  choices : v.choices ≡ t.choices
  drawn : v.drawn ≡ t.drawn
  outside : v.outside ≡ t.outside
  pc : v.pc ≡ (t.pc + 4) % 2 ^ 64

abbrev reload : State → State
reload t = puts_registers frame_pointer (load 8 t.byte t.sp) link_register (load 8 t.byte (t.sp + 8)) t

reloaded : (first second : ℕ) (t : State) → HasPair t.byte t.sp first second → Reloaded first second t (reload t)
unfolding puts_registers
reloaded first second t has = record {
  link = has.has_second;
  others = λ r other other_too. rw (ne_eqb r 30 other_too, ne_eqb r 29 other) refl;
  sp = refl;
  byte = refl;
  tag = refl;
  regions = refl;
  guard = refl;
  choices = refl;
  drawn = refl;
  outside = refl;
  pc = refl;
}

-- back to the address in X30
record Returned (u w : State) : Type 0 where
  pc : w.pc ≡ u.register 30
  register : w.register ≡ u.register
  sp : w.sp ≡ u.sp
  byte : w.byte ≡ u.byte
  tag : w.tag ≡ u.tag
  regions : w.regions ≡ u.regions
  guard : w.guard ≡ u.guard
  choices : w.choices ≡ u.choices
  drawn : w.drawn ≡ u.drawn
  outside : w.outside ≡ u.outside

returns : (u : State) → Returned u (puts_pc (u.register 30) u)
unfolding puts_pc
returns u = record {
  pc = refl;
  register = refl;
  sp = refl;
  byte = refl;
  tag = refl;
  regions = refl;
  guard = refl;
  choices = refl;
  drawn = refl;
  outside = refl;
}

pub exit_done : {c : Code} {at : ℕ} {t : State} (f : Frame) (first second : ℕ) → Standing c at (exit f) → IsAt c at t →
    IsAtExit f first second t → ExitDone c f first second t
exit_done {c} {at} {t} f first second leaves is_at is = record {
  to = w;
  steps = suc up.steps + 1;
  least = omega (arith, up.some);
  most = omega (arith, up.few);
  led = StepsWithin-add comes.led (StepsWithin-instr Ret has comes.is_at (returned up.to));
  pc = back.pc ∙ ap (λ register. register 30) up.same.register ∙ loads.link;
  left = record {
    sp = omega (arith, back.sp, up.sp, loads.sp);
    base = ap (λ register. register 28) back.register ∙ ap (λ register. register 28) up.same.register
        ∙ loads.others 28 (λ same. omega (arith, same)) (λ same. omega (arith, same));
    byte = back.byte ∙ up.same.byte ∙ loads.byte;
    tag = back.tag ∙ up.same.tag ∙ loads.tag;
    regions = back.regions ∙ up.same.regions ∙ loads.regions;
    guard = back.guard ∙ up.same.guard ∙ loads.guard;
    choices = back.choices ∙ up.same.choices ∙ loads.choices;
    drawn = back.drawn ∙ up.same.drawn ∙ loads.drawn;
  };
  others = λ r other other_too. ap (λ register. register r) back.register ∙ ap (λ register. register r) up.same.register
      ∙ loads.others r other other_too;
  outside = back.outside ∙ up.same.outside ∙ loads.outside;
}
  where
    load_up : List Instr
    load_up = Ldp 0 link_register stack_pointer frame_pointer ∷ offset_from stack_pointer f.bytes stack_pointer

    stands : Standing c at (load_up ++ Ret ∷ [])
    stands = Standing-as (exit-safe f is.safe) leaves

    fits : t.pc + 4 * length load_up + 4 < 2 ^ 56
    fits = omega (arith, is_at.pc, stands.below, length-append load_up (Ret ∷ []))

    v : State
    v = reload t

    loads : Reloaded first second t v
    loads = reloaded first second t is.pair

    up : Raised f.bytes v
    up = raised f.bytes v is.small (omega (arith, loads.sp, is.below)) (omega (arith, loads.pc, fits))

    runs : Runs load_up (suc up.steps) t up.to
    runs = Runs-cons (pair_loaded 0 t.sp link_register frame_pointer t (omega arith) (omega arith) (omega arith) (omega arith) is.aligned
        (omega (arith, is.below)) is.readable) loads.pc (omega (arith, fits)) up.runs

    quiet : AreQuiet load_up
    quiet = (λ u a. refl, raise_quiet f.bytes)

    comes : Comes c (at + 4 * length load_up) (suc up.steps) t up.to
    comes = Comes-Runs (Standing-front load_up (Ret ∷ []) stands) quiet is_at runs

    has : HasInstr c (at + 4 * length load_up) Ret
    has = HasInstr-first (Standing-back load_up (Ret ∷ []) stands)

    w : State
    w = puts_pc (up.to.register 30) up.to

    back : Returned up.to w
    back = returns up.to
