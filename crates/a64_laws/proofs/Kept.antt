-- Examples: what single instructions put and keep, told by laws of the closed words. No state is opened.
use Rattle.std.specs.Prelude.{◌≡◌, ◌≢◌, ℕ, ◌+◌, ◌*◌, ◌%◌, ◌^◌, ◌<◌, true, false, None, [], ◌∷◌, refl}
use Rattle.std.proofs.Common.{arith, ap, sym, ◌∙◌}
use Rattle.mt_base.specs.Granules.{granule_of}
use Rattle.mt_base.specs.Laws.Memory.{store_tag_same}
use Rattle.mt_base.specs.Memory.{is_between, load, store}
use Rattle.mt_base.specs.Pointers.{address_of, tag_of, with_tag}
use Rattle.mt_base.specs.Extension.{sign_extend}
use Rattle.mt_base.specs.Tags.{base}
use Rattle.a64_alu.specs.Adding.{subtract_with_flags}
use Rattle.a64_code.specs.declared.instr.Instr.TheVariants.{Ldp, AddImm, SubsImm, Svc, Irg, Stg, Stzg, Bl, Ret, Str, Nop}
use Rattle.a64_code.specs.declared.instr.Reg.{Reg}
use Rattle.a64_code.specs.Outside.{next_number, after_next}
use Rattle.a64_code.specs.State.{State, general_or_sp, tagged}
use Rattle.a64_code.specs.Stepped.{Leads}
use Rattle.a64_code.specs.Effect.{effect}
use Rattle.a64_code.specs.TagInstructions.{next_choice}
use Rattle.a64_code.specs.Laws.Reach.{nothing, register, registers}
use Rattle.a64_laws.specs.Branches.{Linked, Forward}
use Rattle.a64_laws.specs.Forms.{StoreWhole, stack_pointer, zero_register, x0, next, puts_register, puts_registers, puts_sp, puts_flags}
use Rattle.a64_laws.specs.Forms.{puts_bytes, puts_tags, puts_pc, puts_link, with_tags, with_outside, draws_choice}
use Rattle.a64_laws.specs.Frames.{link_register}
use Rattle.a64_laws.specs.Runs.{Runs}
use Rattle.a64_laws.specs.Laws.Branches.{jump-taken, returned}
use Rattle.a64_laws.specs.Laws.Comparing.{compared_number}
use Rattle.a64_laws.specs.Laws.Effects.Leaves.{Keeps}
use Rattle.a64_laws.specs.Laws.Effects.Open.{IsReadable, IsOpen}
use Rattle.a64_laws.specs.Laws.Effects.Stores.{store_outside, tagged_outside}
use Rattle.a64_laws.specs.Laws.Extending.{passed_over}
use Rattle.a64_laws.specs.Laws.Fields.{GoesOn, next-keeps, puts_register-keeps, puts_registers-keeps, puts_sp-keeps}
use Rattle.a64_laws.specs.Laws.Fields.{puts_flags-keeps, puts_bytes-keeps, puts_tags-keeps, puts_pc-keeps, puts_link-keeps}
use Rattle.a64_laws.specs.Laws.Fields.{with_tags-keeps, with_outside-keeps, draws_choice-keeps, puts_register-value}
use Rattle.a64_laws.specs.Laws.Fields.{puts_registers-first, puts_registers-second}
use Rattle.a64_laws.specs.Laws.Fields.{puts_sp-value, puts_flags-value, puts_bytes-value, puts_tags-value, puts_pc-value, puts_link-value}
use Rattle.a64_laws.specs.Laws.Fields.{puts_link-link, with_tags-value, with_outside-value}
use Rattle.a64_laws.specs.Laws.Pairs.{pair_loaded}
use Rattle.a64_laws.specs.Laws.Results.{sp_raised}
use Rattle.a64_laws.specs.Laws.Runs.{Runs-two}
use Rattle.a64_laws.specs.Laws.Services.{byte_taken}
use Rattle.a64_laws.specs.Laws.Stores.{store_at_sp}
use Rattle.a64_laws.specs.Laws.Tags.{base_inserted, tag_stored, granule_cleared}

-- a call two words on, and the return at once: PC is behind the call, and all but X30 is as it was
record Back (s t u : State) : Type 0 where
  there : t.pc ≡ s.pc + 8
  back : u.pc ≡ s.pc + 4
  x19 : u.register 19 ≡ s.register 19
  sp : u.sp ≡ s.sp

called : (s : State) → s.pc + 8 < 2 ^ 64 →
    (t : State) × (u : State) × (effect (Bl 2) s ≡ Leads t) × (effect Ret t ≡ Leads u) × Back s t u
called s pc = (
  t,
  u,
  jump-taken Linked (Forward 2) s (omega (arith, pc)) (omega arith, omega (arith, pc)) refl,
  returned t,
  record {
    there = puts_link-value (s.pc + 8) s;
    back = puts_pc-value (t.register 30) t ∙ puts_link-link (s.pc + 8) s ∙ omega (arith, pc);
    x19 = (puts_pc-keeps (t.register 30) t).registers 19 refl ∙ link.registers 19 refl;
    sp = (puts_pc-keeps (t.register 30) t).sp refl ∙ link.sp refl;
  },
)
  where
    t : State
    t = puts_link (s.pc + 8) s

    u : State
    u = puts_pc (t.register 30) t

    link : Keeps (register false link_register) s t
    link = puts_link-keeps (s.pc + 8) s

-- a pair at SP goes into two registers that are variables, and SP is raised over it
record Taken (first second : Reg) (s t : State) : Type 0 where
  has_first : t.register first.0 ≡ load 8 s.byte s.sp
  has_second : t.register second.0 ≡ load 8 s.byte (s.sp + 8)
  sp : t.sp ≡ s.sp + 16

pair_taken : (first second : Reg) (s : State) → first.0 < 31 → second.0 < 31 → first.0 ≢ second.0 → s.sp % 16 ≡ 0 → s.sp < 2 ^ 48 →
    IsReadable s s.sp 16 → s.pc + 8 < 2 ^ 64 →
    (t : State) × Runs (Ldp 0 second stack_pointer first ∷ AddImm true 0 16 stack_pointer stack_pointer ∷ []) 2 s t
    × Taken first second s t
pair_taken first second s small small_too apart aligned below memory pc = (
  u,
  Runs-two (pair_loaded 0 s.sp second first s small small_too (omega arith) (omega arith) (omega (arith, aligned)) (omega (arith, below))
      memory) one.pc (sp_raised 0 16 16 t refl (omega (arith, below, same))) two.pc pc,
  record {
    has_first = two.keeps.registers first.0 refl
        ∙ puts_registers-first first (load 8 s.byte s.sp) second (load 8 s.byte (s.sp + 8)) s apart;
    has_second = two.keeps.registers second.0 refl
        ∙ puts_registers-second first (load 8 s.byte s.sp) second (load 8 s.byte (s.sp + 8)) s;
    sp = puts_sp-value (t.sp + 16) t ∙ ap (λ (sp : ℕ). sp + 16) same;
  },
)
  where
    t : State
    t = puts_registers first (load 8 s.byte s.sp) second (load 8 s.byte (s.sp + 8)) s

    u : State
    u = puts_sp (t.sp + 16) t

    one : GoesOn (registers false first false second) s t
    one = puts_registers-keeps first (load 8 s.byte s.sp) second (load 8 s.byte (s.sp + 8)) s

    two : GoesOn (record nothing { sp = true }) t u
    two = puts_sp-keeps (t.sp + 16) t

    same : t.sp ≡ s.sp
    same = one.keeps.sp refl

-- a comparison puts the flags alone
compared : (rn : Reg) (s : State) → rn.0 < 31 →
    (t : State) × (effect (SubsImm true 0 7 rn zero_register) s ≡ Leads t) × (t.flags ≡ (subtract_with_flags 64 (s.register rn.0) 7).1)
    × (t.register rn.0 ≡ s.register rn.0)
compared rn s small = (
  puts_flags (subtract_with_flags 64 (s.register rn.0) 7).1 s,
  compared_number true 7 rn s small,
  puts_flags-value (subtract_with_flags 64 (s.register rn.0) 7).1 s,
  (puts_flags-keeps (subtract_with_flags 64 (s.register rn.0) 7).1 s).keeps.registers rn.0 refl,
)

-- a byte of the input: the outside goes on, and SP is kept
taken : (s : State) → s.outside.next_failure ≡ None →
    (t : State) × (effect (Svc 2) s ≡ Leads t) × (t.outside ≡ after_next s.outside) × (t.sp ≡ s.sp)
taken s whole = (
  puts_register x0 (next_number s.outside.answers) t,
  byte_taken s whole,
  put.keeps.outside refl ∙ with_outside-value (after_next s.outside) s,
  put.keeps.sp refl ∙ (with_outside-keeps (after_next s.outside) s).sp refl,
)
  where
    t : State
    t = with_outside (after_next s.outside) s

    put : GoesOn (register false x0) t (puts_register x0 (next_number s.outside.answers) t)
    put = puts_register-keeps x0 (next_number s.outside.answers) t

-- a tag that is drawn goes into a register, and memory keeps its tags
drawn : (rd : Reg) (granule : ℕ) (s : State) → rd.0 < 31 →
    (t : State) × (effect (Irg zero_register stack_pointer rd) s ≡ Leads t) × (t.register rd.0 ≡ with_tag s.sp (base (next_choice s)))
    × (t.tag granule ≡ s.tag granule)
drawn rd granule s small = (
  puts_register rd (with_tag s.sp (base (next_choice s))) (draws_choice s),
  base_inserted stack_pointer rd s small,
  puts_register-value rd (with_tag s.sp (base (next_choice s))) (draws_choice s),
  (puts_register-keeps rd (with_tag s.sp (base (next_choice s))) (draws_choice s)).keeps.tags granule refl
      ∙ (draws_choice-keeps s).tags granule refl,
)

-- nothing is done, and PC goes on
nothing_done : (s : State) → (t : State) × (effect Nop s ≡ Leads t) × (t.pc ≡ (s.pc + 4) % 2 ^ 64) × (t.register 19 ≡ s.register 19)
nothing_done s = (next s, passed_over s, (next-keeps s).pc, (next-keeps s).keeps.registers 19 refl)

-- X0 is stored at SP: its bytes stand there, a byte outside is kept, and so is SP
stored : (a : ℕ) (s : State) → s.sp < 2 ^ 48 → s.sp % 16 ≡ 0 → IsOpen s s.sp 8 → is_between s.sp 8 a ≡ false →
    (t : State) × (effect (Str true 0 stack_pointer x0) s ≡ Leads t) × (t.byte ≡ store 8 s.byte s.sp (s.register 0))
    × (t.byte a ≡ s.byte a) × (t.sp ≡ s.sp)
stored a s below aligned memory outside = (
  puts_bytes (store 8 s.byte s.sp (s.register 0)) s,
  store_at_sp StoreWhole 0 s.sp x0 s (omega arith) (omega (arith, below)) (omega (arith, aligned)) memory,
  puts_bytes-value (store 8 s.byte s.sp (s.register 0)) s,
  kept.keeps.bytes a outside,
  kept.keeps.sp refl,
)
  where
    kept : GoesOn (record nothing { bytes = is_between s.sp 8 }) s (puts_bytes (store 8 s.byte s.sp (s.register 0)) s)
    kept = puts_bytes-keeps (record nothing { bytes = is_between s.sp 8 }) (store 8 s.byte s.sp (s.register 0)) s
        (λ at free. store_outside 8 s.byte s.sp (s.register 0) at free)

-- a granule gets a tag by STG: another one keeps its own, and so does each byte
retagged : (rn rt : Reg) (at granule a : ℕ) (s : State) → address_of ((general_or_sp s rn + 16 * sign_extend 9 64 0) % 2 ^ 64) ≡ at →
    at % 16 ≡ 0 → IsOpen s at 16 → is_between (granule_of at) 1 granule ≡ false →
    (t : State) × (effect (Stg 0 rn rt) s ≡ Leads t) × (t.tag ≡ tagged 1 s.tag at (tag_of (general_or_sp s rt)))
    × (t.tag granule ≡ s.tag granule) × (t.byte a ≡ s.byte a)
retagged rn rt at granule a s place aligned memory outside = (
  puts_tags tags s,
  tag_stored 0 at rn rt s place aligned memory,
  puts_tags-value tags s,
  kept.keeps.tags granule outside,
  kept.keeps.bytes a refl,
)
  where
    tags : ℕ → ℕ
    tags = tagged 1 s.tag at (tag_of (general_or_sp s rt))

    kept : GoesOn (record nothing { tags = is_between (granule_of at) 1 }) s (puts_tags tags s)
    kept = puts_tags-keeps (record nothing { tags = is_between (granule_of at) 1 }) tags s
        (λ g free. tagged_outside 1 s.tag at (tag_of (general_or_sp s rt)) g free)

-- by STZG it is cleared, too, and other granules keep their tags
cleared : (rn rt : Reg) (at granule : ℕ) (s : State) → address_of ((general_or_sp s rn + 16 * sign_extend 9 64 0) % 2 ^ 64) ≡ at →
    at % 16 ≡ 0 → IsOpen s at 16 → is_between (granule_of at) 1 granule ≡ false →
    (t : State) × (effect (Stzg 0 rn rt) s ≡ Leads t) × (t.tag (granule_of at) ≡ tag_of (general_or_sp s rt))
    × (t.tag granule ≡ s.tag granule)
cleared rn rt at granule s place aligned memory outside = (
  puts_bytes (store 16 s.byte at 0) t,
  granule_cleared 0 at rn rt s place aligned memory,
  put.keeps.tags (granule_of at) refl ∙ ap (λ (f : ℕ → ℕ). f (granule_of at)) (with_tags-value tags s)
      ∙ store_tag_same s.tag at (tag_of (general_or_sp s rt)) (granule_of at) refl,
  put.keeps.tags granule refl ∙ kept.tags granule outside,
)
  where
    tags : ℕ → ℕ
    tags = tagged 1 s.tag at (tag_of (general_or_sp s rt))

    t : State
    t = with_tags tags s

    kept : Keeps (record nothing { tags = is_between (granule_of at) 1 }) s t
    kept = with_tags-keeps (record nothing { tags = is_between (granule_of at) 1 }) tags s
        (λ g free. tagged_outside 1 s.tag at (tag_of (general_or_sp s rt)) g free)

    put : GoesOn (record nothing { bytes = is_between at 16 }) t (puts_bytes (store 16 s.byte at 0) t)
    put = puts_bytes-keeps (record nothing { bytes = is_between at 16 }) (store 16 s.byte at 0) t
        (λ a free. store_outside 16 s.byte at 0 a free ∙ sym (kept.bytes a refl))
