-- Items that put the address of an object or a text, where their words stand (this project's own).
use Rattle.std.specs.Prelude.{◌≡◌, ℕ, ◌+◌, ◌-◌, ◌*◌, ◌%◌, ◌<◌, ◌≤◌, false}
use Rattle.std.specs.Prelude.{List, length, Some, refl}
use Rattle.std.proofs.Common.{arith, sym, subst, ◌∙◌}
use Rattle.std.proofs.lemmas.Bool.Decides.{nat_tests}
use Rattle.mt_base.specs.Granules.{granule_of}
use Rattle.mt_base.specs.Laws.Memory.{load_same}
use Rattle.mt_base.specs.Memory.{load, is_between}
use Rattle.a64_code.specs.declared.instr.Instr.{Instr}
use Rattle.a64_code.specs.declared.instr.Reg.{Reg}
use Rattle.a64_code.specs.State.{State}
use Rattle.a64_laws.specs.Constants.{PutsConstant}
use Rattle.a64_laws.specs.Laws.Addresses.{address_put, got_loaded}
use Rattle.a64_laws.specs.Laws.OpenMemory.{IsReadable-kept}
use Rattle.a64_laws.specs.Sequences.{address_instrs, got_instrs, IsPageNear}
use Rattle.block_meaning.specs.declared.value.Pointer.{Pointer}
use Rattle.block_meaning.specs.Blocks.{pointer}
use Rattle.block_meaning.specs.Linkage.{text_block}
use Rattle.block_meaning.specs.Running.{Context, State as MeaningState}
use Rattle.code_relation.specs.Calls.{stack_end}
use Rattle.code_relation.specs.Follows.{Code}
use Rattle.code_relation.specs.Injects.{Injects}
use Rattle.code_relation.specs.Items.{IsAt, PutsPointer}
use Rattle.code_relation.specs.Loaded.{IsLoaded}
use Rattle.code_relation.specs.Numbers.{IsNumber}
use Rattle.code_relation.specs.Sites.{Given, units_of}
use Rattle.code_relation.specs.Tags.{IsAsLoaded}
use Rattle.gen_unit.specs.declared.parts.CodeTarget.{CodeTarget}
use Rattle.gen_unit.specs.Words.{object_words, text_words}
use Rattle.unit_follows.specs.Placing.{Placing, IsInImage, reached_at, text_at}
use Rattle.unit_follows.specs.Placed.{block_of_target}
use Rattle.unit_follows.specs.Laws.FileBlocks.{FileBlock, IsNumber-file}
use Rattle.unit_follows.specs.Laws.PlacedWords.{PlacedWords, IsGot}
use Rattle.unit_follows.specs.Laws.Standing.{Standing, Comes-Runs, AreQuiet}

-- ---- a list that puts a number into a register

-- so much for the item, where the number is that of a pointer
pub PutsPointer-list : {c : Code} {from number : ℕ} {r : Reg} {now : MeaningState} {s : State} {p : Pointer} (instrs : List Instr) →
    Standing c from instrs → AreQuiet instrs → IsAt c from s → PutsConstant r number instrs s → 1 ≤ length instrs → length instrs ≤ 3 →
    IsNumber c.given now p number → PutsPointer c (from + 4 * length instrs) r p now s
PutsPointer-list {number = number} instrs stands quiet is_at puts some few is =
    let comes = Comes-Runs stands quiet is_at puts.runs in
    record {
      steps = length instrs;
      least = some;
      most = few;
      state = puts.to;
      led = comes.led;
      pc = comes.is_at.pc;
      number = number;
      number_is = is;
      puts = record {
        is = puts.holds;
        tags = puts.same.tag;
        registers = puts.registers;
        same = record {
          sp = puts.same.sp;
          flags = puts.same.flags;
          byte = puts.same.byte;
          regions = puts.same.regions;
          guard = puts.same.guard;
          choices = puts.same.choices;
          drawn = puts.same.drawn;
          outside = puts.same.outside;
        };
      };
    }

-- ---- pages

-- two addresses of an image are on pages that are near
pub pages-near : (p : Placing) (from bytes to size : ℕ) → IsInImage p from bytes → IsInImage p to size → IsPageNear from to
pages-near p from bytes to size first second = record {
  on = omega (arith, first.from, second.to);
  back = omega (arith, first.to, second.from);
}

-- ---- words of the table

-- a granule is on the stack as a whole, or not at all
off_stack_within : (stack a k : ℕ) → stack % 1024 ≡ 0 → stack ≤ 67108864 → a % 8 ≡ 0 → k < 8 →
    is_between (stack_end - stack) stack (granule_of a * 16) ≡ false → is_between (stack_end - stack) stack (a + k) ≡ false
off_stack_within stack a k whole most aligned within off = grind (arith, nat_tests)

got_kept : (g : Given) (p : Placing) (unit : ℕ) (t : CodeTarget) (s : State) → IsLoaded g.program g.loaded → IsAsLoaded g s →
    IsGot g p unit t → load 8 s.byte (p.got t) ≡ load 8 g.loaded.byte (p.got t)
got_kept g p unit t s loaded as_loaded got = load_same 8 s.byte g.loaded.byte (p.got t) (λ k within.
    as_loaded.bytes (p.got t + k) (off_stack_within g.program.stack (p.got t) k loaded.stack_size.whole loaded.stack_size.most got.whole
    within got.has.off_stack)
    (got.has.off_objects (p.got t + k) (omega (arith, got.whole, within))))

got_quiet : (pc slot : ℕ) (r : Reg) → AreQuiet (got_instrs pc slot r)
got_quiet pc slot r = (λ u a. refl, (λ u a. refl, tt))

-- the pointer to an object that the table has
pub object_put : {c : Code} {p : Placing} {unit : ℕ} {from number : ℕ} {r : Reg} {now : MeaningState} {here : Context} {s : State}
    (t : CodeTarget) → PlacedWords c p unit from (object_words t r) → reached_at c.given p unit t ≡ p.got t → r.0 < 31 →
    FileBlock c.given number → block_of_target c.given unit t ≡ Some number → Injects c.given here now s → s.pc ≡ from →
    PutsPointer c (from + 8) r (pointer number 0) now s
object_put {c} {p} {unit} {from} {number} {r} {now} {here} {s} t placed reached small file named injects pc =
    PutsPointer-list (got_instrs from (p.got t) r) stands (got_quiet from (p.got t) r) is_at puts (omega arith) (omega arith)
    (IsNumber-file (load 8 s.byte (p.got t)) file (λ b is. injects.stands.opened number b is)
    (got_kept c.given p unit t s injects.loaded injects.as_loaded got ∙ got.has.number number named))
  where
    got : IsGot c.given p unit t
    got = placed.gots t (record { position = 0; word = _; there = refl; is = refl })

    stands : Standing c from (got_instrs from (p.got t) r)
    stands = subst (λ a. Standing c from (got_instrs from a r)) reached placed.stands

    is_at : IsAt c from s
    is_at = record { pc = pc; as_loaded = injects.as_loaded; in_range = injects.in_range }

    puts : PutsConstant r (load 8 s.byte (p.got t)) (got_instrs from (p.got t) r) s
    puts = subst (λ a. PutsConstant r (load 8 s.byte (p.got t)) (got_instrs a (p.got t) r) s) pc
        (got_loaded (p.got t) r s small (omega (arith, got.image.to, placed.load_below)) got.whole
        (IsReadable-kept (record { regions = injects.as_loaded.regions; guard = injects.as_loaded.guard }) got.has.readable)
        (injects.tags.without_object (granule_of (p.got t)) got.has.off_stack got.has.off_objects)
        (omega (arith, placed.stands.below, pc))
        (subst (λ a. IsPageNear a (p.got t)) (sym pc) (pages-near p from 8 (p.got t) 8 placed.image got.image)))

-- ---- texts

text_quiet : (pc at : ℕ) (r : Reg) → AreQuiet (address_instrs pc at r)
text_quiet pc at r = (λ u a. refl, (λ u a. refl, tt))

pub text_put : {c : Code} {p : Placing} {unit : ℕ} {from : ℕ} {r : Reg} {now : MeaningState} {here : Context} {s : State}
    (n : ℕ) → PlacedWords c p unit from (text_words n r) → r.0 < 31 → FileBlock c.given (text_block (units_of c.given) unit n) →
    (c.given.starts (text_block (units_of c.given) unit n)).tag ≡ 0 → Injects c.given here now s → s.pc ≡ from →
    PutsPointer c (from + 8) r (pointer (text_block (units_of c.given) unit n) 0) now s
text_put {c} {p} {unit} {from} {r} {now} {here} {s} n placed small file untagged injects pc =
    PutsPointer-list (address_instrs from at r) placed.stands (text_quiet from at r) is_at puts (omega arith) (omega arith)
    (IsNumber-file at file (λ b is. injects.stands.opened (text_block (units_of c.given) unit n) b is)
    (omega (arith, untagged, image.to, placed.load_below)))
  where
    at : ℕ
    at = text_at c.given unit n

    image : IsInImage p at 0
    image = placed.texts n (record { position = 0; word = _; there = refl; is = refl })

    is_at : IsAt c from s
    is_at = record { pc = pc; as_loaded = injects.as_loaded; in_range = injects.in_range }

    puts : PutsConstant r at (address_instrs from at r) s
    puts = subst (λ a. PutsConstant r at (address_instrs a at r) s) pc
        (address_put at r s small (omega (arith, image.to, placed.load_below)) (omega (arith, placed.stands.below, pc))
        (subst (λ a. IsPageNear a at) (sym pc) (pages-near p from 8 at 0 placed.image image)))
