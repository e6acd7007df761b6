-- Which ends an instruction can come to: none says by itself that the steps are over, and only a service finds that the
-- outside failed (this project's own).
use Rattle.std.specs.Prelude.{◌≡◌, ◌≢◌, ℕ, ◌+◌, ◌-◌, ◌%◌, ◌==◌, Bool, true, false, not, ◌&&◌, if◌then◌else◌, Option, Some, None, refl}
use Rattle.std.proofs.Common.{subst, true≢false}
use Rattle.mt_base.specs.Granules.{granule_of}
use Rattle.mt_base.specs.Memory.{is_in_span, is_mapped, is_protected, every_byte, some_byte}
use Rattle.mt_base.specs.Pointers.{tag_of, address_of}
use Rattle.a64_code.specs.declared.instr.Instr.{Instr}
use Rattle.a64_code.specs.declared.end.MachineEnd.{MachineEnd}
use Rattle.a64_code.specs.declared.end.MachineEnd.TheVariants.{Exited, TagFault, BadCode, Divide, OutOfSteps, InputFault, OutputFault}
use Rattle.a64_code.specs.State.{State}
use Rattle.a64_code.specs.Stepped.{Stepped, Leads, Ends, unless}
use Rattle.a64_code.specs.Access.{Access, single, pair, tag_store, tag_fault_at, first_fault, tag_end, access_end}
use Rattle.a64_code.specs.Services.{put_service, next_service, service, low_byte}
use Rattle.a64_code.specs.Outside.{fails_now}
use Rattle.a64_code.specs.Shape.{Shape, Branches, Loads, LoadsPair, Stores, StoresPair, StoresTags, Clears, Serves, done}
use Rattle.a64_code.specs.Effect.{shape, effect}
use Rattle.a64_code.specs.Step.{fetched, carried_out, step}
use Rattle.a64_code.specs.Laws.Reach.{reach_of, reach}

-- it has an end of its own, where it ends the run
abbrev pub EndsOfItself : Stepped → Type 0
EndsOfItself (Leads next) = Unit {0}
EndsOfItself (Ends end) = end ≢ OutOfSteps

-- neither are the steps over nor did the outside fail
abbrev pub IsInside : MachineEnd → Type 0
IsInside OutOfSteps = ⊥
IsInside InputFault = ⊥
IsInside OutputFault = ⊥
IsInside _ = Unit {0}

-- the same of what may have no end
abbrev pub IsInsideIfSome : Option MachineEnd → Type 0
IsInsideIfSome None = Unit {0}
IsInsideIfSome (Some end) = IsInside end

abbrev pub EndsInside : Stepped → Type 0
EndsInside (Leads next) = Unit {0}
EndsInside (Ends end) = IsInside end

-- ---- accesses

if_inside : (test : Bool) (end : MachineEnd) (rest : Option MachineEnd) → IsInside end → IsInsideIfSome rest →
    IsInsideIfSome (if test then Some end else rest)
if_inside true end rest inside others = inside
if_inside false end rest inside others = others

first_inside : (first second : Option MachineEnd) → IsInsideIfSome first → IsInsideIfSome second →
    IsInsideIfSome (first_fault first second)
first_inside None second inside others = others
first_inside (Some end) second inside others = inside

tag_inside : (s : State) (pointer granule : ℕ) → IsInsideIfSome (tag_fault_at s pointer granule)
tag_inside s pointer granule = by_tag (tag_of pointer == s.tag granule)
  where
    by_tag : (same : Bool) → IsInsideIfSome (if same then None else Some (TagFault (address_of pointer) (tag_of pointer) (s.tag granule)))
    by_tag true = tt
    by_tag false = tt

tags_inside : (s : State) (pointer start bytes : ℕ) → IsInsideIfSome (tag_end s pointer start bytes)
unfolding tag_end
tags_inside s pointer start bytes =
    first_inside (tag_fault_at s pointer (granule_of start)) (tag_fault_at s pointer (granule_of (start + bytes - 1)))
    (tag_inside s pointer (granule_of start)) (tag_inside s pointer (granule_of (start + bytes - 1)))

access_inside : (s : State) (a : Access) → IsInsideIfSome (access_end s a)
unfolding access_end
access_inside s a =
    if_inside (not (address_of a.pointer % a.unit == 0)) _ _ tt
    (if_inside (some_byte (is_in_span s.guard) a.start a.bytes) _ _ tt
    (if_inside (not (every_byte (is_mapped s.regions) a.start a.bytes)) _ _ tt
    (if_inside (a.writes && some_byte (is_protected s.regions) a.start a.bytes) _ _ tt (by_check a.checked))))
  where
    by_check : (checked : Bool) → IsInsideIfSome (if checked then tag_end s a.pointer a.start a.bytes else None)
    by_check true = tags_inside s a.pointer a.start a.bytes
    by_check false = tt

unless_inside : (s : State) (a : Access) (next : State) → EndsInside (unless (access_end s a) next)
unless_inside s a next = by_end (access_end s a) (access_inside s a)
  where
    by_end : (end : Option MachineEnd) → IsInsideIfSome end → EndsInside (unless end next)
    by_end None inside = tt
    by_end (Some end) inside = inside

-- ---- shapes

either_inside : (test : Bool) (one other : State) → EndsInside (if test then Leads one else Leads other)
either_inside true one other = tt
either_inside false one other = tt

-- what asks nothing of the outside does not find that it failed
done_inside : (x : Shape) (s : State) → (reach_of x).asks ≡ false → EndsInside (done x s)
done_inside (Branches taken address) s silent = either_inside taken _ _
done_inside (Loads access r) s silent = unless_inside s access _
done_inside (LoadsPair access first second) s silent = unless_inside s access _
done_inside (Stores n pointer checked value) s silent = unless_inside s (single n pointer true checked) _
done_inside (StoresPair pointer checked first second) s silent = unless_inside s (pair pointer true checked) _
done_inside (StoresTags n pointer tag) s silent = unless_inside s (tag_store n pointer) _
done_inside (Clears n pointer tag) s silent = unless_inside s (tag_store n pointer) _
done_inside (Serves number) s silent = absurd (true≢false silent)
done_inside _ s silent = tt

pub effect_inside : (instr : Instr) (s : State) → (reach instr s).asks ≡ false → EndsInside (effect instr s)
effect_inside instr s silent = done_inside (shape instr s) s silent

-- ---- steps

inside_own : (end : MachineEnd) → IsInside end → end ≢ OutOfSteps
inside_own end inside is = subst IsInside is inside

stepped_own : (done : Stepped) → EndsInside done → EndsOfItself done
stepped_own (Leads next) inside = tt
stepped_own (Ends end) inside = inside_own end inside

answer_own : (fails : Bool) (end : MachineEnd) (next : State) → end ≢ OutOfSteps → EndsOfItself (if fails then Ends end else Leads next)
answer_own true end next own = own
answer_own false end next own = tt

service_own : (number : ℕ) (s : State) → EndsOfItself (service number s)
service_own number s = by_number (number == 1) (number == 2) (number == 3) (number == 4)
  where
    by_number : (first second third fourth : Bool) →
        EndsOfItself (if first then put_service s else if second then next_service s else if third then Ends
        (Exited (low_byte s)) else if fourth then Ends Divide else Ends (BadCode s.pc))
    by_number true second third fourth =
        answer_own (fails_now s.outside.put_failure) OutputFault _ (λ is. let e : OutputFault ≡ OutOfSteps = is in cc)
    by_number false true third fourth = answer_own (fails_now s.outside.next_failure) InputFault _
        (λ is. let e : InputFault ≡ OutOfSteps = is in cc)
    by_number false false true fourth = λ is. let e : Exited (low_byte s) ≡ OutOfSteps = is in cc
    by_number false false false true = λ is. let e : Divide ≡ OutOfSteps = is in cc
    by_number false false false false = λ is. let e : BadCode s.pc ≡ OutOfSteps = is in cc

done_own : (x : Shape) (s : State) → EndsOfItself (done x s)
done_own (Serves number) s = service_own number s
done_own x s = stepped_own (done x s) (done_inside x s refl)

pub effect_own : (instr : Instr) (s : State) → EndsOfItself (effect instr s)
effect_own instr s = done_own (shape instr s) s

carried_out_own : (instr : Option Instr) (s : State) → EndsOfItself (carried_out instr s)
carried_out_own None s = λ is. let e : BadCode s.pc ≡ OutOfSteps = is in cc
carried_out_own (Some instr) s = effect_own instr s

pub step_own : (s : State) → EndsOfItself (step s)
step_own s = carried_out_own (fetched s) s
