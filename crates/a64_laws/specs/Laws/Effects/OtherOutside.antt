-- What the outside does not decide: an instruction that asks nothing of it does the same over any other (this project's own).
use Rattle.std.specs.Prelude.{◌≡◌, ℕ, nat_lt, Bool, true, false, if◌then◌else◌, Option, Some, None, refl}
use Rattle.std.proofs.Common.{ap, ◌∙◌, true≢false}
use Rattle.a64_code.specs.declared.instr.Instr.{Instr}
use Rattle.a64_code.specs.declared.instr.Instr.TheVariants.{Svc}
use Rattle.a64_code.specs.declared.instr.Reg.{Reg}
use Rattle.a64_code.specs.declared.end.MachineEnd.{MachineEnd}
use Rattle.a64_code.specs.Outside.{Outside}
use Rattle.a64_code.specs.State.{State, with_operand, with_flags, with_choice_drawn, with_outside, advanced}
use Rattle.a64_code.specs.Stepped.{Stepped, Leads, Ends, unless}
use Rattle.a64_code.specs.Access.{Access, tag_end, access_end}
use Rattle.a64_code.specs.Shape.{Result, Shape, GoesOn, Puts, PutsWithFlags, PutsAndDraws, Branches, BranchesWithLink, Loads, LoadsPair}
use Rattle.a64_code.specs.Shape.{Stores, StoresPair, StoresTags, Clears, Serves, with_result, done}
use Rattle.a64_code.specs.Effect.{shape, effect}
use Rattle.a64_code.specs.Step.{fetched}
use Rattle.a64_code.specs.Laws.Reach.{reach_of, reach}

-- the state over what becomes of its outside so
abbrev pub over : (Outside → Outside) → State → State
over changed s = with_outside (changed s.outside) s

-- the same of what leads to a state
abbrev pub leads_over : (Outside → Outside) → Stepped → Stepped
leads_over changed (Leads t) = Leads (over changed t)
leads_over changed (Ends end) = Ends end

-- ---- parts

with_operand-over : (changed : Outside → Outside) (takes : Bool) (q : Reg) (value : ℕ) (s : State) →
    with_operand takes q value (over changed s) ≡ over changed (with_operand takes q value s)
with_operand-over changed takes q value s = by_number takes (nat_lt q.0 31) refl
  where
    by_number : (takes small : Bool) → nat_lt q.0 31 ≡ small →
        with_operand takes q value (over changed s) ≡ over changed (with_operand takes q value s)
    by_number true true is = rw is refl
    by_number true false is = rw is refl
    by_number false true is = rw is refl
    by_number false false is = rw is refl

result_over : (changed : Outside → Outside) (r : Result) (s : State) → with_result r (over changed s) ≡ over changed (with_result r s)
result_over changed r s = with_operand-over changed r.takes_sp r.register r.value s

results_over : (changed : Outside → Outside) (first second : Result) (s : State) →
    with_result second (with_result first (over changed s)) ≡ over changed (with_result second (with_result first s))
results_over changed first second s = ap (with_result second) (result_over changed first s)
    ∙ result_over changed second (with_result first s)

either_over : (changed : Outside → Outside) (test : Bool) (one other : State) →
    (if test then Leads (over changed one) else Leads (over changed other)) ≡ leads_over changed (if test then Leads one else Leads other)
either_over changed true one other = refl
either_over changed false one other = refl

access_end-over : (changed : Outside → Outside) (s : State) (a : Access) → access_end (over changed s) a ≡ access_end s a
unfolding access_end tag_end
access_end-over changed s a = refl

unless_over : (changed : Outside → Outside) (end : Option MachineEnd) (next : State) →
    unless end (over changed next) ≡ leads_over changed (unless end next)
unless_over changed None next = refl
unless_over changed (Some end) next = refl

-- what comes where an access does not end the run
access_over : (changed : Outside → Outside) (s : State) (a : Access) (there next : State) → there ≡ over changed next →
    unless (access_end (over changed s) a) there ≡ leads_over changed (unless (access_end s a) next)
access_over changed s a there next is =
    ap (λ (end : Option MachineEnd). unless end there) (access_end-over changed s a) ∙ ap (unless (access_end s a)) is
    ∙ unless_over changed (access_end s a) next

-- ---- shapes

pub done-over : (changed : Outside → Outside) (x : Shape) (s : State) → (reach_of x).asks ≡ false →
    done x (over changed s) ≡ leads_over changed (done x s)
done-over changed GoesOn s silent = refl
done-over changed (Puts r) s silent = ap (λ (t : State). Leads (advanced t)) (result_over changed r s)
done-over changed (PutsWithFlags flags r) s silent = ap (λ (t : State). Leads (advanced t)) (result_over changed r (with_flags flags s))
done-over changed (PutsAndDraws r) s silent = ap (λ (t : State). Leads (advanced t)) (result_over changed r (with_choice_drawn s))
done-over changed (Branches taken address) s silent = either_over changed taken _ _
done-over changed (BranchesWithLink address) s silent = refl
done-over changed (Loads access r) s silent = access_over changed s access _ _ (ap advanced (result_over changed r s))
done-over changed (LoadsPair access first second) s silent =
    access_over changed s access _ _ (ap advanced (results_over changed first second s))
done-over changed (Stores n pointer checked value) s silent = access_over changed s _ _ _ refl
done-over changed (StoresPair pointer checked first second) s silent = access_over changed s _ _ _ refl
done-over changed (StoresTags n pointer tag) s silent = access_over changed s _ _ _ refl
done-over changed (Clears n pointer tag) s silent = access_over changed s _ _ _ refl
done-over changed (Serves number) s silent = absurd (true≢false silent)

-- what an instruction reads is not of the outside
shape-over : (changed : Outside → Outside) (instr : Instr) (s : State) → shape instr (over changed s) ≡ shape instr s
shape-over changed (Svc imm16) s = refl
shape-over changed _ s = refl

pub effect-over : (changed : Outside → Outside) (instr : Instr) (s : State) → (reach instr s).asks ≡ false →
    effect instr (over changed s) ≡ leads_over changed (effect instr s)
effect-over changed instr s silent = ap (λ (x : Shape). done x (over changed s)) (shape-over changed instr s)
    ∙ done-over changed (shape instr s) s silent

-- what is fetched
pub fetched-over : (changed : Outside → Outside) (s : State) → fetched (over changed s) ≡ fetched s
unfolding fetched
fetched-over changed s = refl
