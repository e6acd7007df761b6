-- What an instruction leaves as it was, by its shape (this project's own).
use Rattle.std.specs.Prelude.{◌≡◌, ℕ, ◌*◌, ◌==◌, Bool, true, false, ◌||◌, refl}
use Rattle.std.proofs.Common.{true≢false, subst}
use Rattle.mt_base.specs.Wrapping.{wrapping_add}
use Rattle.mt_base.specs.Pointers.{address_of}
use Rattle.a64_code.specs.declared.instr.Instr.{Instr}
use Rattle.a64_code.specs.Outside.{Outside}
use Rattle.a64_code.specs.State.{State, with_general, with_outside, with_flags, with_choice_drawn, is_sp, advanced}
use Rattle.a64_code.specs.Stepped.{Stepped, Leads}
use Rattle.a64_code.specs.Access.{single, pair, tag_store, access_end}
use Rattle.a64_code.specs.Services.{service_register, service}
use Rattle.a64_code.specs.Shape.{Result, Shape, GoesOn, Puts, PutsWithFlags, PutsAndDraws, Branches, BranchesWithLink, Loads, LoadsPair}
use Rattle.a64_code.specs.Shape.{Stores, StoresPair, StoresTags, Clears, Serves, link_register, with_result, done}
use Rattle.a64_code.specs.Effect.{shape, effect}
use Rattle.a64_code.specs.Laws.Reach.{Reach, nothing, register, registers, result, branch, bytes, granules, reach_of, reach}
use Rattle.a64_laws.specs.Laws.Effects.Leaves.{Leaves, OnLeads}
use Rattle.a64_laws.specs.Laws.Effects.Kept.{keeps_same, keeps_operand, keeps_flags, keeps_bytes, keeps_tags, keeps_drawn, keeps_outside}
use Rattle.a64_laws.specs.Laws.Effects.Kept.{with_operand-pc, goes_on, goes_off, puts_leaves, unless_leads, service_leads}
use Rattle.a64_laws.specs.Laws.Effects.Stores.{store_outside, store_pair_outside, tagged_outside, allowed_unprotected, allowed_untagged}

-- ---- results

result_leaves : (r : Result) (s : State) → Leaves (result r) s (advanced (with_result r s))
result_leaves r s = puts_leaves r.takes_sp r.register r.value s (record { register = λ n h. h; sp = λ h. h })
    (record { bytes = λ at. refl; tags = λ granule. refl }) refl (keeps_same (result r) s)

two_results_leave : (first second : Result) (s : State) →
    Leaves (registers first.takes_sp first.register second.takes_sp second.register) s
    (advanced (with_result second (with_result first s)))
two_results_leave first second s =
    puts_leaves second.takes_sp second.register second.value (with_result first s)
    (record {
      register = λ n h. (or_false (n == first.register.0) (n == second.register.0) h).1;
      sp = λ h. (or_false (is_sp first.takes_sp first.register) (is_sp second.takes_sp second.register) h).1;
    })
    (record { bytes = λ at. refl; tags = λ granule. refl }) (with_operand-pc first.takes_sp first.register first.value s)
    (keeps_operand first.takes_sp first.register first.value
    (record {
      register = λ n h. (or_false (n == first.register.0) (n == second.register.0) h).0;
      sp = λ h. (or_false (is_sp first.takes_sp first.register) (is_sp second.takes_sp second.register) h).0;
    })
    (keeps_same _ s))
  where
    or_false : (a b : Bool) → (a || b) ≡ false → (a ≡ false) × (b ≡ false)
    or_false true b h = absurd (true≢false h)
    or_false false b h = (refl, h)

-- ---- branches and stores

branches_leave : (taken : Bool) (address : ℕ) (s : State) → OnLeads (done (Branches taken address) s) (Leaves branch s)
branches_leave true address s = goes_off address refl (record { bytes = λ at. refl; tags = λ granule. refl }) (keeps_same branch s)
branches_leave false address s = goes_off _ refl (record { bytes = λ at. refl; tags = λ granule. refl }) (keeps_same branch s)

stores_leave : (n pointer : ℕ) (checked : Bool) (value : ℕ) (s : State) →
    OnLeads (done (Stores n pointer checked value) s) (Leaves (bytes n pointer) s)
stores_leave n pointer checked value s =
    unless_leads (Leaves (bytes n pointer) s) (access_end s (single n pointer true checked)) _
    (λ none. goes_on refl (record { bytes = allowed_unprotected s (single n pointer true checked) none refl; tags = λ at h. refl })
    (keeps_bytes _ (λ at h. store_outside n s.byte (address_of pointer) value at h) (keeps_same (bytes n pointer) s)))

stores_pair_leave : (pointer : ℕ) (checked : Bool) (first second : ℕ) (s : State) →
    OnLeads (done (StoresPair pointer checked first second) s) (Leaves (bytes 16 pointer) s)
stores_pair_leave pointer checked first second s =
    unless_leads (Leaves (bytes 16 pointer) s) (access_end s (pair pointer true checked)) _
    (λ none. goes_on refl (record { bytes = allowed_unprotected s (pair pointer true checked) none refl; tags = λ at h. refl })
    (keeps_bytes _ (λ at h. store_pair_outside s.byte (address_of pointer) first second at h) (keeps_same (bytes 16 pointer) s)))

stores_tags_leave : (n pointer tag : ℕ) (s : State) → OnLeads (done (StoresTags n pointer tag) s) (Leaves (granules n pointer) s)
stores_tags_leave n pointer tag s =
    unless_leads (Leaves (granules n pointer) s) (access_end s (tag_store n pointer)) _
    (λ none. goes_on refl (record { bytes = λ at h. refl; tags = allowed_untagged s n pointer none })
    (keeps_tags _ (λ granule h. tagged_outside n s.tag (address_of pointer) tag granule h) (keeps_same (granules n pointer) s)))

clears_leave : (n pointer tag : ℕ) (s : State) → OnLeads (done (Clears n pointer tag) s) (Leaves (reach_of (Clears n pointer tag)) s)
clears_leave n pointer tag s =
    unless_leads (Leaves (reach_of (Clears n pointer tag)) s) (access_end s (tag_store n pointer)) _
    (λ none. goes_on refl
    (record { bytes = allowed_unprotected s (tag_store n pointer) none refl; tags = allowed_untagged s n pointer none })
    (keeps_bytes _ (λ at h. store_outside (16 * n) s.byte (address_of pointer) 0 at h)
    (keeps_tags _ (λ granule h. tagged_outside n s.tag (address_of pointer) tag granule h)
    (keeps_same (reach_of (Clears n pointer tag)) s))))

-- ---- services

-- the reach of a service
abbrev served : Reach
served = record (register false service_register) { asks = true }

answered_leaves : (value : ℕ) (outside : Outside) (s : State) →
    Leaves served s (advanced (with_general service_register value (with_outside outside s)))
answered_leaves value outside s =
    puts_leaves false service_register value (with_outside outside s) (record { register = λ n h. h; sp = λ h. h })
    (record { bytes = λ at. refl; tags = λ granule. refl }) refl
    (keeps_outside outside refl (keeps_same served s))

service_leaves : (number : ℕ) (s : State) → OnLeads (service number s) (Leaves served s)
service_leaves number s = service_leads (Leaves served s) number s (answered_leaves _ _ s) (answered_leaves _ _ s)

-- ---- all shapes

pub done-leaves : (x : Shape) (s : State) → OnLeads (done x s) (Leaves (reach_of x) s)
done-leaves GoesOn s = goes_on refl (record { bytes = λ at h. refl; tags = λ at h. refl }) (keeps_same nothing s)
done-leaves (Puts r) s = result_leaves r s
done-leaves (PutsWithFlags flags r) s =
    puts_leaves r.takes_sp r.register r.value (with_flags flags s) (record { register = λ n h. h; sp = λ h. h })
    (record { bytes = λ at. refl; tags = λ granule. refl }) refl
    (keeps_flags flags refl (keeps_same (record (result r) { flags = true }) s))
done-leaves (PutsAndDraws r) s =
    puts_leaves r.takes_sp r.register r.value (with_choice_drawn s) (record { register = λ n h. h; sp = λ h. h })
    (record { bytes = λ at. refl; tags = λ granule. refl }) refl
    (keeps_drawn refl (keeps_same (record (result r) { draws = true }) s))
done-leaves (Branches taken address) s = branches_leave taken address s
done-leaves (BranchesWithLink address) s =
    goes_off address refl (record { bytes = λ at. refl; tags = λ granule. refl })
    (keeps_operand false link_register (wrapping_add 64 s.pc 4) (record { register = λ n h. h; sp = λ h. h }) (keeps_same _ s))
done-leaves (Loads access r) s = unless_leads (Leaves (result r) s) (access_end s access) _ (λ none. result_leaves r s)
done-leaves (LoadsPair access first second) s = unless_leads _ (access_end s access) _ (λ none. two_results_leave first second s)
done-leaves (Stores n pointer checked value) s = stores_leave n pointer checked value s
done-leaves (StoresPair pointer checked first second) s = stores_pair_leave pointer checked first second s
done-leaves (StoresTags n pointer tag) s = stores_tags_leave n pointer tag s
done-leaves (Clears n pointer tag) s = clears_leave n pointer tag s
done-leaves (Serves number) s = service_leaves number s

pub effect-leaves : (instr : Instr) (s : State) → OnLeads (effect instr s) (Leaves (reach instr s) s)
effect-leaves instr s = done-leaves (shape instr s) s

-- the same of the state that it is known to lead to
pub effect-led : (instr : Instr) {s t : State} → effect instr s ≡ Leads t → Leaves (reach instr s) s t
effect-led instr {s} {t} leads = subst (λ (led : Stepped). OnLeads led (Leaves (reach instr s) s)) leads (effect-leaves instr s)
