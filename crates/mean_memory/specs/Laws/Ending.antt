-- The blocks of a call that ends, one after another.
use Rattle.std.proofs.Common.{◌≡◌, refl, sym, subst, ap, ◌∙◌, arith, ℕ, zero, suc, ◌-◌, ◌<◌, ◌≤◌, Bool, true, false, List, [], ◌∷◌, ◌++◌}
use Rattle.std.proofs.Common.{length, map, Option, Some, None, inl, inr}
use Rattle.std.proofs.lemmas.Bool.Decides.{eqb_tells}
use Rattle.std.proofs.lemmas.List.{length-append}
use Rattle.std.specs.Prelude.{slice_get, slice_set, IsSome, if◌then◌else◌}
use Rattle.std.specs.Option.{option_to_list}
use Rattle.block_meaning.specs.Access.{is_null_block}
use Rattle.block_meaning.specs.declared.cell.Cell.{Cell}
use Rattle.block_meaning.specs.declared.kind.Kind.{Kind}
use Rattle.block_meaning.specs.declared.kind.Kind.TheVariants.{NullBlock}
use Rattle.block_meaning.specs.Blocks.{Block, ended, changed, with_block}
use Rattle.block_meaning.specs.Meaning.{is_of_call, end_call}
use Rattle.mean_memory.specs.declared.slot.Slot.{Slot}
use Rattle.mean_memory.specs.Laws.Holding.{block_at, holds_pop}
use Rattle.mean_memory.specs.Laws.Owning.{not_of_call}
use Rattle.mean_memory.specs.Laws.Places.{none_not_some, some_same, get_new}
use Rattle.mean_memory.specs.Laws.Slots.{with_same, with_other}
use Rattle.mean_memory.specs.Owners.{owner, UpTo}
use Rattle.mean_memory.specs.Shown.{block_in, slot_with, IsDead, IsShown, Holds}

-- ---- the latest

latest_is : (front : List Slot) (s t : Slot) → slice_get (front ++ s ∷ []) (length (front ++ s ∷ []) - 1) ≡ Some t → s ≡ t
latest_is front s t at =
    let all = length-append front (s ∷ []) in
    let place : length (front ++ s ∷ []) - 1 ≡ length front = omega arith in
    some_same (sym (get_new front s) ∙ subst (λ i. slice_get (front ++ s ∷ []) i ≡ Some t) place at)

-- the latest block that is alive ends, where its slot was taken from the others
pub holds_taken : {slots : List Slot} {next : ℕ} {blocks : List Block} (rest : List Slot) (r : Option Slot) (t : Slot) →
    Holds slots next blocks → slots ≡ rest ++ option_to_list r → IsSome r → slice_get slots (length slots - 1) ≡ Some t →
    is_null_block t.kind ≡ false → Holds rest next (with_block t.number ended blocks)
holds_taken rest None t holds is some at no_null = cc
holds_taken {slots = slots} {next = next} {blocks = blocks} rest (Some s) t holds is some at no_null =
    let same : s ≡ t = latest_is rest s t (subst (λ l. slice_get l (length l - 1) ≡ Some t) is at) in
    subst (λ u. Holds rest next (with_block u.number ended blocks)) same
    (holds_pop rest s (subst (λ l. Holds l next blocks) is holds) (subst (λ u. is_null_block u.kind ≡ false) (sym same) no_null))

-- ---- a call that ends

pub no_null_of_call : (kind : Kind) (call : ℕ) → is_of_call call kind ≡ true → is_null_block kind ≡ false
no_null_of_call NullBlock call is = cc
no_null_of_call _ call is = refl

abbrev after_call : ℕ → Block → Block
after_call call b = (if is_of_call call b.kind then ended b else b)

map_set : (f : Block → Block) (blocks : List Block) (n : ℕ) (x y : Block) → slice_get blocks n ≡ Some x → f y ≡ f x →
    map f (slice_set blocks n y) ≡ map f blocks
map_set f [] n x y at same = refl
map_set f (b ∷ bs) zero x y at same = ap (λ c. c ∷ map f bs) (same ∙ ap f (sym (some_same at)))
map_set f (b ∷ bs) (suc n) x y at same = ap (λ l. f b ∷ l) (map_set f bs n x y at same)

ends_once : (call : ℕ) (b : Block) (of_call : Bool) → of_call ≡ true → (if of_call then ended (ended b) else ended b) ≡
    (if of_call then ended b else b)
ends_once call b true is = refl
ends_once call b false is = cc

-- a block of the call that has ended before ends with it likewise
pub ended_before : {slots : List Slot} {next : ℕ} {blocks : List Block} (call i : ℕ) (t : Slot) → Holds slots next blocks →
    slice_get slots i ≡ Some t → is_of_call call t.kind ≡ true →
    end_call call (with_block t.number ended blocks) ≡ end_call call blocks
ended_before {blocks = blocks} call i t holds at of_call =
    let there : slice_get blocks t.number ≡ Some (block_in t) = block_at holds i t at in
    let is : with_block t.number ended blocks ≡ slice_set blocks t.number (ended (block_in t)) =
    ap (λ o. changed ended o t.number blocks) there in
    ap (end_call call) is
    ∙ map_set (after_call call) blocks t.number (block_in t) (ended (block_in t)) there
    (ends_once call (block_in t) (is_of_call call t.kind) of_call)

-- ---- no block of it is alive

map_kept : (f : Block → Block) (blocks : List Block) → ((n : ℕ) (b : Block) → slice_get blocks n ≡ Some b → f b ≡ b) → map f blocks ≡ blocks
map_kept f [] each = refl
map_kept f (b ∷ bs) each = ap (λ c. c ∷ map f bs) (each 0 b refl) ∙ ap (λ l. b ∷ l) (map_kept f bs (λ n c at. each (suc n) c at))

dead_kept : (b : Block) → IsDead b → ended b ≡ b
dead_kept b is =
    ap (λ (cells : List Cell). record b { live = false; cells = cells }) (sym is.no_cells)
    ∙ ap (λ (live : Bool). record b { live = live }) (sym is.dead)

either_kept : (b : Block) (of_call : Bool) → ended b ≡ b → (if of_call then ended b else b) ≡ b
either_kept b true same = same
either_kept b false same = refl

found_most : (slots : List Slot) (n m : ℕ) (s : Slot) → UpTo m slots → slot_with slots n ≡ Some s → owner s.kind ≤ m
found_most [] n m s most at = absurd (none_not_some at)
found_most (x ∷ xs) n m s most at = elim (eqb_tells x.number n) [
  | inl it ↦ subst (λ t. owner t.kind ≤ m) (some_same (sym (with_same x xs n it.1) ∙ at)) most.0
  | inr it ↦ found_most xs n m s most.1 (sym (with_other x xs n it.1) ∙ at)
]

alive_kept : (call : ℕ) (s : Slot) (b : Block) → b ≡ block_in s → owner s.kind ≤ call → after_call call b ≡ b
alive_kept call s b is most = ap (λ (of_call : Bool). if of_call then ended b else b)
    (ap (λ c. is_of_call call c.kind) is ∙ not_of_call s.kind call most)

kept_by : (slots : List Slot) (call n : ℕ) (b : Block) (o : Option Slot) → UpTo call slots → slot_with slots n ≡ o → IsShown o (Some b) →
    after_call call b ≡ b
kept_by slots call n b None most is shown = either_kept b (is_of_call call b.kind) (dead_kept b shown)
kept_by slots call n b (Some s) most is shown = alive_kept call s b shown (found_most slots n call s most is)

-- nothing ends
pub end_call_none : {slots : List Slot} {next : ℕ} {blocks : List Block} (call : ℕ) → Holds slots next blocks → UpTo call slots →
    end_call call blocks ≡ blocks
end_call_none {slots = slots} {blocks = blocks} call holds most = map_kept (after_call call) blocks (λ n b at.
    kept_by slots call n b (slot_with slots n) most refl (subst (IsShown (slot_with slots n)) at (holds.each n)))

pub taken_fewer : (slots rest : List Slot) (r : Option Slot) → slots ≡ rest ++ option_to_list r → IsSome r → length rest < length slots
taken_fewer slots rest None is some = cc
taken_fewer slots rest (Some s) is some =
    let same : length slots ≡ length (rest ++ s ∷ []) = ap length is in
    let all = length-append rest (s ∷ []) in
    omega arith
