-- The code by which scopes are entered and left (this project's own): their tagged slots get their tags and lose them.
use Rattle.std.specs.Prelude.{ℕ, max, min, Bool, false, List, [], ◌∷◌, Option, Some, None, slice_get, if◌then◌else◌}
use Rattle.std.specs.List.{filter, list_any}
use Rattle.c_type_base.specs.declared.statement.TItem.{TItem, out-TItem}
use Rattle.a64_code.specs.declared.instr.Instr.TheVariants.{Nop}
use Rattle.block_meaning.specs.Statements.{declared_by}
use Rattle.frame_layout.specs.declared.frame.Frame.{Frame}
use Rattle.frame_layout.specs.declared.frame.Slot.{Slot}
use Rattle.frame_layout.specs.WellFormed.{is_tagged_slot}
use Rattle.tag_plan.specs.Lists.{between}
use Rattle.sym_code.specs.declared.item.SymItem.TheVariants as item
use Rattle.gen_base.specs.Code.{Code, nothing, only, plain}
use Rattle.gen_stmt.specs.declared.around.Range.{Range as AroundRange}

-- ---- the locals of scopes

-- the locals from one number to another, which are those of scopes within one another and perhaps of others that are left
abbrev pub Range : Type 0
Range = AroundRange

abbrev pub greatest_of : ℕ → List ℕ → ℕ
greatest_of k [] = k
greatest_of k (j ∷ js) = greatest_of (max k j) js

abbrev pub range : ℕ → List ℕ → Range
range k ks = record { first = k; last = greatest_of k ks }

abbrev pub range_of : List ℕ → Option Range
range_of [] = None
range_of (k ∷ ks) = Some (range k ks)

-- with a scope more inside: a block may declare its first local behind an inner one
abbrev pub widened : Option Range → Range → Range
widened None r = r
widened (Some around) r = record { first = min around.first r.first; last = max around.last r.last }

-- the locals that a part of a block declares, but for those of inner scopes
abbrev pub item_locals : TItem → List ℕ
item_locals i = declared_by (out-TItem i)

-- ---- tagged slots

abbrev pub is_tagged_there : Option Slot → Bool
is_tagged_there None = false
is_tagged_there (Some s) = is_tagged_slot s

abbrev pub tagged_among : Frame → List ℕ → List ℕ
tagged_among f = filter (λ k. is_tagged_there (slice_get f.slots k))

-- ---- entering and leaving

-- the entry of a scope spends a unit of work
abbrev pub enter_slots : List ℕ → Code
enter_slots [] = plain (Nop ∷ [])
enter_slots (k ∷ ks) = only (item.EnterScope (record { 0 = k ∷ ks }))

abbrev pub enter : Frame → List ℕ → Code
enter f ks = enter_slots (tagged_among f ks)

abbrev pub leave_range : Frame → Range → Code
leave_range f r =
    if list_any is_tagged_slot (between f.slots r.first r.last) then only (item.LeaveScope r.first r.last) else nothing

abbrev pub leave : Frame → Option Range → Code
leave f None = nothing
leave f (Some r) = leave_range f r
