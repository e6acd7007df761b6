-- The register with the tagged base, X28, and the base words of frames (this project's own).
use Rattle.std.specs.Prelude.{◌≡◌, ℕ, ◌+◌, true, List, [], ◌∷◌, if◌then◌else◌}
use Rattle.mt_base.specs.Memory.{load}
use Rattle.mt_base.specs.Pointers.{with_tag}
use Rattle.a64_code.specs.State.{State}
use Rattle.block_meaning.specs.Running.{Call, Context, State as MeaningState}
use Rattle.tag_plan.specs.Lists.{tagged_base}
use Rattle.code_relation.specs.Calls.{lowest, has_tagged}
use Rattle.code_relation.specs.Sites.{Given, units_of, base_of}

-- By the open calls, the latest first: the lowest address, with the base tag, of the innermost frame that has tagged slots, or what was
-- loaded.
abbrev pub tagged_base_of : Given → List Call → List Call → ℕ
tagged_base_of g calls [] = g.loaded.register tagged_base.0
tagged_base_of g calls (c ∷ cs) =
    (if has_tagged (units_of g) c.function then with_tag (lowest c) (base_of g calls c) else tagged_base_of g calls cs)

-- the base word of each frame with tagged slots is what that was for the calls that were open before
abbrev pub HaveBaseWords : Given → List Call → State → List Call → Type 0
HaveBaseWords g calls s [] = Unit {0}
HaveBaseWords g calls s (c ∷ cs) =
    (has_tagged (units_of g) c.function ≡ true → load 8 s.byte (lowest c + 16) ≡ tagged_base_of g calls cs) × HaveBaseWords g calls s cs

pub record HasBases (g : Given) (here : Context) (now : MeaningState) (s : State) : Type 0 where
  pub register_is : s.register tagged_base.0 ≡ tagged_base_of g now.calls here.open_calls
  pub words : HaveBaseWords g now.calls s here.open_calls
