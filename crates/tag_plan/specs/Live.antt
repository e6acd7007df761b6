-- The tags of a frame whose locals come and go, as the injection has them (this project's own): the granules of a live tagged slot have
-- its tag, and all other granules of the stack have tag 0, below SP too.
use Rattle.std.specs.Prelude.{◌≡◌, ℕ, ◌+◌, ◌*◌, ◌<◌, ◌≤◌, true, List, [], ◌∷◌}
use Rattle.mt_base.specs.Tags.{slot_tag}
use Rattle.frame_layout.specs.declared.frame.Slot.{Slot}
use Rattle.tag_plan.specs.Effects.{has_granule, NoneHas}

-- each granule of each of some slots, in the frame at SP, has the tag of the choice drawn and the slot's index
abbrev pub HaveTheirs : ℕ → ℕ → List Slot → (ℕ → ℕ) → Type 0
HaveTheirs sp choice [] tags = Unit {0}
HaveTheirs sp choice (s ∷ ss) tags =
    ((granule : ℕ) → has_granule sp s granule ≡ true → tags granule ≡ slot_tag choice s.index) × HaveTheirs sp choice ss tags

-- The stack's granules from a lowest one to the end of the frame at SP, of so many bytes: those of the live tagged slots have their tags,
-- and all others have tag 0.
pub record LiveTags (low sp bytes choice : ℕ) (live : List Slot) (tags : ℕ → ℕ) : Type 0 where
  pub inside : HaveTheirs sp choice live tags
  pub outside : (granule : ℕ) → low ≤ granule → 16 * granule < sp + bytes → NoneHas sp live granule → tags granule ≡ 0

-- no granule of the one slots is one of the others
abbrev pub AreApart : ℕ → List Slot → List Slot → Type 0
AreApart sp [] others = Unit {0}
AreApart sp (s ∷ ss) others = ((granule : ℕ) → has_granule sp s granule ≡ true → NoneHas sp others granule) × AreApart sp ss others
