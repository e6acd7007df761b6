-- The tags that the objects of an image have at its start (this project's own, after the Memtag ABI's start-up).
use Rattle.std.specs.Prelude.{ℕ, ◌+◌, ◌*◌, Bool, if◌then◌else◌, List, [], ◌∷◌, slice_index}
use Rattle.mt_base.specs.Memory.{is_between}
use Rattle.mt_base.specs.Tags.{next_tag, base, zero_excluded}
use Rattle.memtag_desc.specs.declared.interval.Interval.{Interval}
use Rattle.tag_startup.specs.Parts.{load_address}

-- the tag of the object behind one with this tag
abbrev pub tag_after : ℕ → ℕ
tag_after tag = next_tag tag 1 zero_excluded

-- the object of an interval has the granule with this number in memory
abbrev pub has_granule : Interval → ℕ → Bool
has_granule interval granule = is_between (load_address + interval.start) interval.bytes (granule * 16)

-- the tags of granules where the objects have their tags in order, the first of them this one; all other granules have the tag 0
abbrev pub tags_from : ℕ → List Interval → ℕ → ℕ
tags_from tag [] granule = 0
tags_from tag (i ∷ intervals) granule = if has_granule i granule then tag else tags_from (tag_after tag) intervals granule

-- the tags at the start: the first object has the base tag of the first choice
unfoldable pub loaded_tag : List Interval → List ℕ → ℕ → ℕ
loaded_tag intervals choices = tags_from (base (slice_index choices 0)) intervals

-- how many choices are drawn for them: one, where there is an object
abbrev pub choices_drawn : List Interval → ℕ
choices_drawn [] = 0
choices_drawn (_ ∷ _) = 1
