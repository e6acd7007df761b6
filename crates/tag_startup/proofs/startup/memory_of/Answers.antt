use Rattle.std.proofs.Common.{◌≡◌, ℕ, ◌+◌, ◌++◌, List, [], length, true, refl, sym, subst, ap, ◌∙◌, arith}
use Rattle.elf_image.specs.Image.{Image, image_of}
use Rattle.elf_image.specs.LoadedBytes.{read_only_bytes, code_bytes, writable_bytes}
use Rattle.elf_image.specs.Places.{code_place, dynamic_place}
use Rattle.mt_base.specs.Memory.{Extent, every_byte, is_mapped, store_bytes}
use Rattle.tag_mem.specs.Regions.{IsWellPlaced}
use Rattle.tag_pages.specs.Parts.{extents}
use Rattle.tag_startup.specs.Parts.{load_address, loaded_guard, loaded_regions}
use Rattle.tag_startup.specs.Laws.Placed.{AreInOrder, in_order, well_placed}
use Rattle.tag_startup.proofs.Loads.{first_mapped, second_mapped, third_mapped, parts_shown}
use Rattle.tag_startup.proofs.startup.memory_of.Goals as goal

pub zeros-requires : goal.zeros-requires
zeros-requires c =
    subst (λ guard. IsWellPlaced (extents c.in_ok-regions.regions.items) guard) (sym c.guard_of.ensures)
    (subst (λ regions. IsWellPlaced regions (loaded_guard c.args.stack)) (sym c.in_ok-regions.ensures)
    (well_placed (image_of c.args.image.now) c.args.stack c.requires.valid c.requires.stack))

-- all bytes of some list have a region
has_room : (regions other : List Extent) (start place : ℕ) (bytes items : List ℕ) → regions ≡ other → place ≡ start → items ≡ bytes →
    every_byte (is_mapped other) start (length bytes) ≡ true → every_byte (is_mapped regions) place (length items) ≡ true
has_room regions other start place bytes items same at is room =
    ap (λ rs. every_byte (is_mapped rs) place (length items)) same
    ∙ ap (λ n. every_byte (is_mapped other) n (length items)) at
    ∙ ap (λ (xs : List ℕ). every_byte (is_mapped other) start (length xs)) is
    ∙ room

pub load-requires : goal.load-requires
load-requires c =
    let image : Image = image_of c.args.image.now in
    has_room (extents c.in_ok-memory.memory.regions.items) (loaded_regions image c.args.stack) load_address load_address
    (read_only_bytes image) c.deref.result.now (c.in_ok-memory.ensures.regions ∙ c.in_ok-regions.ensures) refl
    (c.deref.ensures.value ∙ c.in_ok-tables.ensures) (first_mapped image c.args.stack)

pub overflow_add-code_place : goal.overflow_add-code_place
overflow_add-code_place c =
    let order : AreInOrder (image_of c.args.image.now) = in_order (image_of c.args.image.now) c.requires.valid in
    omega (arith, c.code_place.ensures, order.code_within, order.dynamic_from, order.end)

-- what was put after no bytes
all_put : (now items before bytes : List ℕ) → now ≡ items → items ≡ before ++ bytes → before ≡ [] → now ≡ bytes
all_put now items before bytes is put none = is ∙ put ∙ ap (λ (l : List ℕ). l ++ bytes) none

pub load-requires-2 : goal.load-requires-2
load-requires-2 c =
    let image : Image = image_of c.args.image.now in
    has_room (extents c.load.new.self.regions.items) (loaded_regions image c.args.stack) (load_address + code_place image)
    (load_address + c.code_place.result) (code_bytes image) c.deref-2.result.now
    (c.load.ensures.regions ∙ c.in_ok-memory.ensures.regions ∙ c.in_ok-regions.ensures) (ap (λ n. load_address + n) c.code_place.ensures)
    (all_put _ _ _ _ c.deref-2.ensures.value c.in_ok-push_code.ensures c.new-words.ensures.items) (second_mapped image c.args.stack)

pub overflow_add-dynamic_place : goal.overflow_add-dynamic_place
overflow_add-dynamic_place c =
    let order : AreInOrder (image_of c.args.image.now) = in_order (image_of c.args.image.now) c.requires.valid in
    omega (arith, c.dynamic_place.ensures, order.end)

pub load-requires-3 : goal.load-requires-3
load-requires-3 c =
    let image : Image = image_of c.args.image.now in
    has_room (extents c.load-2.new.self.regions.items) (loaded_regions image c.args.stack) (load_address + dynamic_place image)
    (load_address + c.dynamic_place.result) (writable_bytes image) c.deref-3.result.now
    (c.load-2.ensures.regions ∙ c.load.ensures.regions ∙ c.in_ok-memory.ensures.regions ∙ c.in_ok-regions.ensures)
    (ap (λ n. load_address + n) c.dynamic_place.ensures)
    (all_put _ _ _ _ c.deref-3.ensures.value c.in_ok-push_writable.ensures c.new-entries.ensures.items)
    (third_mapped image c.args.stack c.requires.valid)

-- one store after another, by other names of what is stored
stored_as : (byte other : ℕ → ℕ) (place start : ℕ) (items bytes : List ℕ) → byte ≡ other → place ≡ start → items ≡ bytes →
    store_bytes byte place items ≡ store_bytes other start bytes
stored_as byte other place start items bytes same at is =
    ap (λ b. store_bytes b place items) same ∙ ap (λ n. store_bytes other n items) at ∙ ap (store_bytes other start) is

pub returns : goal.returns
returns c =
    let image : Image = image_of c.args.image.now in
    record {
      byte = c.load-3.ensures.bytes
          ∙ stored_as _ _ _ (load_address + dynamic_place image) _ (writable_bytes image)
          (c.load-2.ensures.bytes
          ∙ stored_as _ _ _ (load_address + code_place image) _ (code_bytes image)
          (c.load.ensures.bytes ∙ stored_as _ _ _ load_address _ (read_only_bytes image) refl refl
          (c.deref.ensures.value ∙ c.in_ok-tables.ensures))
          (ap (λ n. load_address + n) c.code_place.ensures)
          (all_put _ _ _ _ c.deref-2.ensures.value c.in_ok-push_code.ensures c.new-words.ensures.items))
          (ap (λ n. load_address + n) c.dynamic_place.ensures)
          (all_put _ _ _ _ c.deref-3.ensures.value c.in_ok-push_writable.ensures c.new-entries.ensures.items)
          ∙ parts_shown image c.args.stack _ c.requires.valid c.requires.stack c.in_ok-memory.ensures.bytes;
      tags = λ granule.
          ap (λ f. f granule) (c.load-3.ensures.tags ∙ c.load-2.ensures.tags ∙ c.load.ensures.tags) ∙ c.in_ok-memory.ensures.tags granule;
      regions = c.load-3.ensures.regions ∙ c.load-2.ensures.regions ∙ c.load.ensures.regions ∙ c.in_ok-memory.ensures.regions
          ∙ c.in_ok-regions.ensures;
      guard = c.load-3.ensures.guard ∙ c.load-2.ensures.guard ∙ c.load.ensures.guard ∙ c.in_ok-memory.ensures.guard ∙ c.guard_of.ensures;
    }
