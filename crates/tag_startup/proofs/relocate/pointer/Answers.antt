use Rattle.std.proofs.Common.{◌≡◌, ◌+◌, ◌∙◌, ap, refl, w64}
use Rattle.std.specs.Int.{from_le_bytes}
use Rattle.mt_base.specs.Memory.{load}
use Rattle.tag_mem.specs.Laws.Bytes.{load_of_8}
use Rattle.tag_startup.specs.Memory.{before}
use Rattle.tag_startup.specs.Parts.{load_address}
use Rattle.tag_startup.proofs.Storing.{tagged_pointer, untagged_pointer, is_false}
use Rattle.tag_startup.proofs.relocate.pointer.Goals as goal

pub returns-in-Some : goal.returns-in-Some
returns-in-Some g c =
    let memory = before g.M.TagMemory c.args.memory.now in
    let r = c.args.reloc.now in
    let content : c.from_le_bytes.result ≡ load 8 memory.byte (load_address + r.place) =
    c.from_le_bytes.ensures ∙ ap (from_le_bytes w64) (c.read.ensures.done (c.read.ensures.answer ∙ c.requires.read))
    ∙ load_of_8 memory.byte (load_address + r.place) in
    tagged_pointer memory r c.target-target.result c.from_le_bytes.result c.from.result c.target-target.ensures content
    (c.in-Some.ensures.there.0 refl) (c.from.ensures ∙ c.value.ensures.value ∙ c.in-Some.ensures.value)

pub returns-in-None : goal.returns-in-None
returns-in-None g c =
    let memory = before g.M.TagMemory c.args.memory.now in
    let r = c.args.reloc.now in
    let content : c.from_le_bytes.result ≡ load 8 memory.byte (load_address + r.place) =
    c.from_le_bytes.ensures ∙ ap (from_le_bytes w64) (c.read.ensures.done (c.read.ensures.answer ∙ c.requires.read))
    ∙ load_of_8 memory.byte (load_address + r.place) in
    untagged_pointer memory r c.target-target.result c.from_le_bytes.result c.target-target.ensures content
    (is_false _ c.in-None.ensures.there.1)
