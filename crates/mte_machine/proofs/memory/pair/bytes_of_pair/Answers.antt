use Rattle.std.proofs.Common.{◌≡◌, ◌∙◌, refl, sym}
use Rattle.mt_base.specs.Memory.{bytes_of}
use Rattle.tag_mem.specs.Laws.Bytes.{bytes_of_8}
use Rattle.mte_machine.proofs.memory.pair.bytes_of_pair.Goals as goal

pub returns : goal.returns
unfolding bytes_of
returns c =
    let first : c.copy_from_slice.new.self ≡ bytes_of 8 c.args.first =
    c.copy_from_slice.ensures.after ∙ c.to_le_bytes.ensures ∙ sym (bytes_of_8 c.args.first) in
    let second : c.copy_from_slice-2.new.self ≡ bytes_of 8 c.args.second =
    c.copy_from_slice-2.ensures.after ∙ c.to_le_bytes-2.ensures ∙ sym (bytes_of_8 c.args.second) in
    rw (first, second) refl
