use Rattle.std.proofs.Common.{◌≡◌, take, refl, take_all}
use Rattle.elf_image.specs.Pieces.{entries_bytes}
use Rattle.elf_image.proofs.put.push_entries.Goals as goal

pub returns : goal.returns
unfolding entries_bytes
returns c =
    let all : take c.loop-entry.entry-index c.args.entries.now ≡ c.args.entries.now = take_all _ _ c.loop-entry-test.false in
    rw (c.loop-entry.invariant, all) refl
