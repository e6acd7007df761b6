use Rattle.std.proofs.Common.{◌≡◌, take, refl, take_all}
use Rattle.elf_base.specs.Laying.{put}
use Rattle.elf_image.proofs.put.put_relocs.Goals as goal

pub returns : goal.returns
unfolding put
returns c =
    let all : take c.loop-reloc.reloc-index c.args.relocs.now ≡ c.args.relocs.now = take_all _ _ c.loop-reloc-test.false in
    rw (c.loop-reloc.invariant, all, c.in_ok-pad_to.ensures) refl
