use Rattle.std.proofs.Common.{◌≡◌, ◌<◌, length, take, refl, take_all, arith}
use Rattle.elf_base.specs.Laying.{put}
use Rattle.elf_obj.specs.Laying.{put_next}
use Rattle.elf_obj.proofs.Steps.{counted-at}
use Rattle.elf_obj.proofs.put.push_relocs.Goals as goal

pub put_reloc-requires : goal.put_reloc-requires
put_reloc-requires c =
    let within : c.loop-reloc.reloc-index < length c.args.relocs.now = omega arith in
    counted-at c.args.relocs.now c.loop-reloc.reloc-index _ c.requires within

pub returns : goal.returns
unfolding put put_next
returns c =
    let all : take c.loop-reloc.reloc-index c.args.relocs.now ≡ c.args.relocs.now = take_all _ _ c.loop-reloc-test.false in
    rw (c.loop-reloc.invariant, all, c.in_ok-pad_to.ensures, c.next_place-place.ensures, c.deref.ensures.value) refl
