use Rattle.std.proofs.Common.{◌≡◌, ◌<◌, length, take, refl, take_all, arith}
use Rattle.elf_base.specs.Laying.{put}
use Rattle.elf_obj.specs.Laying.{put_next}
use Rattle.elf_obj.proofs.Steps.{numbered-at}
use Rattle.elf_obj.proofs.put.push_tags.Goals as goal

pub put_tag-requires : goal.put_tag-requires
put_tag-requires c =
    let within : c.loop-tag.tag-index < length c.args.tagged.now = omega arith in
    numbered-at c.args.tagged.now c.loop-tag.tag-index 0 c.requires within

pub returns : goal.returns
unfolding put put_next
returns c =
    let all : take c.loop-tag.tag-index c.args.tagged.now ≡ c.args.tagged.now = take_all _ _ c.loop-tag-test.false in
    rw (c.loop-tag.invariant, all, c.in_ok-pad_to.ensures, c.next_place-place.ensures, c.deref.ensures.value) refl
