use Rattle.std.proofs.Common.{◌≡◌, take, refl, take_all}
use Rattle.elf_base.specs.Laying.{put}
use Rattle.elf_base.proofs.laying.put_words.Goals as goal

pub returns : goal.returns
unfolding put
returns c =
    let all : take c.loop-word.word-index c.args.words.now ≡ c.args.words.now = take_all _ _ c.loop-word-test.false in
    rw (c.loop-word.invariant, all, c.in_ok-pad_to.ensures) refl
