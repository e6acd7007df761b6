use Rattle.std.proofs.Common.{◌≡◌, ◌++◌, arith}
use Rattle.elf_image.specs.Image.{image_of}
use Rattle.elf_image.specs.LoadedBytes.{code_bytes}
use Rattle.elf_image.specs.Laws.Loading.{put_at_end}
use Rattle.elf_image.proofs.write.push_code.Goals as goal

pub returns : goal.returns
returns c =
    let code = code_bytes (image_of c.args.parts.now) in
    let all : c.put_words.new.out.items ≡ c.args.out.now.items ++ code =
    rw (c.in_ok-put_words.ensures, c.deref.ensures.value) (put_at_end 0 code c.args.out.now.items (omega arith)) in
    all
