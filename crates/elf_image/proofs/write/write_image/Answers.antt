use Rattle.std.proofs.Common.{sym}
use Rattle.elf_image.specs.Image.{image_of}
use Rattle.elf_image.specs.Laws.Whole.{is_file}
use Rattle.elf_image.specs.Laws.Loading.{file_is}
use Rattle.elf_image.proofs.write.write_image.Goals as goal

pub returns : goal.returns
returns c = is_file (image_of c.args.parts.now) c.push_writable.new.out.items c.requires (rw (
  c.in_ok-push_writable.ensures,
  c.in_ok-pad_to-2.ensures,
  c.in_ok-push_code.ensures,
  c.in_ok-pad_to.ensures,
  c.in_ok-out.ensures,
  c.code_place.ensures,
  c.dynamic_place.ensures,
)
    (sym (file_is (image_of c.args.parts.now))))
