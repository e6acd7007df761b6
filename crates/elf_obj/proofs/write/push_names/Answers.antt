use Rattle.std.proofs.Common.{◌∷◌, []}
use Rattle.std.specs.List.{flat_map}
use Rattle.elf_obj.specs.Records.{name_bytes}
use Rattle.elf_obj.specs.Laws.Whole.{put_more}
use Rattle.elf_obj.proofs.write.push_names.Goals as goal

pub returns : goal.returns
returns c = rw (c.in_ok-put_names.ensures, c.in_ok-push_bytes.ensures)
    (put_more (0 ∷ []) (flat_map name_bytes c.args.symbols.now) c.args.out.now.items)
