use Rattle.std.proofs.Common.{replicate}
use Rattle.elf_obj.specs.Records.{symbols_bytes}
use Rattle.elf_obj.specs.Laws.Whole.{put_more}
use Rattle.elf_obj.proofs.write.push_symbols.Goals as goal

pub returns : goal.returns
returns c = rw (c.in_ok-put_symbols.ensures, c.in_ok-push_bytes.ensures)
    (put_more (replicate 24 0) (symbols_bytes 1 c.args.symbols.now) c.args.out.now.items)
