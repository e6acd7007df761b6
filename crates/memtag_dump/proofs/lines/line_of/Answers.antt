use Rattle.std.proofs.Common.{◌≡◌, ◌++◌, append_assoc}
use Rattle.std.specs.Prelude.{codes, decimal, false, IfOk}
use Rattle.std.specs.Fmt.{digits}
use Rattle.std.specs.String.{string_bytes}
use Rattle.memtag_dump.specs.Lines.{global_line}
use Rattle.memtag_dump.proofs.Clauses.{spelled}
use Rattle.memtag_dump.proofs.lines.line_of.Goals as goal

pub returns : goal.returns
returns c =
    let made : IfOk c.format.result (λ s. string_bytes s
    ≡ codes "global 0x" ++ (digits 16 false c.args.interval.now.start ++ (codes " " ++ (decimal c.args.interval.now.bytes ++ codes "\n"))))
    = rw c.in_radix.ensures at c.format.ensures.ok in
    spelled c.format.result
    (codes "global 0x" ++ (digits 16 false c.args.interval.now.start ++ (codes " " ++ (decimal c.args.interval.now.bytes ++ codes "\n"))))
    (global_line c.args.interval.now) made (simp append_assoc)
