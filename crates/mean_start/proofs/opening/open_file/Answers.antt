use Rattle.std.proofs.Common.{sym, subst, ℕ, ◌++◌}
use Rattle.std.proofs.lemmas.Result.{on_ok_weaker}
use Rattle.block_meaning.specs.Opening.{objects_from, texts_from}
use Rattle.mean_start.specs.Files.{IsFile}
use Rattle.mean_start.proofs.Blocks.{file_opened}
use Rattle.mean_start.proofs.opening.open_file.Goals as goal

pub returns : goal.returns
returns c = on_ok_weaker c.open_functions.result (λ opened program blocks is holds.
    let k : ℕ = c.in_ok-unit.unit in
    let u = c.args.file.now.typed.now in
    let here = subst (λ j. IsFile c.args.file.now program j) (sym c.in_ok-unit.ensures) is in
    let objects = blocks ++ objects_from program.units k u.structs 0 u.globals in
    file_opened c.open_functions.new.memory program.units k c.args.unit u blocks c.in_ok-unit.ensures
    (opened (objects ++ texts_from k 0 u.texts)
    (c.in_ok-open_texts.ensures objects (c.in_ok-open_objects.ensures program blocks here holds)))) c.open_functions.ensures
