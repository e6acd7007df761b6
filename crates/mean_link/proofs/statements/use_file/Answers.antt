use Rattle.std.proofs.Common.{map}
use Rattle.mean_link.specs.Uses.{joined, object_uses, function_uses}
use Rattle.mean_link.specs.Laws.UseLaws.{put_two}
use Rattle.mean_link.proofs.statements.use_file.Goals as goal

pub returns : goal.returns
returns c =
    let u = c.args.typed.now in
    put_two c.args.used.now c.use_objects.new.used c.use_functions.new.used
    (joined (map object_uses u.globals)) (joined (map function_uses u.functions))
    (rw c.as_slice.ensures at c.use_objects.ensures) (rw c.as_slice-2.ensures at c.use_functions.ensures)
