use Rattle.mt_compile.proofs.code.put.Goals as goal

pub returns : goal.returns
returns c = (c.unwrap.result, (c.encode.ensures.row c.unwrap.result).0 c.unwrap.ensures, c.in_ok-push.ensures.items)
