use Rattle.c_types.proofs.NameLaws.{names_made}
use Rattle.c_types.proofs.names.names_by.Goals as goal

pub returns : goal.returns
returns c =
    names_made c.args.mentions.now c.args.includes _ _ _ _ _ c.in_ok-objects.ensures c.in_ok-bodies.ensures c.in_ok-globals.ensures
    c.in_ok-functions.ensures c.in_ok-externs.ensures
