use Rattle.std.proofs.Common.{◌∙◌, ap, map}
use Rattle.c_types.specs.Tables.{with_name}
use Rattle.unit_object.proofs.NameLaws.{added_is}
use Rattle.unit_object.proofs.names.NameTable.add.Goals as goal

pub returns : goal.returns
returns c =
    ap (map (λ k. k.items)) c.in_ok-insert.ensures.keys ∙ added_is c.self.inside.names.keys (λ k. k.items) c.in_ok-name.name
    ∙ ap (λ ns. with_name ns c.in_ok-name.name.items) c.self.view_is ∙ ap (with_name c.args.self.now) c.in_ok-name.ensures.items
