use Rattle.std.proofs.Common.{◌∙◌, ap}
use Rattle.c_types.specs.Files.{number_among}
use Rattle.unit_object.proofs.NameLaws.{number_is}
use Rattle.unit_object.proofs.names.NameTable.number.Goals as goal

pub returns : goal.returns
returns c =
    c.get_index_of.ensures.index ∙ number_is c.self.inside.names.keys (λ k. k.items) c.args.name.now
    ∙ ap (λ ns. number_among ns c.args.name.now) c.self.view_is
