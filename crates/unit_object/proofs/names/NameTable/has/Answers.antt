use Rattle.std.proofs.Common.{◌∙◌, ap}
use Rattle.std.specs.List.{list_any}
use Rattle.std.specs.Str.{bytes_eq}
use Rattle.unit_object.proofs.NameLaws.{any-map}
use Rattle.unit_object.proofs.names.NameTable.has.Goals as goal

pub returns : goal.returns
returns c =
    c.contains.ensures ∙ any-map c.self.inside.names.keys (λ k. k.items) c.args.name.now
    ∙ ap (list_any (bytes_eq c.args.name.now)) c.self.view_is
