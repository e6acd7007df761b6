use Rattle.std.proofs.Common.{◌∙◌, ap, map, sym, subst, List, ℕ, [], ◌∷◌}
use Rattle.mean_link.specs.Laws.NameLaws.{Adds, with_name}
use Rattle.mean_link.proofs.Tables.{added_is, adds_with}
use Rattle.mean_link.proofs.known.Known.add.Goals as goal

pub returns : goal.returns
returns c =
    let is = ap (map (λ k. k.items)) c.in_ok-insert.ensures.keys ∙ added_is c.self.inside.names.keys (λ k. k.items) c.in_ok-name.name
    ∙ ap (λ ns. with_name ns c.in_ok-name.name.items) c.self.view_is ∙ ap (with_name c.args.self.now) c.in_ok-name.ensures.items in
    subst (λ after. Adds c.args.self.now after (c.args.name.now ∷ [])) (sym is) (adds_with c.args.self.now c.args.name.now)
