use Rattle.std.proofs.Common.{subst, sym, ap, List, ℕ, [], ◌∷◌}
use Rattle.std.specs.Prelude.{if◌then◌else◌}
use Rattle.mean_link.specs.Laws.NameLaws.{Adds}
use Rattle.mean_link.proofs.Tables.{adds_none}
use Rattle.mean_link.proofs.names.add_where.Goals as goal

pub returns-then-local : goal.returns-then-local
returns-then-local c =
    subst (λ b. Adds c.args.known.now c.args.known.now (if b then [] else c.args.name.now ∷ [])) (sym c.if-local.true)
    (adds_none c.args.known.now)
