use Rattle.std.proofs.Common.{subst}
use Rattle.c_types.specs.Tables.{IsDistinct}
use Rattle.c_types.proofs.NameLaws.{distinct_is}
use Rattle.c_types.proofs.names.NameTable.len.Goals as goal

pub returns-clause-distinct : goal.returns-clause-distinct
returns-clause-distinct c =
    subst IsDistinct c.self.view_is (distinct_is c.self.inside.names.keys (λ k. k.items) c.len.ensures.unique)
