use Rattle.std.proofs.Common.{arith}
use Rattle.linker.specs.Laws.PlanLaws.{within}
use Rattle.linker.proofs.plan.Plan.bases.Goals as goal

pub overflow_cast-result : goal.overflow_cast-result
overflow_cast-result c =
    let le = (within c.args.self.now.totals c.args.self.now.count).rodata in
    let is = c.rodata_place.ensures.place in
    let near = c.requires.near in omega arith

pub overflow_cast-result-2 : goal.overflow_cast-result-2
overflow_cast-result-2 c =
    let le = (within c.args.self.now.totals c.args.self.now.count).code in
    let is = c.code_place.ensures.place in
    let near = c.requires.near in omega arith

pub overflow_cast-result-3 : goal.overflow_cast-result-3
overflow_cast-result-3 c =
    let le = (within c.args.self.now.totals c.args.self.now.count).filled in
    let is = c.filled_place.ensures.place in
    let near = c.requires.near in omega arith

pub overflow_cast-result-4 : goal.overflow_cast-result-4
overflow_cast-result-4 c =
    let le = (within c.args.self.now.totals c.args.self.now.count).zeros in
    let is = c.file_end.ensures.place in
    let near = c.requires.near in omega arith
