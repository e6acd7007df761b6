use Rattle.std.proofs.Common.{take, ◌+◌, ℕ, List, Option}
use Rattle.block_meaning.specs.Linkage.{Definition, defined_from, defined_in, or_definition}
use Rattle.mean_start.proofs.Naming.{knows_as, defined_more}
use Rattle.mean_start.proofs.Starting.{start_at}
use Rattle.mean_start.proofs.names.names_of.Goals as goal

pub loop-unit-preserved : goal.loop-unit-preserved
loop-unit-preserved c =
    let units = c.args.units.now in
    let i = c.loop-unit.unit in
    let u = c.index-units-unit.result in
    let within = c.loop-unit-test.true in
    let before : List ℕ → Option Definition = λ name. defined_from name 0 (take i units) in
    knows_as c.add_file.new.names units (λ name. or_definition (before name) (defined_in name i u))
    (λ name. defined_from name 0 (take (i + 1) units)) (λ name. defined_more units i u name within c.index-units-unit.is)
    (c.in_ok-add_file.ensures units before (start_at c.args.starts.now units c.requires i within) c.loop-unit.invariant)
