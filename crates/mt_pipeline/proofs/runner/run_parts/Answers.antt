use Rattle.tag_startup.specs.Laws.MachineLaws.{runs_started}
use Rattle.mt_pipeline.proofs.runner.run_parts.Goals as goal

-- the machine goes from the state that it was loaded in
pub returns-in-Ok-clause-runs : goal.returns-in-Ok-clause-runs
returns-in-Ok-clause-runs g c =
    runs_started _ _ _ _ _ _ _ _ _ c.in-Ok.ensures.started.starts c.in-Ok.ensures.started.state c.run.ensures
