use Rattle.mt_pipeline.specs.Built.{texts_of}
use Rattle.mt_pipeline.specs.Laws.OneBuild.{no_build}
use Rattle.mt_pipeline.proofs.Taken.{constant_taken, refused_once, with_place}
use Rattle.mt_pipeline.proofs.builder.build.Goals as goal

-- texts that were built are not refused
pub returns-in-Ok-clause-refuses : goal.returns-in-Ok-clause-refuses
returns-in-Ok-clause-refuses c =
    λ refusal place refuses. no_build
    (texts_of c.args.texts.now) c.in-Ok.ensures.built.image refusal place c.in-Ok.ensures.built.builds refuses

-- what was refused has its cause
pub returns-in-Err-clause-refused : goal.returns-in-Err-clause-refused
returns-in-Err-clause-refused c = with_place (texts_of c.args.texts.now) c.in-Err.unbuilt c.in-Err.ensures.refused

pub returns-in-Err-clause-takes : goal.returns-in-Err-clause-takes
returns-in-Err-clause-takes c = λ n returns. constant_taken (texts_of c.args.texts.now) c.in-Err.unbuilt n c.in-Err.ensures.refused returns

pub returns-in-Err-clause-refuses : goal.returns-in-Err-clause-refuses
returns-in-Err-clause-refuses c =
    λ refusal place refuses. refused_once (texts_of c.args.texts.now) c.in-Err.unbuilt refusal place c.in-Err.ensures.refused refuses
