use Rattle.std.proofs.Common.{refl, sym, subst}
use Rattle.mean_start.specs.Files.{IsProgram}
use Rattle.mean_program.specs.Answers.{program_of}
use Rattle.mean_program.proofs.Starting.{aim_of, begun_gives, means_so}
use Rattle.mean_program.proofs.whole.mean.Goals as goal

pub returns-clause-means : goal.returns-clause-means
returns-clause-means g c = λ input taken left put o m.
    let program = program_of c.args.units.now c.args.frames.now c.args.stack in
    let begun = c.in-Ok-from_main.begun in
    let files = subst (λ l. IsProgram l program) (sym c.as_slice.ensures.value) (c.in-Ok.ensures program refl refl) in
    means_so m taken c.run.result (g.S.Source.told c.run.new.source) (g.K.Sink.told c.run.new.sink)
    (c.run.ensures.gives (aim_of m taken) (begun_gives m taken begun.process begun.answer (g.S.Source.told c.args.source.now)
    (g.K.Sink.told c.args.sink.now) left put (c.in-Ok-from_main.ensures program input refl files refl)))
