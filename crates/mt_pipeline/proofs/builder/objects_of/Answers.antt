use Rattle.std.proofs.Common.{subst, sym, arith}
use Rattle.mt_pipeline.specs.Built.{texts_of}
use Rattle.mt_pipeline.specs.Unbuilt.{IsCause}
use Rattle.mt_pipeline.proofs.Objects.{compiled_so_far, refused_here}
use Rattle.mt_pipeline.proofs.builder.objects_of.Goals as goal

-- the text that comes now is refused
pub returns-in-Err-clause-refused : goal.returns-in-Err-clause-refused
returns-in-Err-clause-refused c =
    subst (λ u. IsCause (texts_of c.args.texts.now) u) (sym c.of_source.ensures)
    (refused_here
    (λ words. words.items) c.args.texts.now c.loop-file.file c.index-texts-file.result c.loop-file.objects.items c.in-Err.refused
    (omega arith)
    c.index-texts-file.is c.loop-file.invariant c.in-Err.ensures.refused)

-- it has code
pub loop-file-preserved : goal.loop-file-preserved
loop-file-preserved c =
    compiled_so_far
    (λ words. words.items) c.args.texts.now c.loop-file.file c.index-texts-file.result c.loop-file.objects.items
    c.push.new.self.items c.in-Ok.words (omega arith)
    c.index-texts-file.is c.in_ok-push-in-Ok.ensures.items c.loop-file.invariant c.in-Ok.ensures.code
