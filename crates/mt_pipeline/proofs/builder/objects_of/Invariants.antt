use Rattle.std.proofs.Common.{take}
use Rattle.std.specs.Prelude.{map}
use Rattle.mt_pipeline.specs.Built.{AreCompiled, texts_of}
use Rattle.mt_pipeline.proofs.builder.objects_of.Given as goal

-- the texts passed have code
abbrev pub invariant-loop-file : goal.invariant-loop-file
invariant-loop-file l = AreCompiled (texts_of (take l.file l.texts)) (map (λ words. words.items) l.objects.items)
