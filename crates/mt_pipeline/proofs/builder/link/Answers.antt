use Rattle.std.proofs.Common.{inr, arith}
use Rattle.mt_pipeline.proofs.Objects.{none_link, too_many_link, two_link}
use Rattle.mt_pipeline.proofs.builder.link.Goals as goal

pub returns-then-len-gt-MOST_OBJECTS-clause-refused : goal.returns-then-len-gt-MOST_OBJECTS-clause-refused
returns-then-len-gt-MOST_OBJECTS-clause-refused c =
    inr (too_many_link (λ words. words.items) c.args.objects.items _ (omega arith) (omega arith))

pub returns-then-len-gt1-clause-refused : goal.returns-then-len-gt1-clause-refused
returns-then-len-gt1-clause-refused c =
    inr (two_link (λ words. words.items) c.args.objects.items c.in_ok-name.name c.in_ok-name.ensures (omega arith) (omega arith))

pub returns-clause-refused : goal.returns-clause-refused
returns-clause-refused c = inr (none_link (λ words. words.items) c.args.objects.items (omega (arith, c.in-None.ensures.cases.0)))
