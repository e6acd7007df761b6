use Rattle.std.proofs.Common.{rules}
use Rattle.std.proofs.lemmas.List.Sorted.{IsNonDecreasingBy-from_sort_by_key}
use Rattle.linker.specs.declared.spans.Span.{Span}
use Rattle.linker.specs.Known.{objects_of}
use Rattle.linker.proofs.Spanned.{sorted_spans}
use Rattle.linker.proofs.spans.spans_of.Goals as goal

pub returns-clause-spans : goal.returns-clause-spans
returns-clause-spans c =
    sorted_spans (objects_of c.args.objects.now) c.in_ok-spans.spans.items c.sort_unstable_by_key.new.self.items c.requires.valid
    c.in_ok-spans.ensures.spans c.sort_unstable_by_key.ensures.permutation
    (IsNonDecreasingBy-from_sort_by_key (λ (s : Span). s.start) _ c.sort_unstable_by_key.ensures.sorted (λ a r q k. search rules))
