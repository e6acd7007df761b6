use Rattle.std.proofs.Common.{◌≡◌, ℕ, ◌+◌, ◌++◌, List, ◌∷◌, drop, get_or, sym, ap, ◌∙◌, append_assoc}
use Rattle.elf_obj.specs.declared.parts.ObjectParts.{ObjectParts}
use Rattle.elf_obj.specs.Object.{Object, object_of}
use Rattle.linker.specs.declared.spans.Span.{Span}
use Rattle.linker.specs.Known.{objects_of}
use Rattle.linker.specs.Spans.{object_spans, init_at, zero_at, spans_from}
use Rattle.linker.proofs.Binding.{objects_left}
use Rattle.linker.proofs.spans.all_spans.Goals as goal

pub loop-object-preserved : goal.loop-object-preserved
loop-object-preserved c =
    let ps : List ObjectParts = c.args.objects.now in
    let os : List Object = objects_of ps in
    let k : ℕ = c.loop-object.object in
    let p : ObjectParts = c.index-objects-object.result in
    let left : drop k os ≡ object_of p ∷ drop (k + 1) os = objects_left ps k p c.loop-object-test.true c.index-objects-object.is in
    let old : List Span = c.loop-object.spans.items in
    let init : c.start_of-init.result ≡ init_at os k =
    c.start_of-init.ensures.start
    ∙ (λ i. get_or ((c.deref.ensures.value ∙ c.requires.starts.init) i) k 0) in
    let zero_start = c.start_of.ensures.start
    ∙ (λ i. get_or ((c.deref-in-loop-object.ensures.value ∙ c.requires.starts.zero) i) k 0) in
    let zeros : c.args.filled + c.start_of.result ≡ zero_at os k = λ i. c.requires.size i + zero_start i in
    let new = c.in_ok-push_spans.ensures.spans ∙ (λ i. old ++ object_spans (init i) (zeros i) (object_of p)) in
    ap (λ (l : List Span). l ++ spans_from os (k + 1) (drop (k + 1) os)) new
    ∙ append_assoc old (object_spans (init_at os k) (zero_at os k) (object_of p)) (spans_from os (k + 1) (drop (k + 1) os))
    ∙ sym (ap (λ (l : List Object). old ++ spans_from os k l) left) ∙ c.loop-object.invariant
