use Rattle.std.proofs.Common.{ℕ, ap, ◌∙◌, length, ◌+◌}
use Rattle.std.proofs.lemmas.List.{length_push}
use Rattle.mean_start.specs.declared.starts.Starts.{Starts}
use Rattle.mean_start.specs.Numbers.{IsStart}
use Rattle.mean_start.proofs.Starting.{each_pushed, next_is, start_is}
use Rattle.mean_start.proofs.starts.starts_of.Goals as goal

pub loop-typed-preserved : goal.loop-typed-preserved
loop-typed-preserved c =
    let units = c.args.units.now in
    let i : ℕ = c.loop-typed.typed-index in
    let u = c.typed-item.result in
    let s : Starts = c.in_ok-starts.starts in
    let within = c.loop-typed-test.true in
    let first = c.loop-typed.invariant.next in
    record {
      next = next_is units i u s c.loop-typed.next c.in_ok-next.next within c.typed-item.is first c.in_ok-starts.ensures.functions
          (c.in_ok-next.ensures ∙ ap (λ n. s.functions + n) c.len.ensures);
      count = ap length c.in_ok-push.ensures.items ∙ length_push c.loop-typed.made.items s ∙ ap (λ n. n + 1) c.loop-typed.invariant.count;
      each = each_pushed (λ n t. IsStart t units n) c.loop-typed.made.items c.push.new.self.items i s c.in_ok-push.ensures.items
          c.loop-typed.invariant.count c.loop-typed.invariant.each
          (start_is units i u s c.loop-typed.next within c.typed-item.is first c.in_ok-starts.ensures.objects c.in_ok-starts.ensures.texts
          c.in_ok-starts.ensures.functions);
    }
