use Rattle.std.proofs.Common.{sym, ◌∙◌}
use Rattle.mean_memory.proofs.owner.is_latest_of.Goals as goal

pub returns-in-Some : goal.returns-in-Some
returns-in-Some c = λ of_call. record {
  slot = c.in-Some.slot.now;
  is = sym c.in-Some.ensures.value;
  of_call = sym c.is_of_call.ensures ∙ of_call;
}
