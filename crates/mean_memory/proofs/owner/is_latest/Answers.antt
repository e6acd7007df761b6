use Rattle.std.proofs.Common.{sym, rules}
use Rattle.mean_memory.proofs.owner.is_latest.Goals as goal

pub returns-then-slot-number : goal.returns-then-slot-number
returns-then-slot-number c = λ local. record {
  slot = c.in-Some.slot.now;
  is = sym c.in-Some.ensures.value;
  named = search rules;
  no_null = c.is_local.ensures local;
}
