use Rattle.std.proofs.Common.{refl, sym, ap, ◌+◌}
use Rattle.std.specs.Prelude.{slice_get}
use Rattle.mean_effects.specs.Shown.{block_at}
use Rattle.mean_run.proofs.beginning.before.Goals as goal

pub returns : goal.returns
returns c = λ program input of_files stack memory. record {
  at = record {
    code = record {
      program = of_files;
      stack = stack;
      unit = refl;
      structs = c.first_structs.ensures program of_files;
      runs_in = refl;
    };
    window = record { each = λ k. sym (ap (λ l. block_at (slice_get l (0 + k))) c.new.ensures.items) };
  };
  stack = c.new-2.ensures.items;
  shown = record { memory = memory; work = refl; calls = refl };
}
