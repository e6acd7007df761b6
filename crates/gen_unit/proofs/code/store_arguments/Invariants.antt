use Rattle.std.proofs.Common.{◌≡◌, ◌++◌, drop, length}
use Rattle.gen_unit.specs.Functions.{store_arguments}
use Rattle.gen_unit.proofs.code.store_arguments.Given as goal

-- with those that are left these are all
abbrev pub invariant-loop-param : goal.invariant-loop-param
invariant-loop-param l = record {
  number : l.number ≡ l.param-index;
  code :
      l.code.items.items ++ store_arguments l.frame l.number (drop l.param-index l.params) (length l.code.items.items)
      ≡ l.initial.code.items.items ++ store_arguments l.frame 0 l.params (length l.initial.code.items.items);
}
