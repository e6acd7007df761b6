use Rattle.std.proofs.Common.{◌≡◌, ◌+◌, ◌-◌, ◌++◌, map}
use Rattle.sym_code.specs.declared.item.SymItem.TheVariants as item
use Rattle.gen_expr.specs.Laws.ArgumentLaws.{fetches}
use Rattle.gen_expr.proofs.call.fetch_arguments.Given as goal

-- with those that are left these are all
abbrev pub invariant-loop-number : goal.invariant-loop-number
invariant-loop-number l =
    l.code.items.items ++ map item.Plain (fetches (l.temp + l.number) l.number (l.count - l.number))
    ≡ l.initial.code.items.items ++ map item.Plain (fetches l.temp 0 l.count)
