use Rattle.std.proofs.Common.{◌≡◌, ◌++◌, drop}
use Rattle.unit_object.specs.Symbols.{text_symbols}
use Rattle.unit_object.proofs.texts.push_texts.Given as goal

-- the symbols of the texts that are left follow
abbrev pub invariant-loop-text : goal.invariant-loop-text
invariant-loop-text l =
    l.made.items ++ text_symbols l.place (drop l.text-index l.texts) ≡ l.initial.made.items ++ text_symbols 0 l.texts
