-- Where the items of a function stand, in words from its start (this project's own).
use Rattle.std.specs.Prelude.{ℕ, ◌+◌, ◌^◌, nat_eq, nat_le, Bool, true, false, List, [], ◌∷◌, ◌++◌, if◌then◌else◌}
use Rattle.frame_layout.specs.declared.frame.Frame.{Frame}
use Rattle.sym_code.specs.declared.item.SymItem.{SymItem}
use Rattle.sym_code.specs.declared.item.SymItem.TheVariants as item
use Rattle.gen_unit.specs.Words.{Word, Targets, Form, item_words, item_length}

-- where what comes behind some items stands
abbrev pub end_of : Form → ℕ → List SymItem → ℕ
end_of f at [] = at
end_of f at (i ∷ is) = end_of f (at + item_length f i) is

-- where a label stands among items, or what comes behind them
abbrev pub is_label : ℕ → SymItem → Bool
is_label n (item.Label m) = nat_eq m n
is_label n _ = false

abbrev pub label_in : Form → ℕ → List SymItem → ℕ → ℕ
label_in f at [] n = at
label_in f at (i ∷ is) n = if is_label n i then at else label_in f (at + item_length f i) is n

-- the words of items, one behind the other
abbrev pub words_in : Form → Targets → ℕ → List SymItem → List Word
words_in f ts at [] = []
words_in f ts at (i ∷ is) = item_words f ts at i ++ words_in f ts (at + item_length f i) is

-- the frame, and whether the items become too many words for a branch on a register
abbrev pub form_of : Frame → ℕ → List SymItem → Form
form_of frame at is = record {
  frame = frame;
  long = nat_le (2 ^ 18) (end_of (record { frame = frame; long = true }) at is);
}
