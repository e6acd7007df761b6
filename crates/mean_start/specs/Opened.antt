-- The blocks of one file before the call of `main`.
use Rattle.std.specs.Prelude.{ℕ, List, ◌++◌}
use Rattle.c_type_base.specs.declared.typed.Typed.{Typed}
use Rattle.block_meaning.specs.Blocks.{Block}
use Rattle.block_meaning.specs.Opening.{objects_from, texts_from, codes_from}

abbrev pub file_blocks : List Typed → ℕ → Typed → List Block
file_blocks units unit u = objects_from units unit u.structs 0 u.globals ++ texts_from unit 0 u.texts ++ codes_from unit 0 u.functions
