use Rattle.std.proofs.Common.{◌∙◌, get_or, arith}
use Rattle.tag_mem.proofs.Words.{four_bytes}
use Rattle.tag_mem.proofs.fetch.word_at.Goals as goal

pub returns-clause-value : goal.returns-clause-value
returns-clause-value c = c.from_le_bytes.ensures ∙ four_bytes (λ k. get_or c.args.bytes.now k 0) c.args.place

pub returns-clause-in_range : goal.returns-clause-in_range
returns-clause-in_range c k = let small = c.type_inv.bytes k in omega arith
