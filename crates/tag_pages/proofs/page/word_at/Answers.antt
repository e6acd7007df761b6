use Rattle.std.proofs.Common.{◌∙◌, get_or}
use Rattle.tag_pages.proofs.Words.{four_bytes}
use Rattle.tag_pages.proofs.page.word_at.Goals as goal

pub returns-clause-value : goal.returns-clause-value
returns-clause-value c = c.from_le_bytes.ensures ∙ four_bytes (λ k. get_or c.args.bytes.now k 0) c.args.place
