use Rattle.tag_pages.proofs.Places.{zero_at}
use Rattle.tag_pages.proofs.page.Page.blank.Goals as goal

pub returns-clause-bytes : goal.returns-clause-bytes
returns-clause-bytes c k = zero_at 4096 k

pub returns-clause-tags : goal.returns-clause-tags
returns-clause-tags c k = zero_at 128 k
