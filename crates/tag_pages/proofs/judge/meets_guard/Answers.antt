use Rattle.tag_pages.proofs.Guard.{meets_before, meets_behind, meets_no_byte, meets_empty}
use Rattle.tag_pages.proofs.judge.meets_guard.Goals as goal

pub returns-then-count-gt0 : goal.returns-then-count-gt0
returns-then-count-gt0 c = meets_before c.args.guard.start c.args.guard.bytes c.args.at c.args.count c.if-at-guard.true c.if-count-gt0.true

pub returns-else-count-gt0 : goal.returns-else-count-gt0
returns-else-count-gt0 c = meets_no_byte c.args.guard.start c.args.guard.bytes c.args.at c.args.count c.if-count-gt0.false

pub returns-then-guard-gt0 : goal.returns-then-guard-gt0
returns-then-guard-gt0 c =
    meets_behind c.args.guard.start c.args.guard.bytes c.args.at c.args.count c.if-at-guard.false c.if-guard-gt0.true

pub returns-else-guard-gt0 : goal.returns-else-guard-gt0
returns-else-guard-gt0 c =
    meets_empty c.args.guard.start c.args.guard.bytes c.args.at c.args.count c.if-guard-gt0.false c.if-at-guard.false
