use Rattle.std.proofs.Common.{◌≡◌, ◌-◌, length, sym, ◌∙◌, ap, subst}
use Rattle.std.specs.Prelude.{Ok, Err}
use Rattle.c_parse_base.specs.Reading.Exact.{ended}
use Rattle.c_parse_base.specs.Laws.AnswerLaws.{passed}
use Rattle.c_parse.specs.Reading.Values.{program_of}
use Rattle.c_parse.specs.Reading.Externals.{unit}
use Rattle.c_parse.specs.Parsed.{Parsed, limit}
use Rattle.c_parse.specs.Laws.ParsedLaws.{deep_refused}
use Rattle.c_parse.specs.Laws.WholeCode.{below, refused, taken_of, none_left, some_left, parsed_none, parsed_read, parsed_stop}
use Rattle.c_parse.specs.Laws.WholeCode.{program_read, program_kept, program_none}
use Rattle.c_parse.proofs.whole.parse.Goals as goal

pub returns-then-tokens-eq0-clause-parsed : goal.returns-then-tokens-eq0-clause-parsed
returns-then-tokens-eq0-clause-parsed c =
    subst (λ items. Parsed limit c.args.tokens.now (Ok (program_of items))) (sym c.new.ensures)
    (parsed_none limit c.args.tokens.now (none_left c.args.tokens.now c.if-tokens-eq0.true))

pub returns-then-tokens-eq0-clause-all : goal.returns-then-tokens-eq0-clause-all
returns-then-tokens-eq0-clause-all c = λ program depth spells low.
    ap program_of c.new.ensures ∙ program_none program depth c.args.tokens.now (none_left c.args.tokens.now c.if-tokens-eq0.true) spells

pub returns-in-Ok-clause-parsed : goal.returns-in-Ok-clause-parsed
returns-in-Ok-clause-parsed c =
    subst (λ program. Parsed limit c.args.tokens.now (Ok program)) (sym c.program.ensures)
    (parsed_read below c.args.tokens.now c.all.new.cursor c.in-Ok.read (passed (ended (unit below)) c.new-cursor.ensures c.in-Ok.ensures))

pub returns-in-Ok-clause-all : goal.returns-in-Ok-clause-all
returns-in-Ok-clause-all c = λ program depth spells low.
    c.program.ensures
    ∙ program_read below c.args.tokens.now c.all.new.cursor program depth c.in-Ok.read
    (some_left c.args.tokens.now c.if-tokens-eq0.false) spells low
    (passed (ended (unit below)) c.new-cursor.ensures c.in-Ok.ensures)

pub returns-in-Err-clause-parsed : goal.returns-in-Err-clause-parsed
returns-in-Err-clause-parsed c =
    let place : c.saturating_sub-place.result ≡ taken_of c.args.tokens.now c.all.new.cursor = c.saturating_sub-place.ensures
    ∙ ap (λ n. length c.args.tokens.now - n) c.left.ensures in
    let told : c.refused.result ≡ refused c.in-Err.stop (taken_of c.args.tokens.now c.all.new.cursor) = c.refused.ensures
    ∙ ap (refused c.in-Err.stop) place in
    subst (λ e. Parsed limit c.args.tokens.now (Err e)) (sym told)
    (parsed_stop below c.args.tokens.now c.all.new.cursor c.in-Err.stop (some_left c.args.tokens.now c.if-tokens-eq0.false)
    (passed (ended (unit below)) c.new-cursor.ensures c.in-Err.ensures))

pub returns-in-Err-clause-all : goal.returns-in-Err-clause-all
returns-in-Err-clause-all c = λ program depth spells low.
    c.refused.ensures
    ∙ ap (λ s. refused s c.saturating_sub-place.result)
    (program_kept below c.args.tokens.now c.all.new.cursor program depth c.in-Err.stop
    (some_left c.args.tokens.now c.if-tokens-eq0.false) spells low
    (passed (ended (unit below)) c.new-cursor.ensures c.in-Err.ensures))

pub returns-then-tokens-eq0-clause-deep : goal.returns-then-tokens-eq0-clause-deep
returns-then-tokens-eq0-clause-deep c = deep_refused limit c.args.tokens.now (Ok (program_of c.new.result))
    (returns-then-tokens-eq0-clause-parsed c)

pub returns-in-Ok-clause-deep : goal.returns-in-Ok-clause-deep
returns-in-Ok-clause-deep c = deep_refused limit c.args.tokens.now (Ok c.program.result) (returns-in-Ok-clause-parsed c)

pub returns-in-Err-clause-deep : goal.returns-in-Err-clause-deep
returns-in-Err-clause-deep c = deep_refused limit c.args.tokens.now (Err c.refused.result) (returns-in-Err-clause-parsed c)
