use Rattle.std.proofs.Common.{sym, ap, ◌∙◌}
use Rattle.c_lex.specs.Laws.WordReads.{single-only}
use Rattle.c_lex.proofs.word.read_punctuator.Goals as goal
use Rattle.c_lex.specs.Scan.Words.{is_second_of_punctuator}

pub returns-else-is_second_of_punctuator : goal.returns-else-is_second_of_punctuator
returns-else-is_second_of_punctuator c = c.read_single.ensures
    ∙ sym (single-only c.args.text.now (ap is_second_of_punctuator (sym c.byte.ensures.value) ∙ sym c.if-is_second_of_punctuator.ensures))
