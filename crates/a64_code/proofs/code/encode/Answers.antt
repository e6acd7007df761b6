use Rattle.a64_code.proofs.Encoding.{Of, has_room-of, encode-row, encode-none}
use Rattle.a64_code.proofs.code.encode.Goals as goal

of_instr : (c : goal.After-word-arg-1) →
    Of c.args.instr c.parts-parts.result.line.now c.parts-parts.result.wide c.parts-parts.result.values
of_instr c =
    record { line_is = c.parts-parts.ensures.line; wide_is = c.parts-parts.ensures.wide; values_are = c.parts-parts.ensures.values }

pub word-requires : goal.word-requires
word-requires c = has_room-of (of_instr c)

of_word : (c : goal.After-word) → Of c.args.instr c.parts-parts.result.line.now c.parts-parts.result.wide c.parts-parts.result.values
of_word c =
    record { line_is = c.parts-parts.ensures.line; wide_is = c.parts-parts.ensures.wide; values_are = c.parts-parts.ensures.values }

pub returns-clause-row : goal.returns-clause-row
returns-clause-row c = encode-row _ _ _ _ _ (of_word c) c.word.ensures

pub returns-clause-none : goal.returns-clause-none
returns-clause-none c = encode-none _ _ (encode-row _ _ _ _ _ (of_word c) c.word.ensures)
