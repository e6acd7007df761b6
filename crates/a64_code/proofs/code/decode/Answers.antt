use Rattle.std.proofs.Common.{◌≡◌, ◌∙◌, sym, ap, Some}
use Rattle.std.specs.Option.{option_copied}
use Rattle.a64_code.specs.Decoded.{decoded}
use Rattle.a64_code.specs.Laws.Decoding.{decode-row, decode-none, one_row}
use Rattle.a64_code.specs.Laws.Words.{instruction_of-word}
use Rattle.a64_code.proofs.Listing.{decoded-found, decoded_not_found}
use Rattle.a64_code.proofs.code.decode.Goals as goal

no_row : (c : goal.After-from_residual) → c.from_residual.result ≡ decoded c.args.word
no_row c = c.from_residual.ensures ∙ decoded_not_found c.args.word (sym c.row_of.ensures ∙ ap option_copied c.in_err-row.was)

pub returns-in_err-row-clause-row : goal.returns-in_err-row-clause-row
returns-in_err-row-clause-row c = decode-row _ _ c.ranges.word.fits (no_row c)

pub returns-in_err-row-clause-none : goal.returns-in_err-row-clause-none
returns-in_err-row-clause-none c = decode-none _ _ c.ranges.word.fits (no_row c)

pub returns-in_err-row-clause-one_row : goal.returns-in_err-row-clause-one_row
returns-in_err-row-clause-one_row c = one_row _

pub returns-in_err-row-clause-instruction : goal.returns-in_err-row-clause-instruction
returns-in_err-row-clause-instruction c = no_row c ∙ sym (instruction_of-word c.args.word c.ranges.word.fits)

a_row : (c : goal.After-reading) → Some c.reading.result ≡ decoded c.args.word
a_row c = decoded-found c.args.word c.in_ok-row.row.now c.reading.result (sym c.row_of.ensures ∙ ap option_copied c.in_ok-row.was)
    (record { form_is = c.reading.ensures.form; fields_are = c.reading.ensures.fields })

pub returns-clause-row : goal.returns-clause-row
returns-clause-row c = decode-row _ _ c.ranges.word.fits (a_row c)

pub returns-clause-none : goal.returns-clause-none
returns-clause-none c = tt

pub returns-clause-one_row : goal.returns-clause-one_row
returns-clause-one_row c = one_row _

pub returns-clause-instruction : goal.returns-clause-instruction
returns-clause-instruction c = a_row c ∙ sym (instruction_of-word c.args.word c.ranges.word.fits)
