use Rattle.std.proofs.Common.{◌-◌, arith, ap, sym, ◌∙◌, length, take, drop}
use Rattle.std.proofs.lemmas.List.{take_rest}
use Rattle.c_lex.proofs.NumeralLaws.{number-from_parts}
use Rattle.c_lex.proofs.numeral.read_number.Goals as goal

pub returns : goal.returns
returns c =
    let text = c.args.text.now in
    let bytes = take c.run.result text in
    let prefix = c.prefix_bytes.result in
    let behind = take (length bytes - prefix) (drop prefix bytes) in
    let digits = c.digit_count-digits.result in
    let suffix = take (length behind - digits) (drop digits behind) in
    number-from_parts text bytes behind suffix c.radix_of-radix.result prefix digits c.suffix_bytes.result c.listed_types-types.result.now _
    (ap (λ n. take n text) (sym c.run.ensures.value))
    c.radix_of-radix.ensures.value
    c.prefix_bytes.ensures
    (take_rest bytes prefix)
    c.digit_count-digits.ensures.value
    c.if-digits-eq0.false
    (take_rest behind digits)
    c.suffix_bytes.ensures.value
    (omega (arith, c.if-fitting-bytes.false, c.prefix_bytes.ensures ∙ sym c.prefix_bytes-2.ensures))
    (rw (c.has_unsigned_mark.ensures, c.has_long_mark.ensures) at c.listed_types-types.ensures)
    (c.typed_number.ensures _ c.value_of.ensures)
