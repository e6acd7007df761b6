use Rattle.std.proofs.Common.{◌≡◌, true, false, ap, sym, ◌∙◌, drop, refl}
use Rattle.std.proofs.lemmas.List.{take_rest}
use Rattle.c_lex.specs.Directive.{after_blanks, from_word, from_header}
use Rattle.c_lex.proofs.DirectiveLaws.{include_line-from_parts}
use Rattle.c_lex.proofs.directive.include_bytes.Goals as goal

pub returns-then-not-starts_with-2 : goal.returns-then-not-starts_with-2
returns-then-not-starts_with-2 c =
    let word : c.after_blanks-word.result.now ≡ from_word c.args.text.now = rw take_rest at c.after_blanks-word.ensures in
    let header : c.after_blanks-header.result.now ≡ from_header c.args.text.now =
    (rw take_rest at c.after_blanks-header.ensures) ∙ ap (λ w. after_blanks (drop 7 w)) word in
    sym (include_line-from_parts c.args.text.now _ _ true false _ c.requires.hash word header
    (sym c.if-not-starts_with.ensures.value) (sym c.if-not-starts_with-2.ensures.value) refl)

pub returns-then-ends_line : goal.returns-then-ends_line
returns-then-ends_line c =
    let word : c.after_blanks-word.result.now ≡ from_word c.args.text.now = rw take_rest at c.after_blanks-word.ensures in
    let header : c.after_blanks-header.result.now ≡ from_header c.args.text.now =
    (rw take_rest at c.after_blanks-header.ensures) ∙ ap (λ w. after_blanks (drop 7 w)) word in
    rw take_rest (sym (include_line-from_parts c.args.text.now _ _ true true true c.requires.hash word header
    (sym c.if-not-starts_with.ensures.value) (sym c.if-not-starts_with-2.ensures.value) (rw take_rest at (sym c.if-ends_line.ensures))))

pub returns-else-ends_line : goal.returns-else-ends_line
returns-else-ends_line c =
    let word : c.after_blanks-word.result.now ≡ from_word c.args.text.now = rw take_rest at c.after_blanks-word.ensures in
    let header : c.after_blanks-header.result.now ≡ from_header c.args.text.now =
    (rw take_rest at c.after_blanks-header.ensures) ∙ ap (λ w. after_blanks (drop 7 w)) word in
    sym (include_line-from_parts c.args.text.now _ _ true true false c.requires.hash word header
    (sym c.if-not-starts_with.ensures.value) (sym c.if-not-starts_with-2.ensures.value) (rw take_rest at (sym c.if-ends_line.ensures)))
