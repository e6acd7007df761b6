use Rattle.std.proofs.Common.{sym, ◌∙◌, ap}
use Rattle.c_ast.specs.declared.token.Span.{Span}
use Rattle.c_parse_base.specs.Reading.Answers.{rest_of}
use Rattle.c_parse_base.specs.Laws.AnswerLaws.{answers_made}
use Rattle.c_parse_expr.specs.Laws.WordCode.{text_run, texts_none, texts_first, texts_next, texts_end}
use Rattle.c_parse_expr.proofs.plain.texts.Goals as goal

pub returns-in_default-clause-answers : goal.returns-in_default-clause-answers
returns-in_default-clause-answers c = record { is = texts_none c.args.cursor.now c.in_default.ensures }

pub loop-next-init : goal.loop-next-init
loop-next-init c =
    texts_first c.args.cursor.now (c.in-Some.first.bytes.now, c.in-Some.first.place) c.in-Some.ensures
    ∙ ap (λ b. text_run (b, c.in-Some.first.place) (rest_of c.args.cursor.now)) (sym c.in_ok-bytes.ensures.items)
    ∙ ap (text_run (c.in_ok-bytes.bytes.items, c.in-Some.first.place)) (sym c.skip.ensures)

pub loop-next-preserved : goal.loop-next-preserved
loop-next-preserved c =
    let place : Span = record { start = c.loop-next.place.start; end = c.in-Some-next_text.next.place.end } in
    c.loop-next.invariant
    ∙ texts_next (c.loop-next.bytes.items, c.loop-next.place)
    (c.in-Some-next_text.next.bytes.now, c.in-Some-next_text.next.place) c.loop-next.cursor c.in-Some-next_text.ensures
    ∙ ap (λ b. text_run (b, place) (rest_of c.loop-next.cursor)) (sym c.in_ok-extend_from_slice.ensures.items)
    ∙ ap (text_run (c.extend_from_slice.new.self.items, place)) (sym c.skip-in-Some-next_text.ensures)

pub returns-clause-answers : goal.returns-clause-answers
returns-clause-answers c =
    answers_made c.in_ok-text.ensures (record {
      is = c.loop-next.invariant
          ∙ texts_end (c.loop-next.bytes.items, c.loop-next.place) c.loop-next.cursor c.in_default-next_text.ensures;
    })
