use Rattle.std.proofs.Common.{arith, subst, sym}
use Rattle.std.proofs.lemmas.List.{length-map}
use Rattle.c_ast.specs.Seen.{seen, all_seen}
use Rattle.c_lex.specs.Laws.Starts.{tokens_are_few}
use Rattle.mt_compile.specs.Refused.{IsReadCause}
use Rattle.mt_compile.proofs.LexCauses.{held_tokens, text_cause}
use Rattle.mt_compile.proofs.program.program_of.Goals as goal

-- what the lexer says of the text
pub returns-in-Err-clause-refused : goal.returns-in-Err-clause-refused
returns-in-Err-clause-refused c =
    subst (λ r. IsReadCause c.args.text.now r) (sym c.of_text.ensures)
    (text_cause _ c.args.text.now c.in-Err.refusal c.in-Err.ensures.refused c.in-Err.ensures.too_long.1)

-- they are at most as many as its bytes
pub parse-requires : goal.parse-requires
parse-requires c =
    let held = held_tokens c.args.text.now c.in-Ok.tokens c.in-Ok.tokens.items c.deref.result.now c.deref.ensures.value
    c.in-Ok.ensures.tokens c.in-Ok.ensures.too_long.1 in
    omega (arith, tokens_are_few c.args.text.now (all_seen c.deref.result.now) held.are, held.within, length-map c.deref.result.now seen)

-- the program that they spell
pub returns-in-Ok-parse-clause-spelled : goal.returns-in-Ok-parse-clause-spelled
returns-in-Ok-parse-clause-spelled c = record {
  tokens = c.deref.result.now;
  held = held_tokens c.args.text.now c.in-Ok.tokens c.in-Ok.tokens.items c.deref.result.now c.deref.ensures.value c.in-Ok.ensures.tokens
      c.in-Ok.ensures.too_long.1;
  spells = c.in-Ok-parse.ensures.parsed;
}
