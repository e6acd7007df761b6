-- A greater limit changes an answer only where it was that something is too deep.
use Rattle.std.specs.Prelude.{◌≡◌, ℕ, suc, ◌+◌, true}
use Rattle.std.proofs.Common.{arith, subst}
use Rattle.c_ast.specs.Seen.{Seen as Token}
use Rattle.c_ast.specs.declared.expr.CType.{CType}
use Rattle.c_ast.specs.declared.punctuator.Punctuator.TheVariants as mark
use Rattle.c_grammar.specs.Words.{punctuator}
use Rattle.c_parse_base.specs.Reading.Answer.{Parser, word, makes}
use Rattle.c_parse_base.specs.Reading.Words.{is, punct}
use Rattle.c_parse_base.specs.Laws.Deeper.{Grows, grows_same, grows_then, grows_made, grows_either, grows_chain, grows_optional}
use Rattle.c_parse_decl.specs.declared.declarators.declared.Declared.{Declared}
use Rattle.c_parse_decl.specs.declared.parameter_list.parameters_read.ParametersRead.{ParametersRead}
use Rattle.c_parse_decl.specs.Reading.Declarators.{starred}
use Rattle.c_parse_decl.specs.Reading.Objects.{rest}
use Rattle.c_parse_stmt.specs.Reading.Statements.{block}
use Rattle.c_parse_decl.specs.Laws.Declarators.Growth.{starred_grows}
use Rattle.c_parse_decl.specs.Laws.Parameters.Growth.{parameters_grow}
use Rattle.c_parse_decl.specs.Laws.Objects.Growth.{rest_grows}
use Rattle.c_parse_decl.specs.Laws.Members.Growth.{body_grows}
use Rattle.c_parse_stmt.specs.Laws.Growth.{block_grows}
use Rattle.c_parse.specs.declared.head.Specifiers.{Specifiers}
use Rattle.c_parse.specs.declared.behind.Behind.TheVariants as behind
use Rattle.c_parse.specs.Reading.Values.{with_body, is_struct, stored, unstored, is_lone, no_body, body_of, function_of, external_of}
use Rattle.c_parse.specs.Reading.Values.{more_externals}
use Rattle.c_parse.specs.Reading.Externals.{is_storage, pick_storage, plain, body_behind, head, stored_head, specifiers, ending, function}
use Rattle.c_parse.specs.Reading.Externals.{after_name, named, tail, declaration, pick_include, begins_declaration, begins_external}
use Rattle.c_parse.specs.Reading.Externals.{external, next_external, unit}

-- likewise with one level more
grows_above : {A : Type 0} (p : ℕ → Parser Token A) → ((d : ℕ) → Grows (p d) (p (suc d))) → (d : ℕ) → Grows (p (d + 1)) (p (suc d + 1))
grows_above p h d = let above : suc (d + 1) ≡ suc d + 1 = omega arith in subst (λ e. Grows (p (d + 1)) (p e)) above (h (d + 1))

head_grows : (d : ℕ) → Grows (head d) (head (suc d))
unfolding head body_behind
head_grows d = grows_optional (is (punctuator mark.LeftBrace)) is_struct (λ _. true) (λ _. true) (λ a e. e)
    (λ a r. grows_made (with_body a) (body_grows d)) (grows_same plain)

specifiers_grow : (d : ℕ) → Grows (specifiers d) (specifiers (suc d))
unfolding specifiers stored_head
specifiers_grow d = grows_either is_storage true true (λ e. e)
    (λ _. grows_made stored (grows_then (grows_same (word pick_storage)) (λ _. head_grows d))) (grows_made unstored (head_grows d))

ending_grows : (d : ℕ) (p : ParametersRead) → Grows (ending d p) (ending (suc d) p)
unfolding ending
ending_grows d p = grows_either _ p.all_named p.all_named (λ e. e) (λ _. grows_made body_of (grows_above block block_grows d))
    (grows_same (makes no_body (punct mark.Semicolon)))

after_name_grows : (d : ℕ) (of : CType) (a : Declared) → Grows (after_name d of a) (after_name (suc d) of a)
unfolding after_name function
after_name_grows d of a = grows_either (is (punctuator mark.LeftParen)) true true (λ e. e)
    (λ _. grows_made (function_of a) (grows_then (parameters_grow d) (ending_grows d))) (grows_made behind.Objects
    (grows_above (λ d. rest d of a) (λ d. rest_grows d of a) d))

tail_grows : (d : ℕ) (s : Specifiers) → Grows (tail d s) (tail (suc d) s)
unfolding tail named
tail_grows d s = grows_either _ (is_lone s) (is_lone s) (λ e. e) (λ _. grows_same (makes (λ _. behind.Lone) (punct mark.Semicolon)))
    (grows_made (λ c. c.1) (grows_then (grows_above (λ d. starred d s.head.base) (λ d. starred_grows d s.head.base) d)
    (after_name_grows d s.head.base)))

declaration_grows : (d : ℕ) → Grows (declaration d) (declaration (suc d))
unfolding declaration
declaration_grows d = grows_made external_of (grows_then (specifiers_grow d) (tail_grows d))

external_grows : (d : ℕ) → Grows (external d) (external (suc d))
unfolding external
external_grows d = grows_either begins_declaration true true (λ e. e) (λ r. declaration_grows d)
    (grows_same (word pick_include))

-- by one level
pub unit_grows : (d : ℕ) → Grows (unit d) (unit (suc d))
unfolding unit next_external
unit_grows d = grows_chain begins_external (λ _. true) (λ _. true) (λ a e. e) (λ a e. grows_made (more_externals a) (external_grows d))
    (external_grows d)
