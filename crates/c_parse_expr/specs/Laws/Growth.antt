-- A greater limit changes an answer only where it was that something is too deep.
use Rattle.std.specs.Prelude.{◌≡◌, ℕ, zero, suc, ◌-◌, ◌<◌, true, nat_lt}
use Rattle.std.proofs.Common.{arith, subst}
use Rattle.std.proofs.lemmas.Bool.Decides.{nat_tests}
use Rattle.c_ast.specs.declared.token.Span.{Span}
use Rattle.c_ast.specs.declared.keyword.Keyword.TheVariants as key
use Rattle.c_ast.specs.declared.punctuator.Punctuator.TheVariants as mark
use Rattle.c_grammar.specs.Words.{word_of, keyword, punctuator}
use Rattle.c_parse_base.specs.Reading.Answer.{word, makes}
use Rattle.c_parse_base.specs.Reading.Words as read
use Rattle.c_parse_base.specs.Reading.Words.{is, punct, among}
use Rattle.c_parse_base.specs.Laws.Deeper.{Grows, grows_same, grows_then, grows_made, grows_either, grows_chain, grows_optional}
use Rattle.c_parse_base.specs.Reading.TypeNames.{begins_type}
use Rattle.c_parse_base.specs.Laws.TypeGrowth.{type_grows}
use Rattle.c_parse_expr.specs.declared.measured.Measured.{Measured}
use Rattle.c_parse_expr.specs.declared.suffix.Arguments.{Arguments}
use Rattle.c_parse_expr.specs.declared.suffix.Suffix.TheVariants as suffix
use Rattle.c_parse_expr.specs.Reading.Nodes.{choice_of, assign_of, assignable, step_of, unary_of, size_of, size_name_of, cast_of}
use Rattle.c_parse_expr.specs.Reading.Nodes.{paren_of, more_arguments, one_argument, no_arguments, applied, binary_of}
use Rattle.c_parse_expr.specs.Reading.Operators.{pick_binary}
use Rattle.c_parse_base.specs.Laws.Depths.{more_room, some_room}
use Rattle.c_parse_expr.specs.Reading.Expressions.{chosen, conditional, assigned, assignment, assign_word, step_word, unary_word}
use Rattle.c_parse_expr.specs.Reading.Expressions.{pick_placed, has_word, stepped, operated, size_name, size_opened, size_rest, sized}
use Rattle.c_parse_expr.specs.Reading.Expressions.{bare, unary, casted, cast_or_group, operand, Expressions, plain, short_suffix}
use Rattle.c_parse_expr.specs.Reading.Expressions.{begins_suffix, first_words, begins_bare, room, has_room, opened, further, arguments}
use Rattle.c_parse_expr.specs.Reading.Expressions.{called, indexed, behind, apply, worded, grouped, operation, tier, layer, under, at}

pub record GrowsTo (e f : Expressions) : Type 0 where
  pub expression : Grows e.expression f.expression
  pub conditional : Grows e.conditional f.conditional
  pub unary : Grows e.unary f.unary
  pub binary : (n : ℕ) → Grows (e.binary n) (f.binary n)

module _ (d : ℕ) (below above : Expressions) (grows : 0 < d → GrowsTo below above) where
  opened_grows : 0 < d → (l : Span) → Grows (opened d below l) (opened (suc d) above l)
  unfolding opened
  opened_grows h l = grows_made (paren_of l) (grows_then (grows h).expression (λ _. grows_same (punct mark.RightParen)))

  further_grows : 0 < d → (a : Arguments) → Grows (further d below a) (further (suc d) above a)
  unfolding further
  further_grows h a = grows_made (λ c. more_arguments a c.1) (grows_then (grows_same (punct mark.Comma)) (λ _. (grows h).expression))

  arguments_grow : 0 < d → Grows (arguments d below) (arguments (suc d) above)
  unfolding arguments
  arguments_grow h = grows_chain (is (punctuator mark.Comma)) (λ _. true) (λ _. true) (λ a e. e) (λ a e. further_grows h a)
      (grows_made one_argument (grows h).expression)

  called_grows : 0 < d → Grows (called d below) (called (suc d) above)
  unfolding called
  called_grows h = grows_either (is (punctuator mark.RightParen)) true true (λ e. e)
      (λ e. grows_same (makes (suffix.Call no_arguments) (punct mark.RightParen)))
      (grows_made (λ c. suffix.Call c.0 c.1) (grows_then (arguments_grow h) (λ _. grows_same (punct mark.RightParen))))

  indexed_grows : 0 < d → Grows (indexed d below) (indexed (suc d) above)
  unfolding indexed
  indexed_grows h = grows_made (λ c. suffix.Index c.0 c.1) (grows_then (grows h).expression (λ _. grows_same (punct mark.RightBracket)))

  behind_grows : 0 < d → Grows (behind d below) (behind (suc d) above)
  unfolding behind
  behind_grows h = grows_either (is (punctuator mark.LeftBracket)) true true (λ e. e)
      (λ e. grows_made (λ c. c.1) (grows_then (grows_same (punct mark.LeftBracket)) (λ _. indexed_grows h)))
      (grows_either (is (punctuator mark.LeftParen)) true true (λ e. e)
      (λ e. grows_made (λ c. c.1) (grows_then (grows_same (punct mark.LeftParen)) (λ _. called_grows h))) (grows_same short_suffix))

  apply_grows : (a : Measured) → has_room d a ≡ true → Grows (apply d below a) (apply (suc d) above a)
  unfolding apply
  apply_grows a h = grows_made (applied a) (behind_grows (some_room d a.height h))

  worded_grows : Grows (worded d below) (worded (suc d) above)
  unfolding worded
  worded_grows = grows_chain begins_suffix (has_room d) (has_room (suc d)) (λ a. more_room d a.height) apply_grows (grows_same plain)

  grouped_grows : 0 < d → (l : Span) → Grows (grouped d below l) (grouped (suc d) above l)
  unfolding grouped
  grouped_grows h l = grows_chain begins_suffix (has_room d) (has_room (suc d)) (λ a. more_room d a.height) apply_grows (opened_grows h l)

-- what stands below a `sizeof`
record OperandsGrow (d : ℕ) (e f : Expressions) : Type 0 where
  bare : Grows e.bare f.bare
  grouped : 0 < d → (l : Span) → Grows (e.grouped l) (f.grouped l)

module _ (d : ℕ) (below above : Expressions) (grows : 0 < d → GrowsTo below above)
    (operands : 0 < d → OperandsGrow (d - 1) below above) where
  size_name_grows : (place : Span) → Grows (size_name d below place) (size_name (suc d) above place)
  unfolding size_name
  size_name_grows place = grows_made (size_name_of place) (grows_then (type_grows d) (λ _. grows_same (punct mark.RightParen)))

  more_levels : nat_lt 1 d ≡ true → nat_lt 1 (suc d) ≡ true
  more_levels e = more_room d 1 e

  two_levels : nat_lt 1 d ≡ true → 1 < d
  two_levels e = grind (arith, nat_tests)

  size_opened_grows : (place l : Span) → Grows (size_opened d below place l) (size_opened (suc d) above place l)
  unfolding size_opened
  size_opened_grows place l = grows_either (among first_words) (nat_lt 1 d) (nat_lt 1 (suc d)) more_levels
      (λ e. let deep : 1 < d = two_levels e in grows_made (size_of place) ((operands (omega arith)).grouped (omega arith) l))
      (size_name_grows place)

  size_rest_grows : (place : Span) → Grows (size_rest d below place) (size_rest (suc d) above place)
  unfolding size_rest
  size_rest_grows place = grows_either begins_bare (room d) (room (suc d)) (more_room d 0)
      (λ e. grows_made (size_of place) (operands (some_room d 0 e)).bare)
      (grows_made (λ c. c.1) (grows_then (grows_same (punct mark.LeftParen)) (size_opened_grows place)))

  sized_grows : Grows (sized d below) (sized (suc d) above)
  unfolding sized
  sized_grows = grows_made (λ c. c.1) (grows_then (grows_same (read.key key.Sizeof)) size_rest_grows)

  bare_grows : Grows (bare d below) (bare (suc d) above)
  unfolding bare stepped operated
  bare_grows = grows_either (has_word step_word) (room d) (room (suc d)) (more_room d 0)
      (λ h. grows_made step_of (grows_then (grows_same (word (pick_placed step_word))) (λ _. (grows (some_room d 0 h)).unary)))
      (grows_either (has_word unary_word) (room d) (room (suc d)) (more_room d 0)
      (λ h. grows_made unary_of (grows_then (grows_same (word (pick_placed unary_word))) (λ _. (grows (some_room d 0 h)).binary 0)))
      (grows_either (is (keyword key.Sizeof)) true true (λ e. e) (λ _. sized_grows) (worded_grows d below above grows)))

  unary_grows : Grows (unary d below) (unary (suc d) above)
  unfolding unary
  unary_grows = grows_either (is (punctuator mark.LeftParen)) (room d) (room (suc d)) (more_room d 0)
      (λ h. grows_made (λ c. c.1) (grows_then (grows_same (punct mark.LeftParen)) (grouped_grows d below above grows (some_room d 0 h))))
      bare_grows

  casted_grows : 0 < d → (l : Span) → Grows (casted d below l) (casted (suc d) above l)
  unfolding casted
  casted_grows h l = grows_made (cast_of l) (grows_then (type_grows d)
      (λ _. grows_then (grows_same (punct mark.RightParen)) (λ _. (grows h).binary 0)))

  cast_or_group_grows : 0 < d → (l : Span) → Grows (cast_or_group d below l) (cast_or_group (suc d) above l)
  unfolding cast_or_group
  cast_or_group_grows h l = grows_either begins_type true true (λ e. e) (λ _. casted_grows h l) (grouped_grows d below above grows h l)

  operand_grows : Grows (operand d below) (operand (suc d) above)
  unfolding operand
  operand_grows = grows_either (is (punctuator mark.LeftParen)) (room d) (room (suc d)) (more_room d 0)
      (λ h. grows_made (λ c. c.1) (grows_then (grows_same (punct mark.LeftParen)) (cast_or_group_grows (some_room d 0 h)))) bare_grows

  operation_grows : (n : ℕ) (a : Measured) → has_room d a ≡ true → Grows (operation d below n a) (operation (suc d) above n a)
  unfolding operation
  operation_grows n a h = grows_made (binary_of a) (grows_then (grows_same (word (pick_binary (suc n))))
      (λ _. (grows (some_room d a.height h)).binary n))

  tier_grows : (n : ℕ) → Grows (tier d below n) (tier (suc d) above n)
  unfolding tier
  tier_grows zero = operand_grows
  tier_grows (suc n) = grows_chain _ (has_room d) (has_room (suc d)) (λ a. more_room d a.height) (operation_grows n) (tier_grows n)

  chosen_grows : (a : Measured) → has_room d a ≡ true → Grows (chosen d below a) (chosen (suc d) above a)
  unfolding chosen
  chosen_grows a h =
      let g : GrowsTo below above = grows (some_room d a.height h) in
      grows_made (λ p. choice_of a p.1) (grows_then (grows_same (punct mark.Question))
      (λ _. grows_then g.expression (λ _. grows_then (grows_same (punct mark.Colon)) (λ _. g.conditional))))

  conditional_grows : Grows (conditional d below) (conditional (suc d) above)
  unfolding conditional
  conditional_grows = grows_optional (is (punctuator mark.Question)) (λ _. true) (has_room d) (has_room (suc d))
      (λ a. more_room d a.height) chosen_grows (tier_grows 10)

  assigned_grows : (a : Measured) → has_room d a ≡ true → Grows (assigned d below a) (assigned (suc d) above a)
  unfolding assigned
  assigned_grows a h = grows_made (assign_of a) (grows_then (grows_same (word (λ t. assign_word (word_of t))))
      (λ _. (grows (some_room d a.height h)).expression))

  assignment_grows : Grows (assignment d below) (assignment (suc d) above)
  unfolding assignment
  assignment_grows = grows_optional (has_word assign_word) assignable (has_room d) (has_room (suc d))
      (λ a. more_room d a.height) assigned_grows conditional_grows

  layer_grows : GrowsTo (layer d below) (layer (suc d) above)
  layer_grows = record { expression = assignment_grows; conditional = conditional_grows; unary = unary_grows; binary = tier_grows }

record LevelGrows (d : ℕ) (e f : Expressions) : Type 0 where
  expressions : GrowsTo e f
  operands : OperandsGrow d e f

level_grows : (d : ℕ) (below above : Expressions) → (0 < d → LevelGrows (d - 1) below above) →
    LevelGrows d (layer d below) (layer (suc d) above)
level_grows d below above grows =
    let expressions : (0 < d → GrowsTo below above) = λ h. (grows h).expressions in
    let operands : (0 < d → OperandsGrow (d - 1) below above) = λ h. (grows h).operands in
    record {
      expressions = layer_grows d below above expressions operands;
      operands = record { bare = bare_grows d below above expressions operands; grouped = grouped_grows d below above expressions };
    }

level_at : (d : ℕ) → LevelGrows d (at d) (at (suc d))
unfolding under
level_at zero = level_grows 0 (under 0) (under 1) (λ h. absurd (omega arith))
level_at (suc d) = level_grows (suc d) (at d) (at (suc d)) (λ h. let same : d ≡ suc d - 1 = omega arith in
    subst (λ k. LevelGrows k (at d) (at (suc d))) same (level_at d))

-- by one level
pub grows_at : (d : ℕ) → GrowsTo (at d) (at (suc d))
grows_at d = (level_at d).expressions
