-- A greater limit changes an answer only where it was that something is too deep.
use Rattle.std.specs.Prelude.{◌≡◌, ℕ, suc, ◌-◌, ◌<◌, true, nat_lt, Some}
use Rattle.std.proofs.Common.{subst, arith}
use Rattle.c_ast.specs.declared.expr.CType.{CType}
use Rattle.c_ast.specs.declared.punctuator.Punctuator.TheVariants as mark
use Rattle.c_grammar.specs.Words.{punctuator}
use Rattle.c_parse_base.specs.Reading.Answer.{makes}
use Rattle.c_parse_base.specs.Reading.Words.{is, punct, name}
use Rattle.c_parse_base.specs.Laws.Deeper.{Grows, grows_same, grows_then, grows_made, grows_either, grows_chain, grows_optional}
use Rattle.c_parse_base.specs.Laws.TypeGrowth.{stars_grow}
use Rattle.c_parse_expr.specs.Reading.Levels.{begins}
use Rattle.c_parse_expr.specs.Reading.Expressions.{at}
use Rattle.c_parse_expr.specs.Laws.Growth.{grows_at}
use Rattle.c_parse_base.specs.Laws.StartingLaws.{starting_grows}
use Rattle.c_parse_base.specs.Laws.Depths.{below_is, more_room}
use Rattle.c_parse_decl.specs.declared.declarators.declared.Declared.{Declared}
use Rattle.c_parse_decl.specs.declared.declarators.lengths.Lengths.{Lengths}
use Rattle.c_parse_decl.specs.Reading.Declarators.{plain, typed_name, named_of, starred, no_lengths, more_lengths, arrays_of, sized}
use Rattle.c_parse_decl.specs.Reading.Declarators.{unsized, size, pair, has_room, pairs, bracketed, declarator}

typed_name_grows : (d : ℕ) (base : CType) → Grows (typed_name d base) (typed_name (suc d) base)
unfolding typed_name
typed_name_grows d base = grows_either (is (punctuator mark.Star)) (nat_lt 0 d) (nat_lt 0 (suc d)) (more_room d 0)
    (λ h. grows_then (stars_grow d (plain base)) (λ _. grows_same name)) (grows_same (makes (λ n. (plain base, n)) name))

pub starred_grows : (d : ℕ) (base : CType) → Grows (starred d base) (starred (suc d) base)
unfolding starred
starred_grows d base = grows_made named_of (starting_grows (typed_name_grows d base))

sized_grows : (d level : ℕ) → nat_lt level d ≡ true → Grows (sized d level) (sized (suc d) level)
unfolding sized
sized_grows d level h =
    let low : level < d = below_is level d h in
    let same : suc (d - suc level) ≡ suc d - suc level = omega arith in
    grows_made (λ c. (Some c.0, c.1))
    (grows_then (subst (λ k. Grows (at (d - suc level)).conditional (at k).conditional) same (grows_at (d - suc level)).conditional)
    (λ _. grows_same (punct mark.RightBracket)))

size_grows : (d level : ℕ) → Grows (size d level) (size (suc d) level)
unfolding size
size_grows d level = grows_either begins (nat_lt level d) (nat_lt level (suc d)) (more_room d level) (sized_grows d level)
    (grows_same unsized)

pair_grows : (d : ℕ) (b : Lengths) → Grows (pair d b) (pair (suc d) b)
unfolding pair
pair_grows d b = grows_made (λ c. more_lengths b c.1) (grows_then (grows_same (punct mark.LeftBracket)) (λ _. size_grows d (suc b.level)))

pairs_grow : (d : ℕ) (b : Lengths) → Grows (pairs d b) (pairs (suc d) b)
unfolding pairs
pairs_grow d b = grows_chain (is (punctuator mark.LeftBracket)) (has_room d) (has_room (suc d)) (λ b. more_room d b.level)
    (λ b h. pair_grows d b) (pair_grows d b)

pub bracketed_grows : (d : ℕ) (a : Declared) → nat_lt a.height d ≡ true → Grows (bracketed d a) (bracketed (suc d) a)
unfolding bracketed
bracketed_grows d a h = grows_made (arrays_of a) (pairs_grow d (no_lengths a))

pub declarator_grows : (d : ℕ) (base : CType) → Grows (declarator d base) (declarator (suc d) base)
unfolding declarator
declarator_grows d base = grows_optional (is (punctuator mark.LeftBracket)) (λ _. true) (λ a. nat_lt a.height d)
    (λ a. nat_lt a.height (suc d))
    (λ a. more_room d a.height) (bracketed_grows d) (starred_grows d base)
