-- A greater limit changes an answer only where it was that there are too many stars.
use Rattle.std.specs.Prelude.{ℕ, suc}
use Rattle.c_ast.specs.declared.punctuator.Punctuator.TheVariants as mark
use Rattle.c_grammar.specs.Words.{punctuator}
use Rattle.c_parse_base.specs.Reading.Words.{is}
use Rattle.c_parse_base.specs.Laws.Deeper.{Grows, grows_same, grows_chain}
use Rattle.c_parse_base.specs.Laws.Depths.{more_room}
use Rattle.c_parse_base.specs.declared.type_read.TypeRead.{TypeRead}
use Rattle.c_parse_base.specs.Reading.TypeNames.{has_room, base, star, type_name, stars}

-- by one star
pub type_grows : (d : ℕ) → Grows (type_name d) (type_name (suc d))
unfolding type_name
type_grows d = grows_chain (is (punctuator mark.Star)) (has_room d) (has_room (suc d)) (λ a. more_room d a.height)
    (λ a h. grows_same (star a)) (grows_same base)

pub stars_grow : (d : ℕ) (a : TypeRead) → Grows (stars d a) (stars (suc d) a)
unfolding stars
stars_grow d a = grows_chain (is (punctuator mark.Star)) (has_room d) (has_room (suc d)) (λ a. more_room d a.height)
    (λ a h. grows_same (star a)) (grows_same (star a))
