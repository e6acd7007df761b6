-- Laws of the directive line.
use Rattle.std.proofs.Common.{◌≡◌, ℕ, ◌-◌, Bool, ◌&&◌, List, length, drop, get_or, Some, None, nat_eq, refl}
use Rattle.std.specs.Prelude.{codes, if◌then◌else◌}
use Rattle.std.specs.List.{starts_with}
use Rattle.std.proofs.lemmas.Bool.{eq-eqb}
use Rattle.c_lex.specs.Directive.{from_word, from_header, ends_line, include_line}

-- the directive by its parts and what the tests of them say
pub include_line-from_parts : (text word header : List ℕ) (named headed ended : Bool) → get_or text 0 0 ≡ 35 →
    word ≡ from_word text → header ≡ from_header text →
    starts_with nat_eq word (codes "include") ≡ named → starts_with nat_eq header (codes "<stdio.h>") ≡ headed
    → ends_line (drop 9 header) ≡ ended →
    include_line text ≡ (if (named && headed) && ended then Some (length text - length (drop 9 header)) else None)
include_line-from_parts text word header named headed ended hash word_is header_is named_is headed_is ended_is =
    rw (eq-eqb _ _ hash, ← header_is, ← word_is, named_is, headed_is, ended_is) refl
