-- What the code of the parser needs of the parser.
use Rattle.std.specs.Prelude.{◌≡◌, ℕ, ◌-◌, ◌<◌, ◌≤◌, Bool, true, false, nat_lt, List, length, refl}
use Rattle.std.proofs.Common.{◌∙◌, sym, ap, arith}
use Rattle.std.proofs.lemmas.Bool.Decides.{nat_tests}
use Rattle.c_ast.specs.declared.token.Span.{Span}
use Rattle.c_ast.specs.Seen.{Seen as Token}
use Rattle.c_ast.specs.declared.expr.CType.{CType}
use Rattle.c_ast.specs.declared.punctuator.Punctuator.TheVariants as mark
use Rattle.c_grammar.specs.Words.{punctuator}
use Rattle.c_parse_base.specs.declared.fault.Fault.TheVariants.{TooDeep}
use Rattle.c_parse_base.specs.Reading.Answer.{Answer, Read, Stuck, and_then, makes, thens, either, sees, follows, repeats, turns}
use Rattle.c_parse_base.specs.Laws.LoopLaws.{takes_some, turns_stop, turns_turn, turns_read}
use Rattle.c_parse_base.specs.Laws.OptionalLaws.{follows_stop, follows_deep, follows_part}
use Rattle.c_parse_base.specs.Reading.Answers.{rest_of}
use Rattle.c_parse_base.specs.Laws.AnswerLaws.{either_one, either_deep, either_other}
use Rattle.c_parse_base.specs.Reading.Words.{is, punct}
use Rattle.c_parse_base.specs.Laws.Depths.{is_below, not_below}
use Rattle.c_parse_expr.specs.Laws.WordCode.{marked_makes}
use Rattle.c_parse_base.specs.Reading.TypeNames as types
use Rattle.c_parse_decl.specs.declared.declarators.declared.Declared.{Declared}
use Rattle.c_parse_decl.specs.Reading.Declarators.{starred, bracketed, declarator}
use Rattle.c_parse_decl.specs.Reading.Initializers.{initial}
use Rattle.c_parse_decl.specs.declared.objects.objects_read.ObjectRead.{ObjectRead}
use Rattle.c_parse_decl.specs.declared.objects.objects_read.ObjectsRead.{ObjectsRead}
use Rattle.c_parse_decl.specs.Reading.Objects.{Reader, ObjectReader, Low, FurtherWord, plain_of, valued, one_object, more_objects, equal}
use Rattle.c_parse_decl.specs.Reading.Objects.{comma, room, free, value, object, further, list, ended, valued_rest, rest, named, local}
use Rattle.c_parse_decl.specs.Laws.Objects.EndLaws.{further_good}

-- ---- an initializer behind a declarator

no_room : (d : ℕ) → d < 2 → room d ≡ false
no_room d h = grind (arith, nat_tests)

pub value_is : (d : ℕ) (a : ObjectRead) (ts : List Token) → sees equal ts ≡ true →
    value d a ts ≡ makes (valued a) (initial (d - 2)) (rest_of ts)
unfolding value
value_is d a ts e = marked_makes mark.Equal (initial (d - 2)) (valued a) ts e

abbrev pub value_follows : ℕ → ObjectRead → ObjectReader
value_follows d = follows equal free (λ _. room d) (value d)

pub object_is : (d : ℕ) (base : CType) (ts : List Token) → object d base ts ≡ and_then (makes plain_of (declarator d base) ts)
    (value_follows d)
unfolding object
object_is d base ts = refl

pub no_value : (d : ℕ) (a : ObjectRead) (ts : List Token) → sees equal ts ≡ false → value_follows d a ts ≡ Read a ts
no_value d a ts e = follows_stop equal free (λ _. room d) (value d) a ts e

pub value_deep : (d : ℕ) (a : ObjectRead) (ts : List Token) → sees equal ts ≡ true → d < 2 → value_follows d a ts ≡ Stuck TooDeep ts
value_deep d a ts e h = follows_deep equal free (λ _. room d) (value d) a ts e refl (no_room d h)

pub value_read : (d : ℕ) (a : ObjectRead) (ts : List Token) → sees equal ts ≡ true → 1 < d → value_follows d a ts ≡ value d a ts
value_read d a ts e h = follows_part equal free (λ _. room d) (value d) a ts e refl (is_below 1 d h)

-- ---- the loop of objects

-- the semicolon behind the objects that were read
abbrev closing : Answer Token ObjectsRead → Answer Token ObjectsRead
closing o = and_then {A = ObjectsRead × Span} (and_then o (λ a us. and_then (punct mark.Semicolon us) (λ p vs. Read (a, p) vs)))
    (λ c vs. Read c.0 vs)

-- further objects and the semicolon, behind what was read so far
unfoldable pub rest_objects : ℕ → CType → ObjectsRead → Reader
rest_objects d base a ts = closing (repeats comma free (further d base) a ts)

semicolon_alone : (a : ObjectsRead) (o : Answer Token Span) →
    and_then (and_then o (λ p vs. Read (a, p) vs)) (λ (c : ObjectsRead × Span) vs. Read c.0 vs) ≡ and_then o (λ p vs. Read a vs)
semicolon_alone a (Read p vs) = refl
semicolon_alone a (Stuck f vs) = refl

pub objects_end : (d : ℕ) (base : CType) (a : ObjectsRead) (ts : List Token) → sees comma ts ≡ false →
    rest_objects d base a ts ≡ makes (λ (p : Span). a) (punct mark.Semicolon) ts
unfolding rest_objects
objects_end d base a ts e = ap closing (turns_stop comma free (further d base) a ts e) ∙ semicolon_alone a (punct mark.Semicolon ts)

pub further_is : (d : ℕ) (base : CType) (a : ObjectsRead) (ts : List Token) → sees comma ts ≡ true →
    further d base a ts ≡ makes (more_objects a) (object d base) (rest_of ts)
unfolding further
further_is d base a ts e = marked_makes mark.Comma (object d base) (more_objects a) ts e

pub objects_turn : (d : ℕ) (base : CType) (a : ObjectsRead) (ts : List Token) → sees comma ts ≡ true →
    rest_objects d base a ts ≡ closing (and_then (makes (more_objects a) (object d base) (rest_of ts))
    (turns comma free (further d base) (length ts - 1)))
unfolding rest_objects
objects_turn d base a ts e = ap closing (turns_turn comma free (further d base) a ts e refl
    ∙ ap (λ o. and_then o (turns comma free (further d base) (length ts - 1))) (further_is d base a ts e))

further_read : (d : ℕ) (base : CType) (a : ObjectsRead) (b : ObjectRead) (ts us : List Token) → sees comma ts ≡ true →
    object d base (rest_of ts) ≡ Read b us → further d base a ts ≡ Read (more_objects a b) us
further_read d base a b ts us e r = further_is d base a ts e ∙ ap (λ o. and_then o (λ b us. Read (more_objects a b) us)) r

further_turns : (d : ℕ) (base : CType) (a b : ObjectsRead) (ts us : List Token) → Low d a → sees comma ts ≡ true →
    further d base a ts ≡ Read b us →
    repeats comma free (further d base) a ts ≡ repeats comma free (further d base) b us
further_turns d base a b ts us low e r = turns_read comma free (further d base) (FurtherWord base)
    (λ a may. further_good d base a may.fits) a b ts us (record { fits = low; has_room = refl }) e r

pub objects_read : (d : ℕ) (base : CType) (a : ObjectsRead) (b : ObjectRead) (ts us : List Token) → Low d a → sees comma ts ≡ true →
    object d base (rest_of ts) ≡ Read b us →
    rest_objects d base a ts ≡ rest_objects d base (more_objects a b) us
unfolding rest_objects
objects_read d base a b ts us low e r = ap closing (further_turns d base a (more_objects a b) ts us low e
    (further_read d base a b ts us e r))

pub object_takes : (d : ℕ) (base : CType) (a : ObjectsRead) (b : ObjectRead) (ts us : List Token) → Low d a → sees comma ts ≡ true →
    object d base (rest_of ts) ≡ Read b us → length us < length ts
object_takes d base a b ts us low e r = takes_some (further_good d base a low) ts us (more_objects a b) (further_read d base a b ts us e r)

abbrev listed_first : ℕ → CType → ObjectsRead → Reader
listed_first d base a = makes (λ c. c.0) (thens (list d base a) (λ _. punct mark.Semicolon))

abbrev last_first : ObjectsRead → Reader
last_first a = makes (λ (p : Span). a) (punct mark.Semicolon)

-- a list is its first turn and the others
list_turns : (d : ℕ) (base : CType) (a : ObjectsRead) (ts : List Token) → Low d a → sees comma ts ≡ true →
    list d base a ts ≡ repeats comma free (further d base) a ts
unfolding list
list_turns d base a ts low e = by_turn (further d base a ts) refl
  where
    by_turn : (o : Answer Token ObjectsRead) → further d base a ts ≡ o →
        and_then (further d base a ts) (repeats comma free (further d base)) ≡ repeats comma free (further d base) a ts
    by_turn (Read b us) r = ap (λ o. and_then o (repeats comma free (further d base))) r ∙ sym (further_turns d base a b ts us low e r)
    by_turn (Stuck f us) r = ap (λ o. and_then o (repeats comma free (further d base))) r
        ∙ sym (turns_turn comma free (further d base) a ts e refl
        ∙ ap (λ o. and_then o (turns comma free (further d base) (length ts - 1))) r)

pub ended_is : (d : ℕ) (base : CType) (a : ObjectsRead) (ts : List Token) → Low d a → ended d base a ts ≡ rest_objects d base a ts
unfolding ended rest_objects
ended_is d base a ts low = by_comma (sees comma ts) refl
  where
    by_comma : (x : Bool) → sees comma ts ≡ x → either comma true (listed_first d base a) (last_first a) ts ≡ closing
        (repeats comma free (further d base) a ts)
    by_comma true e = either_one comma true (listed_first d base a) (last_first a) ts e refl ∙ ap closing (list_turns d base a ts low e)
    by_comma false e = either_other comma true (listed_first d base a) (last_first a) ts e
        ∙ sym (semicolon_alone a (punct mark.Semicolon ts)) ∙ sym (ap closing (turns_stop comma free (further d base) a ts e))

-- ---- what is left behind a first name

abbrev value_first : ℕ → CType → Declared → Reader
value_first d base a = makes (λ c. c.1) (thens (value d (plain_of a)) (λ b. ended d base (one_object b)))

pub valued_rest_plain : (d : ℕ) (base : CType) (a : Declared) (ts : List Token) → sees equal ts ≡ false →
    valued_rest d base a ts ≡ ended d base (one_object (plain_of a)) ts
unfolding valued_rest
valued_rest_plain d base a ts e = either_other equal (room d) (value_first d base a) (ended d base (one_object (plain_of a))) ts e

pub valued_rest_deep : (d : ℕ) (base : CType) (a : Declared) (ts : List Token) → sees equal ts ≡ true → d < 2 →
    valued_rest d base a ts ≡ Stuck TooDeep ts
unfolding valued_rest
valued_rest_deep d base a ts e h = either_deep equal (room d) (value_first d base a) (ended d base (one_object (plain_of a))) ts e
    (no_room d h)

pub valued_rest_value : (d : ℕ) (base : CType) (a : Declared) (ts : List Token) → sees equal ts ≡ true → 1 < d →
    valued_rest d base a ts ≡ value_first d base a ts
unfolding valued_rest
valued_rest_value d base a ts e h = either_one equal (room d) (value_first d base a) (ended d base (one_object (plain_of a))) ts e
    (is_below 1 d h)

abbrev bracket_first : ℕ → CType → Declared → Reader
bracket_first d base a = makes (λ c. c.1) (thens (bracketed d a) (valued_rest d base))

pub rest_plain : (d : ℕ) (base : CType) (a : Declared) (ts : List Token) → sees (is (punctuator mark.LeftBracket)) ts ≡ false →
    rest d base a ts ≡ valued_rest d base a ts
unfolding rest
rest_plain d base a ts e = either_other (is (punctuator mark.LeftBracket)) (nat_lt a.height d) (bracket_first d base a)
    (valued_rest d base a) ts e

pub rest_deep : (d : ℕ) (base : CType) (a : Declared) (ts : List Token) → sees (is (punctuator mark.LeftBracket)) ts ≡ true →
    d ≤ a.height → rest d base a ts ≡ Stuck TooDeep ts
unfolding rest
rest_deep d base a ts e h = either_deep (is (punctuator mark.LeftBracket)) (nat_lt a.height d) (bracket_first d base a)
    (valued_rest d base a) ts e (not_below a.height d h)

pub rest_brackets : (d : ℕ) (base : CType) (a : Declared) (ts : List Token) → sees (is (punctuator mark.LeftBracket)) ts ≡ true →
    a.height < d → rest d base a ts ≡ bracket_first d base a ts
unfolding rest
rest_brackets d base a ts e h = either_one (is (punctuator mark.LeftBracket)) (nat_lt a.height d) (bracket_first d base a)
    (valued_rest d base a) ts e (is_below a.height d h)

pub named_is : (d : ℕ) (base : CType) (ts : List Token) → named d base ts ≡ makes (λ c. c.1) (thens (starred d base) (rest d base)) ts
unfolding named
named_is d base ts = refl

pub local_is : (d : ℕ) (ts : List Token) → local d ts ≡ makes (λ c. c.1) (thens types.base (λ b. named d b.ty)) ts
unfolding local
local_is d ts = refl
