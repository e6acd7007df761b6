-- What an answer on a whole list of tokens says of the list.
use Rattle.std.specs.Prelude.{◌≡◌, ◌≢◌, ℕ, ◌+◌, ◌≤◌, List, [], ◌∷◌, ◌++◌, ◌<◌, ◌-◌, length, Result, Ok, Err, refl}
use Rattle.std.proofs.Common.{sym, ◌∙◌, ap, subst, arith, append-nil}
use Rattle.std.proofs.lemmas.List.{length-map}
use Rattle.c_ast.specs.Seen.{Seen, seen, all_seen}
use Rattle.c_ast.specs.declared.token.Token.{Token}
use Rattle.c_ast.specs.declared.program.Program.{Program}
use Rattle.c_grammar.specs.Externals as externals
use Rattle.c_grammar.specs.Externals.{TranslationUnit}
use Rattle.c_grammar.specs.Spells.{Spells, Begins as ProgramBegins}
use Rattle.c_parse_base.specs.declared.fault.Fault.TheVariants.{Unexpected, TooDeep}
use Rattle.c_parse_base.specs.declared.fault.Stop.{Stop}
use Rattle.c_parse_base.specs.declared.fault.Stop.TheVariants as stop
use Rattle.c_parse_base.specs.Reading.Good.{Begins}
use Rattle.c_parse_base.specs.Reading.Exact.{ended, Within, Breaks, FirstWrong, FirstDeep, place_in}
use Rattle.c_parse_base.specs.Reading.Answers.{Answers, error}
use Rattle.c_parse_base.specs.Laws.WholeLaws.{gives_read, gives_stop, all_read, none_refused}
use Rattle.c_parse.specs.declared.refusal.ParseRefusal.{ParseRefusal}
use Rattle.c_parse.specs.declared.refusal.ParseRefusal.TheVariants as refusal
use Rattle.c_parse.specs.declared.externals.Externals.{Externals}
use Rattle.c_parse.specs.Reading.Values.{program_of}
use Rattle.c_parse.specs.Reading.Externals.{unit}
use Rattle.c_parse.specs.Laws.UnitLaws.{UnitWord, levels_below, unit_good}
use Rattle.c_parse.specs.Laws.Growth.{unit_grows}
use Rattle.c_parse.specs.Laws.SeenLaws.{tokens_of, seen-more, seen-behind, seen-behind-more, seen-some, Parts, parts_of, First, first_of}
use Rattle.c_parse.specs.Laws.SpellsLaws.{unit_spelled, some_seen, none_seen}
use Rattle.c_parse.specs.Parsed.{Parsed, BeginsWithin, NoneGoesOn, FirstUnexpected, FirstTooDeep}

-- the refusal at a place where the parser stopped
abbrev pub refused : Stop → ℕ → ParseRefusal
refused (stop.Fault Unexpected) place = refusal.Unexpected place
refused (stop.Fault TooDeep) place = refusal.TooDeep place
refused stop.NoMemory place = refusal.NoMemory

-- so many levels may stand below those of a declaration and of what it holds
abbrev pub below : ℕ
below = 198

-- ---- from external declarations to programs

some_more : (x : Seen) (u v : List Seen) → (u ++ x ∷ []) ++ v ≢ []
some_more x [] v = λ e. cc
some_more x (y ∷ u) v = λ e. cc

-- tokens that begin a program begin external declarations
begins_seen : (front : List Token) (t : Token) → ProgramBegins (front ++ t ∷ []) → Begins UnitWord (all_seen front ++ seen t ∷ [])
begins_seen front t b = record {
  value = record { items = b.program.items; height = b.depth };
  more = all_seen b.more;
  whole = some_seen b.program b.depth ((all_seen front ++ seen t ∷ []) ++ all_seen b.more)
      (some_more (seen t) (all_seen front) (all_seen b.more))
      (subst (λ w. TranslationUnit b.depth b.program.items w) (seen-behind front t b.more) b.spells);
}

begins_within : (d : ℕ) (ts rest : List Seen) (front : List Token) → Within UnitWord levels_below d ts (all_seen front) rest →
    BeginsWithin (d + 2) front
begins_within d ts rest front b = record {
  more = tokens_of b.more;
  program = program_of b.value.items;
  depth = b.value.height;
  spells = subst (λ w. TranslationUnit b.value.height b.value.items w) (sym (seen-more front b.more))
      (unit_spelled b.value (all_seen front ++ b.more) b.whole);
  within = omega (arith, b.low);
}

none_goes_on : (ts front back : List Token) → ts ≢ [] → ts ≡ front ++ back → Breaks UnitWord (all_seen front) (all_seen back) →
    NoneGoesOn front back
none_goes_on ts front [] some parts breaks = λ program depth s.
    breaks (record { items = program.items; height = depth })
    (some_seen program depth (all_seen front) (seen-some front (λ e. some (parts ∙ append-nil front ∙ e))) s)
none_goes_on ts front (t ∷ back) some parts breaks = λ b. breaks (begins_seen front t b)

first_unexpected : (d : ℕ) (ts : List Token) (place : ℕ) → ts ≢ [] → FirstWrong UnitWord levels_below d (all_seen ts) place →
    FirstUnexpected (d + 2) ts place
first_unexpected d ts place some w =
    let p : Parts ts w.taken w.rest = parts_of ts w.taken w.rest w.before.parts in
    record {
      taken = p.front;
      rest = p.back;
      parts = p.parts;
      at = sym (length-map p.front seen) ∙ ap length p.front_seen ∙ w.at;
      begins = begins_within d (all_seen ts) w.rest p.front (subst (λ u. Within UnitWord levels_below d (all_seen ts) u w.rest)
          (sym p.front_seen) w.before);
      breaks = none_goes_on ts p.front p.back some p.parts
          (subst (λ v. Breaks UnitWord (all_seen p.front) v) (sym p.back_seen)
          (subst (λ u. Breaks UnitWord u w.rest) (sym p.front_seen) w.breaks));
    }

-- some words begin with these tokens, and all of them are deeper
record Deep (d : ℕ) (u : List Seen) : Type 0 where
  begins : Begins UnitWord u
  deep : (v : Externals) (more : List Seen) → UnitWord v (u ++ more) → d + 2 < v.height

goes_deep : (d : ℕ) (front : List Token) (t : Token) → Deep d (all_seen front ++ seen t ∷ []) → ProgramBegins (front ++ t ∷ [])
goes_deep d front t h = record {
  more = tokens_of h.begins.more;
  program = program_of h.begins.value.items;
  depth = h.begins.value.height;
  spells = subst (λ w. TranslationUnit h.begins.value.height h.begins.value.items w) (sym (seen-behind-more front t h.begins.more))
      (unit_spelled h.begins.value ((all_seen front ++ seen t ∷ []) ++ h.begins.more) h.begins.whole);
}

all_deep : (d : ℕ) (front : List Token) (t : Token) → Deep d (all_seen front ++ seen t ∷ []) →
    (more : List Token) (program : Program) (depth : ℕ) →
    Spells ((front ++ t ∷ []) ++ more) program depth → d + 2 < depth
all_deep d front t h more program depth s =
    h.deep (record { items = program.items; height = depth }) (all_seen more)
    (some_seen program depth ((all_seen front ++ seen t ∷ []) ++ all_seen more) (some_more (seen t) (all_seen front) (all_seen more))
    (subst (λ w. TranslationUnit depth program.items w) (seen-behind front t more) s))

first_too_deep : (d : ℕ) (ts : List Token) (place : ℕ) → FirstDeep UnitWord levels_below d (all_seen ts) place →
    FirstTooDeep (d + 2) ts place
first_too_deep d ts place w =
    let p : Parts ts w.taken (w.token ∷ w.rest) = parts_of ts w.taken (w.token ∷ w.rest) w.before.parts in
    let f : First p.back w.token w.rest = first_of p.back w.token w.rest p.back_seen in
    let same : w.taken ++ w.token ∷ [] ≡ all_seen p.front ++ seen f.next ∷ [] =
    ap (λ u. u ++ w.token ∷ []) (sym p.front_seen) ∙ ap (λ x. all_seen p.front ++ x ∷ []) (sym f.next_seen) in
    let deep : Deep d (all_seen p.front ++ seen f.next ∷ []) = subst (λ u. Deep d u) same (record {
      begins = w.begins;
      deep = λ v more m. let low = w.deep v more m in omega arith;
    }) in
    record {
      taken = p.front;
      next = f.next;
      rest = f.rest;
      parts = p.parts ∙ ap (λ ts. p.front ++ ts) f.parts;
      at = sym (length-map p.front seen) ∙ ap length p.front_seen ∙ w.at;
      begins = begins_within d (all_seen ts) (w.token ∷ w.rest) p.front
          (subst (λ u. Within UnitWord levels_below d (all_seen ts) u (w.token ∷ w.rest)) (sym p.front_seen) w.before);
      goes_on = goes_deep d p.front f.next deep;
      deep = all_deep d p.front f.next deep;
    }

-- ---- what an answer says

abbrev answered : Program → Result Program ParseRefusal
answered p = Ok p

abbrev declined : ParseRefusal → Result Program ParseRefusal
declined r = Err r

pub none_left : (ts : List Token) → length ts ≡ 0 → ts ≡ []
none_left [] e = refl
none_left (x ∷ ts) e = absurd (omega arith)

pub some_left : (ts : List Token) → length ts ≢ 0 → ts ≢ []
some_left ts h e = h (ap length e)

-- no token is read as the empty program
pub parsed_none : (d : ℕ) (ts : List Token) → ts ≡ [] → Parsed d ts (answered (program_of []))
parsed_none d ts e = record {
  depth = 0;
  spells = subst (λ ts. Spells ts (program_of []) 0) (sym e) externals.no_external;
  within = omega arith;
}

-- a program that is read is the tokens'
pub parsed_read : (d : ℕ) (ts : List Token) (us : List Seen) (v : Externals) → Answers (ended (unit d) (all_seen ts)) (Ok v) us →
    Parsed (d + 2) ts (answered (program_of v.items))
parsed_read d ts us v h =
    let g = gives_read unit UnitWord levels_below unit_good unit_grows d (all_seen ts) us v h in
    record { depth = v.height; spells = unit_spelled v (all_seen ts) g.0; within = omega (arith, g.1) }

-- how many tokens were taken where these are left
abbrev pub taken_of : List Token → List Seen → ℕ
taken_of ts us = length ts - length us

same_place : (ts : List Token) (us : List Seen) → place_in (all_seen ts) us ≡ taken_of ts us
same_place ts us = ap (λ n. n - length us) (length-map ts seen)

-- a stop is a refusal at its place
pub parsed_stop : (d : ℕ) (ts : List Token) (us : List Seen) (s : Stop) → ts ≢ [] →
    Answers (ended (unit d) (all_seen ts)) (error {A = Externals} s) us →
    Parsed (d + 2) ts (declined (refused s (taken_of ts us)))
parsed_stop d ts us (stop.Fault Unexpected) some h =
    subst (λ place. FirstUnexpected (d + 2) ts place) (same_place ts us)
    (first_unexpected d ts (place_in (all_seen ts) us) some (gives_stop unit UnitWord levels_below unit_good unit_grows d
    (all_seen ts) us Unexpected h))
parsed_stop d ts us (stop.Fault TooDeep) some h =
    subst (λ place. FirstTooDeep (d + 2) ts place) (same_place ts us)
    (first_too_deep d ts (place_in (all_seen ts) us) (gives_stop unit UnitWord levels_below unit_good unit_grows d (all_seen ts) us
    TooDeep h))
parsed_stop d ts us stop.NoMemory some h = tt

-- a program within the limit is read, if memory is not wanting
pub program_read : (d : ℕ) (ts : List Token) (us : List Seen) (p : Program) (n : ℕ) (v : Externals) → ts ≢ [] → Spells ts p n → n ≤ d + 2 →
    Answers (ended (unit d) (all_seen ts)) (Ok v) us → program_of v.items ≡ p
program_read d ts us p n v some s low h =
    ap (λ (v : Externals). program_of v.items)
    (all_read unit UnitWord levels_below unit_good unit_grows d (all_seen ts) us (record { items = p.items; height = n }) v
    (some_seen p n (all_seen ts) (seen-some ts some) s) (omega arith) h)

pub program_kept : (d : ℕ) (ts : List Token) (us : List Seen) (p : Program) (n : ℕ) (s : Stop) → ts ≢ [] → Spells ts p n → n ≤ d + 2 →
    Answers (ended (unit d) (all_seen ts)) (error {A = Externals} s) us → s ≡ stop.NoMemory
program_kept d ts us p n s some m low h =
    none_refused unit UnitWord levels_below unit_good unit_grows d (all_seen ts) us (record { items = p.items; height = n }) s
    (some_seen p n (all_seen ts) (seen-some ts some) m) (omega arith) h

-- no program but the empty one is spelled by no token
pub program_none : (p : Program) (n : ℕ) (ts : List Token) → ts ≡ [] → Spells ts p n → program_of [] ≡ p
program_none p n ts e s = sym ((none_seen p n (subst (λ ts. Spells ts p n) e s)).0)
