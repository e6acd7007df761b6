-- What an answer says of the programs that the tokens spell.
use Rattle.std.specs.Prelude.{◌≡◌, ℕ, ◌<◌, List, [], ◌∷◌, ◌++◌, Result, Ok, Err}
use Rattle.std.proofs.Common.{sym, ◌∙◌, subst, arith}
use Rattle.std.proofs.lemmas.List.{append-nil, append_assoc}
use Rattle.c_ast.specs.declared.token.Token.{Token}
use Rattle.c_ast.specs.declared.program.Program.{Program}
use Rattle.c_grammar.specs.Spells.{Spells}
use Rattle.c_parse.specs.declared.refusal.ParseRefusal.{ParseRefusal}
use Rattle.c_parse.specs.declared.refusal.ParseRefusal.TheVariants as refusal
use Rattle.c_parse.specs.Laws.SpellsLaws.{spells_at_most_one}
use Rattle.c_parse.specs.Parsed.{Parsed, NoneGoesOn, FirstUnexpected, FirstTooDeep, IsTooDeep}

-- tokens that go on with none spell no program
none_spelled : (taken rest : List Token) → NoneGoesOn taken rest → (program : Program) (depth : ℕ) → ¬ Spells (taken ++ rest) program depth
none_spelled taken [] none program depth spells = none program depth (subst (λ ts. Spells ts program depth) (append-nil taken) spells)
none_spelled taken (next ∷ rest) none program depth spells =
    none (record {
      more = rest;
      program = program;
      depth = depth;
      spells = subst (λ ts. Spells ts program depth) (sym (append_assoc taken (next ∷ []) rest)) spells;
    })

-- tokens of which one cannot be right spell no program
pub unexpected_spells_none : {levels place : ℕ} {tokens : List Token} → FirstUnexpected levels tokens place →
    (program : Program) (depth : ℕ) → ¬ Spells tokens program depth
unexpected_spells_none first program depth spells =
    none_spelled first.taken first.rest first.breaks program depth (subst (λ ts. Spells ts program depth) first.parts spells)

-- tokens of which one is too deep spell no program within the limit
pub too_deep_is_deep : {levels place : ℕ} {tokens : List Token} → FirstTooDeep levels tokens place → (program : Program) (depth : ℕ) →
    Spells tokens program depth → levels < depth
too_deep_is_deep first program depth spells =
    let same = first.parts ∙ sym (append_assoc first.taken (first.next ∷ []) first.rest) in
    first.deep first.rest program depth (subst (λ ts. Spells ts program depth) same spells)

-- tokens of a program beyond the limit are too deep, memory aside
pub deep_refused : (levels : ℕ) (tokens : List Token) (answer : Result Program ParseRefusal) → Parsed levels tokens answer →
    (program : Program) (depth : ℕ) → Spells tokens program depth → levels < depth → IsTooDeep answer
deep_refused levels tokens (Ok found) parsed program depth spells deep =
    let same : parsed.depth ≡ depth = (spells_at_most_one tokens found program parsed.depth depth parsed.spells spells).1 in
    absurd (omega (arith, same, deep, parsed.within))
deep_refused levels tokens (Err (refusal.Unexpected place)) parsed program depth spells deep =
    unexpected_spells_none parsed program depth spells
deep_refused levels tokens (Err (refusal.TooDeep place)) parsed program depth spells deep = tt
deep_refused levels tokens (Err refusal.NoMemory) parsed program depth spells deep = tt
