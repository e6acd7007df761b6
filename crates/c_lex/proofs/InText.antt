-- Each token of a text is a slice of it, and its numbers are in range.
use Rattle.std.proofs.Common.{◌≡◌, ℕ, ◌≤◌, List, [], ◌∷◌, length, take, drop, Bool, true, false, cond, leb, Some, refl, ap, subst, sym}
use Rattle.std.proofs.Common.{arith, length-take-le, length-drop}
use Rattle.std.specs.Prelude.{All}
use Rattle.std.proofs.lemmas.Bool.{leb-true, and_parts}
use Rattle.std.specs.List.{list_all}
use Rattle.std.proofs.lemmas.List.Elements.{All-push}
use Rattle.c_ast.specs.declared.int_type.IntType.{IntType}
use Rattle.c_ast.specs.declared.token.Lexeme.{Lexeme}
use Rattle.c_ast.specs.declared.token.Lexeme.TheVariants as lexeme
use Rattle.c_ast.specs.Seen.{Seen}
use Rattle.c_lex.specs.ConstantTypes.{greatest, first_type, listed_types, is_constant_type}
use Rattle.c_lex.specs.Constant.{IsConstant}
use Rattle.c_lex.specs.Spelling.{Spells}
use Rattle.c_lex.specs.Tokens.{TokenAt, Reaches, start, gap, token, Tokens, IsTyped, IsInText}

chosen : (value : ℕ) (ty found : IntType) (types : List IntType) (holds : Bool) → leb value (greatest ty) ≡ holds
    → cond holds (Some ty) (first_type value types) ≡ Some found → is_constant_type ty ≡ true →
    (first_type value types ≡ Some found → (is_constant_type found ≡ true) × (value ≤ greatest found))
    → (is_constant_type found ≡ true) × (value ≤ greatest found)
chosen value ty found types true is h listed later =
    let same : ty ≡ found = cc in
    subst (λ t. (is_constant_type t ≡ true) × (value ≤ greatest t)) same (listed, leb-true value (greatest ty) is)
chosen value ty found types false is h listed later = later h

-- the first type of a list that holds a value is of the list and holds it
first_type-some : (value : ℕ) (found : IntType) (types : List IntType) → first_type value types ≡ Some found
    → list_all is_constant_type types ≡ true → (is_constant_type found ≡ true) × (value ≤ greatest found)
first_type-some value found [] h listed = cc
first_type-some value found (ty ∷ types) h listed =
    let parts = and_parts (is_constant_type ty) (list_all is_constant_type types) listed in
    chosen value ty found types (leb value (greatest ty)) refl h parts.0 (λ later. first_type-some value found types later parts.1)

listed-constant : (decimal unsigned long : Bool) → list_all is_constant_type (listed_types decimal unsigned long) ≡ true
listed-constant true false false = refl
listed-constant false false false = refl
listed-constant true false true = refl
listed-constant false false true = refl
listed-constant true true false = refl
listed-constant false true false = refl
listed-constant true true true = refl
listed-constant false true true = refl

spelled-typed : (kind : Lexeme) (bytes : List ℕ) → Spells kind bytes → IsTyped kind
unfolding Spells
spelled-typed lexeme.Include bytes spells = tt
spelled-typed (lexeme.Name name) bytes spells = tt
spelled-typed (lexeme.Number value ty) bytes spells = of_constant spells
  where
    of_constant : IsConstant value ty bytes → (is_constant_type ty ≡ true) × (value ≤ greatest ty)
    of_constant c = first_type-some value ty _ c.typed (listed-constant _ c.written.unsigned c.written.long)
spelled-typed (lexeme.Character value) bytes spells = tt
spelled-typed (lexeme.Text values) bytes spells = tt
spelled-typed (lexeme.Keyword number) bytes spells = tt
spelled-typed (lexeme.Punct number) bytes spells = tt

one-in_text : (text : List ℕ) (place : ℕ) (kind : Lexeme) (bytes : ℕ) → TokenAt (drop place text) kind bytes
    → IsInText text (record { kind = kind; bytes = take bytes (drop place text); start = place })
one-in_text text place kind bytes here =
    let count : length (take bytes (drop place text)) ≡ bytes = length-take-le bytes (drop place text) here.within in
    record {
      within = omega (arith, count, here.some, here.within, length-drop place text);
      sliced = ap (λ n. take n (drop place text)) (sym count);
      typed = spelled-typed kind (take bytes (drop place text)) here.spells;
    }

reached-in_text : (text : List ℕ) (place : ℕ) (tokens : List Seen) → Reaches text place tokens → All (IsInText text) tokens
reached-in_text text _ _ start = λ k d below. absurd (omega arith)
reached-in_text text _ tokens (gap bytes reached is) = reached-in_text text _ tokens reached
reached-in_text text _ _ (token {place = place} {tokens = tokens} kind bytes reached here sound) =
    All-push (IsInText text) tokens (record { kind = kind; bytes = take bytes (drop place text); start = place })
    (reached-in_text text _ tokens reached) (one-in_text text place kind bytes here)

pub tokens-in_text : (text : List ℕ) (tokens : List Seen) → Tokens text tokens → All (IsInText text) tokens
tokens-in_text text tokens whole = reached-in_text text (length text) tokens whole
