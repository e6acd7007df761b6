-- What the lexer says of a text that it refuses is a cause, and what it gives of another are its tokens.
use Rattle.std.proofs.Common.{◌≡◌, ◌<◌, ◌≤◌, ℕ, List, length, Result, Ok, Err, inl, inr, refl, sym, subst, arith}
use Rattle.std.proofs.lemmas.Bool.{cases_lt}
use Rattle.c_ast.specs.Seen.{all_seen}
use Rattle.c_ast.specs.declared.token.Token.{Token}
use Rattle.c_lex.specs.declared.fault.LexRefusal.{LexRefusal}
use Rattle.c_lex.specs.declared.fault.LexRefusal.TheVariants as lex
use Rattle.c_lex.specs.Refusal.{IsCause as IsLexCause, text_limit}
use Rattle.c_lex.specs.Tokens.{Tokens}
use Rattle.mt_compile.specs.Causes.{of_text}
use Rattle.mt_compile.specs.Refused.{IsReadCause, faulty, too_long}
use Rattle.mt_compile.specs.Source.{HasTokens}

-- a text that is not longer than the limit
pub not_longer : (text : List ℕ) → (text_limit < length text → ⊥) → length text ≤ text_limit
not_longer text not = elim (cases_lt text_limit (length text)) [ inl long ↦ absurd (not long) | inr short ↦ omega (arith, short) ]

-- two answers of the lexer are one
abbrev pub SameAnswer : {X : Type 0} → Result X LexRefusal → Result X LexRefusal → Type 0
SameAnswer x y = x ≡ y

-- the lexer gave these tokens, which stand in a slice now
pub held_tokens : {X : Type 0} (text : List ℕ) (found : X) (given tokens : List Token) → tokens ≡ given → Tokens text (all_seen given) →
    (text_limit < length text → SameAnswer (Ok found) (Err lex.TextTooLong)) → HasTokens text tokens
held_tokens text found given tokens same are only =
    record {
      within = not_longer text (λ long. let e : SameAnswer (Ok found) (Err lex.TextTooLong) = only long in cc);
      are =
          subst (λ ts. Tokens text (all_seen ts)) (sym same) are;
    }

same_err : (X : Type 0) {a b : LexRefusal} → SameAnswer {X = X} (Err a) (Err b) → a ≡ b
same_err X e = cc

text_so : (text : List ℕ) (refusal : LexRefusal) → IsLexCause text refusal → (text_limit < length text → refusal ≡ lex.TextTooLong) →
    IsReadCause text (of_text refusal)
text_so text lex.NoMemory cause only = inl refl
text_so text lex.TextTooLong cause only = inr (too_long cause)
text_so text (lex.BadByte at) cause only =
    inr (faulty (not_longer text (λ long. let e : lex.BadByte at ≡ lex.TextTooLong = only long in cc)) cause)
text_so text (lex.UnclosedText at) cause only =
    inr (faulty (not_longer text (λ long. let e : lex.UnclosedText at ≡ lex.TextTooLong = only long in cc)) cause)
text_so text (lex.UnclosedComment at) cause only =
    inr (faulty (not_longer text (λ long. let e : lex.UnclosedComment at ≡ lex.TextTooLong = only long in cc)) cause)
text_so text (lex.NumberTooLarge at) cause only =
    inr (faulty (not_longer text (λ long. let e : lex.NumberTooLarge at ≡ lex.TextTooLong = only long in cc)) cause)
text_so text (lex.BadDirective at) cause only =
    inr (faulty (not_longer text (λ long. let e : lex.BadDirective at ≡ lex.TextTooLong = only long in cc)) cause)

-- what the lexer says of a text is a cause
pub text_cause : (X : Type 0) (text : List ℕ) (refusal : LexRefusal) → IsLexCause text refusal →
    (text_limit < length text → SameAnswer {X = X} (Err refusal) (Err lex.TextTooLong)) → IsReadCause text (of_text refusal)
text_cause X text refusal cause only = text_so text refusal cause (λ long. same_err X (only long))
