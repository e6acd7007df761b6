-- From what an answer says of a text to the answer that a text has.
use Rattle.std.proofs.Common.{◌≡◌, ℕ, ◌≤◌, ◌⊎◌, inl, inr, List, length, Result, Ok, Err, refl, arith}
use Rattle.std.specs.Prelude.{IfOk, IfErr, MatchResult, IsErrAnd}
use Rattle.std.specs.Global.{Vec}
use Rattle.c_ast.specs.declared.token.Token.{Token}
use Rattle.c_ast.specs.Seen.{Seen, all_seen}
use Rattle.c_lex.specs.declared.fault.Fault.{Fault}
use Rattle.c_lex.specs.declared.fault.Fault.TheVariants as fault
use Rattle.c_lex.specs.declared.fault.LexRefusal.{LexRefusal}
use Rattle.c_lex.specs.declared.fault.LexRefusal.TheVariants as refusal
use Rattle.c_lex.specs.Tokens.{Tokens, FirstFault}
use Rattle.c_lex.specs.Refusal.{refusal_of, text_limit, IsCause}
use Rattle.c_lex.specs.Laws.TokenLaws.{read_one_way}

-- a fault's refusal has the fault as its cause
pub refusal-cause : (text : List ℕ) (what : Fault) (at : ℕ) → FirstFault text what at → IsCause text (refusal_of what at)
refusal-cause text fault.BadByte at found = found
refusal-cause text fault.UnclosedText at found = found
refusal-cause text fault.UnclosedComment at found = found
refusal-cause text fault.NumberTooLarge at found = found
refusal-cause text fault.BadDirective at found = found

-- a text with tokens that is short has no refusal but want of memory
pub refused_tokens : (text : List ℕ) (tokens : List Seen) (e : LexRefusal) → Tokens text tokens → length text ≤ text_limit → IsCause text e
    → e ≡ refusal.NoMemory
refused_tokens text tokens (refusal.BadByte at) whole short cause = absurd
    ((read_one_way text).never_both tokens fault.BadByte at whole cause)
refused_tokens text tokens (refusal.UnclosedText at) whole short cause = absurd
    ((read_one_way text).never_both tokens fault.UnclosedText at whole cause)
refused_tokens text tokens (refusal.UnclosedComment at) whole short cause = absurd
    ((read_one_way text).never_both tokens fault.UnclosedComment at whole cause)
refused_tokens text tokens (refusal.NumberTooLarge at) whole short cause = absurd
    ((read_one_way text).never_both tokens fault.NumberTooLarge at whole cause)
refused_tokens text tokens (refusal.BadDirective at) whole short cause = absurd
    ((read_one_way text).never_both tokens fault.BadDirective at whole cause)
refused_tokens text tokens refusal.TextTooLong whole short cause = absurd (omega arith)
refused_tokens text tokens refusal.NoMemory whole short cause = refl

same_refusal : (text : List ℕ) (what other : Fault) (at place : ℕ) → FirstFault text what at → FirstFault text other place
    → refusal_of other place ≡ refusal_of what at
same_refusal text what other at place found also =
    let same = (read_one_way text).one_fault what other at place found also in
    rw (same.0, same.1) refl

-- a text with a first fault that is short has its refusal or want of memory
pub refused_fault : (text : List ℕ) (what : Fault) (at : ℕ) (e : LexRefusal) → FirstFault text what at → length text ≤ text_limit
    → IsCause text e → (e ≡ refusal_of what at) ⊎ (e ≡ refusal.NoMemory)
refused_fault text what at (refusal.BadByte place) found short cause = inl (same_refusal text what fault.BadByte at place found cause)
refused_fault text what at (refusal.UnclosedText place) found short cause = inl
    (same_refusal text what fault.UnclosedText at place found cause)
refused_fault text what at (refusal.UnclosedComment place) found short cause = inl
    (same_refusal text what fault.UnclosedComment at place found cause)
refused_fault text what at (refusal.NumberTooLarge place) found short cause = inl
    (same_refusal text what fault.NumberTooLarge at place found cause)
refused_fault text what at (refusal.BadDirective place) found short cause = inl
    (same_refusal text what fault.BadDirective at place found cause)
refused_fault text what at refusal.TextTooLong found short cause = absurd (omega arith)
refused_fault text what at refusal.NoMemory found short cause = inr refl

-- what an answer says fixes the answer for a text with tokens
pub every_tokens : (text : List ℕ) (answer : Result (Vec Token) LexRefusal) → IfOk answer (λ found. Tokens text (all_seen found.items))
    → IfErr answer (IsCause text) →
    (tokens : List Seen) → Tokens text tokens → length text ≤ text_limit
    → MatchResult answer (λ found. all_seen found.items ≡ tokens) (λ e. e ≡ refusal.NoMemory)
every_tokens text (Ok found) whole refused tokens also short = (read_one_way text).one_list (all_seen found.items) tokens whole also
every_tokens text (Err e) whole refused tokens also short = refused_tokens text tokens e also short refused

-- and for a text with a first fault
pub every_fault : (text : List ℕ) (answer : Result (Vec Token) LexRefusal) → IfOk answer (λ found. Tokens text (all_seen found.items))
    → IfErr answer (IsCause text) →
    (what : Fault) (at : ℕ) → FirstFault text what at → length text ≤ text_limit
    → IsErrAnd answer (λ e. (e ≡ refusal_of what at) ⊎ (e ≡ refusal.NoMemory))
every_fault text (Ok found) whole refused what at fault short = absurd
    ((read_one_way text).never_both (all_seen found.items) what at whole fault)
every_fault text (Err e) whole refused what at fault short = refused_fault text what at e fault short refused
