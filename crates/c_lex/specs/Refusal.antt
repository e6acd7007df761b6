-- The refusals of the lexer and their causes.
use Rattle.std.specs.Prelude.{ℕ, ◌<◌, List, length}
use Rattle.c_lex.specs.declared.fault.Fault.{Fault}
use Rattle.c_lex.specs.declared.fault.Fault.TheVariants as fault
use Rattle.c_lex.specs.declared.fault.LexRefusal.{LexRefusal}
use Rattle.c_lex.specs.declared.fault.LexRefusal.TheVariants as refusal
use Rattle.c_lex.specs.Tokens.{FirstFault}

-- the refusal that names a fault and its byte
abbrev pub refusal_of : Fault → ℕ → LexRefusal
refusal_of fault.BadByte at = refusal.BadByte at
refusal_of fault.UnclosedText at = refusal.UnclosedText at
refusal_of fault.UnclosedComment at = refusal.UnclosedComment at
refusal_of fault.NumberTooLarge at = refusal.NumberTooLarge at
refusal_of fault.BadDirective at = refusal.BadDirective at

-- the number of each refusal; want of memory, which says nothing of the text, has none of them
abbrev pub number_of : LexRefusal → ℕ
number_of (refusal.BadByte at) = 1
number_of (refusal.UnclosedText at) = 2
number_of (refusal.UnclosedComment at) = 3
number_of (refusal.NumberTooLarge at) = 4
number_of (refusal.BadDirective at) = 5
number_of refusal.TextTooLong = 6
number_of refusal.NoMemory = 0

-- the byte that each refusal names; a text that is too long names none, nor does want of memory, which is 0
abbrev pub place_of : LexRefusal → ℕ
place_of (refusal.BadByte at) = at
place_of (refusal.UnclosedText at) = at
place_of (refusal.UnclosedComment at) = at
place_of (refusal.NumberTooLarge at) = at
place_of (refusal.BadDirective at) = at
place_of refusal.TextTooLong = 0
place_of refusal.NoMemory = 0

-- the greatest number of bytes of a text
abbrev pub text_limit : ℕ
text_limit = 65536

-- what each refusal says of the text; want of memory says nothing
abbrev pub IsCause : List ℕ → LexRefusal → Type 0
IsCause text (refusal.BadByte at) = FirstFault text fault.BadByte at
IsCause text (refusal.UnclosedText at) = FirstFault text fault.UnclosedText at
IsCause text (refusal.UnclosedComment at) = FirstFault text fault.UnclosedComment at
IsCause text (refusal.NumberTooLarge at) = FirstFault text fault.NumberTooLarge at
IsCause text (refusal.BadDirective at) = FirstFault text fault.BadDirective at
IsCause text refusal.TextTooLong = text_limit < length text
IsCause text refusal.NoMemory = Unit {0}
