-- Why a program is not typed.
use Rattle.std.specs.Prelude.{◌≡◌, ℕ, nat_eq, ◌⊎◌, if◌then◌else◌, Result, IfOk, IfErr, IsErrAnd, MatchResult}
use Rattle.c_ast.specs.declared.token.Span.{Span}
use Rattle.c_ast.specs.declared.program.Program.{Program}
use Rattle.c_type_base.specs.declared.typed.Typed.{Typed}
use Rattle.c_types.specs.declared.refusal.TypeRefusal.{TypeRefusal}
use Rattle.c_types.specs.declared.refusal.TypeRefusal.TheVariants as refusal
use Rattle.c_types.specs.WellTyped.{WellTyped, FirstBroken}

-- the refusal for a rule by its number, from 9 to 19
abbrev pub refusal_of : ℕ → Span → TypeRefusal
refusal_of number span =
    (if nat_eq number 9 then refusal.Undeclared span
    else (if nat_eq number 10 then refusal.Redeclared span
    else (if nat_eq number 11 then refusal.NotLvalue span
    else (if nat_eq number 12 then refusal.Mismatch span
    else (if nat_eq number 13 then refusal.NotCallable span
    else (if nat_eq number 14 then refusal.ArgCount span
    else (if nat_eq number 15 then refusal.Incomplete span
    else (if nat_eq number 16 then refusal.BadInit span
    else (if nat_eq number 17 then refusal.ObjectTooLarge span
    else (if nat_eq number 18 then refusal.NoMember span
    else refusal.MainForm span))))))))))

-- the number of each refusal, and 0 for want of memory
abbrev pub number_of : TypeRefusal → ℕ
number_of (refusal.Undeclared span) = 9
number_of (refusal.Redeclared span) = 10
number_of (refusal.NotLvalue span) = 11
number_of (refusal.Mismatch span) = 12
number_of (refusal.NotCallable span) = 13
number_of (refusal.ArgCount span) = 14
number_of (refusal.Incomplete span) = 15
number_of (refusal.BadInit span) = 16
number_of (refusal.ObjectTooLarge span) = 17
number_of (refusal.NoMember span) = 18
number_of (refusal.MainForm span) = 19
number_of refusal.NoMemory = 0

-- the construct that each refusal names; want of memory names none
abbrev pub span_of : TypeRefusal → Span
span_of (refusal.Undeclared span) = span
span_of (refusal.Redeclared span) = span
span_of (refusal.NotLvalue span) = span
span_of (refusal.Mismatch span) = span
span_of (refusal.NotCallable span) = span
span_of (refusal.ArgCount span) = span
span_of (refusal.Incomplete span) = span
span_of (refusal.BadInit span) = span
span_of (refusal.ObjectTooLarge span) = span
span_of (refusal.NoMember span) = span
span_of (refusal.MainForm span) = span
span_of refusal.NoMemory = record { start = 0; end = 0 }

-- the byte at which that construct starts
abbrev pub place_of : TypeRefusal → ℕ
place_of r = (span_of r).start

-- a refusal names the first rule that is broken, and its construct
pub record Names (program : Program) (r : TypeRefusal) : Type 0 where
  pub number : ℕ
  pub span : Span
  pub first : FirstBroken program number span
  pub is : r ≡ refusal_of number span

-- want of memory aside, which says nothing of the program
abbrev pub IsCause : Program → TypeRefusal → Type 0
IsCause program r = (r ≡ refusal.NoMemory) ⊎ Names program r

-- what the answer on a program says: its types, or the first broken rule, both ways
pub record IsAnswer (program : Program) (result : Result Typed TypeRefusal) : Type 0 where
  pub typed : IfOk result (WellTyped program)
  pub refused : IfErr result (IsCause program)
  pub all : (typed : Typed) → WellTyped program typed → MatchResult result (λ found. found ≡ typed) (λ r. r ≡ refusal.NoMemory)
  pub first_broken : (number : ℕ) (span : Span) → FirstBroken program number span →
      IsErrAnd result (λ r. (r ≡ refusal_of number span) ⊎ (r ≡ refusal.NoMemory))
