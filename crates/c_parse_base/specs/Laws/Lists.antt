-- Facts on lists of tokens that the laws of parsers need.
use Rattle.std.specs.Prelude.{◌≡◌, Bool, true, false, ◌≤◌, List, [], ◌∷◌, ◌++◌, length}
use Rattle.std.proofs.Common.{sym, ◌∙◌, ap, subst, append_assoc, arith, length-append}
use Rattle.c_parse_base.specs.Reading.Answer.{Parser}
use Rattle.c_parse_base.specs.Reading.Good.{Stops, Local, StartsIn}

-- the parts of the parts
pub parts_join : {T : Type 0} (ts u us v vs : List T) → ts ≡ u ++ us → us ≡ v ++ vs → ts ≡ (u ++ v) ++ vs
parts_join ts u us v vs e f = e ∙ ap (λ xs. u ++ xs) f ∙ sym (append_assoc u v vs)

-- what hangs on the next token alone, with more tokens taken before it
pub local_at : {T A : Type 0} (p answer : Parser T A) (u us v : List T) (x : T) (tail other : List T) →
    Local p u us answer → us ≡ v ++ x ∷ tail → p (u ++ (v ++ x ∷ other)) ≡ answer (v ++ x ∷ other)
local_at p answer u us [] x tail other h e = (subst (λ ts. Local p u ts answer) e h) other
local_at p answer u us (y ∷ v) x tail other h e = (subst (λ ts. Local p u ts answer) e h) (v ++ x ∷ other)

-- a word that begins with one of these tokens, followed by anything
pub stops_before : {T : Type 0} (goes_on first : T → Bool) (w rest : List T) →
    StartsIn first w → ((x : T) → first x ≡ true → goes_on x ≡ false) → Stops goes_on (w ++ rest)
stops_before goes_on first w rest s apart =
    subst (λ ts. Stops goes_on (ts ++ rest)) (sym s.parts) (apart s.head s.is_first)

-- a word with another behind it begins as it does
pub starts_append : {T : Type 0} (first : T → Bool) (u v : List T) → StartsIn first u → StartsIn first (u ++ v)
starts_append first u v s = record { head = s.head; tail = s.tail ++ v; parts = ap (λ ts. ts ++ v) s.parts; is_first = s.is_first }

-- a list that begins with this token
pub record Headed {T : Type 0} (x : T) (ts : List T) : Type 0 where
  pub tail : List T
  pub parts : ts ≡ x ∷ tail

-- the first token of a list stays where what follows the next one changes
pub headed : {T : Type 0} (x : T) (ts w : List T) (y : T) (tail other : List T) → x ∷ ts ≡ w ++ y ∷ tail → Headed x (w ++ y ∷ other)
headed x ts [] y tail other e = record { tail = other; parts = cc }
headed x ts (z ∷ w) y tail other e = record { tail = w ++ y ∷ other; parts = cc }

-- what is left behind a word that is not empty is shorter
pub shorter : {T : Type 0} (x : T) (ts w us : List T) (first : T → Bool) → x ∷ ts ≡ w ++ us → StartsIn first w → length us ≤ length ts
shorter x ts w us first e s = omega (arith, ap length e, ap (λ ts. length (ts ++ us)) s.parts, length-append s.tail us, length-append w us)
