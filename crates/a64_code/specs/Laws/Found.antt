-- What holds of each element of a list holds of the one at a place, and of the one that is found.
use Rattle.std.proofs.Common.{◌≡◌, ℕ, zero, suc, Bool, true, false, cond, List, [], ◌∷◌, map, Some, refl, ap, sym, ◌∙◌}
use Rattle.std.specs.List.{slice_get, list_all, find}
use Rattle.std.proofs.lemmas.Bool.{and_parts}
use Rattle.a64_code.specs.Entry.{Form}

pub all_at : (p : Form → Bool) (f : Form) (fs : List Form) (n : ℕ) → list_all p fs ≡ true → slice_get fs n ≡ Some f → p f ≡ true
all_at p f [] n h e = absurd (cc)
all_at p f (x ∷ xs) zero h e = let q = and_parts (p x) (list_all p xs) h in let same : x ≡ f = cc in ap p (sym same) ∙ q.0
all_at p f (x ∷ xs) (suc n) h e = let q = and_parts (p x) (list_all p xs) h in all_at p f xs n q.1 e

pub all_found : (p found : Form → Bool) (f : Form) (fs : List Form) → list_all p fs ≡ true → find found fs ≡ Some f → p f ≡ true
all_found p found f [] h e = absurd (cc)
all_found p found f (x ∷ xs) h e =
    let q = and_parts (p x) (list_all p xs) h in
    elim (found x) as (λ b. cond b (Some x) (find found xs) ≡ Some f → p f ≡ true) [
      | true ↦ λ same. let s : x ≡ f = cc in ap p (sym s) ∙ q.0
      | false ↦ λ rest. all_found p found f xs q.1 rest
    ] e

pub passes : (found : Form → Bool) (f : Form) (fs : List Form) → find found fs ≡ Some f → found f ≡ true
passes found f [] h = absurd (cc)
passes found f (x ∷ xs) h = elim (found x) as (λ b. found x ≡ b → cond b (Some x) (find found xs) ≡ Some f → found f ≡ true) [
  | true ↦ λ e same. let s : x ≡ f = cc in ap found (sym s) ∙ e
  | false ↦ λ e same. passes found f xs same
] refl h

-- A function that leaves a list as it is leaves what is found in it.
pub kept_found : (g : Form → Form) (found : Form → Bool) (f : Form) (fs : List Form) → map g fs ≡ fs → find found fs ≡ Some f → g f ≡ f
kept_found g found f [] h e = absurd (cc)
kept_found g found f (x ∷ xs) h e =
    let kept : g x ≡ x = cc in
    let rest_kept : map g xs ≡ xs = cc in
    elim (found x) as (λ b. cond b (Some x) (find found xs) ≡ Some f → g f ≡ f) [
      | true ↦ λ same. let s : x ≡ f = cc in ap g (sym s) ∙ kept ∙ s
      | false ↦ λ rest. kept_found g found f xs rest_kept rest
    ] e
