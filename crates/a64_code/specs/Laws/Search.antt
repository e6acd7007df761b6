-- At most one row of the table fits a word, so the first that fits is the one.
use Rattle.std.proofs.Common.{drop, ◌≡◌, ℕ, zero, suc, true, false, not, List, [], ◌∷◌, Some, refl, ap, sym, ◌∙◌, bit_and}
use Rattle.std.specs.List.{slice_get, list_all, find}
use Rattle.std.proofs.lemmas.Bool.{eqb-true, eq-eqb, and_parts, both_ways}
use Rattle.std.proofs.lemmas.Nat.{and_assoc, and_comm}
use Rattle.a64_code.specs.Entry.{Form}
use Rattle.a64_code.specs.Decoded.{blank, fits}
use Rattle.a64_code.specs.Laws.EachRow.{mask_of, differ, all_differ}
use Rattle.a64_code.specs.Laws.Found.{all_at, all_found, passes}

-- Where two rows fit a word, their base words agree in the bits that both have fixed.
agree : (word : ℕ) (j k : Form) → fits word j ≡ true → fits word k ≡ true →
    bit_and (blank j).base (mask_of k) ≡ bit_and (blank k).base (mask_of j)
agree word j k hj hk =
    let ej : bit_and word (mask_of j) ≡ (blank j).base = eqb-true _ _ hj in
    let ek : bit_and word (mask_of k) ≡ (blank k).base = eqb-true _ _ hk in
    ap (λ n. bit_and n (mask_of k)) (sym ej) ∙ and_assoc (mask_of k) word (mask_of j)
    ∙ ap (bit_and word) (and_comm (mask_of j) (mask_of k))
    ∙ sym (and_assoc (mask_of j) word (mask_of k)) ∙ ap (λ n. bit_and n (mask_of j)) ek

apart : (word : ℕ) (j k : Form) → differ j k ≡ true → fits word k ≡ true → fits word j ≡ false
apart word j k d hk = elim (fits word j) as (λ b. fits word j ≡ b → b ≡ false) [
  | true ↦ λ hj. absurd (both_ways (differ j k) (ap not (eq-eqb _ _ (agree word j k hj hk))) d)
  | false ↦ λ _. refl
] refl

pub find-fits : (word : ℕ) (k : Form) (ks : List Form) (n : ℕ) → all_differ ks ≡ true → slice_get ks n ≡ Some k → fits word k ≡ true →
    find (fits word) ks ≡ Some k
find-fits word k [] n d e h = absurd (cc)
find-fits word k (x ∷ xs) zero d e h =
    let same : x ≡ k = cc in
    let yes : fits word x ≡ true = ap (fits word) same ∙ h in
    rw yes (ap (λ j. Some j) same)
find-fits word k (x ∷ xs) (suc n) d e h =
    let p = and_parts (list_all (differ x) xs) (all_differ xs) d in
    let no : fits word x ≡ false = apart word x k (all_at (differ x) k xs n p.0 e) h in
    rw no (find-fits word k xs n p.1 e h)

-- Wherever a search begins, what it finds is what a search from the start finds.
pub find-drop : (word : ℕ) (k : Form) (n : ℕ) (ks : List Form) → all_differ ks ≡ true → find (fits word) (drop n ks) ≡ Some k →
    find (fits word) ks ≡ Some k
find-drop word k zero ks d e = e
find-drop word k (suc n) [] d e = absurd (cc)
find-drop word k (suc n) (x ∷ xs) d e =
    let p = and_parts (list_all (differ x) xs) (all_differ xs) d in
    let found = find-drop word k n xs p.1 e in
    let no : fits word x ≡ false = apart word x k (all_found (differ x) (fits word) k xs p.0 found) (passes (fits word) k xs found) in
    rw no found
