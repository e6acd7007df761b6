-- A map by keys that have names: what it has under any name, after a change under one.
use Rattle.std.proofs.Common.{◌≡◌, refl, sym, ◌∙◌, subst, ℕ, Bool, true, false, cond, List, Option}
use Rattle.std.specs.Str.{bytes_eq}
use Rattle.std.specs.Cmp.Lexicographic.{nat_list_eq_equiv}
use Rattle.std.specs.HashMap.{HashMap, get_by, UpdatesBy}
use Rattle.std.specs.Map.{lookup, IsKeyTest, AreApart, KeepsOthers}
use Rattle.std.proofs.lemmas.Slice.Eq.{bytes_eq-Decides}

other_name : {K X : Type 0} (eq : K → K → Bool) (test : K → Bool) (old new : List (K × X)) → KeepsOthers eq test old new →
    (other : K → Bool) → IsKeyTest eq other → AreApart test other → lookup other new ≡ lookup other old
unfolding KeepsOthers
other_name eq test old new is = is

pub updated : {K X S : Type 0} (key : K) (name_of : K → List ℕ) (m n : HashMap K X S) (w : Option X) →
    UpdatesBy (λ x y. bytes_eq (name_of x) (name_of y)) (λ k. bytes_eq (name_of key) (name_of k)) m n w → (name : List ℕ) →
    get_by (λ k. bytes_eq name (name_of k)) n ≡ cond (bytes_eq (name_of key) name) w (get_by (λ k. bytes_eq name (name_of k)) m)
updated {K} key name_of m n w is name = chosen (bytes_eq (name_of key) name) refl
  where
    chosen : (b : Bool) → bytes_eq (name_of key) name ≡ b →
        get_by (λ k. bytes_eq name (name_of k)) n ≡ cond b w (get_by (λ k. bytes_eq name (name_of k)) m)
    chosen true same =
        subst (λ (x : List ℕ). get_by (λ k. bytes_eq x (name_of k)) n ≡ w) ((bytes_eq-Decides (name_of key) name).0 same) is.1
    chosen false apart =
        other_name (λ x y. bytes_eq (name_of x) (name_of y)) (λ k. bytes_eq (name_of key) (name_of k)) m.entries n.entries is.3
        (λ k. bytes_eq name (name_of k)) (λ x y. nat_list_eq_equiv.congr name (name_of x) (name_of y))
        (λ k same. nat_list_eq_equiv.symm name (name_of k) ∙ sym (nat_list_eq_equiv.congr (name_of key) (name_of k) name same) ∙ apart)
