-- One element more of what bytes claim.
use Rattle.std.proofs.Common.{◌≡◌, ℕ, suc, ◌+◌, ◌-◌, ◌*◌, ◌<◌, ◌≤◌, true, false, List, [], ◌∷◌, ◌++◌, length, drop, take, get_or, refl}
use Rattle.std.proofs.Common.{sym, ap, ◌∙◌, arith, append_assoc}
use Rattle.std.specs.Prelude.{◌==◌}
use Rattle.std.proofs.lemmas.List.{take_more, append-nil}
use Rattle.elf_obj.specs.declared.parts.Symbol.{Symbol}
use Rattle.elf_obj.specs.Claimed.{each_from, name_first, after_name, names_in, symbol_at, symbols_at}
use Rattle.elf_obj.proofs.Steps.{left}

pub each-step : {A : Type 0} (read : ℕ → A) (width count i at : ℕ) (all out : List A) (x : A) → i < count → x ≡ read (at + width * i)
    → all ≡ out ++ each_from read width (count - i) (at + width * i)
    → all ≡ (out ++ x ∷ []) ++ each_from read width (count - (i + 1)) (at + width * (i + 1))
each-step {A} read width count i at all out x lt is h =
    let more : count - i ≡ suc (count - (i + 1)) = omega arith in
    let next : at + width * i + width ≡ at + width * (i + 1) = omega arith in
    let rest : List A = each_from read width (count - (i + 1)) (at + width * (i + 1)) in
    h ∙ ap (λ (n : ℕ). out ++ each_from read width n (at + width * i)) more
    ∙ ap (λ (n : ℕ). out ++ (read (at + width * i) ∷ each_from read width (count - (i + 1)) n)) next
    ∙ ap (λ (y : A). out ++ (y ∷ rest)) (sym is)
    ∙ sym (append_assoc out (x ∷ []) rest)

pub each-end : {A : Type 0} (read : ℕ → A) (width count i at : ℕ) (all out : List A) → count ≤ i
    → all ≡ out ++ each_from read width (count - i) at → out ≡ all
each-end read width count i at all out le h =
    let none : count - i ≡ 0 = omega arith in
    sym (h ∙ ap (λ (n : ℕ). out ++ each_from read width n at) none ∙ append-nil out)

-- ---- names

pub name-step : (bs : List ℕ) (i b : ℕ) → i < length bs → b ≡ get_or bs i 0 → (b == 0) ≡ false
    → name_first bs ≡ take i bs ++ name_first (drop i bs)
    → name_first bs ≡ take (i + 1) bs ++ name_first (drop (i + 1) bs)
name-step bs i b lt is other h =
    let here : name_first (b ∷ drop (i + 1) bs) ≡ b ∷ name_first (drop (i + 1) bs) = rw other refl in
    let more : take (i + 1) bs ≡ take i bs ++ b ∷ [] = take_more bs i 0 lt ∙ ap (λ (x : ℕ). take i bs ++ x ∷ []) (sym is) in
    h ∙ ap (λ (l : List ℕ). take i bs ++ name_first l) (left bs i b 0 lt is) ∙ ap (λ (l : List ℕ). take i bs ++ l) here
    ∙ sym (append_assoc (take i bs) (b ∷ []) (name_first (drop (i + 1) bs)))
    ∙ ap (λ (l : List ℕ). l ++ name_first (drop (i + 1) bs)) (sym more)

pub after-step : (bs : List ℕ) (i b : ℕ) → i < length bs → b ≡ get_or bs i 0 → (b == 0) ≡ false → after_name bs ≡ after_name (drop i bs)
    → after_name bs ≡ after_name (drop (i + 1) bs)
after-step bs i b lt is other h =
    let here : after_name (b ∷ drop (i + 1) bs) ≡ after_name (drop (i + 1) bs) = rw other refl in
    h ∙ ap after_name (left bs i b 0 lt is) ∙ here

pub name-ends : (bs : List ℕ) (i b : ℕ) → i < length bs → b ≡ get_or bs i 0 → (b == 0) ≡ true
    → name_first bs ≡ take i bs ++ name_first (drop i bs)
    → take i bs ≡ name_first bs
name-ends bs i b lt is same h =
    let here : name_first (b ∷ drop (i + 1) bs) ≡ [] = rw same refl in
    sym (h ∙ ap (λ (l : List ℕ). take i bs ++ name_first l) (left bs i b 0 lt is) ∙ ap (λ (l : List ℕ). take i bs ++ l) here
    ∙ append-nil (take i bs))

pub after-ends : (bs : List ℕ) (i b : ℕ) → i < length bs → b ≡ get_or bs i 0 → (b == 0) ≡ true → after_name bs ≡ after_name (drop i bs)
    → drop (i + 1) bs ≡ after_name bs
after-ends bs i b lt is same h =
    let here : after_name (b ∷ drop (i + 1) bs) ≡ drop (i + 1) bs = rw same refl in
    sym (h ∙ ap after_name (left bs i b 0 lt is) ∙ here)

-- one symbol more
pub symbols_at-step : (count i at : ℕ) (file rest name after : List ℕ) (all out : List Symbol) (s : Symbol) → i < count
    → name ≡ name_first rest → after ≡ after_name rest
    → s ≡ symbol_at name (at + 24 * i) file
    → all ≡ out ++ symbols_at (names_in (count - i) rest) (at + 24 * i) file
    → all ≡ (out ++ s ∷ []) ++ symbols_at (names_in (count - (i + 1)) after) (at + 24 * (i + 1)) file
symbols_at-step count i at file rest name after all out s lt named behind is h =
    let more : count - i ≡ suc (count - (i + 1)) = omega arith in
    let next : at + 24 * i + 24 ≡ at + 24 * (i + 1) = omega arith in
    let n : ℕ = count - (i + 1) in
    let tail : List Symbol = symbols_at (names_in n after) (at + 24 * (i + 1)) file in
    h ∙ ap (λ (m : ℕ). out ++ symbols_at (names_in m rest) (at + 24 * i) file) more
    ∙ ap (λ (m : ℕ). out ++ (symbol_at (name_first rest) (at + 24 * i) file ∷ symbols_at (names_in n (after_name rest)) m file)) next
    ∙ ap (λ (l : List ℕ). out ++ (symbol_at (name_first rest) (at + 24 * i) file ∷ symbols_at (names_in n l) (at + 24 * (i + 1)) file))
    (sym behind)
    ∙ ap (λ (l : List ℕ). out ++ (symbol_at l (at + 24 * i) file ∷ tail)) (sym named)
    ∙ ap (λ (y : Symbol). out ++ (y ∷ tail)) (sym is)
    ∙ sym (append_assoc out (s ∷ []) tail)
