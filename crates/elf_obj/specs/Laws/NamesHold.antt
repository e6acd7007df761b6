-- The names that are read from some bytes, each with its zero byte, are those bytes.
use Rattle.std.proofs.Common.{◌≡◌, ℕ, zero, suc, ◌+◌, ◌-◌, ◌<◌, ◌≤◌, Bool, true, false, List, [], ◌∷◌, ◌++◌, length, take, drop, refl}
use Rattle.std.proofs.Common.{sym, ap, ◌∙◌, arith, append_assoc, length-append, length-take, length-drop, drop-drop, take_at, drop_at}
use Rattle.std.specs.Prelude.{◌==◌, if◌then◌else◌}
use Rattle.std.specs.List.{flat_map}
use Rattle.std.proofs.lemmas.List.{take_all, drop-take}
use Rattle.std.proofs.lemmas.Bool.Decides.{nat_tests}
use Rattle.elf_base.specs.Field.{StandsAt}
use Rattle.elf_base.specs.Laws.Standing.{take-add}
use Rattle.elf_base.specs.Zeros.{is_zero_between}
use Rattle.elf_obj.specs.declared.parts.Symbol.{Symbol}
use Rattle.elf_obj.specs.Sections.{names_end}
use Rattle.elf_obj.specs.Records.{name_bytes}
use Rattle.elf_obj.specs.Claimed.{offset_of, size_of, content_of, name_first, after_name, names_in, symbols_at}
use Rattle.elf_obj.specs.Laws.Lengths.{length-names}
use Rattle.elf_obj.specs.Laws.Together.{stands-both, stands-taken, zeros_stand}

zero_is : (b : ℕ) → (b == 0) ≡ true → b ≡ 0
zero_is b h = grind (arith, nat_tests)

splits : (is : Bool) (b : ℕ) (bs : List ℕ) → (b == 0) ≡ is → length (if is then [] else b ∷ name_first bs) < length (b ∷ bs)
    → (length (name_first bs) < length bs → bs ≡ name_first bs ++ 0 ∷ after_name bs)
    → b ∷ bs ≡ (if is then [] else b ∷ name_first bs) ++ 0 ∷ (if is then bs else after_name bs)
splits true b bs e h f = ap (λ (n : ℕ). n ∷ bs) (zero_is b e)
splits false b bs e h f = ap (λ (l : List ℕ). b ∷ l) (f (omega (arith, h)))

name_splits : (bs : List ℕ) → length (name_first bs) < length bs → bs ≡ name_first bs ++ 0 ∷ after_name bs
name_splits [] h = absurd (omega (arith, h))
name_splits (b ∷ bs) h = splits (b == 0) b bs refl h (name_splits bs)

pub names_join : (n at : ℕ) (bs file : List ℕ) → length (flat_map name_bytes (symbols_at (names_in n bs) at file)) ≤ length bs
    → take (length (flat_map name_bytes (symbols_at (names_in n bs) at file))) bs ≡ flat_map name_bytes (symbols_at (names_in n bs) at file)
names_join zero at bs file h = refl
names_join (suc n) at bs file h =
    let name : List ℕ = name_first bs ++ 0 ∷ [] in
    let others : List ℕ = flat_map name_bytes (symbols_at (names_in n (after_name bs)) (at + 24) file) in
    let len : length name ≡ length (name_first bs) + 1 = length-append (name_first bs) (0 ∷ []) in
    let whole : length (name ++ others) ≡ length name + length others = length-append name others in
    let is : bs ≡ name ++ after_name bs =
    name_splits bs (omega (arith, h, whole, len)) ∙ sym (append_assoc (name_first bs) (0 ∷ []) (after_name bs)) in
    let more : length bs ≡ length name + length (after_name bs) = ap length is ∙ length-append name (after_name bs) in
    let first : take (length name) bs ≡ name = ap (take (length name)) is ∙ take_at name (after_name bs) (length name) refl in
    let behind : drop (length name) bs ≡ after_name bs = ap (drop (length name)) is ∙ drop_at name (after_name bs) (length name) refl in
    let rest : take (length others) (after_name bs) ≡ others =
    names_join n (at + 24) (after_name bs) file (omega (arith, h, whole, more)) in
    ap (λ (k : ℕ). take k bs) whole ∙ take-add (length name) (length others) bs
    ∙ ap (λ (l : List ℕ). l ++ take (length others) (drop (length name) bs)) first
    ∙ ap (λ (l : List ℕ). name ++ take (length others) l) behind ∙ ap (λ (l : List ℕ). name ++ l) rest

-- the names of symbols stand behind a zero byte, where they are as long as the content of their section
pub names_stand : (file : List ℕ) (n at : ℕ) (ss : List Symbol) → ss ≡ symbols_at (names_in n (drop 1 (content_of file 6))) at file
    → names_end 1 ss ≡ size_of file 6
    → offset_of file 6 + size_of file 6 ≤ length file → is_zero_between file (offset_of file 6) (offset_of file 6 + 1) ≡ true
    → StandsAt file (offset_of file 6) (0 ∷ flat_map name_bytes ss)
unfolding content_of
names_stand file n at ss is ends within zero_byte =
    let place : ℕ = offset_of file 6 in
    let size : ℕ = size_of file 6 in
    let bs : List ℕ = drop 1 (take size (drop place file)) in
    let names : List ℕ = flat_map name_bytes ss in
    let long : 1 + length names ≡ size = length-names 1 ss ∙ ends in
    let len : length bs ≡ size - 1 = omega (
      arith,
      length-drop 1 (take size (drop place file)),
      length-take size (drop place file),
      length-drop place file,
      within,
    ) in
    let same : names ≡ flat_map name_bytes (symbols_at (names_in n bs) at file) = ap (flat_map name_bytes) is in
    let joined = names_join n at bs file (omega (arith, ap length same, long, len)) in
    let all : names ≡ bs = same ∙ sym joined ∙ ap (λ (k : ℕ). take k bs) (ap length (sym same))
    ∙ take_all (length names) bs (omega (arith, long, len)) in
    let whole : 1 + length names ≡ size = long in
    let part : bs ≡ take (length names) (drop (place + 1) file) =
    ap (λ (k : ℕ). drop 1 (take k (drop place file))) (sym whole) ∙ drop-take 1 (length names) (drop place file)
    ∙ ap (take (length names)) (drop-drop 1 place file) in
    stands-both file place 1 (0 ∷ []) names refl (zeros_stand file place 1 zero_byte (omega (arith, long, within)))
    (stands-taken file (place + 1) (length names) names (all ∙ part) (omega (arith, long, within)))
