-- A number that is read stands there, and one that stands there is read; likewise what is wrong with it.
use Rattle.std.proofs.Common.{◌≡◌, ℕ, zero, suc, ◌+◌, ◌*◌, ◌-◌, ◌^◌, ◌<◌, ◌≤◌, List, [], ◌∷◌, ◌++◌, length, get_or, Ok, Err, refl, sym}
use Rattle.std.proofs.Common.{ap, subst, ◌∙◌, arith, inl, inr}
use Rattle.std.proofs.Math.Nat.{pow-succ'}
use Rattle.std.proofs.lemmas.Bool.{cases_lt, lt-ltb, le-ltb, ne_eqb}
use Rattle.std.proofs.lemmas.Bool.Decides.{eqb_tells}
use Rattle.memtag_desc.specs.declared.refusal.DescRefusal.{DescRefusal}
use Rattle.memtag_desc.specs.declared.refusal.DescRefusal.TheVariants.{Cut, LongForm, TooFar}
use Rattle.memtag_desc.specs.Numbers.{IsShortest, last, more}
use Rattle.memtag_desc.specs.Faults.{AllGoOn, NumberBreaks, cut, wide, long}
use Rattle.memtag_desc.specs.Laws.Reading.{ReadNumber, read_as, above, number_within}

-- each number of a list is a byte
abbrev pub IsBytes : List ℕ → Type 0
IsBytes xs = (i : ℕ) → get_or xs i 0 < 256

pub IsBytes-rest : (b : ℕ) (xs : List ℕ) → IsBytes (b ∷ xs) → IsBytes xs
IsBytes-rest b xs h i = h (suc i)

-- ---- the reader, case by case

pub within-last : (left place total b : ℕ) (rest : List ℕ) → b < 128 → number_within (suc left) place total (b ∷ rest) ≡ read_as b 1
unfolding number_within
within-last left place total b rest h = rw (lt-ltb b 128 h) refl

pub within-more : (left place total b : ℕ) (rest : List ℕ) → 128 ≤ b
    → number_within (suc left) place total (b ∷ rest) ≡ above place (b - 128) (number_within left place total rest)
unfolding number_within
within-more left place total b rest h = rw (le-ltb b 128 h) refl

pub within-nothing : (left place total : ℕ) → number_within (suc left) place total [] ≡ Err (Cut total)
unfolding number_within
within-nothing left place total = refl

pub within-far : (place total : ℕ) (rest : List ℕ) → number_within 0 place total rest ≡ Err (TooFar place)
unfolding number_within
within-far place total rest = refl

pub above-zero : (place low bytes : ℕ) → above place low (read_as 0 bytes) ≡ Err (LongForm place)
unfolding above
above-zero place low bytes = refl

pub above-some : (place low value bytes : ℕ) → 0 < value → above place low (read_as value bytes) ≡ read_as (low + 128 * value) (suc bytes)
unfolding above
above-some place low value bytes h = rw (ne_eqb value 0 (λ e. omega arith)) refl

pub above-fault : (place low : ℕ) (fault : DescRefusal) → above place low (Err fault) ≡ Err fault
unfolding above
above-fault place low fault = refl

-- ---- what stands there is read

pub number_again : (n : ℕ) (bytes : List ℕ) → IsShortest n bytes → (most place total : ℕ) (rest : List ℕ) → length bytes ≤ most
    → number_within most place total (bytes ++ rest) ≡ read_as n (length bytes)
number_again n bytes (last _ lt) zero place total rest few = absurd (omega arith)
number_again n bytes (last _ lt) (suc most) place total rest few = within-last most place total n rest lt
number_again n bytes (more low high tail lt some s) zero place total rest few = absurd (omega arith)
number_again n bytes (more low high tail lt some s) (suc most) place total rest few =
    let ih = number_again high tail s most place total rest (omega arith) in
    let less : low + 128 - 128 ≡ low = omega arith in
    within-more most place total (low + 128) (tail ++ rest) (omega arith)
    ∙ ap (above place (low + 128 - 128)) ih ∙ ap (λ (k : ℕ). above place k (read_as high (length tail))) less
    ∙ above-some place low high (length tail) some

cut_again : (rest : List ℕ) (most place total : ℕ) → length rest < most → AllGoOn rest
    → number_within most place total rest ≡ Err (Cut total)
cut_again rest zero place total few on = absurd (omega arith)
cut_again [] (suc most) place total few on = within-nothing most place total
cut_again (b ∷ rest) (suc most) place total few on =
    within-more most place total b rest on.0 ∙ ap (above place (b - 128)) (cut_again rest most place total (omega arith) on.1)
    ∙ above-fault place (b - 128) (Cut total)

wide_again : (front rest : List ℕ) (most place total : ℕ) → length front ≡ most → AllGoOn front
    → number_within most place total (front ++ rest) ≡ Err (TooFar place)
wide_again [] rest zero place total few on = within-far place total rest
wide_again [] rest (suc most) place total few on = absurd (omega arith)
wide_again (b ∷ front) rest zero place total few on = absurd (omega arith)
wide_again (b ∷ front) rest (suc most) place total few on =
    within-more most place total b (front ++ rest) on.0 ∙ ap (above place (b - 128))
    (wide_again front rest most place total (omega arith) on.1) ∙ above-fault place (b - 128) (TooFar place)

long_again : (b : ℕ) (front rest : List ℕ) (most place total : ℕ) → suc (length front) < most → 128 ≤ b → AllGoOn front
    → number_within most place total (b ∷ front ++ 0 ∷ rest) ≡ Err (LongForm place)
long_again b front rest zero place total few on onward = absurd (omega arith)
long_again b [] rest (suc zero) place total few on onward = absurd (omega arith)
long_again b [] rest (suc (suc most)) place total few on onward =
    within-more (suc most) place total b (0 ∷ rest) on ∙ ap (above place (b - 128)) (within-last most place total 0 rest (omega arith))
    ∙ above-zero place (b - 128) 1
long_again b (c ∷ front) rest (suc most) place total few on onward =
    within-more most place total b (c ∷ front ++ 0 ∷ rest) on
    ∙ ap (above place (b - 128)) (long_again c front rest most place total (omega arith) onward.0 onward.1)
    ∙ above-fault place (b - 128) (LongForm place)

pub breaks_again : (most place total : ℕ) (rest : List ℕ) (fault : DescRefusal) → NumberBreaks most place total rest fault
    → number_within most place total rest ≡ Err fault
breaks_again most place total rest fault (cut _ few on) = cut_again rest most place total few on
breaks_again most place total rest fault (wide front after few on) = wide_again front after most place total few on
breaks_again most place total rest fault (long [] after some few on) = absurd (omega arith)
breaks_again most place total rest fault (long (b ∷ front) after some few on) = long_again b front after most place total few on.0 on.1

-- ---- what is read stands there

-- a number with which the rest of some bytes begins
pub record BeginsWith (most : ℕ) (rest : List ℕ) (value bytes : ℕ) : Type 0 where
  pub front : List ℕ
  pub after : List ℕ
  pub parts : rest ≡ front ++ after
  pub size : length front ≡ bytes
  pub some : 1 ≤ bytes
  pub few : bytes ≤ most
  pub shortest : IsShortest value front
  pub below : value < 128 ^ most

-- what a reader's answer says of the bytes
abbrev pub Tells : ℕ → ℕ → ℕ → List ℕ → ReadNumber → Type 0
Tells most place total rest (Ok number) = BeginsWith most rest number.value number.bytes
Tells most place total rest (Err fault) = NumberBreaks most place total rest fault

-- the one spelling of 0
zero_bytes : (n : ℕ) (bytes : List ℕ) → IsShortest n bytes → n ≡ 0 → bytes ≡ 0 ∷ []
zero_bytes n bytes (last _ lt) e = ap (λ (k : ℕ). k ∷ []) e
zero_bytes n bytes (more low high tail lt some s) e = absurd (omega arith)

-- a byte more in front of what is wrong
breaks_more : (most place total b : ℕ) (rest : List ℕ) (fault : DescRefusal) → 128 ≤ b → NumberBreaks most place total rest fault
    → NumberBreaks (suc most) place total (b ∷ rest) fault
breaks_more most place total b rest fault on (cut _ few onward) = cut (b ∷ rest) (omega arith) (on, onward)
breaks_more most place total b rest fault on (wide front after few onward) = wide (b ∷ front) after (omega arith) (on, onward)
breaks_more most place total b rest fault on (long front after some few onward) =
    long (b ∷ front) after (omega arith) (omega arith) (on, onward)

-- a last byte that says nothing
zero_breaks : (most place total b bytes : ℕ) (rest : List ℕ) → 128 ≤ b → BeginsWith most rest 0 bytes
    → NumberBreaks (suc most) place total (b ∷ rest) (LongForm place)
zero_breaks most place total b bytes rest on h =
    let is : h.front ≡ 0 ∷ [] = zero_bytes 0 h.front h.shortest refl in
    let parts : rest ≡ 0 ∷ h.after = h.parts ∙ ap (λ (l : List ℕ). l ++ h.after) is in
    let some = h.some in
    let few = h.few in
    subst (λ (l : List ℕ). NumberBreaks (suc most) place total (b ∷ l) (LongForm place)) (sym parts)
    (long (b ∷ []) h.after (omega arith) (omega arith) (on, tt))

-- a byte more in front of a number
number_more : (most b value bytes : ℕ) (rest : List ℕ) → 128 ≤ b → b < 256 → 0 < value → BeginsWith most rest value bytes
    → BeginsWith (suc most) (b ∷ rest) (b - 128 + 128 * value) (suc bytes)
number_more most b value bytes rest on byte some h =
    let is : b - 128 + 128 ≡ b = omega arith in
    let below = h.below in
    let few = h.few in
    let power = pow-succ' 128 most in
    record {
      front = b ∷ h.front;
      after = h.after;
      parts = ap (λ (l : List ℕ). b ∷ l) h.parts;
      size = ap suc h.size;
      some = omega arith;
      few = omega arith;
      shortest = subst (λ (k : ℕ). IsShortest (b - 128 + 128 * value) (k ∷ h.front)) is
          (more (b - 128) value h.front (omega arith) some h.shortest);
      below = omega arith;
    }

tells_more : (most place total b : ℕ) (rest : List ℕ) (answer : ReadNumber) → 128 ≤ b → b < 256 → Tells most place total rest answer
    → Tells (suc most) place total (b ∷ rest) (above place (b - 128) answer)
tells_more most place total b rest (Err fault) on byte h =
    subst (Tells (suc most) place total (b ∷ rest)) (sym (above-fault place (b - 128) fault))
    (breaks_more most place total b rest fault on h)
tells_more most place total b rest (Ok number) on byte h =
    elim (eqb_tells number.value 0) [
      | inl same ↦
          let is : above place (b - 128) (Ok number) ≡ Err (LongForm place) =
          ap (λ (k : ℕ). above place (b - 128) (read_as k number.bytes)) same.1 ∙ above-zero place (b - 128) number.bytes in
          let begins : BeginsWith most rest 0 number.bytes = subst (λ (k : ℕ). BeginsWith most rest k number.bytes) same.1 h in
          subst (Tells (suc most) place total (b ∷ rest)) (sym is) (zero_breaks most place total b number.bytes rest on begins)
      | inr differ ↦
          let some : 0 < number.value = elim (cases_lt 0 number.value) [ inl lt ↦ lt | inr le ↦ absurd (differ.1 (omega arith)) ] in
          subst (Tells (suc most) place total (b ∷ rest)) (sym (above-some place (b - 128) number.value number.bytes some))
          (number_more most b number.value number.bytes rest on byte some h)
    ]

some_power : (k : ℕ) → 1 ≤ 128 ^ k
some_power zero = omega arith
some_power (suc k) = omega (arith, pow-succ' 128 k, some_power k)

-- a number of one byte
one_byte : (most b : ℕ) (rest : List ℕ) → b < 128 → BeginsWith (suc most) (b ∷ rest) b 1
one_byte most b rest lt =
    let power = pow-succ' 128 most in
    let more_power = some_power most in
    record {
      front = b ∷ [];
      after = rest;
      parts = refl;
      size = refl;
      some = omega arith;
      few = omega arith;
      shortest = last b lt;
      below =
          omega arith;
    }

pub tells : (most place total : ℕ) (rest : List ℕ) → IsBytes rest → Tells most place total rest (number_within most place total rest)
tells zero place total rest fits =
    subst (Tells 0 place total rest) (sym (within-far place total rest)) (wide [] rest refl tt)
tells (suc most) place total [] fits =
    subst (Tells (suc most) place total []) (sym (within-nothing most place total)) (cut [] (omega arith) tt)
tells (suc most) place total (b ∷ rest) fits =
    elim (cases_lt b 128) [
      | inl lt ↦ subst (Tells (suc most) place total (b ∷ rest)) (sym (within-last most place total b rest lt)) (one_byte most b rest lt)
      | inr le ↦ subst (Tells (suc most) place total (b ∷ rest)) (sym (within-more most place total b rest le))
          (tells_more most place total b rest (number_within most place total rest) le (fits 0)
          (tells most place total rest (IsBytes-rest b rest fits)))
    ]
