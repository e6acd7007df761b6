-- The bytes of a local lie apart from the words of all frames, so what is written there keeps the saved pairs, the base words and the temps
-- (this project's own).
use Rattle.std.specs.Prelude.{◌≡◌, ℕ, ◌+◌, ◌-◌, ◌*◌, ◌<◌, ◌≤◌, Bool, true, false, ◌||◌, nat_eq, List, [], ◌∷◌, slice_get, Some, refl}
use Rattle.std.proofs.Common.{arith, ap, sym, subst, ◌∙◌}
use Rattle.std.proofs.lemmas.Bool.{eqb-true}
use Rattle.std.proofs.lemmas.Bool.Decides.{nat_tests}
use Rattle.mt_base.specs.Memory.{is_between}
use Rattle.mt_base.specs.Laws.Memory.{load_same}
use Rattle.c_type_base.specs.declared.typed.Typed.{Typed}
use Rattle.a64_code.specs.State.{State}
use Rattle.block_meaning.specs.Meaning.{open_bytes}
use Rattle.block_meaning.specs.Running.{Call}
use Rattle.code_relation.specs.Bases.{HaveBaseWords}
use Rattle.code_relation.specs.Calls.{stack_end, lowest, frame_of, LieInOrder, is_among}
use Rattle.code_relation.specs.Kept.{SameWord, KeepsAll}
use Rattle.code_relation.specs.Sites.{Given, units_of}
use Rattle.code_relation.specs.Stands.{AreCalls}

-- how many bytes the words of a call's frame take, from its lowest address
abbrev pub words_of : List Typed → Call → ℕ
words_of units c = 24 + 8 * (frame_of units c.function).temps

-- no byte of the words of some calls' frames is among those that are changed
abbrev pub Untouched : List Typed → (ℕ → Bool) → List Call → Type 0
Untouched units changed [] = Unit {0}
Untouched units changed (c ∷ cs) =
    ((w : ℕ) → w < words_of units c → changed (lowest c + w) ≡ false) × Untouched units changed cs

-- ---- what is kept

-- the bytes that are not among those that are changed are the same
abbrev pub OthersSame : (ℕ → Bool) → State → State → Type 0
OthersSame changed s t = (a : ℕ) → changed a ≡ false → t.byte a ≡ s.byte a

word_same : (units : List Typed) (changed : ℕ → Bool) (s t : State) (c : Call) (offset : ℕ) → OthersSame changed s t →
    ((w : ℕ) → w < words_of units c → changed (lowest c + w) ≡ false) → offset + 8 ≤ words_of units c → SameWord s t c offset
word_same units changed s t c offset others apart within =
    load_same 8 t.byte s.byte (lowest c + offset) (λ k below.
    others (lowest c + offset + k)
    (subst (λ (a : ℕ). changed a ≡ false) (omega arith) (apart (offset + k) (omega (arith, below, within)))))

pub KeepsAll-untouched : (units : List Typed) (changed : ℕ → Bool) (s t : State) (cs : List Call) → OthersSame changed s t →
    Untouched units changed cs → KeepsAll units s t cs
KeepsAll-untouched units changed s t [] others apart = tt
KeepsAll-untouched units changed s t (c ∷ cs) others apart = (
  (word_same units changed s t c 0 others apart.0 (omega arith), word_same units changed s t c 8 others apart.0 (omega arith)),
  λ k below. word_same units changed s t c (24 + 8 * k) others apart.0 (omega (arith, below)),
  KeepsAll-untouched units changed s t cs others apart.1,
)

pub HaveBaseWords-untouched : (g : Given) (calls : List Call) (changed : ℕ → Bool) (s t : State) (cs : List Call) →
    OthersSame changed s t → Untouched (units_of g) changed cs → HaveBaseWords g calls s cs → HaveBaseWords g calls t cs
HaveBaseWords-untouched g calls changed s t [] others apart words = tt
HaveBaseWords-untouched g calls changed s t (c ∷ cs) others apart words = (
  λ tagged. word_same (units_of g) changed s t c 16 others apart.0 (omega arith) ∙ words.0 tagged,
  HaveBaseWords-untouched g calls changed s t cs others apart.1 words.1,
)

-- ---- calls that are open

pub data Among (o : Call) : List Call → Type 0 where
  here : {cs : List Call} → Among o (o ∷ cs)
  there : {c : Call} {cs : List Call} → Among o cs → Among o (c ∷ cs)

-- the call of a number, where one of that number is open
pub among_calls : (units : List Typed) (calls cs : List Call) (number : ℕ) (o : Call) → AreCalls units calls cs →
    slice_get calls number ≡ Some o → is_among number cs ≡ true → Among o cs
among_calls units calls [] number o are is among = absurd (cc)
among_calls units calls (c ∷ cs) number o are is among =
    by_first (nat_eq c.number number) refl (λ rest. among_calls units calls cs number o are.2 is rest) among
  where
    by_first : (b : Bool) → nat_eq c.number number ≡ b → (is_among number cs ≡ true → Among o cs) → (b || is_among number cs) ≡ true →
        Among o (c ∷ cs)
    by_first true same behind among =
        let number_is : c.number ≡ number = eqb-true c.number number same in
        let calls_same : Some c ≡ Some o = sym are.0 ∙ ap (λ n. slice_get calls n) number_is ∙ is in
        let found : c ≡ o = cc in
        subst (λ d. Among o (d ∷ cs)) (sym found) here
    by_first false same behind among = there (behind among)

-- its frame lies within those that are open
pub place_within : (units : List Typed) (o : Call) (cs : List Call) → LieInOrder units cs → Among o cs → o.place ≤ open_bytes cs
place_within units o [] lie among = elim among [ ]
place_within units o (c ∷ cs) lie here = omega arith
place_within units o (c ∷ cs) lie (there among) = omega (arith, lie.0, place_within units o cs lie.1 among)

pub frame_within : (units : List Typed) (o : Call) (cs : List Call) → LieInOrder units cs → Among o cs →
    (frame_of units o.function).bytes ≤ o.place
frame_within units o [] lie among = elim among [ ]
frame_within units o (c ∷ cs) lie here = omega (arith, lie.0)
frame_within units o (c ∷ cs) lie (there among) = frame_within units o cs lie.1 among

-- the words of each call are in its frame
abbrev pub AreFramed : List Typed → List Call → Type 0
AreFramed units [] = Unit {0}
AreFramed units (c ∷ cs) = (words_of units c ≤ (frame_of units c.function).bytes) × AreFramed units cs

-- frames that were open before lie above
above : (units : List Typed) (start bytes : ℕ) (cs : List Call) → LieInOrder units cs → start + bytes ≤ stack_end - open_bytes cs →
    Untouched units (is_between start bytes) cs
above units start bytes [] lie below = tt
above units start bytes (c ∷ cs) lie below = (
  λ w within. grind (arith, nat_tests, below),
  above units start bytes cs lie.1 (omega (arith, below, lie.0)),
)

-- bytes behind the words of one open call's frame, and in it, lie apart from the words of all
pub Untouched-frame : (units : List Typed) (start bytes : ℕ) (o : Call) (cs : List Call) → LieInOrder units cs → AreFramed units cs →
    open_bytes cs ≤ stack_end → Among o cs → lowest o + words_of units o ≤ start →
    start + bytes ≤ lowest o + (frame_of units o.function).bytes → Untouched units (is_between start bytes) cs
Untouched-frame units start bytes o [] lie framed fit among from_on before = elim among [ ]
Untouched-frame units start bytes o (c ∷ cs) lie framed fit here from_on before = (
  λ w within. grind (arith, nat_tests, within, from_on),
  above units start bytes cs lie.1 (omega (arith, before, lie.0, fit)),
)
Untouched-frame units start bytes o (c ∷ cs) lie framed fit (there among) from_on before =
    let within_open : o.place ≤ open_bytes cs = place_within units o cs lie.1 among in
    let first_below : lowest c + (frame_of units c.function).bytes ≤ lowest o = omega (arith, lie.0, fit, within_open) in (
      λ w within. grind (arith, nat_tests, within, framed.0, first_below, from_on),
      Untouched-frame units start bytes o cs lie.1 framed.1 (omega (arith, fit, lie.0)) among from_on before,
    )
