-- A word is a base word with fields at their places exactly where its fixed bits are the base word's and its fields those values.
use Rattle.std.proofs.Common.{◌≡◌, ℕ, ◌+◌, ◌-◌, ◌*◌, ◌/◌, ◌%◌, ◌^◌, ◌<◌, ◌≤◌, Bool, true, false, ◌&&◌, List, [], ◌∷◌, refl, ap, sym, ◌∙◌}
use Rattle.std.proofs.Common.{arith, bit_and, IsTrue, nat_le, nat_lt}
use Rattle.std.proofs.lemmas.Bool.{ltb-true, leb-true}
use Rattle.std.proofs.Math.Pow.{mod-mod-pow}
use Rattle.std.proofs.Math.Nat.{mod-eq_of_lt}
use Rattle.std.proofs.lemmas.Nat.{pow_pos, pow-add, mod-pow-add, shr_high, mod_low, and_mask, and_block, mod_below, mul-add-lt}
use Rattle.std.specs.Int.Bits.{and_zero_r}
use Rattle.a64_code.specs.Field.{Field, AllFit, placed, bits, fields_of, bits_beside}
use Rattle.a64_code.specs.Sound.{are_apart}

both : (a b : Bool) → IsTrue (a && b) → IsTrue a × IsTrue b
both true b h = (refl, h)
both false b h = (h, absurd (cc))

-- The first field of a row that is sound: `top` is `gap` bits above it, and the base word below it.
record First (top base : ℕ) (f : Field) (fs : List Field) : Type 0 where
  pub gap : ℕ
  pub gap_is : top - (f.width + f.low) ≡ gap
  pub top_is : top ≡ gap + (f.width + f.low)
  pub empty : base % 2 ^ (f.width + f.low) ≡ base % 2 ^ f.low
  pub rest : IsTrue (are_apart f.low base fs)

first : (top base : ℕ) (f : Field) (fs : List Field) → IsTrue (are_apart top base (f ∷ fs)) → First top base f fs
first top base f fs h =
    let p = both (nat_le (f.width + f.low) top) _ h in
    let q = both (nat_lt (base % 2 ^ (f.width + f.low)) (2 ^ f.low)) _ p.1 in
    let room : f.width + f.low ≤ top = leb-true _ _ p.0 in
    let low : base % 2 ^ (f.width + f.low) < 2 ^ f.low = ltb-true _ _ q.0 in
    record {
      gap = top - (f.width + f.low);
      gap_is = refl;
      top_is = omega arith;
      empty = sym (mod-eq_of_lt low) ∙ mod-mod-pow base f.width f.low;
      rest = q.1;
    }

-- What is below a field's top end, from what is below its low end.
below : (D W L q r v p : ℕ) → q < D → v < W → r + p < L → (q * (W * L) + r) + (v * L + p) < D * (W * L)
below D W L q r v p hq hv hp =
    let one : q * W + v < W * D = mul-add-lt q W v D hq hv in
    let two : (q * W + v) * L + (r + p) < L * (W * D) = mul-add-lt (q * W + v) L (r + p) (W * D) one hp in
    omega arith

-- A number that is cut at a field's two ends, with nothing in the field.
record Cut (top base : ℕ) (f : Field) : Type 0 where
  pub gap : ℕ
  pub above : ℕ
  pub above_fits : above < 2 ^ gap
  pub ones_is : (2 ^ (top - (f.width + f.low)) - 1) * 2 ^ (f.width + f.low) ≡ (2 ^ gap - 1) * (2 ^ f.width * 2 ^ f.low)
  pub top_is : 2 ^ top ≡ 2 ^ gap * (2 ^ f.width * 2 ^ f.low)
  pub base_is : base % 2 ^ top ≡ above * (2 ^ f.width * 2 ^ f.low) + base % 2 ^ f.low

cut : (top base : ℕ) (f : Field) (fs : List Field) → First top base f fs → Cut top base f
cut top base f fs s =
    let field_is : 2 ^ (f.width + f.low) ≡ 2 ^ f.width * 2 ^ f.low = pow-add 2 f.width f.low in
    record {
      gap = s.gap;
      above = base / 2 ^ (f.width + f.low) % 2 ^ s.gap;
      above_fits = mod_below _ _ (pow_pos s.gap);
      ones_is = rw (s.gap_is, field_is) refl;
      top_is = rw (s.top_is, pow-add 2 s.gap (f.width + f.low), field_is) refl;
      base_is = rw (s.top_is, mod-pow-add base s.gap (f.width + f.low), s.empty, field_is) refl;
    }

pub placed-below : (top base : ℕ) (fs : List Field) → IsTrue (are_apart top base fs) → AllFit fs → base % 2 ^ top + placed fs < 2 ^ top
placed-below top base [] h fit = let p = pow_pos top in let q = mod_below base (2 ^ top) p in omega arith
placed-below top base (f ∷ fs) h fit =
    let s = first top base f fs h in
    let c = cut top base f fs s in
    let rest = placed-below f.low base fs s.rest fit.1 in
    rw (c.base_is, c.top_is)
    (below (2 ^ c.gap) (2 ^ f.width) (2 ^ f.low) c.above (base % 2 ^ f.low) f.value (placed fs) c.above_fits fit.0 rest)

-- What stands above, a field's value, and what stands below.
parts : (hi D W L q r v p : ℕ) → hi * (D * (W * L)) + ((q * (W * L) + r) + (v * L + p)) ≡ ((hi * D + q) * W + v) * L + (r + p)
parts hi D W L q r v p = omega arith

read : (hi width low v rest word : ℕ) → v < 2 ^ width → rest < 2 ^ low → word ≡ (hi * 2 ^ width + v) * 2 ^ low + rest →
    bits word low width ≡ v
read hi width low v rest word fit below e = rw (e, shr_high (hi * 2 ^ width + v) low rest below, mod_low hi width v fit) refl

-- Fields that are placed are read again, whatever stands above them.
pub fields_of-placed : (top base hi word : ℕ) (fs : List Field) → IsTrue (are_apart top base fs) → AllFit fs →
    word ≡ hi * 2 ^ top + (base % 2 ^ top + placed fs) → fields_of word fs ≡ fs
fields_of-placed top base hi word [] h fit e = refl
fields_of-placed top base hi word (f ∷ fs) h fit e =
    let s = first top base f fs h in
    let c = cut top base f fs s in
    let rest = placed-below f.low base fs s.rest fit.1 in
    let upper = hi * 2 ^ c.gap + c.above in
    let word_is : word ≡ (upper * 2 ^ f.width + f.value) * 2 ^ f.low + (base % 2 ^ f.low + placed fs) =
    e ∙ rw (c.base_is, c.top_is) (parts hi (2 ^ c.gap) (2 ^ f.width) (2 ^ f.low) c.above (base % 2 ^ f.low) f.value (placed fs)) in
    let value_is : bits word f.low f.width ≡ f.value = read upper f.width f.low f.value _ word fit.0 rest word_is in
    let others : fields_of word fs ≡ fs = fields_of-placed f.low base (upper * 2 ^ f.width + f.value) word fs s.rest fit.1 word_is in
    rw (value_is, others) refl

-- The mask beside fields has no bit from `top` on.
bits_beside-below : (top base : ℕ) (fs : List Field) → IsTrue (are_apart top base fs) → bits_beside top fs < 2 ^ top
bits_beside-below top base [] h = let p = pow_pos top in omega arith
bits_beside-below top base (f ∷ fs) h =
    let s = first top base f fs h in
    let c = cut top base f fs s in
    let rest = bits_beside-below f.low base fs s.rest in
    let gap_pos = pow_pos c.gap in
    let width_pos = pow_pos f.width in
    let less : 2 ^ c.gap - 1 < 2 ^ c.gap = omega arith in
    let whole = below (2 ^ c.gap) (2 ^ f.width) (2 ^ f.low) (2 ^ c.gap - 1) 0 0 (bits_beside f.low fs) less width_pos (omega arith) in
    rw (c.ones_is, c.top_is) (omega (arith, whole))

-- The mask keeps what is above a field, and drops the field.
masked : (gap width low above value m r : ℕ) → above < 2 ^ gap → value < 2 ^ width → m < 2 ^ low → r < 2 ^ low →
    bit_and (above * 2 ^ (width + low) + (value * 2 ^ low + r)) ((2 ^ gap - 1) * 2 ^ (width + low) + m)
    ≡ above * 2 ^ (width + low) + bit_and r m
masked gap width low above value m r ha hv hm hr =
    let field_is : 2 ^ (width + low) ≡ 2 ^ width * 2 ^ low = pow-add 2 width low in
    let low_part : value * 2 ^ low + r < 2 ^ low * 2 ^ width = mul-add-lt value (2 ^ low) r (2 ^ width) hv hr in
    let low_fits : value * 2 ^ low + r < 2 ^ (width + low) = omega arith in
    let m_at : 0 * 2 ^ low + m < 2 ^ low * 2 ^ width = mul-add-lt 0 (2 ^ low) m (2 ^ width) (pow_pos width) hm in
    let m_fits : m < 2 ^ (width + low) = omega arith in
    let upper : bit_and above (2 ^ gap - 1) ≡ above = and_mask above gap ∙ mod-eq_of_lt ha in
    let m_is : 0 * 2 ^ low + m ≡ m = omega arith in
    let lower : bit_and (value * 2 ^ low + r) (0 * 2 ^ low + m) ≡ bit_and value 0 * 2 ^ low + bit_and r m =
    and_block low value 0 r m hr hm in
    let zero_is : bit_and value 0 ≡ 0 = and_zero_r value in
    let lower_is : bit_and (value * 2 ^ low + r) m ≡ bit_and r m =
    ap (bit_and (value * 2 ^ low + r)) (sym m_is) ∙ lower ∙ rw zero_is (omega arith) in
    rw (and_block (width + low) above (2 ^ gap - 1) (value * 2 ^ low + r) m low_fits m_fits, upper, lower_is) refl

cut_word : (top gap width low word : ℕ) → top ≡ gap + (width + low) →
    word % 2 ^ top ≡ word / 2 ^ (width + low) % 2 ^ gap * 2 ^ (width + low) + (bits word low width * 2 ^ low + word % 2 ^ low)
cut_word top gap width low word e = rw (e, mod-pow-add word gap (width + low), mod-pow-add word width low) refl

-- A word is what the mask keeps of it, with its fields at their places.
pub masked-placed : (top base word : ℕ) (fs : List Field) → IsTrue (are_apart top base fs) →
    bit_and (word % 2 ^ top) (bits_beside top fs) + placed (fields_of word fs) ≡ word % 2 ^ top
masked-placed top base word [] h = rw (and_mask (word % 2 ^ top) top, mod-eq_of_lt (mod_below word (2 ^ top) (pow_pos top))) (omega arith)
masked-placed top base word (f ∷ fs) h =
    let s = first top base f fs h in
    let rest = masked-placed f.low base word fs s.rest in
    let m_below = bits_beside-below f.low base fs s.rest in
    let above = word / 2 ^ (f.width + f.low) % 2 ^ s.gap in
    let above_below = mod_below (word / 2 ^ (f.width + f.low)) (2 ^ s.gap) (pow_pos s.gap) in
    let value = bits word f.low f.width in
    let value_below = mod_below (word / 2 ^ f.low) (2 ^ f.width) (pow_pos f.width) in
    let low_below = mod_below word (2 ^ f.low) (pow_pos f.low) in
    let word_is = cut_word top s.gap f.width f.low word s.top_is in
    let kept = masked s.gap f.width f.low above value (bits_beside f.low fs)
    (word % 2 ^ f.low) above_below value_below m_below low_below in
    rw (s.gap_is, word_is, kept) (omega (arith, rest))
