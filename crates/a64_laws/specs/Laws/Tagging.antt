-- What lists that tag granules do (this project's own).
use Rattle.std.specs.Prelude.{◌≡◌, ℕ, zero, suc, ◌+◌, ◌*◌, ◌/◌, ◌%◌, ◌^◌, ◌<◌, ◌≤◌, [], length, refl}
use Rattle.std.proofs.Common.{arith, ap, ◌∙◌, subst, zero-add}
use Rattle.std.proofs.Math.Nat.{suc-add}
use Rattle.mt_base.specs.Memory.{store_tag}
use Rattle.mt_base.specs.Pointers.{tag_of, address_of}
use Rattle.a64_code.specs.declared.instr.Reg.{Reg}
use Rattle.a64_code.specs.State.{State, general_or_sp}
use Rattle.a64_code.specs.Stepped.{Leads}
use Rattle.a64_code.specs.State.{tagged}
use Rattle.a64_code.specs.declared.instr.Instr.TheVariants.{St2g}
use Rattle.a64_code.specs.Effect.{effect}
use Rattle.a64_laws.specs.Laws.Effects.Open.{IsOpen}
use Rattle.a64_laws.specs.Forms.{puts_tags}
use Rattle.a64_laws.specs.Runs.{Runs}
use Rattle.a64_laws.specs.Tagging.{tags_from}
use Rattle.a64_laws.specs.Laws.OpenMemory.{IsOpen-part, IsOpen-kept}
use Rattle.a64_laws.specs.Laws.Tags.{tag_place_on, tag_stored, two_tags_stored}
use Rattle.a64_laws.specs.Laws.Runs.{Runs-nil, Runs-one, Runs-cons}

-- granules in two pieces
pub tagged-add : (m n : ℕ) (tag : ℕ → ℕ) (at value : ℕ)
    → tagged (m + n) tag at value ≡ tagged n (tagged m tag at value) (at + 16 * m) value
tagged-add zero n tag at value = ap (λ (k : ℕ). tagged k tag at value) (zero-add n) ∙ ap (λ (a : ℕ). tagged n tag a value) (omega arith)
tagged-add (suc m) n tag at value = ap (λ (k : ℕ). tagged k tag at value) (suc-add m n) ∙ tagged-add m n (store_tag tag at value)
    (at + 16) value ∙ ap (λ (a : ℕ). tagged n (tagged m (store_tag tag at value) (at + 16) value) a value) (omega arith)

-- ---- short lists

-- the number of their instructions
pub length-tags_from : (rt rn : Reg) (first n : ℕ) → length (tags_from rt rn first n) ≡ (n + 1) / 2
length-tags_from rt rn first zero = refl
length-tags_from rt rn first (suc zero) = refl
length-tags_from rt rn first (suc (suc n)) = ap suc (length-tags_from rt rn (first + 2) n) ∙ omega arith

-- the state that they lead to
abbrev pub tagged_to : ℕ → ℕ → ℕ → ℕ → State → State
tagged_to n at value words s = record s { tag = tagged n s.tag at value; pc = s.pc + 4 * words }

-- what has to hold for them: the base is a pointer to an address, the fields reach, and memory is open
pub record MayTag (rt rn : Reg) (first n at value : ℕ) (s : State) : Type 0 where
  pub base : address_of (general_or_sp s rn) ≡ at
  pub aligned : at % 16 ≡ 0
  pub reach : first + n ≤ 256
  pub below : at + 16 * (first + n) < 2 ^ 56
  pub memory : IsOpen s (at + 16 * first) (16 * n)
  pub has_tag : tag_of (general_or_sp s rt) ≡ value

pub Runs-tags_from : (rt rn : Reg) (first n at value : ℕ) (s : State) → MayTag rt rn first n at value s → s.pc + 4 *
    ((n + 1) / 2) < 2 ^ 64 →
    Runs (tags_from rt rn first n) ((n + 1) / 2) s (tagged_to n (at + 16 * first) value ((n + 1) / 2) s)
unfolding puts_tags
Runs-tags_from rt rn first zero at value s may fits =
    subst (λ (t : State). Runs [] 0 s t) (ap (λ (pc : ℕ). record s { pc = pc }) (omega arith)) (Runs-nil s)
Runs-tags_from rt rn first (suc zero) at value s may fits =
    subst (Runs (tags_from rt rn first 1) 1 s) same
    (Runs-one (tag_stored first (at + 16 * first) rn rt s (tag_place_on (general_or_sp s rn) at first (omega
    (arith, may.reach)) may.base (omega (arith, may.below))) (omega (arith, may.aligned)) may.memory) refl (omega (arith, fits)))
  where
    same : puts_tags (tagged 1 s.tag (at + 16 * first) (tag_of (general_or_sp s rt))) s ≡ tagged_to 1 (at + 16 * first) value 1 s
    same = ap (λ (v : ℕ). puts_tags (tagged 1 s.tag (at + 16 * first) v) s) may.has_tag ∙ ap (λ (pc : ℕ). record (puts_tags
        (tagged 1 s.tag (at + 16 * first) value) s) { pc = pc }) (omega (arith, fits))
Runs-tags_from rt rn first (suc (suc n)) at value s may fits =
    subst (λ (k : ℕ). Runs (tags_from rt rn first (suc (suc n))) k s (tagged_to (suc (suc n)) (at + 16 * first) value k s))
    (let e : suc ((n + 1) / 2) ≡ (suc (suc n) + 1) / 2 = omega arith in e)
    (subst (Runs (tags_from rt rn first (suc (suc n))) (suc ((n + 1) / 2)) s) same (Runs-cons leads (omega (arith, fits)) (omega
    (arith, fits)) (Runs-tags_from rt rn (first + 2) n at value u may_rest (omega (arith, fits)))))
  where
    u : State
    u = tagged_to 2 (at + 16 * first) value 1 s

    leads : effect (St2g first rn rt) s ≡ Leads u
    leads =
        two_tags_stored first (at + 16 * first) rn rt s (tag_place_on (general_or_sp s rn) at first (omega
        (arith, may.reach)) may.base (omega (arith, may.below))) (omega (arith, may.aligned)) (IsOpen-part (at + 16 * first) 32
        (omega arith) (omega arith) may.memory)
        ∙ ap (λ (v : ℕ). Leads (puts_tags (tagged 2 s.tag (at + 16 * first) v) s)) may.has_tag
        ∙ ap (λ (pc : ℕ). Leads (record (puts_tags (tagged 2 s.tag (at + 16 * first) value) s) {
          pc =
              pc;
        })) (let e : (s.pc + 4) % 2 ^ 64 ≡ s.pc + 4 * 1 = omega (arith, fits) in e)

    may_rest : MayTag rt rn (first + 2) n at value u
    may_rest = record {
      base = may.base;
      aligned = may.aligned;
      reach = omega (arith, may.reach);
      below = omega (arith, may.below);
      memory = IsOpen-kept (record { regions = refl; guard = refl }) (IsOpen-part (at + 16 * (first + 2)) (16 * n) (omega arith)
          (omega arith) may.memory);
      has_tag = may.has_tag;
    }

    same : tagged_to n (at + 16 * (first + 2)) value ((n + 1) / 2) u
        ≡ tagged_to (suc (suc n)) (at + 16 * first) value (suc ((n + 1) / 2)) s
    same =
        ap (λ (a : ℕ). tagged_to n a value ((n + 1) / 2) u) (let e : at + 16 * (first + 2) ≡ at + 16 * first + 16 + 16 = omega arith in e)
        ∙ ap (λ (pc : ℕ). record s { tag = tagged (suc (suc n)) s.tag (at + 16 * first) value; pc = pc })
        (let e : s.pc + 4 * 1 + 4 * ((n + 1) / 2) ≡ s.pc + 4 * suc ((n + 1) / 2) = omega arith in e)
