-- The places of an image by the sizes of its parts: their order, and that all are near its start where its memory ends there.
use Rattle.std.proofs.Common.{◌≡◌, ℕ, ◌+◌, ◌*◌, ◌<◌, ◌≤◌, ◌^◌, nat_lt, List, length, get_or, Option, Some, None}
use Rattle.std.proofs.Common.{refl, ap, arith, inl, inr}
use Rattle.std.specs.Prelude.{slice_index, if◌then◌else◌}
use Rattle.std.proofs.lemmas.Bool.{cases_lt}
use Rattle.std.proofs.lemmas.List.{length-replicate, get_or_past}
use Rattle.elf_obj.specs.Object.{Object}
use Rattle.linker.specs.declared.bases.Bases.{Bases}
use Rattle.linker.specs.declared.layout.Layout.{Layout}
use Rattle.linker.specs.declared.totals.Totals.{Totals}
use Rattle.linker.specs.Sections.{round_up, starts, ends, word_counts, rodata_sizes, init_sizes, zero_sizes}
use Rattle.linker.specs.Got.{got, got_bytes}
use Rattle.linker.specs.Addresses.{bases_of}
use Rattle.linker.specs.Code.{code_words}
use Rattle.linker.specs.Data.{rodata_size, filled_size, zero_size}
use Rattle.linker.specs.Tagged.{sized}
use Rattle.linker.specs.LinkFault.{excess, told_bytes, code_limit, memory_limit}
use Rattle.linker.specs.Known.{AreStarts, AreNear}
use Rattle.linker.specs.Totals.{totals_of, rodata_by, code_by, filled_by, end_by, memory_by}
use Rattle.linker.specs.Planned.{bases_by, excess_by}
use Rattle.linker.specs.Laws.LaidLaws.{round_up_4, round_up_16}
use Rattle.linker.specs.Laws.Places.{rodata_is, code_is, filled_is, end_is, memory_is}
use Rattle.linker.specs.Laws.Starting.{ends_grow, start_reach, length-starts}

-- ---- the image that is as large as that of objects

pub bases_is : (objects : List Object) (n : ℕ) → bases_of (sized objects n) ≡ bases_by (totals_of objects) n
bases_is objects n = λ i. record {
  rodata = rodata_is objects n i;
  code = code_is objects n i;
  filled = filled_is objects n i;
  zeros = end_is objects n i;
}

words_is : (objects : List Object) (n : ℕ) → length (sized objects n).words ≡ (totals_of objects).words
unfolding sized totals_of
words_is objects n = length-replicate {A = ℕ} (code_words objects) 0

-- what is told of it
abbrev told : ℕ → ℕ → Option ℕ
told code memory =
    if nat_lt code_limit code then Some (told_bytes code) else if nat_lt memory_limit memory then Some (told_bytes memory) else None

pub excess_is : (objects : List Object) (n : ℕ) → excess (sized objects n) ≡ excess_by (totals_of objects) n
unfolding excess_by
excess_is objects n = λ i. told (4 * words_is objects n i) (memory_is objects n i)

-- ---- the order of the parts

after_rodata : (t : Totals) (n : ℕ) → rodata_by t n + t.rodata ≤ code_by t n
unfolding code_by
after_rodata t n = omega arith

after_code : (t : Totals) (n : ℕ) → code_by t n + 4 * t.words ≤ filled_by t n
unfolding filled_by
after_code t n = omega arith

end_after : (t : Totals) (n : ℕ) → end_by t n ≡ filled_by t n + t.filled
unfolding end_by
end_after t n = refl

memory_after : (t : Totals) (n : ℕ) → memory_by t n ≡ end_by t n + t.zeros
unfolding memory_by
memory_after t n = refl

-- all parts end where the memory does, or before
pub record AreWithin (t : Totals) (n : ℕ) : Type 0 where
  pub rodata : rodata_by t n + t.rodata ≤ memory_by t n
  pub code : code_by t n + 4 * t.words ≤ memory_by t n
  pub filled : filled_by t n + t.filled + t.zeros ≡ memory_by t n
  pub zeros : end_by t n ≤ memory_by t n

pub within : (t : Totals) (n : ℕ) → AreWithin t n
within t n =
    let a = after_rodata t n in
    let b = after_code t n in
    let c = end_after t n in
    let d = memory_after t n in record { rodata = omega arith; code = omega arith; filled = omega arith; zeros = omega arith }

-- ---- near the start

start_low : (unit at : ℕ) (ns : List ℕ) (k : ℕ) → ((n : ℕ) → n ≤ round_up unit n) → get_or (starts unit at ns) k 0 ≤ ends unit at ns
start_low unit at ns k grow = elim (cases_lt k (length ns)) [
  | inl lt ↦ let le = start_reach unit at ns k grow lt in omega arith
  | inr past ↦
      let none : get_or (starts unit at ns) k 0 ≡ 0 = get_or_past (starts unit at ns) k 0 (omega (arith, length-starts unit at ns)) in
      omega arith
]

-- what the sizes are
pub record AreSizes (objects : List Object) (t : Totals) : Type 0 where
  pub rodata : t.rodata ≡ rodata_size objects
  pub words : t.words ≡ code_words objects
  pub filled : t.filled ≡ filled_size objects
  pub zeros : t.zeros ≡ zero_size objects

pub sizes : (objects : List Object) → AreSizes objects (totals_of objects)
unfolding totals_of
sizes objects = record { rodata = refl; words = refl; filled = refl; zeros = refl }

near_start : (unit at : ℕ) (ns items : List ℕ) (most : ℕ) → ((n : ℕ) → n ≤ round_up unit n) → items ≡ starts unit at ns
    → ends unit at ns ≤ most → (k : ℕ) → slice_index items k ≤ most
near_start unit at ns items most grow is le k =
    let low = start_low unit at ns k grow in
    let same = ap (λ (l : List ℕ). get_or l k 0) is in omega arith

pub near : (objects : List Object) (l : Layout) (n : ℕ) → l.bases ≡ bases_by (totals_of objects) n → AreStarts objects l.starts
    → memory_by (totals_of objects) n < 2 ^ 32 → AreNear l
near objects l n bases at low =
    let t : Totals = totals_of objects in
    let w : AreWithin t n = within t n in
    let z : AreSizes objects t = sizes objects in
    let w1 = w.rodata in
    let w2 = w.code in
    let w3 = w.filled in
    let w4 = w.zeros in
    let z1 = z.rodata in
    let z2 = z.words in
    let z3 = z.filled in
    let z4 = z.zeros in
    let b1 = ap (λ (b : Bases). b.rodata) bases in
    let b2 = ap (λ (b : Bases). b.code) bases in
    let b3 = ap (λ (b : Bases). b.filled) bases in
    let b4 = ap (λ (b : Bases). b.zeros) bases in
    record {
      rodata = omega arith;
      code = omega arith;
      filled = omega arith;
      zeros = omega arith;
      texts = λ k.
          let le = near_start 4 2 (word_counts objects) l.starts.text.items (code_words objects) round_up_4 at.text (omega arith) k in
          omega arith;
      rodatas = λ k.
          let le = near_start 16 0 (rodata_sizes objects) l.starts.rodata.items (rodata_size objects) round_up_16 at.rodata
          (omega arith) k in
          omega arith;
      inits = λ k.
          let le = near_start 16 (got_bytes objects) (init_sizes objects) l.starts.init.items (filled_size objects) round_up_16 at.init
          (omega arith) k in
          omega arith;
      zeroes = λ k.
          let le = near_start 16 0 (zero_sizes objects) l.starts.zero.items (zero_size objects) round_up_16 at.zero (omega arith) k in
          omega arith;
    }

-- the words of the table are few
pub few_words : (objects : List Object) (n : ℕ) → memory_by (totals_of objects) n < 2 ^ 32 → length (got objects) < 2 ^ 50
few_words objects n low =
    let w = (within (totals_of objects) n).filled in
    let z = (sizes objects).filled in
    let grown = ends_grow 16 (got_bytes objects) (init_sizes objects) round_up_16 in omega arith
