-- The first fault behind the headers, by the group of conditions in which it is.
use Rattle.std.proofs.Common.{◌≡◌, ◌⊎◌, ◌↔◌, ℕ, ◌+◌, ◌≤◌, ◌<◌, List, ◌++◌, ◌∙◌, Result, Ok, Err, length, ap, sym, inl, inr, arith, Option}
use Rattle.std.specs.Prelude.{Bool, true, false, ◌&&◌, ◌==◌, nat_le, IsErr}
use Rattle.std.proofs.lemmas.Bool.{and_from, and_left, and_right, cases_lt, eq-eqb, ne_eqb, le-leb, false≢true}
use Rattle.elf_base.specs.declared.header.Ehdr.{Ehdr}
use Rattle.elf_base.specs.declared.place.Short.{Short}
use Rattle.elf_base.specs.Standing.{ehdr_at}
use Rattle.elf_base.specs.Conditions.{Condition, first_fault}
use Rattle.elf_base.specs.Records.{identification}
use Rattle.elf_base.specs.Laws.Conditions.{none_fails, first_passes, first_stops}
use Rattle.elf_image.specs.declared.heads.Heads.{Heads}
use Rattle.elf_image.specs.declared.refusal.ImageRefusal.{ImageRefusal}
use Rattle.elf_image.specs.declared.refusal.ImageRefusal.TheVariants.{NotThisMachine, Truncated}
use Rattle.elf_image.specs.Heads.{heads_at}
use Rattle.elf_image.specs.Faults.{agrees, opening, after_opening, contents, segments, table_asks, mode_asks, last_asks, gap_asks}
use Rattle.elf_image.specs.Faults.{conditions, fault_of, no_fault, fault_is}
use Rattle.elf_image.specs.Laws.Within.{fails_at}

-- what stands behind each group
abbrev behind_mode : List ℕ → Heads → List (Condition ImageRefusal)
behind_mode file h = last_asks file h ++ gap_asks file h

abbrev behind_tables : List ℕ → Heads → List (Condition ImageRefusal)
behind_tables file h = mode_asks file h ++ behind_mode file h

abbrev behind_segments : List ℕ → Heads → List (Condition ImageRefusal)
behind_segments file h = table_asks file h ++ behind_tables file h

abbrev behind_contents : List ℕ → Heads → List (Condition ImageRefusal)
behind_contents file h = segments file h ++ behind_segments file h

-- the groups hold up to the segments, up to the tables, and so on
pub record Contents (file : List ℕ) (h : Heads) : Type 0 where
  pub contents : first_fault (contents file h) ≡ no_fault

pub record Segments (file : List ℕ) (h : Heads) : Type 0 where
  pub before : Contents file h
  pub segments : first_fault (segments file h) ≡ no_fault

pub record Tables (file : List ℕ) (h : Heads) : Type 0 where
  pub before : Segments file h
  pub tables : first_fault (table_asks file h) ≡ no_fault

pub record Modes (file : List ℕ) (h : Heads) : Type 0 where
  pub before : Tables file h
  pub modes : first_fault (mode_asks file h) ≡ no_fault

pub record Lasts (file : List ℕ) (h : Heads) : Type 0 where
  pub before : Modes file h
  pub lasts : first_fault (last_asks file h) ≡ no_fault

-- the groups that the answers of their judges say to hold
pub contents_hold : {file : List ℕ} {h : Heads} {o : Option ImageRefusal} → o ≡ first_fault (contents file h) → o ≡ no_fault
    → Contents file h
contents_hold judged none = record { contents = sym judged ∙ none }

pub segments_hold : {file : List ℕ} {h : Heads} {o : Option ImageRefusal} → Contents file h → o ≡ first_fault (segments file h)
    → o ≡ no_fault
    → Segments file h
segments_hold before judged none = record { before = before; segments = sym judged ∙ none }

pub tables_hold : {file : List ℕ} {h : Heads} {o : Option ImageRefusal} → Segments file h → o ≡ first_fault (table_asks file h)
    → o ≡ no_fault
    → Tables file h
tables_hold before judged none = record { before = before; tables = sym judged ∙ none }

pub modes_hold : {file : List ℕ} {h : Heads} {o : Option ImageRefusal} → Tables file h → o ≡ first_fault (mode_asks file h) → o ≡ no_fault
    → Modes file h
modes_hold before judged none = record { before = before; modes = sym judged ∙ none }

pub lasts_hold : {file : List ℕ} {h : Heads} {o : Option ImageRefusal} → Modes file h → o ≡ first_fault (last_asks file h) → o ≡ no_fault
    → Lasts file h
lasts_hold before judged none = record { before = before; lasts = sym judged ∙ none }

pub to_segments : (file : List ℕ) (h : Heads) → Contents file h → first_fault (after_opening file h) ≡ first_fault (behind_contents file h)
to_segments file h c = first_passes (contents file h) (behind_contents file h) c.contents

pub to_tables : (file : List ℕ) (h : Heads) → Segments file h → first_fault (after_opening file h) ≡ first_fault (behind_segments file h)
to_tables file h s = to_segments file h s.before ∙ first_passes (segments file h) (behind_segments file h) s.segments

pub to_modes : (file : List ℕ) (h : Heads) → Tables file h → first_fault (after_opening file h) ≡ first_fault (behind_tables file h)
to_modes file h t = to_tables file h t.before ∙ first_passes (table_asks file h) (behind_tables file h) t.tables

pub to_lasts : (file : List ℕ) (h : Heads) → Modes file h → first_fault (after_opening file h) ≡ first_fault (behind_mode file h)
to_lasts file h m = to_modes file h m.before ∙ first_passes (mode_asks file h) (behind_mode file h) m.modes

pub to_gap : (file : List ℕ) (h : Heads) → Lasts file h → first_fault (after_opening file h) ≡ first_fault (gap_asks file h)
to_gap file h l = to_lasts file h l.before ∙ first_passes (last_asks file h) (gap_asks file h) l.lasts

-- a fault in each group
pub in_segments : (file : List ℕ) (h : Heads) (e : ImageRefusal) → Contents file h → first_fault (segments file h) ≡ fault_is e
    → first_fault (after_opening file h) ≡ fault_is e
in_segments file h e c is = to_segments file h c ∙ first_stops (segments file h) (behind_segments file h) e is

pub in_tables : (file : List ℕ) (h : Heads) (e : ImageRefusal) → Segments file h → first_fault (table_asks file h) ≡ fault_is e
    → first_fault (after_opening file h) ≡ fault_is e
in_tables file h e s is = to_tables file h s ∙ first_stops (table_asks file h) (behind_tables file h) e is

pub in_modes : (file : List ℕ) (h : Heads) (e : ImageRefusal) → Tables file h → first_fault (mode_asks file h) ≡ fault_is e
    → first_fault (after_opening file h) ≡ fault_is e
in_modes file h e t is = to_modes file h t ∙ first_stops (mode_asks file h) (behind_mode file h) e is

pub in_lasts : (file : List ℕ) (h : Heads) (e : ImageRefusal) → Modes file h → first_fault (last_asks file h) ≡ fault_is e
    → first_fault (after_opening file h) ≡ fault_is e
in_lasts file h e m is = to_lasts file h m ∙ first_stops (last_asks file h) (gap_asks file h) e is

-- ---- the header

pub long_enough : (file : List ℕ) (r : Result Ehdr Short) (h : Ehdr) → r ≡ Ok h → (IsErr r ↔ (length file < 64)) → 64 ≤ length file
long_enough file (Ok g) h is short = elim (cases_lt (length file) 64) [
  | inl less ↦ absurd (false≢true (short.1 less))
  | inr enough ↦ enough
]
long_enough file (Err e) h is short = let never : Err e ≡ Ok h = is in cc

abbrev is_machine : Ehdr → Bool
is_machine h = h.kind == 3 && h.machine == 183

-- a file that begins with the identification and has this header
pub record Headed (file : List ℕ) (h : Ehdr) : Type 0 where
  pub agrees : agrees file identification ≡ true
  pub long : 64 ≤ length file
  pub header : h ≡ ehdr_at 0 file

pub other_machine : (file : List ℕ) (h : Ehdr) → Headed file h → ((h.kind ≡ 3) × ¬ (h.machine ≡ 183)) ⊎ ¬ (h.kind ≡ 3)
    → first_fault (opening file (heads_at file)) ≡ fault_is NotThisMachine
other_machine file h headed other =
    fails_at 2 (opening file (heads_at file)) (headed.agrees, (le-leb 64 (length file) headed.long, tt))
    (ap is_machine (sym headed.header) ∙ differs other)
  where
    differs : ((h.kind ≡ 3) × ¬ (h.machine ≡ 183)) ⊎ ¬ (h.kind ≡ 3) → is_machine h ≡ false
    differs (inl found) = and_right (h.kind == 3) (h.machine == 183) (ne_eqb h.machine 183 found.1)
    differs (inr kind) = and_left (h.kind == 3) (h.machine == 183) (ne_eqb h.kind 3 kind)

this_machine : (file : List ℕ) (h : Ehdr) → Headed file h → h.kind ≡ 3 → h.machine ≡ 183 → is_machine (ehdr_at 0 file) ≡ true
this_machine file h headed kind machine =
    ap is_machine (sym headed.header)
    ∙ and_from (h.kind == 3) (h.machine == 183) (eq-eqb h.kind 3 kind) (eq-eqb h.machine 183 machine)

pub headers_cut : (file : List ℕ) (h : Ehdr) → Headed file h → h.kind ≡ 3 → h.machine ≡ 183 → nat_le (h.phoff + 224) (length file) ≡ false
    → first_fault (opening file (heads_at file)) ≡ fault_is (Truncated (length file))
headers_cut file h headed kind machine cut =
    fails_at 3 (opening file (heads_at file))
    (headed.agrees, (le-leb 64 (length file) headed.long, (this_machine file h headed kind machine, tt)))
    (ap (λ (k : Ehdr). nat_le (k.phoff + 224) (length file)) (sym headed.header) ∙ cut)

pub headers_there : (file : List ℕ) (h : Ehdr) → Headed file h → h.kind ≡ 3 → h.machine ≡ 183 → nat_le (h.phoff + 224) (length file) ≡ true
    → first_fault (opening file (heads_at file)) ≡ no_fault
headers_there file h headed kind machine there =
    none_fails (opening file (heads_at file)) (
      headed.agrees,
      (
        le-leb 64 (length file) headed.long,
        (
          this_machine file h headed kind machine,
          (ap (λ (k : Ehdr). nat_le (k.phoff + 224) (length file)) (sym headed.header) ∙ there, tt),
        ),
      ),
    )

-- ---- the whole file

pub fault_opening : (file : List ℕ) (e : ImageRefusal) → first_fault (opening file (heads_at file)) ≡ fault_is e
    → fault_of file ≡ fault_is e
unfolding fault_of
fault_opening file e is = first_stops (opening file (heads_at file)) (after_opening file (heads_at file)) e is

pub fault_behind : (file : List ℕ) → first_fault (opening file (heads_at file)) ≡ no_fault
    → fault_of file ≡ first_fault (after_opening file (heads_at file))
unfolding fault_of
fault_behind file none = first_passes (opening file (heads_at file)) (after_opening file (heads_at file)) none
