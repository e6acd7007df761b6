-- A file has one text, or one fault, and not both.
use Rattle.std.proofs.Common.{◌≡◌, ℕ, List, Option, Some, None, Ok, refl, sym, ap, ◌∙◌, subst}
use Rattle.std.specs.Global.{Vec}
use Rattle.std.specs.Prelude.{option_map, ◌++◌}
use Rattle.elf_image.specs.declared.memtag.MemtagInfo.{MemtagInfo}
use Rattle.elf_image.specs.declared.refusal.ImageRefusal.{ImageRefusal}
use Rattle.elf_image.specs.MemtagEntries.{Entries, MemtagFault}
use Rattle.elf_image.specs.Laws.ReadMemtag.{one_info, one_fault as one_file_fault, no_fault as no_file_fault}
use Rattle.memtag_desc.specs.declared.interval.Interval.{Interval}
use Rattle.memtag_desc.specs.declared.refusal.DescRefusal.{DescRefusal}
use Rattle.memtag_desc.specs.Descriptors.{Describes}
use Rattle.memtag_desc.specs.Faults.{HasFault}
use Rattle.memtag_desc.specs.Laws.OneAnswer.{one_list, one_fault as one_desc_fault, no_fault as no_desc_fault}
use Rattle.memtag_dump.specs.declared.refusal.DumpRefusal.{DumpRefusal}
use Rattle.memtag_dump.specs.declared.refusal.DumpRefusal.TheVariants.{File, Descriptors}
use Rattle.memtag_dump.specs.Lines.{lines, AreGlobals, HasText}
use Rattle.memtag_dump.specs.Refusal.{HasNoText, bad_file, bad_descriptors}

-- the intervals of a list that the code holds
abbrev pub lists_of : Option (Vec Interval) → Option (List Interval)
lists_of globals = option_map (λ v. v.items) globals

-- the descriptors are there, and have this fault
pub record NotDescribed (descriptors : Option (List ℕ)) (fault : DescRefusal) : Type 0 where
  pub bytes : List ℕ
  pub there : descriptors ≡ Some bytes
  pub fault_is : HasFault bytes fault

one_globals : (descriptors : Option (List ℕ)) (globals others : Option (List Interval)) → AreGlobals descriptors globals
    → AreGlobals descriptors others → globals ≡ others
one_globals (Some bytes) (Some xs) (Some ys) a b = ap Some (one_list xs ys bytes a b)
one_globals (Some bytes) (Some xs) None a b = absurd b
one_globals (Some bytes) None others a b = absurd a
one_globals None None None a b = refl
one_globals None None (Some ys) a b = absurd b
one_globals None (Some xs) others a b = absurd a

-- a file has one text
pub one_text : (file text other : List ℕ) → HasText file text → HasText file other → text ≡ other
one_text file text other a b =
    let info : a.info ≡ b.info = one_info file a.info b.info a.entries b.entries in
    let described : AreGlobals a.info.descriptors b.globals =
    subst (λ (i : MemtagInfo). AreGlobals i.descriptors b.globals) (sym info) b.described in
    let globals : a.globals ≡ b.globals = one_globals a.info.descriptors a.globals b.globals a.described described in
    a.is ∙ ap (λ (g : Option (List Interval)). lines a.info g) globals ∙ ap (λ (i : MemtagInfo). lines i b.globals) info ∙ sym b.is

not_both : (descriptors : Option (List ℕ)) (globals : Option (List Interval)) (bytes : List ℕ) (fault : DescRefusal)
    → AreGlobals descriptors globals → descriptors ≡ Some bytes → HasFault bytes fault → ⊥
not_both (Some found) (Some xs) bytes fault are is breaks =
    let same : found ≡ bytes = cc in
    no_desc_fault xs bytes fault (subst (λ (b : List ℕ). Describes xs b) same are) breaks
not_both (Some found) None bytes fault are is breaks = absurd are
not_both None globals bytes fault are is breaks = cc

-- a file that has a text has no fault
pub no_fault : (file text : List ℕ) (fault : DumpRefusal) → HasText file text → HasNoText file fault → ⊥
no_fault file text fault h (bad_file e breaks) = no_file_fault file h.info e h.entries breaks
no_fault file text fault h (bad_descriptors info bytes e entries is breaks) =
    let same : h.info ≡ info = one_info file h.info info h.entries entries in
    not_both h.info.descriptors h.globals bytes e h.described (ap (λ (i : MemtagInfo). i.descriptors) same ∙ is) breaks

-- and a file has one fault
pub one_fault : (file : List ℕ) (fault other : DumpRefusal) → HasNoText file fault → HasNoText file other → fault ≡ other
one_fault file fault other (bad_file e a) (bad_file d b) = ap File (one_file_fault file e d a b)
one_fault file fault other (bad_file e a) (bad_descriptors info bytes d entries is b) = absurd (no_file_fault file info e entries a)
one_fault file fault other (bad_descriptors info bytes e entries is a) (bad_file d b) = absurd (no_file_fault file info d entries b)
one_fault file fault other (bad_descriptors info bytes e entries is a) (bad_descriptors info2 bytes2 d entries2 is2 b) =
    let same : info ≡ info2 = one_info file info info2 entries entries2 in
    let both : Some bytes ≡ Some bytes2 = sym is ∙ ap (λ (i : MemtagInfo). i.descriptors) same ∙ is2 in
    let list : bytes ≡ bytes2 = cc in
    ap Descriptors (one_desc_fault bytes2 e d (subst (λ (l : List ℕ). HasFault l e) list a) b)
