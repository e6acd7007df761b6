-- What the tests of a file's fields and bytes say.
use Rattle.std.proofs.Common.{◌≡◌, ℕ, ◌+◌, ◌-◌, ◌%◌, ◌≤◌, ◌<◌, List, [], ◌∷◌, ◌++◌, length, refl, ap}
use Rattle.std.proofs.Common.{◌∙◌, inl, inr, arith}
use Rattle.std.specs.Prelude.{true, false, ◌==◌}
use Rattle.std.specs.Ordering.{int_eq}
use Rattle.std.proofs.lemmas.Bool.{cases_Bool, eq-eqb, eqb-true}
use Rattle.std.proofs.lemmas.Bool.Decides.{Decides-int_eq}
use Rattle.elf_base.specs.declared.header.Ehdr.{Ehdr}
use Rattle.elf_base.specs.declared.segment.Phdr.{Phdr}
use Rattle.elf_base.specs.declared.dynamic.Dyn.{Dyn}
use Rattle.elf_base.specs.Laws.Tests.{both, both_hold}
use Rattle.elf_image.specs.Places.{round_page}
use Rattle.elf_image.specs.Faults.{agrees, same_header, same_segment, same_entry}

-- ---- records

pub segment_is : (p q : Phdr) → same_segment p q ≡ true → p ≡ q
unfolding same_segment
segment_is p q h =
    let s8 = both _ (p.align == q.align) h in
    let s7 = both _ (p.memsz == q.memsz) s8.0 in
    let s6 = both _ (p.filesz == q.filesz) s7.0 in
    let s5 = both _ (p.paddr == q.paddr) s6.0 in
    let s4 = both _ (p.vaddr == q.vaddr) s5.0 in
    let s3 = both _ (p.offset == q.offset) s4.0 in
    let s2 = both (p.kind == q.kind) (p.flags == q.flags) s3.0 in
    let kind = eqb-true p.kind q.kind s2.0 in
    let flags = eqb-true p.flags q.flags s2.1 in
    let offset = eqb-true p.offset q.offset s3.1 in
    let vaddr = eqb-true p.vaddr q.vaddr s4.1 in
    let paddr = eqb-true p.paddr q.paddr s5.1 in
    let filesz = eqb-true p.filesz q.filesz s6.1 in
    let memsz = eqb-true p.memsz q.memsz s7.1 in
    let align = eqb-true p.align q.align s8.1 in
    λ i. record {
      kind = kind i;
      flags = flags i;
      offset = offset i;
      vaddr = vaddr i;
      paddr = paddr i;
      filesz = filesz i;
      memsz = memsz i;
      align = align i;
    }

equal : (a : ℕ) → (a == a) ≡ true
equal a = eq-eqb a a refl

pub segment_same : (p : Phdr) → same_segment p p ≡ true
unfolding same_segment
segment_same p =
    both_hold _ _ (both_hold _ _ (both_hold _ _ (both_hold _ _
    (both_hold _ _ (both_hold _ _ (both_hold _ _ (equal p.kind) (equal p.flags)) (equal p.offset)) (equal p.vaddr))
    (equal p.paddr)) (equal p.filesz)) (equal p.memsz)) (equal p.align)

pub entry_is : (d e : Dyn) → same_entry d e ≡ true → d ≡ e
unfolding same_entry
entry_is d e h =
    let s = both (int_eq d.tag e.tag) (d.value == e.value) h in
    let tag = (Decides-int_eq d.tag e.tag).0 s.0 in
    let value = eqb-true d.value e.value s.1 in
    λ i. record { tag = tag i; value = value i }

pub entry_same : (d : Dyn) → same_entry d d ≡ true
unfolding same_entry
entry_same d = both_hold _ _ ((Decides-int_eq d.tag d.tag).1 refl) (equal d.value)

pub agrees_is : (xs ys : List ℕ) → length xs ≡ length ys → agrees xs ys ≡ true → xs ≡ ys
unfolding agrees
agrees_is [] [] len h = refl
agrees_is [] (y ∷ ys) len h = absurd (omega arith)
agrees_is (x ∷ xs) [] len h = absurd (omega arith)
agrees_is (x ∷ xs) (y ∷ ys) len h =
    let s = both (x == y) (agrees xs ys) h in
    ap (λ (k : ℕ). k ∷ xs) (eqb-true x y s.0) ∙ ap (λ (l : List ℕ). y ∷ l) (agrees_is xs ys (omega arith) s.1)

-- what begins with the bytes that are wanted agrees with them
pub agrees_front : (wanted rest : List ℕ) → agrees (wanted ++ rest) wanted ≡ true
unfolding agrees
agrees_front [] [] = refl
agrees_front [] (b ∷ bs) = refl
agrees_front (w ∷ ws) rest = both_hold _ _ (equal w) (agrees_front ws rest)

pub agrees_same : (xs : List ℕ) → agrees xs xs ≡ true
unfolding agrees
agrees_same [] = refl
agrees_same (x ∷ xs) = both_hold _ _ (equal x) (agrees_same xs)

pub header_is : (h g : Ehdr) → length h.ident ≡ length g.ident → same_header h g ≡ true → h ≡ g
unfolding same_header
header_is h g len same =
    let s14 = both _ (h.shstrndx == g.shstrndx) same in
    let s13 = both _ (h.shnum == g.shnum) s14.0 in
    let s12 = both _ (h.shentsize == g.shentsize) s13.0 in
    let s11 = both _ (h.phnum == g.phnum) s12.0 in
    let s10 = both _ (h.phentsize == g.phentsize) s11.0 in
    let s9 = both _ (h.ehsize == g.ehsize) s10.0 in
    let s8 = both _ (h.flags == g.flags) s9.0 in
    let s7 = both _ (h.shoff == g.shoff) s8.0 in
    let s6 = both _ (h.phoff == g.phoff) s7.0 in
    let s5 = both _ (h.entry == g.entry) s6.0 in
    let s4 = both _ (h.version == g.version) s5.0 in
    let s3 = both _ (h.machine == g.machine) s4.0 in
    let s2 = both (agrees h.ident g.ident) (h.kind == g.kind) s3.0 in
    let ident = agrees_is h.ident g.ident len s2.0 in
    let kind = eqb-true h.kind g.kind s2.1 in
    let machine = eqb-true h.machine g.machine s3.1 in
    let version = eqb-true h.version g.version s4.1 in
    let entry = eqb-true h.entry g.entry s5.1 in
    let phoff = eqb-true h.phoff g.phoff s6.1 in
    let shoff = eqb-true h.shoff g.shoff s7.1 in
    let flags = eqb-true h.flags g.flags s8.1 in
    let ehsize = eqb-true h.ehsize g.ehsize s9.1 in
    let phentsize = eqb-true h.phentsize g.phentsize s10.1 in
    let phnum = eqb-true h.phnum g.phnum s11.1 in
    let shentsize = eqb-true h.shentsize g.shentsize s12.1 in
    let shnum = eqb-true h.shnum g.shnum s13.1 in
    let shstrndx = eqb-true h.shstrndx g.shstrndx s14.1 in
    λ i. record {
      ident = ident i;
      kind = kind i;
      machine = machine i;
      version = version i;
      entry = entry i;
      phoff = phoff i;
      shoff = shoff i;
      flags = flags i;
      ehsize = ehsize i;
      phentsize = phentsize i;
      phnum = phnum i;
      shentsize = shentsize i;
      shnum = shnum i;
      shstrndx = shstrndx i;
    }

pub header_same : (h : Ehdr) → same_header h h ≡ true
unfolding same_header
header_same h =
    both_hold _ _ (both_hold _ _ (both_hold _ _ (both_hold _ _
    (both_hold _ _ (both_hold _ _ (both_hold _ _
    (both_hold _ _ (both_hold _ _ (both_hold _ _ (both_hold _ _ (both_hold _ _ (both_hold _ _
    (agrees_same h.ident) (equal h.kind)) (equal h.machine)) (equal h.version)) (equal h.entry)) (equal h.phoff)) (equal h.shoff))
    (equal h.flags)) (equal h.ehsize)) (equal h.phentsize)) (equal h.phnum)) (equal h.shentsize)) (equal h.shnum)) (equal h.shstrndx)

-- ---- pages

-- the next page begins there
pub next_page : (end place : ℕ) → end ≤ place → place < end + 4096 → place % 4096 ≡ 0 → (round_page end == place) ≡ true
next_page end place low high whole = eq-eqb (round_page end) place (omega (arith, low, high, whole))

pub no_next_page : (end place : ℕ) → (end ≤ place → place < end + 4096 → place % 4096 ≡ 0 → ⊥) → (round_page end == place) ≡ false
no_next_page end place none = elim (cases_Bool (round_page end == place)) [
  | inl same ↦
      let is : round_page end ≡ place = eqb-true (round_page end) place same in
      absurd (none (omega arith) (omega arith) (omega arith))
  | inr differs ↦ differs
]
