use Rattle.std.proofs.Common.{◌≡◌, ℕ, ◌<◌, ◌≤◌, List, length, take, sym, ap, ◌∙◌, arith}
use Rattle.std.proofs.lemmas.List.{take_all}
use Rattle.std.specs.Str.{bytes_eq}
use Rattle.elf_base.specs.Records.{identification}
use Rattle.elf_obj.proofs.start.is_elf.Goals as goal
use Rattle.elf_obj.proofs.start.is_elf.Goals.{then-file-lt16, else-file-lt16}

short : (file : List ℕ) (some : ℕ) → some ≡ length file → length file < 16
    → bytes_eq (take some file) (take some identification) ≡ bytes_eq (take 16 file) (take (length file) identification)
short file some is lt =
    let all : take 16 file ≡ file = take_all 16 file (omega (arith, lt)) in
    let here : take some file ≡ file = take_all some file (omega (arith, is)) in
    ap (λ (l : List ℕ). bytes_eq l (take some identification)) (here ∙ sym all)
    ∙ ap (λ (n : ℕ). bytes_eq (take 16 file) (take n identification)) is

long : (file : List ℕ) (some : ℕ) → some ≡ 16 → 16 ≤ length file
    → bytes_eq (take some file) (take some identification) ≡ bytes_eq (take 16 file) (take (length file) identification)
long file some is le =
    let all : take (length file) identification ≡ identification = take_all (length file) identification (omega (arith, le)) in
    let here : take some identification ≡ identification = take_all some identification (omega (arith, is)) in
    ap (λ (l : List ℕ). bytes_eq (take some file) l) (here ∙ sym all)
    ∙ ap (λ (n : ℕ). bytes_eq (take n file) (take (length file) identification)) is

pub returns : goal.returns
returns c =
    c.eq.ensures ∙ elim c.if-file-lt16.branch [
      | then-file-lt16 w ↦ short c.args.file.now c.if-file-lt16.some w.some-is (omega arith)
      | else-file-lt16 w ↦ long c.args.file.now c.if-file-lt16.some w.some-is (omega arith)
    ]
