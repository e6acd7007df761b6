use Rattle.std.proofs.Common.{◌≡◌, ◌++◌, List, ℕ, ap, ◌∙◌, arith, append_assoc}
use Rattle.elf_image.specs.Image.{Image, image_of}
use Rattle.elf_image.specs.Pieces.{entries_bytes, dynamic_entries}
use Rattle.elf_image.specs.Laws.Entries.{all_entries}
use Rattle.elf_image.specs.Laws.Loading.{put_at_end}
use Rattle.elf_image.proofs.write.push_writable.Goals as goal

pub returns : goal.returns
returns c =
    let p : Image = image_of c.args.parts.now in
    let out : List ℕ = c.args.out.now.items in
    let entries : c.push_entries-3.new.out.items ≡ out ++ entries_bytes (dynamic_entries p) =
    rw (
      c.in_ok-push_entries-3.ensures,
      c.in_ok-push_descriptors.ensures,
      c.in_ok-push_entries-2.ensures,
      c.in_ok-push_entries.ensures,
      c.last_entries.ensures,
      c.mode_entries.ensures,
      c.table_entries.ensures,
      c.reloc_bytes.ensures,
    ) (all_entries p out) in
    let filled : c.put_bytes.new.out.items ≡ c.push_entries-3.new.out.items ++ p.filled =
    rw (c.in_ok-put_bytes.ensures, c.as_slice.ensures) (put_at_end 0 p.filled c.push_entries-3.new.out.items (omega arith)) in
    filled ∙ ap (λ (l : List ℕ). l ++ p.filled) entries ∙ append_assoc out (entries_bytes (dynamic_entries p)) p.filled
