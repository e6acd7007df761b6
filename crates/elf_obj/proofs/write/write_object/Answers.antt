use Rattle.std.proofs.Common.{◌≡◌, ℕ, ◌++◌, List, take, drop, replicate, refl, ap, ◌∙◌}
use Rattle.elf_base.specs.Field.{bytes_of}
use Rattle.elf_base.specs.Records.{ehdr_fields}
use Rattle.elf_obj.specs.declared.sizes.Sizes.{Sizes}
use Rattle.std.specs.List.{flat_map}
use Rattle.elf_obj.specs.Object.{object_of}
use Rattle.elf_obj.specs.Sections.{sections, sizes_of, headers_place, headers_of}
use Rattle.elf_obj.specs.Records.{header}
use Rattle.elf_obj.specs.Laying.{put_next, put_contents}
use Rattle.elf_obj.specs.Contents.{contents, header_bytes}
use Rattle.elf_obj.specs.Laws.Whole.{first_bytes, written, is_file}
use Rattle.elf_obj.specs.Laws.Ends.{valid_headers, valid_small}
use Rattle.elf_obj.proofs.write.write_object.Goals as goal

pub sizes_of-sizes-requires : goal.sizes_of-sizes-requires
sizes_of-sizes-requires c = valid_small (object_of c.args.parts.now) c.requires

pub headers_place-requires : goal.headers_place-requires
headers_place-requires c = rw c.sizes_of-sizes.ensures (valid_headers (object_of c.args.parts.now) c.requires)

pub put_end-requires-clause-small : goal.put_end-requires-clause-small
put_end-requires-clause-small c = rw c.sizes_of-sizes.ensures (valid_headers (object_of c.args.parts.now) c.requires)

pub returns : goal.returns
returns c =
    let p = object_of c.args.parts.now in
    let z = c.sizes_of-sizes.ensures in
    let first : c.put_header.new.out.items ≡ first_bytes p =
    c.in_ok-put_header.ensures ∙ ap (λ (l : List ℕ). l ++ bytes_of (ehdr_fields (header c.headers_place.result))) c.new-out.ensures.items
    ∙ ap (λ (n : ℕ). bytes_of (ehdr_fields (header n))) (c.headers_place.ensures ∙ ap headers_place z) in
    let loaded : c.put_loaded.new.out.items ≡ put_contents (take 4 (contents p)) (first_bytes p) =
    c.in_ok-put_loaded.ensures ∙ ap (put_contents (take 4 (contents p))) first in
    let tables : c.put_tables.new.out.items ≡ put_contents (contents p) (first_bytes p) =
    c.in_ok-put_tables.ensures ∙ ap (put_contents (drop 4 (contents p))) loaded in
    let rest : Sizes → List ℕ = λ s. flat_map header_bytes (headers_of 64 (sections s)) in
    let all : c.put_end.new.out.items ≡ put_next (replicate 64 0) (put_contents (contents p) (first_bytes p)) ++ rest (sizes_of p) =
    c.in_ok-put_end.ensures ∙ ap (λ (l : List ℕ). put_next (replicate 64 0) l ++ rest c.sizes_of-sizes.result) tables
    ∙ ap (λ (s : Sizes). put_next (replicate 64 0) (put_contents (contents p) (first_bytes p)) ++ rest s) z in
    is_file p c.put_end.new.out.items c.requires (written p (replicate 64 0) (rest (sizes_of p)) c.put_end.new.out.items refl all)
