use Rattle.std.proofs.Common.{◌≡◌, ◌++◌, drop}
use Rattle.std.specs.List.{flat_map}
use Rattle.elf_obj.specs.Sections.{sections, contents_end, headers_of}
use Rattle.elf_obj.specs.Contents.{header_bytes}
use Rattle.elf_obj.proofs.write.put_headers.Given as goal

abbrev pub invariant-loop-index : goal.invariant-loop-index
invariant-loop-index l = record {
  ends : contents_end l.end (drop l.index (sections l.sizes)) ≡ contents_end 64 (sections l.sizes);
  rest : l.initial.out.items ++ flat_map header_bytes (headers_of 64 (sections l.sizes))
      ≡ l.out.items ++ flat_map header_bytes (headers_of l.end (drop l.index (sections l.sizes)));
}
