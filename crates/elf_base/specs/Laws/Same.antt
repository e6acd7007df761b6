-- Records with the same fields are the same.
use Rattle.std.proofs.Common.{◌≡◌}
use Rattle.elf_base.specs.declared.header.Ehdr.{Ehdr}
use Rattle.elf_base.specs.declared.segment.Phdr.{Phdr}
use Rattle.elf_base.specs.declared.dynamic.Dyn.{Dyn}
use Rattle.elf_base.specs.declared.section.Shdr.{Shdr}
use Rattle.elf_base.specs.declared.symbol.Sym.{Sym}
use Rattle.elf_base.specs.declared.relocation.Rela.{Rela}
use Rattle.elf_base.specs.Records.{ehdr_fields, phdr_fields, shdr_fields, sym_fields, rela_fields, dyn_fields}

pub same_dyn : (d e : Dyn) → dyn_fields d ≡ dyn_fields e → d ≡ e
same_dyn d e same =
    let tag : d.tag ≡ e.tag = cc in
    let value : d.value ≡ e.value = cc in
    λ i. record { tag = tag i; value = value i }

pub same_phdr : (p q : Phdr) → phdr_fields p ≡ phdr_fields q → p ≡ q
same_phdr p q same =
    let kind : p.kind ≡ q.kind = cc in
    let flags : p.flags ≡ q.flags = cc in
    let offset : p.offset ≡ q.offset = cc in
    let vaddr : p.vaddr ≡ q.vaddr = cc in
    let paddr : p.paddr ≡ q.paddr = cc in
    let filesz : p.filesz ≡ q.filesz = cc in
    let memsz : p.memsz ≡ q.memsz = cc in
    let align : p.align ≡ q.align = cc in
    λ i. record {
      kind = kind i;
      flags = flags i;
      offset = offset i;
      vaddr = vaddr i;
      paddr = paddr i;
      filesz = filesz i;
      memsz = memsz i;
      align = align i;
    }

pub same_ehdr : (h g : Ehdr) → ehdr_fields h ≡ ehdr_fields g → h ≡ g
same_ehdr h g same =
    let ident : h.ident ≡ g.ident = cc in
    let kind : h.kind ≡ g.kind = cc in
    let machine : h.machine ≡ g.machine = cc in
    let version : h.version ≡ g.version = cc in
    let entry : h.entry ≡ g.entry = cc in
    let phoff : h.phoff ≡ g.phoff = cc in
    let shoff : h.shoff ≡ g.shoff = cc in
    let flags : h.flags ≡ g.flags = cc in
    let ehsize : h.ehsize ≡ g.ehsize = cc in
    let phentsize : h.phentsize ≡ g.phentsize = cc in
    let phnum : h.phnum ≡ g.phnum = cc in
    let shentsize : h.shentsize ≡ g.shentsize = cc in
    let shnum : h.shnum ≡ g.shnum = cc in
    let shstrndx : h.shstrndx ≡ g.shstrndx = cc in
    λ i. record {
      ident = ident i;
      kind = kind i;
      machine = machine i;
      version = version i;
      entry = entry i;
      phoff = phoff i;
      shoff = shoff i;
      flags = flags i;
      ehsize = ehsize i;
      phentsize = phentsize i;
      phnum = phnum i;
      shentsize = shentsize i;
      shnum =
          shnum i;
      shstrndx = shstrndx i;
    }

pub same_shdr : (s t : Shdr) → shdr_fields s ≡ shdr_fields t → s ≡ t
same_shdr s t same =
    let name : s.name ≡ t.name = cc in
    let kind : s.kind ≡ t.kind = cc in
    let flags : s.flags ≡ t.flags = cc in
    let addr : s.addr ≡ t.addr = cc in
    let offset : s.offset ≡ t.offset = cc in
    let size : s.size ≡ t.size = cc in
    let link : s.link ≡ t.link = cc in
    let info : s.info ≡ t.info = cc in
    let addralign : s.addralign ≡ t.addralign = cc in
    let entsize : s.entsize ≡ t.entsize = cc in
    λ i. record {
      name = name i;
      kind = kind i;
      flags = flags i;
      addr = addr i;
      offset = offset i;
      size = size i;
      link = link i;
      info = info i;
      addralign = addralign i;
      entsize = entsize i;
    }

pub same_sym : (s t : Sym) → sym_fields s ≡ sym_fields t → s ≡ t
same_sym s t same =
    let name : s.name ≡ t.name = cc in
    let info : s.info ≡ t.info = cc in
    let other : s.other ≡ t.other = cc in
    let shndx : s.shndx ≡ t.shndx = cc in
    let value : s.value ≡ t.value = cc in
    let size : s.size ≡ t.size = cc in
    λ i. record { name = name i; info = info i; other = other i; shndx = shndx i; value = value i; size = size i }

pub same_rela : (r t : Rela) → rela_fields r ≡ rela_fields t → r ≡ t
same_rela r t same =
    let offset : r.offset ≡ t.offset = cc in
    let info : r.info ≡ t.info = cc in
    let addend : r.addend ≡ t.addend = cc in
    λ i. record { offset = offset i; info = info i; addend = addend i }
