-- The table of instructions (Arm ARM, C6.2). A line has the base word of the form on 64 bits, that of the form on 32 bits where
-- there are `both`, the fields from the highest bit down, and the instruction that has these fields in this order. The lines
-- stand in the order in which `Instr` lists its variants, for an instruction is found in the table by its variant.
use Rattle.std.specs.Prelude.{ℕ, Bool, List, [], ◌∷◌, unwrap_or}
use Rattle.a64_code.specs.Field.{Field, at}
use Rattle.a64_code.specs.declared.instr.Instr.{Instr}
use Rattle.a64_code.specs.declared.instr.Instr.TheVariants as instr
use Rattle.a64_code.specs.contracts.instr.Instr.{as_values}
use Rattle.a64_code.specs.Line.{FieldPlace, Line, by_width, both, one}
use Rattle.a64_code.specs.Entry.{Form, Entry, entry_in}
use Rattle.a64_code.specs.Places.{rd, rd_sp, rt, rt_sp, rn, rn_sp, ra, rt2, rm, hw, immr, imms, sh, imm7, imm12, imm16, imm19, imm26}
use Rattle.a64_code.specs.Places.{immlo, immhi, cond, branch_cond, uimm6, uimm4, simm9}

-- The lines: those of two forms first, as in the program's table.
abbrev pub table : List Line
table =
    both 0xD2800000 0x52800000 (hw ∷ imm16 ∷ rd ∷ []) instr.Movz
    ∷ both 0xF2800000 0x72800000 (hw ∷ imm16 ∷ rd ∷ []) instr.Movk
    ∷ both 0x92800000 0x12800000 (hw ∷ imm16 ∷ rd ∷ []) instr.Movn
    ∷ both 0x91000000 0x11000000 (sh ∷ imm12 ∷ rn_sp ∷ rd_sp ∷ []) instr.AddImm
    ∷ both 0xD1000000 0x51000000 (sh ∷ imm12 ∷ rn_sp ∷ rd_sp ∷ []) instr.SubImm
    ∷ both 0xF1000000 0x71000000 (sh ∷ imm12 ∷ rn_sp ∷ rd ∷ []) instr.SubsImm
    ∷ both 0x8B000000 0x0B000000 (rm ∷ rn ∷ rd ∷ []) instr.AddReg
    ∷ both 0xCB000000 0x4B000000 (rm ∷ rn ∷ rd ∷ []) instr.SubReg
    ∷ both 0xEB000000 0x6B000000 (rm ∷ rn ∷ rd ∷ []) instr.SubsReg
    ∷ both 0x8A000000 0x0A000000 (rm ∷ rn ∷ rd ∷ []) instr.AndReg
    ∷ both 0xAA000000 0x2A000000 (rm ∷ rn ∷ rd ∷ []) instr.OrrReg
    ∷ both 0xCA000000 0x4A000000 (rm ∷ rn ∷ rd ∷ []) instr.EorReg
    ∷ both 0x93400000 0x13000000 (immr ∷ imms ∷ rn ∷ rd ∷ []) instr.Sbfm
    ∷ both 0xD3400000 0x53000000 (immr ∷ imms ∷ rn ∷ rd ∷ []) instr.Ubfm
    ∷ both 0xB4000000 0x34000000 (imm19 ∷ rt ∷ []) instr.Cbz
    ∷ both 0xB5000000 0x35000000 (imm19 ∷ rt ∷ []) instr.Cbnz
    ∷ both 0xF9400000 0xB9400000 (imm12 ∷ rn_sp ∷ rt ∷ []) instr.Ldr
    ∷ both 0xF9000000 0xB9000000 (imm12 ∷ rn_sp ∷ rt ∷ []) instr.Str
    ∷ both 0x9B000000 0x1B000000 (rm ∷ ra ∷ rn ∷ rd ∷ []) instr.Madd
    ∷ both 0x9B008000 0x1B008000 (rm ∷ ra ∷ rn ∷ rd ∷ []) instr.Msub
    ∷ both 0x9A800400 0x1A800400 (rm ∷ cond ∷ rn ∷ rd ∷ []) instr.Csinc
    ∷ both 0x9AC02000 0x1AC02000 (rm ∷ rn ∷ rd ∷ []) instr.Lslv
    ∷ both 0x9AC02400 0x1AC02400 (rm ∷ rn ∷ rd ∷ []) instr.Lsrv
    ∷ both 0x9AC02800 0x1AC02800 (rm ∷ rn ∷ rd ∷ []) instr.Asrv
    ∷ both 0x9AC00800 0x1AC00800 (rm ∷ rn ∷ rd ∷ []) instr.Udiv
    ∷ both 0x9AC00C00 0x1AC00C00 (rm ∷ rn ∷ rd ∷ []) instr.Sdiv
    ∷ one 0x9AC01000 (rm ∷ rn_sp ∷ rd_sp ∷ []) instr.Irg
    ∷ one 0x39400000 (imm12 ∷ rn_sp ∷ rt ∷ []) instr.Ldrb
    ∷ one 0x39000000 (imm12 ∷ rn_sp ∷ rt ∷ []) instr.Strb
    ∷ one 0x79400000 (imm12 ∷ rn_sp ∷ rt ∷ []) instr.Ldrh
    ∷ one 0x79000000 (imm12 ∷ rn_sp ∷ rt ∷ []) instr.Strh
    ∷ one 0xB9800000 (imm12 ∷ rn_sp ∷ rt ∷ []) instr.Ldrsw
    ∷ one 0x39800000 (imm12 ∷ rn_sp ∷ rt ∷ []) instr.Ldrsb
    ∷ one 0x79800000 (imm12 ∷ rn_sp ∷ rt ∷ []) instr.Ldrsh
    ∷ one 0xA9000000 (imm7 ∷ rt2 ∷ rn_sp ∷ rt ∷ []) instr.Stp
    ∷ one 0xA9400000 (imm7 ∷ rt2 ∷ rn_sp ∷ rt ∷ []) instr.Ldp
    ∷ one 0x14000000 (imm26 ∷ []) instr.B
    ∷ one 0x94000000 (imm26 ∷ []) instr.Bl
    ∷ one 0x54000000 (imm19 ∷ branch_cond ∷ []) instr.BCond
    ∷ one 0x90000000 (immlo ∷ immhi ∷ rd ∷ []) instr.Adrp
    ∷ one 0xD65F03C0 [] instr.Ret
    ∷ one 0xD503201F [] instr.Nop
    ∷ one 0xD4000001 (imm16 ∷ []) instr.Svc
    ∷ one 0x91800000 (uimm6 ∷ uimm4 ∷ rn_sp ∷ rd_sp ∷ []) instr.Addg
    ∷ one 0xD1800000 (uimm6 ∷ uimm4 ∷ rn_sp ∷ rd_sp ∷ []) instr.Subg
    ∷ one 0xD9200800 (simm9 ∷ rn_sp ∷ rt_sp ∷ []) instr.Stg
    ∷ one 0xD9600800 (simm9 ∷ rn_sp ∷ rt_sp ∷ []) instr.Stzg
    ∷ one 0xD9600000 (simm9 ∷ rn_sp ∷ rt ∷ []) instr.Ldg
    ∷ one 0xD9A00800 (simm9 ∷ rn_sp ∷ rt_sp ∷ []) instr.St2g
    ∷ one 0xD9E00800 (simm9 ∷ rn_sp ∷ rt_sp ∷ []) instr.Stz2g
    ∷ []

-- A base word with fields and what they hold.
pub record Encoding : Type 0 where
  pub base : ℕ
  pub fields : List Field

-- A row's fields with these values, and zeros where values are wanting.
abbrev pub filled : Bool → List FieldPlace → List ℕ → List Field
filled wide [] v = []
filled wide (p ∷ ps) [] = at p.low (by_width wide p.wide p.narrow) 0 ∷ filled wide ps []
filled wide (p ∷ ps) (n ∷ v) = at p.low (by_width wide p.wide p.narrow) n ∷ filled wide ps v

-- A row with these values in its fields.
abbrev pub row : Form → List ℕ → Encoding
row f v = record { base = by_width f.wide f.line.base (unwrap_or f.line.narrow f.line.base); fields = filled f.wide f.line.places v }

-- The row of an instruction, and the values of its fields in the order written.
abbrev pub entry : Instr → Entry
entry i = entry_in table (as_values i)

-- The row of an instruction, with its fields.
abbrev pub encoding : Instr → Encoding
encoding i = row (entry i).form (entry i).values
