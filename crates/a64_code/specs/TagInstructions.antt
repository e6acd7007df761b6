-- The instructions of the Memory Tagging Extension: they compute pointers' tags, and store and load those of granules (Arm
-- ARM, the pages of ADDG, SUBG, IRG, STG, STZG, ST2G, STZ2G and LDG, with `AArch64.ChooseNonExcludedTag` and
-- `AArch64.MemTag[]`). Which tags GCR_EL1 excludes and where random ones come from is this project's own: tag 0 is always
-- excluded, as with GCR_EL1.Exclude = 1, and the choices are given.
use Rattle.std.specs.Prelude.{ℕ, ◌*◌, ◌%◌, ◌^◌, Bool, true, slice_index, bit_or}
use Rattle.mt_base.specs.Granules.{granule_of}
use Rattle.mt_base.specs.Pointers.{tag_of, with_tag, address_of}
use Rattle.mt_base.specs.Tags.{next_tag, zero_excluded}
use Rattle.a64_code.specs.declared.instr.Reg.{Reg}
use Rattle.a64_code.specs.declared.register.RegisterField.{RegisterField}
use Rattle.a64_code.specs.declared.register.RegisterField.TheVariants.{Rd, Rn, Rm, Rt}
use Rattle.a64_code.specs.State.{State, operand}
use Rattle.a64_code.specs.Access.{tag_load}
use Rattle.a64_code.specs.Shape.{Shape, PutsAndDraws, Loads, StoresTags, Clears}
use Rattle.a64_code.specs.Results.{result_of, puts}
use Rattle.a64_code.specs.LoadsAndStores.{beside}

-- ADDG and SUBG: a sum or a difference with the tag at an offset from the tag of Rn. Tag 0 is always excluded.
abbrev pub steps_tag : (RegisterField → Bool) → (ℕ → ℕ → ℕ → ℕ) → ℕ → ℕ → Reg → Reg → State → Shape
steps_tag sp operation uimm6 uimm4 rn rd s =
    puts (sp Rd) true rd
    (with_tag (operation 64 (operand (sp Rn) s rn) (16 * uimm6)) (next_tag (tag_of (operand (sp Rn) s rn)) uimm4 zero_excluded))

-- the choice that comes next
abbrev pub next_choice : State → ℕ
next_choice s = slice_index s.choices s.drawn

-- the mask of a register's low 16 bits, with tag 0
abbrev pub excluded_by : ℕ → ℕ
excluded_by mask = bit_or (mask % 2 ^ 16) zero_excluded

-- IRG: Rn with a random tag that is not excluded. The next choice stands for the start tag of
-- `AArch64.ChooseNonExcludedTag`, RGSR_EL1.TAG, and its offset, which `AArch64.RandomTag` would give, is 0.
abbrev pub inserts_tag : (RegisterField → Bool) → Reg → Reg → Reg → State → Shape
inserts_tag sp rm rn rd s =
    PutsAndDraws (result_of (sp Rd) true rd
    (with_tag (operand (sp Rn) s rn) (next_tag (next_choice s) 0 (excluded_by (operand (sp Rm) s rm)))))

-- the granule that STG and its kin begin with: an offset from the base in granules, signed
abbrev pub granule_pointer : (RegisterField → Bool) → ℕ → Reg → State → ℕ
granule_pointer sp simm9 rn s = beside sp 9 16 simm9 rn s

-- STG and ST2G: so many granules get the tag of Rt
abbrev pub stores_tag : (RegisterField → Bool) → ℕ → ℕ → Reg → Reg → State → Shape
stores_tag sp granules simm9 rn rt s = StoresTags granules (granule_pointer sp simm9 rn s) (tag_of (operand (sp Rt) s rt))

-- STZG and STZ2G: they get zeros for bytes, too
abbrev pub clears : (RegisterField → Bool) → ℕ → ℕ → Reg → Reg → State → Shape
clears sp granules simm9 rn rt s = Clears granules (granule_pointer sp simm9 rn s) (tag_of (operand (sp Rt) s rt))

-- LDG: Rt gets the tag of the granule that the address is in
abbrev pub loads_tag : (RegisterField → Bool) → ℕ → Reg → Reg → State → Shape
loads_tag sp simm9 rn rt s =
    let pointer = granule_pointer sp simm9 rn s in
    Loads (tag_load pointer) (result_of (sp Rt) true rt (with_tag (operand (sp Rt) s rt) (s.tag (granule_of (address_of pointer)))))
