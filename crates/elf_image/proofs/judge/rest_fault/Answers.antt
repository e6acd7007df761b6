use Rattle.std.proofs.Common.{sym, ◌∙◌}
use Rattle.elf_image.specs.Laws.Within.{lying, relocs_fit, rodata_fits}
use Rattle.elf_image.proofs.Judging.{Contents, contents_hold, segments_hold, tables_hold, modes_hold, lasts_hold, in_segments, in_tables}
use Rattle.elf_image.proofs.Judging.{in_modes, in_lasts, to_gap}
use Rattle.elf_image.proofs.judge.rest_fault.Goals as goal

pub returns-in-Some-segments_fault : goal.returns-in-Some-segments_fault
returns-in-Some-segments_fault c =
    let contents : Contents c.args.bytes.now c.args.heads.now = contents_hold c.contents_fault.ensures c.in_default.is in
    sym (in_segments c.args.bytes.now c.args.heads.now c.in-Some-segments_fault.fault contents
    (sym c.segments_fault.ensures ∙ c.in-Some-segments_fault.is))

pub table_fault-requires : goal.table_fault-requires
table_fault-requires c =
    let contents : Contents c.args.bytes.now c.args.heads.now = contents_hold c.contents_fault.ensures c.in_default.is in
    let segments = segments_hold contents c.segments_fault.ensures c.in_default-segments_fault.is in
    lying c.args.bytes.now c.args.heads.now contents.contents segments.segments

pub returns-in-Some-table_fault : goal.returns-in-Some-table_fault
returns-in-Some-table_fault c =
    let contents : Contents c.args.bytes.now c.args.heads.now = contents_hold c.contents_fault.ensures c.in_default.is in
    let segments = segments_hold contents c.segments_fault.ensures c.in_default-segments_fault.is in
    sym (in_tables c.args.bytes.now c.args.heads.now c.in-Some-table_fault.fault segments
    (sym c.table_fault.ensures ∙ c.in-Some-table_fault.is))

pub mode_fault-requires : goal.mode_fault-requires
mode_fault-requires c =
    let contents : Contents c.args.bytes.now c.args.heads.now = contents_hold c.contents_fault.ensures c.in_default.is in
    let segments = segments_hold contents c.segments_fault.ensures c.in_default-segments_fault.is in
    lying c.args.bytes.now c.args.heads.now contents.contents segments.segments

pub returns-in-Some-mode_fault : goal.returns-in-Some-mode_fault
returns-in-Some-mode_fault c =
    let contents : Contents c.args.bytes.now c.args.heads.now = contents_hold c.contents_fault.ensures c.in_default.is in
    let segments = segments_hold contents c.segments_fault.ensures c.in_default-segments_fault.is in
    let tables = tables_hold segments c.table_fault.ensures c.in_default-table_fault.is in
    sym (in_modes c.args.bytes.now c.args.heads.now c.in-Some-mode_fault.fault tables (sym c.mode_fault.ensures ∙ c.in-Some-mode_fault.is))

pub last_fault-requires-clause-lying : goal.last_fault-requires-clause-lying
last_fault-requires-clause-lying c =
    let contents : Contents c.args.bytes.now c.args.heads.now = contents_hold c.contents_fault.ensures c.in_default.is in
    let segments = segments_hold contents c.segments_fault.ensures c.in_default-segments_fault.is in
    lying c.args.bytes.now c.args.heads.now contents.contents segments.segments

pub last_fault-requires-clause-relocs : goal.last_fault-requires-clause-relocs
last_fault-requires-clause-relocs c =
    let contents : Contents c.args.bytes.now c.args.heads.now = contents_hold c.contents_fault.ensures c.in_default.is in
    let segments = segments_hold contents c.segments_fault.ensures c.in_default-segments_fault.is in
    let tables = tables_hold segments c.table_fault.ensures c.in_default-table_fault.is in
    relocs_fit c.args.bytes.now c.args.heads.now tables.tables

pub returns-in-Some-last_fault : goal.returns-in-Some-last_fault
returns-in-Some-last_fault c =
    let contents : Contents c.args.bytes.now c.args.heads.now = contents_hold c.contents_fault.ensures c.in_default.is in
    let segments = segments_hold contents c.segments_fault.ensures c.in_default-segments_fault.is in
    let tables = tables_hold segments c.table_fault.ensures c.in_default-table_fault.is in
    let modes = modes_hold tables c.mode_fault.ensures c.in_default-mode_fault.is in
    sym (in_lasts c.args.bytes.now c.args.heads.now c.in-Some-last_fault.fault modes (sym c.last_fault.ensures ∙ c.in-Some-last_fault.is))

pub gap_fault-requires-clause-lying : goal.gap_fault-requires-clause-lying
gap_fault-requires-clause-lying c =
    let contents : Contents c.args.bytes.now c.args.heads.now = contents_hold c.contents_fault.ensures c.in_default.is in
    let segments = segments_hold contents c.segments_fault.ensures c.in_default-segments_fault.is in
    lying c.args.bytes.now c.args.heads.now contents.contents segments.segments

pub gap_fault-requires-clause-rodata : goal.gap_fault-requires-clause-rodata
gap_fault-requires-clause-rodata c =
    let contents : Contents c.args.bytes.now c.args.heads.now = contents_hold c.contents_fault.ensures c.in_default.is in
    let segments = segments_hold contents c.segments_fault.ensures c.in_default-segments_fault.is in
    let tables = tables_hold segments c.table_fault.ensures c.in_default-table_fault.is in
    let modes = modes_hold tables c.mode_fault.ensures c.in_default-mode_fault.is in
    let lasts = lasts_hold modes c.last_fault.ensures c.in_default-last_fault.is in
    rodata_fits c.args.bytes.now c.args.heads.now segments.segments tables.tables modes.modes lasts.lasts

pub returns : goal.returns
returns c =
    let contents : Contents c.args.bytes.now c.args.heads.now = contents_hold c.contents_fault.ensures c.in_default.is in
    let segments = segments_hold contents c.segments_fault.ensures c.in_default-segments_fault.is in
    let tables = tables_hold segments c.table_fault.ensures c.in_default-table_fault.is in
    let modes = modes_hold tables c.mode_fault.ensures c.in_default-mode_fault.is in
    let lasts = lasts_hold modes c.last_fault.ensures c.in_default-last_fault.is in
    c.gap_fault.ensures ∙ sym (to_gap c.args.bytes.now c.args.heads.now lasts)
