use Rattle.std.proofs.Common.{ℕ, List, ◌++◌, ◌∙◌, ◌<◌, ◌^◌, length, sym, ap, subst, arith}
use Rattle.std.specs.List.{AllByRecursion}
use Rattle.elf_obj.specs.declared.parts.Symbol.{Symbol}
use Rattle.elf_obj.specs.declared.parts.Home.TheVariants.{Init, Zero}
use Rattle.elf_obj.specs.Apart.{IsSound}
use Rattle.elf_obj.proofs.Sound.{init-sound, zero-sound}
use Rattle.std.proofs.lemmas.Result.{err_from_is_err_and}
use Rattle.elf_base.specs.Laws.Conditions.{first_passes, first_stops}
use Rattle.elf_obj.specs.Object.{Object}
use Rattle.elf_obj.specs.Claimed.{claimed}
use Rattle.elf_obj.specs.ObjectFault.{table_conditions, code_conditions, data_conditions, tagged_conditions}
use Rattle.elf_obj.proofs.read.judge_records.Goals as goal

pub returns-in_err-judge_table : goal.returns-in_err-judge_table
returns-in_err-judge_table c =
    let file : List ℕ = c.args.file.now in
    let p : Object = claimed file in
    let e = err_from_is_err_and c.from_residual.result c.from_residual.ensures.1 in
    rw (e.1, e.2) (first_stops (table_conditions file p ++ code_conditions file p ++ data_conditions file p) (tagged_conditions file p) _
    (first_stops (table_conditions file p ++ code_conditions file p) (data_conditions file p) _
    (first_stops (table_conditions file p) (code_conditions file p) _ c.in_err-judge_table.ensures)))

pub returns-in_err-judge_code : goal.returns-in_err-judge_code
returns-in_err-judge_code c =
    let file : List ℕ = c.args.file.now in
    let p : Object = claimed file in
    let e = err_from_is_err_and c.from_residual-in_err-judge_code.result c.from_residual-in_err-judge_code.ensures.1 in
    rw (e.1, e.2) (first_stops (table_conditions file p ++ code_conditions file p ++ data_conditions file p) (tagged_conditions file p) _
    (first_stops (table_conditions file p ++ code_conditions file p) (data_conditions file p) _
    (first_passes (table_conditions file p) (code_conditions file p) c.in_ok-judge_table.ensures ∙ c.in_err-judge_code.ensures)))

pub returns-in_err-judge_data : goal.returns-in_err-judge_data
returns-in_err-judge_data c =
    let file : List ℕ = c.args.file.now in
    let p : Object = claimed file in
    let e = err_from_is_err_and c.from_residual-in_err-judge_data.result c.from_residual-in_err-judge_data.ensures.1 in
    rw (e.1, e.2) (first_stops (table_conditions file p ++ code_conditions file p ++ data_conditions file p) (tagged_conditions file p) _
    (first_passes (table_conditions file p ++ code_conditions file p) (data_conditions file p)
    (first_passes (table_conditions file p) (code_conditions file p) c.in_ok-judge_table.ensures ∙ c.in_ok-judge_code.ensures)
    ∙ c.in_err-judge_data.ensures))

pub returns-in_err-judge_tagged : goal.returns-in_err-judge_tagged
returns-in_err-judge_tagged c =
    let file : List ℕ = c.args.file.now in
    let p : Object = claimed file in
    let e = err_from_is_err_and c.from_residual-in_err-judge_tagged.result c.from_residual-in_err-judge_tagged.ensures.1 in
    rw (e.1, e.2) (first_passes (table_conditions file p ++ code_conditions file p ++ data_conditions file p) (tagged_conditions file p)
    (first_passes (table_conditions file p ++ code_conditions file p) (data_conditions file p)
    (first_passes (table_conditions file p) (code_conditions file p) c.in_ok-judge_table.ensures ∙ c.in_ok-judge_code.ensures)
    ∙ c.in_ok-judge_data.ensures)
    ∙ c.in_err-judge_tagged.ensures)

pub returns : goal.returns
returns c =
    let file : List ℕ = c.args.file.now in
    let p : Object = claimed file in
    first_passes (table_conditions file p ++ code_conditions file p ++ data_conditions file p) (tagged_conditions file p)
    (first_passes (table_conditions file p ++ code_conditions file p) (data_conditions file p)
    (first_passes (table_conditions file p) (code_conditions file p) c.in_ok-judge_table.ensures ∙ c.in_ok-judge_code.ensures)
    ∙ c.in_ok-judge_data.ensures)
    ∙ c.in_ok-judge_tagged.ensures

pub judge_tagged-requires-clause-init : goal.judge_tagged-requires-clause-init
judge_tagged-requires-clause-init c =
    let short : length c.args.file.now < 2 ^ 63 = omega arith in
    c.requires.init (subst (λ (ss : List Symbol). AllByRecursion (IsSound Init) ss) (sym (ap (λ (o : Object). o.symbols) c.requires.parts))
    (init-sound c.args.file.now short c.in_ok-judge_table.ensures))

pub judge_tagged-requires-clause-zero : goal.judge_tagged-requires-clause-zero
judge_tagged-requires-clause-zero c =
    c.requires.zero (subst (λ (ss : List Symbol). AllByRecursion (IsSound Zero) ss) (sym (ap (λ (o : Object). o.symbols) c.requires.parts))
    (zero-sound c.args.file.now (λ i. omega (arith, c.type_inv.file i)) c.in_ok-judge_table.ensures))
