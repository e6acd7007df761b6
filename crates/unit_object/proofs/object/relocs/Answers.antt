use Rattle.std.proofs.Common.{◌∙◌, ap, length, map}
use Rattle.unit_object.specs.Counted as counted
use Rattle.unit_object.specs.Numbers.{code_number, data_number}
use Rattle.unit_object.specs.Order as order_spec
use Rattle.unit_object.specs.Parts.{code_reloc, data_relocs}
use Rattle.unit_object.specs.Symbols.{name_of}
use Rattle.unit_object.proofs.NumberLaws.{code_relocs_are, data_relocs_are}
use Rattle.unit_object.proofs.object.relocs.Goals as goal

pub returns-clause-text : goal.returns-clause-text
returns-clause-text c =
    c.in_ok-text.ensures ∙ ap (map (code_reloc (code_number c.in_ok-numbers.numbers))) c.deref-2.ensures.value
    ∙ code_relocs_are c.in_ok-numbers.numbers (length c.args.typed.now.texts) c.args.named.now c.args.typed.now c.args.code.now (record {
      functions = c.in_ok-numbers.ensures.functions
          ∙ ap (counted.function_numbers (length c.args.typed.now.texts) (map name_of c.args.named.now)) c.deref.ensures.value;
      globals = c.in_ok-numbers.ensures.globals;
      externs = c.in_ok-numbers.ensures.externs;
    })
    c.args.code.now.relocs.items

pub returns-clause-init : goal.returns-clause-init
returns-clause-init c =
    c.in_ok-init.ensures
    ∙ ap (λ structs. data_relocs (data_number c.in_ok-numbers.numbers) structs 0
    (order_spec.chosen c.as_slice-globals.result.now c.args.filled.now)) c.as_slice-structs.ensures
    ∙ ap (λ gs. data_relocs (data_number c.in_ok-numbers.numbers) c.args.typed.now.structs 0 (order_spec.chosen gs c.args.filled.now))
    c.as_slice-globals.ensures
    ∙ data_relocs_are c.in_ok-numbers.numbers (length c.args.typed.now.texts) c.args.named.now c.args.typed.now c.args.code.now (record {
      functions = c.in_ok-numbers.ensures.functions
          ∙ ap (counted.function_numbers (length c.args.typed.now.texts) (map name_of c.args.named.now)) c.deref.ensures.value;
      globals = c.in_ok-numbers.ensures.globals;
      externs = c.in_ok-numbers.ensures.externs;
    })
    c.args.typed.now.structs 0 (order_spec.chosen c.args.typed.now.globals c.args.filled.now)
