use Rattle.std.proofs.Common.{◌∙◌, ◌++◌, ap, map, length}
use Rattle.std.proofs.lemmas.Result.{IfOk-weaker}
use Rattle.unit_object.specs.Order as order_spec
use Rattle.unit_object.specs.Parts.{code_reloc, code_symbol, data_relocs, data_symbol}
use Rattle.unit_object.specs.Symbols as spec
use Rattle.unit_object.proofs.ObjectLaws.{same_object}
use Rattle.unit_object.proofs.object.object.Goals as goal

pub returns : goal.returns
returns c =
    let symbols = c.in_ok-symbols.ensures ∙ ap (λ texts. spec.text_symbols 0 texts ++ c.args.named.items) c.as_slice.ensures in
    IfOk-weaker c.joined.result _ _
    (λ parts is. is ∙ same_object c.in_ok-data.ensures.texts c.in_ok-data.ensures.filled c.in_ok-data.ensures.zeros symbols
    (c.in_ok-waiting.ensures.text
    ∙ ap (λ named. map (code_reloc (code_symbol (spec.number_of (length c.args.typed.now.texts) named) c.args.typed.now c.args.code))
    c.args.code.relocs.items) c.deref-2.ensures.value)
    (c.in_ok-waiting.ensures.init
    ∙ ap (λ named. data_relocs (data_symbol (spec.number_of (length c.args.typed.now.texts) named) c.args.typed.now)
    c.args.typed.now.structs 0 (order_spec.chosen c.args.typed.now.globals c.deref.result.now)) c.deref-2.ensures.value
    ∙ ap (λ filled. data_relocs (data_symbol (spec.number_of (length c.args.typed.now.texts) c.args.named.items) c.args.typed.now)
    c.args.typed.now.structs 0 (order_spec.chosen c.args.typed.now.globals filled)) c.deref.ensures.value)
    (ap (spec.objects_from 0) symbols))
    c.joined.ensures
