use Rattle.std.proofs.Common.{◌≡◌, ℕ, ◌+◌, ◌<◌, List, [], ◌∷◌, ◌++◌, Some, drop, length, get_or, slice_get, sym, ap, ◌∙◌, arith}
use Rattle.std.proofs.lemmas.List.{length-map, get_or_default}
use Rattle.std.proofs.lemmas.Option.{slice_get-get_or}
use Rattle.elf_base.specs.Layout.{piece}
use Rattle.elf_base.specs.Laying.{pad, put, put_all}
use Rattle.elf_obj.specs.declared.parts.ObjectParts.{ObjectParts}
use Rattle.elf_obj.specs.Object.{Object, object_of}
use Rattle.linker.specs.Sections.{round_up, laid, each_from}
use Rattle.linker.specs.Code.{call_main, end_run, object_words}
use Rattle.linker.specs.Known.{objects_of}
use Rattle.linker.specs.Laws.LaidLaws.{laid_more, round_up_4}
use Rattle.linker.proofs.Knowing.{left_is}
use Rattle.linker.proofs.Listed.{blank}
use Rattle.linker.proofs.relocate.Link.code.Goals as goal

pub loop-object-init : goal.loop-object-init
unfolding put pad
loop-object-init c =
    let os : List Object = objects_of c.args.self.now.objects.now in
    let bases = c.args.self.now.layout.bases in
    let cs : List (List ℕ) = each_from 0 (object_words os bases) os in
    let items : c.push-2.new.self.items ≡ call_main os bases ∷ end_run ∷ [] =
    c.in_ok-push-2.ensures.items
    ∙ ap (λ (l : List ℕ). l ++ end_run ∷ []) (c.in_ok-push.ensures.items
    ∙ (λ i. c.new-out.ensures.items i ++ c.call_main.ensures i ∷ [])) in
    ap (λ (l : List ℕ). put_all (laid 4 (length l) cs) l) items

pub loop-object-preserved : goal.loop-object-preserved
loop-object-preserved c =
    let ps : List ObjectParts = c.args.self.now.objects.now in
    let os : List Object = objects_of ps in
    let bases = c.args.self.now.layout.bases in
    let i : ℕ = c.loop-object.object in
    let within : i < length os = omega (arith, c.loop-object-test.true, length-map ps object_of) in
    let o : Object = get_or os i blank in
    let there : slice_get os i ≡ Some o = slice_get-get_or os i blank within in
    let left : drop i os ≡ o ∷ drop (i + 1) os = left_is os i o within (get_or_default os i blank o within) in
    let old : List ℕ = c.loop-object.out.items in
    let rest : List (List ℕ) = each_from (i + 1) (object_words os bases) (drop (i + 1) os) in
    let place = c.next_place-place.ensures ∙ ap (λ (l : List ℕ). round_up 4 (length l)) c.as_slice-so_far.ensures.value in
    let words = c.as_slice-slice.ensures.value ∙ c.in_ok-words.ensures.words o there in
    let new = c.in_ok-put_words.ensures.put ∙ (λ j. put (piece (place j) (words j)) old) in
    ap (λ (l : List ℕ). put_all (laid 4 (length l) rest) l) new ∙ sym (laid_more 4 (object_words os bases i o) rest old round_up_4)
    ∙ sym (ap (λ (l : List Object). put_all (laid 4 (length old) (each_from i (object_words os bases) l)) old) left)
    ∙ c.loop-object.invariant
