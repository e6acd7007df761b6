use Rattle.std.proofs.Common.{◌≡◌, ℕ, true, List, [], ◌∷◌, ◌++◌, sym, ap, ◌∙◌, None}
use Rattle.std.proofs.lemmas.Result.{err_from_is_err_and}
use Rattle.elf_base.specs.Laws.Conditions.{holds_is, fails_is, first_passes, first_stops}
use Rattle.elf_base.specs.Conditions.{Condition, condition, first_fault}
use Rattle.elf_obj.specs.declared.refusal.ObjectRefusal.TheVariants.{BadSection}
use Rattle.elf_obj.specs.declared.sizes.Sizes.{Sizes}
use Rattle.elf_obj.specs.ObjectFault.{is_headed, contents_conditions, sizes_in, is_ended}
use Rattle.elf_obj.specs.declared.refusal.ObjectRefusal.{ObjectRefusal}
use Rattle.elf_obj.proofs.sections.judge_sections.Goals as goal

end : List ℕ → List (Condition ObjectRefusal)
end file = condition (is_ended file) (BadSection 12) ∷ []

pub returns-in_err-judge_contents : goal.returns-in_err-judge_contents
unfolding end
returns-in_err-judge_contents c =
    let file : List ℕ = c.args.file.now in
    let headed : is_headed file ≡ true = sym c.is_headed.ensures ∙ c.if-not-is_headed.false in
    let contents : List (Condition ObjectRefusal) = contents_conditions file (sizes_in file) in
    let p = err_from_is_err_and c.from_residual.result c.from_residual.ensures.1 in
    rw (p.1, p.2) (holds_is (is_headed file) (BadSection 0) (first_fault (contents ++ end file)) headed
    ∙ first_stops contents (end file) _ (ap (λ (z : Sizes). first_fault (contents_conditions file z)) (sym c.sizes_in.ensures)
    ∙ c.in_err-judge_contents.ensures))

pub returns-then-not-is_ended : goal.returns-then-not-is_ended
unfolding end
returns-then-not-is_ended c =
    let file : List ℕ = c.args.file.now in
    let headed : is_headed file ≡ true = sym c.is_headed.ensures ∙ c.if-not-is_headed.false in
    let contents : List (Condition ObjectRefusal) = contents_conditions file (sizes_in file) in
    holds_is (is_headed file) (BadSection 0) (first_fault (contents ++ end file)) headed
    ∙ first_passes contents (end file) (ap (λ (z : Sizes). first_fault (contents_conditions file z)) (sym c.sizes_in.ensures)
    ∙ c.in_ok-judge_contents.ensures)
    ∙ fails_is (is_ended file) (BadSection 12) None (sym c.is_ended.ensures ∙ c.if-not-is_ended.true)

pub returns : goal.returns
unfolding end
returns c =
    let file : List ℕ = c.args.file.now in
    let headed : is_headed file ≡ true = sym c.is_headed.ensures ∙ c.if-not-is_headed.false in
    let contents : List (Condition ObjectRefusal) = contents_conditions file (sizes_in file) in
    holds_is (is_headed file) (BadSection 0) (first_fault (contents ++ end file)) headed
    ∙ first_passes contents (end file) (ap (λ (z : Sizes). first_fault (contents_conditions file z)) (sym c.sizes_in.ensures)
    ∙ c.in_ok-judge_contents.ensures)
    ∙ holds_is (is_ended file) (BadSection 12) None (sym c.is_ended.ensures ∙ c.if-not-is_ended.false)
