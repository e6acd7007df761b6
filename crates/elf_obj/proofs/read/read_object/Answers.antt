use Rattle.std.proofs.Common.{◌≡◌, ℕ, List, ◌++◌, ap, ◌∙◌, inr, append_assoc, ◌<◌, ◌^◌, length, sym, subst, arith, None, Some}
use Rattle.std.proofs.lemmas.Result.{err_from_is_err_and}
use Rattle.elf_base.specs.Laws.Lengths.{IsBytes}
use Rattle.elf_base.specs.Laws.Conditions.{first_passes, first_stops}
use Rattle.elf_base.specs.Conditions.{Condition, first_fault}
use Rattle.elf_obj.specs.declared.refusal.ObjectRefusal.{ObjectRefusal}
use Rattle.elf_obj.specs.Object.{Object, object_of}
use Rattle.elf_obj.specs.ObjectFile.{IsFileOf}
use Rattle.elf_obj.specs.Claimed.{claimed}
use Rattle.elf_obj.specs.ObjectFault.{start_conditions, all_section_conditions, object_conditions, conditions, ObjectFault}
use Rattle.elf_obj.specs.Laws.FileOfClaims.{file_of_claims}
use Rattle.elf_obj.specs.Laws.Held.{are_held}
use Rattle.elf_obj.specs.Laws.OneFile.{one_fault}
use Rattle.elf_obj.specs.Laws.OneObject.{one_object, not_both}
use Rattle.elf_obj.proofs.read.read_object.Goals as goal

rest : List ℕ → List (Condition ObjectRefusal)
rest file = all_section_conditions file ++ object_conditions file (claimed file)

parts : (file : List ℕ) → first_fault (conditions file) ≡ first_fault (start_conditions file ++ rest file)
unfolding conditions rest
parts file = ap first_fault (append_assoc (start_conditions file) (all_section_conditions file) (object_conditions file (claimed file)))

-- the fault of the start, and one behind it
at_start : (file : List ℕ) (e : ObjectRefusal) → first_fault (start_conditions file) ≡ Some e → ObjectFault file e
at_start file e h = parts file ∙ first_stops (start_conditions file) (rest file) e h

behind : (file : List ℕ) (e : ObjectRefusal) → first_fault (start_conditions file) ≡ None
    → first_fault (all_section_conditions file ++ object_conditions file (claimed file)) ≡ Some e → ObjectFault file e
unfolding rest
behind file e none h = parts file ∙ first_passes (start_conditions file) (rest file) none ∙ h

-- no fault: the bytes are the file of what is read
is_file : (file : List ℕ) (q : Object) → IsBytes file → length file < 2 ^ 63 → q ≡ claimed file → first_fault (start_conditions file) ≡ None
    → first_fault (all_section_conditions file ++ object_conditions file (claimed file)) ≡ None → IsFileOf q file
unfolding rest
is_file file q fits short is start others =
    let none : first_fault (conditions file) ≡ None = parts file ∙ first_passes (start_conditions file) (rest file) start ∙ others in
    subst (λ (p : Object). IsFileOf p file) (sym is) (file_of_claims file fits short none)

pub claimed-requires-clause-held : goal.claimed-requires-clause-held
claimed-requires-clause-held c = are_held c.args.file.now c.in_ok-judge_start.ensures.held

pub judge-requires-clause-held : goal.judge-requires-clause-held
judge-requires-clause-held c = are_held c.args.file.now c.in_ok-judge_start.ensures.held

pub returns-in_err-judge_start-clause-refused : goal.returns-in_err-judge_start-clause-refused
returns-in_err-judge_start-clause-refused c =
    let e = err_from_is_err_and c.from_residual.result c.from_residual.ensures.1 in
    rw (e.1, e.2) (inr (at_start c.args.file.now _ c.in_err-judge_start.ensures.is))

pub returns-in_err-judge_start-clause-only : goal.returns-in_err-judge_start-clause-only
returns-in_err-judge_start-clause-only c = λ p is.
    absurd (not_both p c.args.file.now _ is (at_start c.args.file.now _ c.in_err-judge_start.ensures.is))

pub returns-in_err-judge_start-clause-refuses : goal.returns-in_err-judge_start-clause-refuses
returns-in_err-judge_start-clause-refuses c = λ fault has.
    let e = err_from_is_err_and c.from_residual.result c.from_residual.ensures.1 in
    rw (e.1, e.2) (inr (one_fault c.args.file.now _ fault (at_start c.args.file.now _ c.in_err-judge_start.ensures.is) has))

pub returns-in_err-judge-clause-refused : goal.returns-in_err-judge-clause-refused
returns-in_err-judge-clause-refused c =
    let e = err_from_is_err_and c.from_residual-in_err-judge.result c.from_residual-in_err-judge.ensures.1 in
    rw (e.1, e.2) (inr (behind c.args.file.now _ c.in_ok-judge_start.ensures.is c.in_err-judge.ensures))

pub returns-in_err-judge-clause-only : goal.returns-in_err-judge-clause-only
returns-in_err-judge-clause-only c = λ p is.
    absurd (not_both p c.args.file.now _ is (behind c.args.file.now _ c.in_ok-judge_start.ensures.is c.in_err-judge.ensures))

pub returns-in_err-judge-clause-refuses : goal.returns-in_err-judge-clause-refuses
returns-in_err-judge-clause-refuses c = λ fault has.
    let e = err_from_is_err_and c.from_residual-in_err-judge.result c.from_residual-in_err-judge.ensures.1 in
    rw (e.1, e.2) (inr (one_fault c.args.file.now _ fault
    (behind c.args.file.now _ c.in_ok-judge_start.ensures.is c.in_err-judge.ensures) has))

pub returns-clause-found : goal.returns-clause-found
returns-clause-found c =
    is_file c.args.file.now (object_of c.in_ok-parts.parts) (λ i. omega (arith, c.type_inv.file i)) (omega arith) c.in_ok-parts.ensures
    c.in_ok-judge_start.ensures.is c.in_ok-judge.ensures

pub returns-clause-only : goal.returns-clause-only
returns-clause-only c = λ p is.
    one_object (object_of c.in_ok-parts.parts) p c.args.file.now
    (is_file c.args.file.now (object_of c.in_ok-parts.parts) (λ i. omega (arith, c.type_inv.file i)) (omega arith) c.in_ok-parts.ensures
    c.in_ok-judge_start.ensures.is c.in_ok-judge.ensures) is

pub returns-clause-refuses : goal.returns-clause-refuses
returns-clause-refuses c = λ fault has.
    not_both (object_of c.in_ok-parts.parts) c.args.file.now fault
    (is_file c.args.file.now (object_of c.in_ok-parts.parts) (λ i. omega (arith, c.type_inv.file i)) (omega arith) c.in_ok-parts.ensures
    c.in_ok-judge_start.ensures.is c.in_ok-judge.ensures) has
