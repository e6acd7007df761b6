-- What a turn gives that puts or takes a byte, by what the outside answered.
use Rattle.std.proofs.Common.{◌≡◌, sym, subst, ap, ◌∙◌, ℕ, List, [], ◌∷◌, ◌++◌, Option, Some, None}
use Rattle.std.specs.Prelude.{◌%◌, ◌^◌, ◌-◌, take}
use Rattle.std.specs.Global.{Vec}
use Rattle.c_ast.specs.declared.token.Span.{Span}
use Rattle.c_type_base.specs.declared.expr.Callee.TheVariants as callee
use Rattle.block_meaning.specs.Expressions.{first_number}
use Rattle.block_meaning.specs.Meaning.{outcome_of}
use Rattle.block_meaning.specs.declared.value.Value.{Value}
use Rattle.block_meaning.specs.declared.value.Value.TheVariants.{Number}
use Rattle.mean_expressions.specs.declared.frames.Control.{Control}
use Rattle.mean_expressions.specs.declared.frames.Control.TheVariants as control
use Rattle.mean_run.specs.declared.process.Process.{Process}
use Rattle.mean_program.specs.Answers.{PutPart}
use Rattle.mean_program.specs.Held.{Aim, Holds}
use Rattle.mean_program.specs.Laws.Goes.{part-put}
use Rattle.mean_program.specs.Laws.Outside.{turn-puts, turn-unput, turn-takes, turn-ends-input}
use Rattle.mean_program.specs.Laws.Told.{tells}
use Rattle.mt_outside.specs.Sink.{PutGives}
use Rattle.mt_outside.specs.Source.{NextGives}
use Rattle.mt_outside.specs.Told.{WhereTold}
use Rattle.mt_outside.specs.declared.sink.PutAnswer.TheVariants as sink
use Rattle.mt_outside.specs.declared.source.NextAnswer.TheVariants as source

abbrev putchar : Span → Vec Value → Control
putchar span vs = control.Call span callee.Putchar vs

abbrev getchar : Span → Vec Value → Control
getchar span vs = control.Call span callee.Getchar vs

-- what was put until now
pub held_part : (aim : Aim) (p : Process) (c : Control) (input output : Option (List ℕ)) → Holds aim p c input output →
    PutPart aim.before (outcome_of aim.result) output
held_part aim p c input output holds = record {
  part = holds.now.output;
  put = holds.taken;
  begins = part-put aim c holds.here holds.waiting holds.now holds.leads;
}

pub put_holds : (aim : Aim) (p : Process) (span : Span) (vs : Vec Value) (input before after : Option (List ℕ)) (byte : ℕ) →
    byte ≡ first_number vs.items % 256 → WhereTold before after (PutGives (byte ∷ []) sink.Done) →
    Holds aim p (putchar span vs) input before → Holds aim p (control.GivesValue (Number byte)) input after
put_holds aim p span vs input before after byte same told holds =
    subst (λ n. Holds aim p (control.GivesValue (Number n)) input after) (sym same)
    (turn-puts aim p span vs input before after holds (λ taken is.
    let t = tells before after (PutGives (byte ∷ []) sink.Done) taken is told in
    t.is ∙ ap Some (t.holds ∙ ap (λ n. taken ++ n ∷ []) same)))

abbrev or_none : Option (List ℕ) → List ℕ
or_none (Some xs) = xs
or_none None = []

pub unput_holds : (aim : Aim) (p : Process) (span : Span) (vs : Vec Value) (input before after : Option (List ℕ)) (byte : ℕ) →
    byte ≡ first_number vs.items % 256 → WhereTold before after (PutGives (byte ∷ []) sink.Failed) →
    Holds aim p (putchar span vs) input before → PutPart aim.before (outcome_of aim.result) after
unput_holds aim p span vs input before after byte same told holds =
    let t = tells before after (PutGives (byte ∷ []) sink.Failed) (aim.before ++ holds.now.output) holds.taken told in
    let (count, within, put) = t.holds in
    turn-unput aim p span vs input before after count holds (λ taken is.
    t.is ∙ ap Some (put ∙ ap (λ n. (aim.before ++ holds.now.output) ++ take count (n ∷ [])) same
    ∙ ap (λ l. or_none l ++ take count (first_number vs.items % 256 ∷ [])) (sym holds.taken ∙ is)))

pub take_holds : (aim : Aim) (p : Process) (span : Span) (vs : Vec Value) (before after output : Option (List ℕ)) (byte : ℕ) →
    WhereTold before after (NextGives (source.Byte byte)) → Holds aim p (getchar span vs) before output →
    Holds aim p (control.GivesValue (Number byte)) after output
take_holds aim p span vs before after output byte told holds =
    let t = tells before after (NextGives (source.Byte byte)) holds.now.input holds.left told in
    subst (λ x. Holds aim p (control.GivesValue (Number byte)) x output) (sym t.is)
    (turn-takes aim p span vs output byte t.now
    (subst (λ x. Holds aim p (getchar span vs) x output) (holds.left ∙ ap Some t.holds) holds))

pub end_holds : (aim : Aim) (p : Process) (span : Span) (vs : Vec Value) (before after output : Option (List ℕ)) →
    WhereTold before after (NextGives source.End) → Holds aim p (getchar span vs) before output →
    Holds aim p (control.GivesValue (Number (2 ^ 64 - 1))) after output
end_holds aim p span vs before after output told holds =
    let t = tells before after (NextGives source.End) holds.now.input holds.left told in
    let (was, is) = t.holds in
    subst (λ x. Holds aim p (control.GivesValue (Number (2 ^ 64 - 1))) x output) (sym (t.is ∙ ap Some is))
    (turn-ends-input aim p span vs output
    (subst (λ x. Holds aim p (getchar span vs) x output) (holds.left ∙ ap Some was) holds))
