-- Code that is appended in turn.
use Rattle.std.proofs.Common.{◌≡◌, ap, ◌∙◌, ◌++◌, ◌∷◌, List, length, append_assoc, length-append}
use Rattle.std.specs.Prelude.{Result, OnOk}
use Rattle.std.proofs.lemmas.Result.{on_ok_weaker}
use Rattle.sym_code.specs.declared.item.SymCode.{SymCode}
use Rattle.gen_base.specs.Code.{Code, Appends, in_turn}

-- one code, and then others
pub appends-first : (old mid new : SymCode) (c : Code) (cs : List Code) → Appends old c mid → Appends mid (in_turn cs) new →
    Appends old (in_turn (c ∷ cs)) new
appends-first old mid new c cs first rest =
    let before = old.items.items in
    let here = c (length before) in
    rest
    ∙ ap (λ is. is ++ in_turn cs (length is)) first
    ∙ append_assoc before here (in_turn cs (length (before ++ here)))
    ∙ ap (λ at. before ++ (here ++ in_turn cs at)) (length-append before here)

-- the same where the last call may fail
pub first_appended : {T E : Type 0} (r : Result T E) (old mid new : SymCode) (c : Code) (cs : List Code) → Appends old c mid →
    OnOk r (Appends mid (in_turn cs) new) → OnOk r (Appends old (in_turn (c ∷ cs)) new)
first_appended r old mid new c cs first = on_ok_weaker r (appends-first old mid new c cs first)

-- other code that is the same there
pub appended_as : {T E : Type 0} (r : Result T E) (old new : SymCode) (c d : Code) →
    c (length old.items.items) ≡ d (length old.items.items) → OnOk r (Appends old c new) → OnOk r (Appends old d new)
appended_as r old new c d same = on_ok_weaker r (λ was. was ∙ ap (λ is. old.items.items ++ is) same)
