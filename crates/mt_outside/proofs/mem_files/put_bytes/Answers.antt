-- A write at the first file of the name, and a new file behind the others.
use Rattle.std.proofs.Common.{Some, ◌≡◌, string_bytes, sym, ◌∙◌, ap}
use Rattle.mt_outside.proofs.FirstFiles.{IsFirstAt, IsFirstAt-from_place, name-first_at, first_bytes-set, first_bytes-set_other}
use Rattle.mt_outside.proofs.FirstFiles.{IsNowhere-from_place, first_bytes-push, first_bytes-push_other}
use Rattle.mt_outside.proofs.mem_files.put_bytes.Goals as goal

first : (c : goal.After-drop-index_mut) → IsFirstAt c.args.files.now.items c.args.name.now c.in-Some.place
first c = IsFirstAt-from_place _ _ _ c.index_mut.result.now (sym (rw c.deref.ensures.value at c.in-Some.ensures))

named : (c : goal.After-drop-index_mut) → string_bytes c.index_mut.result.now.name ≡ c.args.name.now
named c = rw c.index_mut.ensures.value (name-first_at _ _ _ c.index_mut.result.now (first c))

pub returns-in-Some-clause-named : goal.returns-in-Some-clause-named
returns-in-Some-clause-named c = first_bytes-set _ _ _ _ (first c) (named c) ∙ ap Some c.in_ok-bytes.ensures.items

pub returns-in-Some-clause-others : goal.returns-in-Some-clause-others
returns-in-Some-clause-others c = first_bytes-set_other _ _ _ _ (first c) (named c)

pub returns-in_ok-push-in-None-clause-named : goal.returns-in_ok-push-in-None-clause-named
returns-in_ok-push-in-None-clause-named c =
    rw c.in_ok-push-in-None.ensures.items (first_bytes-push _ _ _
    (IsNowhere-from_place _ _ (sym (rw c.deref.ensures.value at c.in-None.ensures))) c.in_ok-name-in-None.ensures.ok
    ∙ ap Some c.in_ok-bytes.ensures.items)

pub returns-in_ok-push-in-None-clause-others : goal.returns-in_ok-push-in-None-clause-others
returns-in_ok-push-in-None-clause-others c = rw c.in_ok-push-in-None.ensures.items
    (first_bytes-push_other _ _ _ c.in_ok-name-in-None.ensures.ok)
