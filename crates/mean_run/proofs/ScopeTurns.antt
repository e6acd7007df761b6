-- The locals of declarations, one more at either end.
use Rattle.std.proofs.Common.{◌≡◌, refl, sym, ap, ◌∙◌, ℕ, ◌+◌, ◌<◌, true, false, List, [], ◌∷◌, ◌++◌, map, take, drop, get_or, length}
use Rattle.std.proofs.lemmas.List.{take_more, drop_more, map-append, append_assoc, append-nil}
use Rattle.c_type_base.specs.declared.statement.TDecl.{TDecl}
use Rattle.c_type_base.specs.declared.statement.TItem.{TItem, out-TItem}
use Rattle.block_meaning.specs.Statements.{declared, declared_by, local_of}
use Rattle.mean_run.specs.Entering.{has_any}

pub decls_more : (ks : List ℕ) (ds : List TDecl) (n : ℕ) (d : TDecl) → n < length ds →
    (ks ++ map local_of (take n ds)) ++ local_of (get_or ds n d) ∷ [] ≡ ks ++ map local_of (take (n + 1) ds)
decls_more ks ds n d below =
    append_assoc ks (map local_of (take n ds)) (local_of (get_or ds n d) ∷ [])
    ∙ ap (λ js. ks ++ js) (sym (ap (map local_of) (take_more ds n d below) ∙ map-append local_of (take n ds) (get_or ds n d ∷ [])))

declared_append : (is js : List TItem) → declared (is ++ js) ≡ declared is ++ declared js
declared_append [] js = refl
declared_append (i ∷ is) js = ap (λ ks. declared_by (out-TItem i) ++ ks) (declared_append is js)
    ∙ sym (append_assoc (declared_by (out-TItem i)) (declared is) (declared js))

items_more : (ks : List ℕ) (is : List TItem) (n : ℕ) (i : TItem) → n < length is →
    (ks ++ declared (take n is)) ++ declared_by (out-TItem (get_or is n i)) ≡ ks ++ declared (take (n + 1) is)
items_more ks is n i below =
    let last = declared_by (out-TItem (get_or is n i)) in
    append_assoc ks (declared (take n is)) last
    ∙ ap (λ js. ks ++ js) (ap (λ js. declared (take n is) ++ js) (sym (append-nil last))
    ∙ sym (ap declared (take_more is n i below) ∙ declared_append (take n is) (get_or is n i ∷ [])))

pub items_next : (ks : List ℕ) (is : List TItem) (n : ℕ) (i : TItem) → n < length is → i ≡ get_or is n i →
    (ks ++ declared (take n is)) ++ declared_by (out-TItem i) ≡ ks ++ declared (take (n + 1) is)
items_next ks is n i below at =
    ap (λ j. (ks ++ declared (take n is)) ++ declared_by (out-TItem j)) at ∙ items_more ks is n i below

pub decls_before : (ks : List ℕ) (ds : List TDecl) (n : ℕ) (d : TDecl) → n < length ds →
    local_of (get_or ds n d) ∷ (map local_of (drop (n + 1) ds) ++ ks) ≡ map local_of (drop n ds) ++ ks
decls_before ks ds n d below = ap (λ es. map local_of es ++ ks) (sym (drop_more ds n d below))

pub items_before : (ks : List ℕ) (is : List TItem) (n : ℕ) (i : TItem) → n < length is →
    declared_by (out-TItem (get_or is n i)) ++ (declared (drop (n + 1) is) ++ ks) ≡ declared (drop n is) ++ ks
items_before ks is n i below =
    sym (ap (λ js. declared js ++ ks) (drop_more is n i below)
    ∙ append_assoc (declared_by (out-TItem (get_or is n i))) (declared (drop (n + 1) is)) ks)

-- ---- whether there is any

any_first : (ks js : List ℕ) → has_any ks ≡ true → has_any (ks ++ js) ≡ true
any_first [] js any = absurd (differ any) where
  differ : false ≡ true → ⊥
  differ e = cc
any_first (k ∷ ks) js any = refl

any_later : (ks js : List ℕ) → has_any ks ≡ false → has_any (ks ++ js) ≡ has_any js
any_later [] js none = refl
any_later (k ∷ ks) js none = absurd (differ none) where
  differ : true ≡ false → ⊥
  differ e = cc

pub any_here : (is : List TItem) (n : ℕ) (i : TItem) → n < length is → i ≡ get_or is n i →
    has_any (declared_by (out-TItem i)) ≡ true → has_any (declared (drop n is)) ≡ true
any_here is n i below at any =
    ap (λ js. has_any (declared js)) (drop_more is n i below)
    ∙ any_first (declared_by (out-TItem (get_or is n i))) (declared (drop (n + 1) is))
    (ap (λ j. has_any (declared_by (out-TItem j))) (sym at) ∙ any)

pub any_behind : (is : List TItem) (n : ℕ) (i : TItem) → n < length is → i ≡ get_or is n i →
    has_any (declared_by (out-TItem i)) ≡ false → has_any (declared (drop (n + 1) is)) ≡ has_any (declared (drop n is))
any_behind is n i below at none =
    sym (ap (λ js. has_any (declared js)) (drop_more is n i below)
    ∙ any_later (declared_by (out-TItem (get_or is n i))) (declared (drop (n + 1) is))
    (ap (λ j. has_any (declared_by (out-TItem j))) (sym at) ∙ none))
